-- `play::output::Output::short_line` meets its contract. Assumes nothing.
use Rattle.std.proofs.Common.{◌+◌, ◌++◌, List, ℕ, ap, ◌∙◌, sym, append_assoc, append-nil, arith}
use Rattle.script.specs.Print.{numbers}
use Rattle.script.proofs.Putting.{then, within_more, bytes-by}
use Rattle.play.specs.Printed.{words_at}
use Rattle.play.proofs.Gathering.{words_more}
use Rattle.play.proofs.output.Output.short_line.Goals as goal

pub loop-i-init : goal.loop-i-init
unfolding words_at
loop-i-init c = bytes-by c.text-n.ensures (sym (append-nil c.args.name.now))

pub loop-i-preserved : goal.loop-i-preserved
loop-i-preserved c =
    let a = c.args in
    let shown = numbers (words_at a.words.now a.at c.loop-i.i) in
    bytes-by (within_more (1 + (c.loop-i.i + 1)) (then c.loop-i.invariant c.number-n.ensures) (omega arith))
    (append_assoc a.name.now shown _ ∙ ap (λ (l : List ℕ). a.name.now ++ l) (words_more a.words.now a.at c.loop-i.i _ (c.from.ensures ∙ c.word.ensures)))
