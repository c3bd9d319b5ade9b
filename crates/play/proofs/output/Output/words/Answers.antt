-- `play::output::Output::words` meets its contract. Assumes nothing.
use Rattle.std.proofs.Common.{ℕ, List, ◌++◌, ap, ◌∙◌}
use Rattle.script.specs.Print.{numbers}
use Rattle.play.specs.Printed.{words_at}
use Rattle.play.proofs.Gathering.{gathers_none, gathers_lines, words_more}
use Rattle.play.proofs.output.Output.words.Goals as goal

pub loop-i-init : goal.loop-i-init
unfolding words_at
loop-i-init c = gathers_none _

pub loop-i-preserved : goal.loop-i-preserved
loop-i-preserved c =
    let shown = numbers (words_at c.args.words.now c.args.at c.loop-i.i) in
    gathers_lines c.loop-i.invariant c.text.ensures (ap (λ (l : List ℕ). shown ++ l) c.number-n.ensures.bytes-stand ∙ words_more c.args.words.now c.args.at c.loop-i.i _ (c.from.ensures ∙ c.word.ensures))
