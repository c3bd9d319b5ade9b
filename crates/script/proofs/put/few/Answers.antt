-- `script::put::few` meets its contract. Assumes nothing.
use mathlib.Core.Path.{sym, ap, ◌∙◌}
use mathlib.Core.List.{List, ◌++◌}
use Prim.Native.Nat.{ℕ}
use lib.ListN.{take}
use Rattle.script.proofs.Digits.{one-digit, two-digits, three-digits}
use Rattle.script.proofs.put.few.Goals as goal

pub returns-then-n-lt10-clause-stand : goal.returns-then-n-lt10-clause-stand
returns-then-n-lt10-clause-stand c =
    let before = take c.args.at c.args.buf.now in
    c.put.ensures.stand ∙ ap (λ (l : List ℕ). before ++ l) (sym (one-digit c.args.n c.if-n-lt10.true))

pub returns-then-n-lt100-clause-stand : goal.returns-then-n-lt100-clause-stand
returns-then-n-lt100-clause-stand c =
    let before = take c.args.at c.args.buf.now in
    c.put-then-n-lt100.ensures.stand ∙ ap (λ (l : List ℕ). before ++ l) (sym (two-digits c.args.n c.if-n-lt10.false c.if-n-lt100.true))

pub returns-clause-stand : goal.returns-clause-stand
returns-clause-stand c =
    let before = take c.args.at c.args.buf.now in
    c.put-2.ensures.stand ∙ ap (λ (l : List ℕ). before ++ l) (sym (three-digits c.args.n c.if-n-lt100.false c.requires.0))
