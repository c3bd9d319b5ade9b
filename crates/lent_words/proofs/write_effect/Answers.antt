-- `lent_words::write_effect` meets its contract. Assumes nothing.
use mathlib.Core.Path.{◌≡◌, sym, ap, ◌∙◌}
use mathlib.Core.List.{◌++◌, append_assoc}
use Prim.Native.Nat.{◌+◌, ◌*◌, ◌-◌}
use native.Mathlib.Omega.{arith}
use lib.ListN.{take, drop}
use lib.Seq.{drop-drop}
use Rattle.lent_words.proofs.Written.{five, put-words, put-none}
use Rattle.lent_words.proofs.write_effect.Goals as goal

pub returns-else-n-words : goal.returns-else-n-words
returns-else-n-words c = put-none _ _ c.args.x (omega (arith, c.if-n-words.false))

pub returns-then-n-words : goal.returns-then-n-words
returns-then-n-words c =
    let w = c.args.words.now in
    let at = c.args.n * 5 in
    let k : at + 5 - at ≡ 5 = omega arith in
    rw (c.copy_from_slice.ensures.after, k) (ap (λ rest. take at w ++ (five w c.args.n c.args.x ++ rest)) (drop-drop 5 at w) ∙ sym (put-words w c.args.n c.args.x (omega (arith, c.if-n-words.true)) ∙ append_assoc (take at w) (five w c.args.n c.args.x) (drop (at + 5) w)))
