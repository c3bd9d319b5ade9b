-- The number of stored steps of an image that load accepts.
use mathlib.Core.Path.{◌≡◌, refl, sym, ap, ◌∙◌}
use mathlib.Core.Bool.{cond}
use mathlib.Core.List.{List}
use Prim.Native.Nat.{ℕ}
use lib.Dec.{eqb}
use lib.ListN.{length}
use borrow.Author.Tests.{eq-eqb}
use Rattle.model.specs.Load.{image_refusal}
use Rattle.model.specs.Flat.{flatten_rules}
use Rattle.flat.specs.Load.{stored, loaded}
use Rattle.std.specs.Prelude.{Result}
use Rattle.std.specs.Result.{result_unwrap_or}
use Rattle.model.specs.declared.Refusal.{Refusal}
use Rattle.flat.proofs.FlatPart.{passed}
use Rattle.flat.proofs.RuleLists.{loaded-steps}

pub told : (img w : List ℕ) (n : ℕ) (l : Result ℕ Refusal) → w ≡ img → image_refusal w ≡ 0 → l ≡ loaded (flatten_rules w) → n ≡ result_unwrap_or l 0
    → n ≡ cond (eqb (image_refusal img) 0) (length (stored (flatten_rules img))) 0
told img w n l s z h t =
    let a = sym (loaded-steps (flatten_rules w) (length (stored (flatten_rules w))) (passed w z).1 refl) in
    rw (← s, eq-eqb (image_refusal w) 0 z) (t ∙ ap (λ (x : Result ℕ Refusal). result_unwrap_or x 0) (h ∙ a))
