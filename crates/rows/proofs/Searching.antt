-- What a search through a list finds, by the specification's words for it. Assumes nothing.
use mathlib.Core.Path.{◌≡◌, refl, ◌∙◌, sym}
use mathlib.Core.Bool.{Bool, true, false, cond, ◌||◌}
use mathlib.Core.List.{List, [], ◌∷◌}
use Rattle.std.specs.Prelude.{Option, Some, option_map}
use Rattle.std.specs.List as std
use Rattle.std.proofs.lemmas.Iterator.Adapters.{option_map_id}
use Rattle.model.specs.Lists.{find, present}

find-same : {A : Type 0} (p : A → Bool) (l : List A) → std.find p l ≡ find p l
find-same p [] = refl
find-same p (x ∷ l) = rw (find-same p l) refl

-- the answer of a chain's `find`
pub finds : {A : Type 0} (p : A → Bool) (l : List A) (r : Option A) → option_map (λ x. x) r ≡ std.find p l → r ≡ find p l
finds p l r e = sym (option_map_id r) ∙ e ∙ find-same p l

present-cond : {A : Type 0} (b c : Bool) (x : A) (r : Option A) → c ≡ present r → b || c ≡ present (cond b (Some x) r)
present-cond true c x r e = refl
present-cond false c x r e = e

-- one passes where one is found
pub any-present : {A : Type 0} (p : A → Bool) (l : List A) → std.list_any p l ≡ present (find p l)
any-present p [] = refl
any-present p (x ∷ l) = present-cond (p x) (std.list_any p l) x (find p l) (any-present p l)
