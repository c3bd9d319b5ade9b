-- What the functions of evaluation know of their arguments where nothing is refused. Assumes nothing.
use mathlib.Core.Path.{◌≡◌, refl, sym, ap, ◌∙◌}
use mathlib.Core.Bool.{Bool, true, false, ◌&&◌, false≢true}
use mathlib.Core.List.{List}
use Prim.Native.Nat.{ℕ, ◌+◌, ◌≤◌}
use lib.Dec.{eqb}
use lib.ListN.{length}
use borrow.Author.Tests.{eqb-true, ne_eqb}
use Rattle.std.proofs.lemmas.Bool.{and_parts}
use Rattle.model.specs.Lists.{all}
use Rattle.model.specs.Image.{size_of}
use Rattle.model.specs.Rows.{rules}
use Rattle.model.specs.Load.{image_refusal}
use Rattle.model.specs.Flat.{flatten_rules}
use Rattle.model.specs.Snapshot.{snapshot_refusal}
use Rattle.model.specs.Layout.{parts_fit}
use Rattle.model.specs.Parts.{any, variable_row, layout}
use Rattle.model.specs.Store.{text_short}
use Rattle.image.specs.Sized.{Sized}
use Rattle.image.proofs.Accepted.{sized, tables-accepted, few-accepted, rules-few}
use Rattle.rows.specs.Places.{row_at, table_at}
use Rattle.store.specs.Places.{variables_place}
use Rattle.store.specs.Volatile.{Readable}
use Rattle.store.proofs.Parts.{variables-at}
use Rattle.std.specs.Prelude.{Result, Ok, Err, IsErr}
use Rattle.std.specs.Result.{is_ok}
use Rattle.model.specs.declared.Refusal.{Refusal}
use Rattle.model.specs.Refusals.{refusal_code}
use Rattle.model.proofs.RefusalLaws.{refusal-some}
use Rattle.exports.specs.Answers.{readable, given}

-- THE STORE -----------------------------------------------------------------------------------------------------------------------
module _ (w : List ℕ) (a : Bool) (e : a ≡ eqb (length w) 16384 && parts_fit layout.parts w) where
  module _ (t : a ≡ true) where
    long : length w ≡ 16384
    long = eqb-true _ _ (and_parts (eqb (length w) 16384) (parts_fit layout.parts w) (sym e ∙ t)).0

    fit : parts_fit layout.parts w ≡ true
    fit = (and_parts (eqb (length w) 16384) (parts_fit layout.parts w) (sym e ∙ t)).1

    pub texts-decide : (n : ℕ) (b : Bool) → n ≡ row_at any w variables_place → b ≡ all text_short (table_at variable_row n w (variables_place + 1)) → b ≡ readable w
    unfolding readable
    texts-decide n b h x =
        rw (sym e ∙ t)
        (x ∙ ap (λ (m : ℕ). all text_short (table_at variable_row m w (variables_place + 1))) h ∙ ap (all text_short) (sym (variables-at w)))

  pub not-shaped : a ≡ false → false ≡ readable w
  unfolding readable
  not-shaped f = rw (sym e ∙ f) refl

readable-is : (w : List ℕ) → readable w ≡ true → Readable w
unfolding readable
readable-is w r =
    let (s, t) = and_parts (eqb (length w) 16384 && parts_fit layout.parts w) _ r in
    let (l, f) = and_parts (eqb (length w) 16384) (parts_fit layout.parts w) s in
    record { long = eqb-true _ _ l; fit = f; texts = t }

-- ALL THREE -----------------------------------------------------------------------------------------------------------------------
pub accepted-is : (image : List ℕ) → image_refusal image ≡ 0 → Sized image × (size_of image rules ≤ 64)
unfolding image_refusal
accepted-is image e =
    (sized image (tables-accepted image (flatten_rules image) e), rules-few image (few-accepted image (flatten_rules image) e))

pub not-ok : {A B : Type 0} (r : Result A B) → IsErr r → is_ok r ≡ false
not-ok (Ok a) h = absurd (false≢true h)
not-ok (Err e) h = refl

module _ (snapshot image store : List ℕ) where
  pub store-given : given snapshot image store ≡ true → Readable store
  unfolding given
  store-given g =
      let (_, h) = and_parts (eqb (snapshot_refusal snapshot) 0) (eqb (image_refusal image) 0 && readable store) g in
      readable-is store (and_parts (eqb (image_refusal image) 0) (readable store) h).1

  pub snapshot-refused : (e : Refusal) → refusal_code e ≡ snapshot_refusal snapshot → false ≡ given snapshot image store
  unfolding given
  snapshot-refused e h = rw (← h, ne_eqb (refusal_code e) 0 (refusal-some e)) refl

  module _ (s : 0 ≡ snapshot_refusal snapshot) where
    pub image-refused : (e : Refusal) → refusal_code e ≡ image_refusal image → false ≡ given snapshot image store
    unfolding given
    image-refused e h = rw (← s, ← h, ne_eqb (refusal_code e) 0 (refusal-some e)) refl

    pub store-decides : (b : Bool) → 0 ≡ image_refusal image → b ≡ readable store → b ≡ given snapshot image store
    unfolding given
    store-decides b i h = rw (← s, ← i) h
