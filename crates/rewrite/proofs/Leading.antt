-- What an accepted image mentions is there: 14 of its words. Assumes nothing.
use mathlib.Core.Path.{◌≡◌, refl}
use mathlib.Core.Bool.{Bool, true, false, cond, not, ◌||◌}
use mathlib.Core.List.{List}
use Prim.Native.Nat.{ℕ, zero, suc, ◌+◌, ◌<◌, ◌≤◌}
use native.Mathlib.Omega.{arith}
use lib.Dec.{eqb, leb, ltb}
use borrow.Author.Tests.{leb-true, ltb-true}
use Rattle.model.specs.declared.Field.{Field}
use Rattle.model.specs.declared.Field.TheVariants.{Free, UpTo, Mark, Tag, Index, Span, Nested}
use Rattle.model.specs.Rows.{actions, pool, field_of}
use Rattle.model.specs.Image.{width_of, size_of, word_at, leads, word_passes, record_passes, table_passes, tables_pass}
use Rattle.model.proofs.Bools.{every-at}
use Rattle.std.proofs.lemmas.Bool.{and_parts}
use Rattle.image.specs.Accepted.{Accepted}
use Rattle.image.proofs.Accepted as accepted-image
use Rattle.rewrite.specs.Mention.{Mention, plain, list_at, behind_tag, mention_of, mention_at}
use Rattle.rewrite.specs.Frames.{Leads}
use Rattle.rewrite.proofs.Fields.{leads_inside, inner, field-inside}

module _ (img : List ℕ) (ok : Accepted img) where
  plain-leads : (w : ℕ) → Leads img (plain w)
  plain-leads w = record { table = omega arith; held = omega arith; near = omega arith }

  list-leads : (t first count : ℕ) → inner t ≡ true → first + count ≤ size_of img t → Leads img (list_at t first count)
  list-leads t first count e h =
      let l = ltb-true t 8 (and_parts (leb 2 t) (ltb t 8) e).1 in
      record { table = l; held = h; near = omega (arith, accepted-image.any-size img ok.passes t l) }

  tag-leads : (m : Mention) (tag : ℕ) → Leads img m → Leads img (behind_tag tag m)
  tag-leads m tag l = record { table = l.table; held = l.held; near = l.near }

  tagged-leads : (b : Bool) (t next : ℕ) → inner t ≡ true → not b || ltb next (size_of img t) ≡ true → Leads img (cond b (list_at t next 1) (plain next))
  tagged-leads true t next e h = list-leads t next 1 e (omega (arith, ltb-true next (size_of img t) h))
  tagged-leads false t next e h = plain-leads next

  field-leads : (holder : ℕ) (f : Field) (more : Bool) (w next : ℕ) → leads_inside f ≡ true → leads img holder f w next ≡ true → Leads img (mention_of f more w next)
  unfolding mention_of leads
  field-leads holder Free more w next e h = plain-leads w
  field-leads holder (UpTo most) more w next e h = plain-leads w
  field-leads holder (Mark most value) more w next e h = plain-leads w
  field-leads holder (Tag t) true w next e h = tag-leads _ w (tagged-leads (eqb w 0) t next e h)
  field-leads holder (Tag t) false w next e h = plain-leads w
  field-leads holder (Index t) more w next e h = list-leads t w 1 e (omega (arith, ltb-true w (size_of img t) h))
  field-leads holder (Span t) true w next e h = list-leads t w next e (leb-true (w + next) (size_of img t) h)
  field-leads holder (Span t) false w next e h = plain-leads w
  field-leads holder Nested true w next e h =
      list-leads actions w next refl (leb-true (w + next) (size_of img actions) (and_parts (leb (w + next) (size_of img actions)) (eqb next 0 || ltb holder w) h).0)
  field-leads holder Nested false w next e h = plain-leads w

  pub mention-leads : (t i j : ℕ) → t < 8 → i < size_of img t → j < width_of t → Leads img (mention_at img t i j)
  unfolding mention_at tables_pass
  mention-leads t i j a b c =
      let table = every-at (table_passes img true) 8 t (accepted-image.links-passed img ok.passes) a in
      let row = every-at (record_passes img true t) (size_of img t) i table b in
      field-leads i (field_of t (word_at img t i 0) (word_at img t i 1) j) (ltb (j + 1) (width_of t)) (word_at img t i j) (word_at img t i (j + 1))
      (field-inside t (word_at img t i 0) (word_at img t i 1) j) (every-at (word_passes img true t i) (width_of t) j row c)

-- a pool word mentions nothing
pub pool-plain : (img : List ℕ) (i j : ℕ) → (mention_at img pool i j).count ≡ 0
unfolding mention_at mention_of field_of
pool-plain img i zero = refl
pool-plain img i (suc j) = refl
