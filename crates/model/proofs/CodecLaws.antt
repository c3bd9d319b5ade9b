-- The two laws of a codec, for each way to make one; and of `decode` and `put` of every codec that has them.
use mathlib.Core.Path.{◌≡◌, refl, sym, ap, ◌∙◌}
use mathlib.Core.Bool.{Bool, true, false, ◌&&◌, ◌||◌, not, cond, and-true, and_assoc, false≢true}
use mathlib.Core.List.{List, [], ◌∷◌, ◌++◌, append_assoc, append-nil}
use Rattle.std.specs.Prelude.{None, Some}
use Rattle.std.proofs.lemmas.Option.{none-some, same_Some}
use Prim.Native.Nat.{ℕ, zero, suc, ◌+◌, ◌-◌, ◌*◌, ◌≤◌}
use native.Mathlib.Nat.{add-zero, zero-add, add_assoc, one-mul, add-mul, mul-one}
use native.Mathlib.Numerals.{one-add}
use native.Mathlib.Omega.{arith}
use lib.Dec.{leb, eqb}
use lib.ListN.{length, drop, replicate, length-append, length-replicate, drop_of_length-le}
use lib.Seq.{drop_at, drop-drop}
use borrow.Author.Tests.{leb-true, eqb-true, eq-eqb}
use Rattle.std.proofs.lemmas.Bool.{and_from, and_parts}
use Rattle.model.specs.Layout.{Cell, Part, fixed, counted, zeros, row_fits, rows_fit, size_of, sizes, part_fits, parts_fit, up_to}
use Rattle.model.specs.Codec.{Row, rows_at, words_of, all_good, Codec, one, all, most, unused, ◌then◌, Same, as_parts, accepted, decode}
use Rattle.model.proofs.RowLaws.{RowLaws, zeros-written, zeros-back, only_zero, rows_long, rows-count, rows-reads, rows-writes}

pub record CodecLaws {A : Type 0} (c : Codec A) : Type 0 where
  pub long : (a : A) → c.good a ≡ true → length (c.put a) ≡ sizes c.parts
  pub reads : (a : A) (rest : List ℕ) → c.good a ≡ true → (c.get (c.put a ++ rest) ≡ a) × (parts_fit c.parts (c.put a ++ rest) ≡ true)
  pub writes : (w : List ℕ) → parts_fit c.parts w ≡ true → (c.put (c.get w) ++ drop (sizes c.parts) w ≡ w) × (c.good (c.get w) ≡ true)

-- a layout of one part
alone : (p : Part) → sizes (p ∷ []) ≡ size_of p
unfolding sizes
alone p = add-zero (size_of p)

alone-fits : (p : Part) (w : List ℕ) → parts_fit (p ∷ []) w ≡ part_fits p w
unfolding parts_fit
alone-fits p w = and-true (part_fits p w)

-- ONE ROW, n ROWS -----------------------------------------------------------------------------------------------------------------
one-row : (cs : List Cell) (w : List ℕ) → rows_fit 1 cs w ≡ row_fits cs w
unfolding rows_fit
one-row cs w = and-true (row_fits cs w)

pub one_laws : {A : Type 0} {r : Row A} → RowLaws r → CodecLaws (one r)
one_laws {r} p =
    record {
      long = λ a g. p.long a ∙ sym size;
      reads = λ a rest g. let (v, f) = p.reads a rest g in (v, fit (r.put a ++ rest) ∙ f);
      writes = λ w f. let (v, g) = p.writes w (sym (fit w) ∙ f) in (rw size v, g);
    }
  where
    size : sizes (one r).parts ≡ length r.cells
    size = alone (fixed 1 r.cells) ∙ one-mul (length r.cells)

    fit : (w : List ℕ) → parts_fit (one r).parts w ≡ row_fits r.cells w
    fit w = alone-fits (fixed 1 r.cells) w ∙ one-row r.cells w

pub all_laws : {A : Type 0} (n : ℕ) {r : Row A} → RowLaws r → CodecLaws (all n r)
all_laws n {r} p =
    record {
      long = λ l g. rows_long r p l ∙ rw (eqb-true (length l) n (and_parts _ _ g).0) (sym size);
      reads =
          λ l rest g.
          let (g₁, g₂) = and_parts (eqb (length l) n) (all_good r l) g in
          let m = eqb-true (length l) n g₁ in
          let (v, f) = rows-reads r p l rest g₂ in
          (rw m at v, fit (words_of r l ++ rest) ∙ (rw m at f));
      writes =
          λ w f.
          let (v, g) = rows-writes r p n w (sym (fit w) ∙ f) in
          (rw size v, and_from _ _ (eq-eqb _ _ (rows-count r n w)) g);
    }
  where
    size : sizes (all n r).parts ≡ n * length r.cells
    size = alone (fixed n r.cells)

    fit : (w : List ℕ) → parts_fit (all n r).parts w ≡ rows_fit n r.cells w
    fit w = alone-fits (fixed n r.cells) w

-- AT MOST n ROWS --------------------------------------------------------------------------------------------------------------------
-- the words of c rows and of the others are those of n
pub rest_of : (c n f : ℕ) → c ≤ n → c * f + (n - c) * f ≡ n * f
rest_of c n f h =
    let e : c + (n - c) ≡ n = omega arith in
    sym (add-mul c (n - c) f) ∙ rw e

module _ {A : Type 0} (n : ℕ) {r : Row A} (p : RowLaws r) where
  abbrev f : ℕ
  f = length r.cells

  size : sizes (most n r).parts ≡ 1 + n * f
  size = alone (counted n r.cells)

  fit : (w : List ℕ) → parts_fit (most n r).parts w ≡ part_fits (counted n r.cells) w
  fit w = alone-fits (counted n r.cells) w

  most-long : (l : List A) → (most n r).good l ≡ true → length ((most n r).put l) ≡ sizes (most n r).parts
  most-long l g =
      let h = leb-true (length l) n (and_parts _ _ g).0 in
      let e : length (words_of r l ++ replicate ((n - length l) * f) 0) ≡ n * f = length-append (words_of r l) (replicate ((n - length l) * f) 0) ∙ rw (rows_long r p l, length-replicate) (rest_of (length l) n f h) in
      let s : suc (n * f) ≡ 1 + n * f = omega arith in
      ap suc e ∙ s ∙ sym size

  most-reads : (l : List A) (rest : List ℕ) → (most n r).good l ≡ true
      → ((most n r).get ((most n r).put l ++ rest) ≡ l) × (parts_fit (most n r).parts ((most n r).put l ++ rest) ≡ true)
  most-reads l rest g =
      let (g₁, g₂) = and_parts (leb (length l) n) (all_good r l) g in
      let zs : List ℕ = replicate ((n - length l) * f) 0 in
      let e = append_assoc (words_of r l) zs rest in
      let (v, q) = rows-reads r p l (zs ++ rest) g₂ in
      let d = drop_at (words_of r l) (zs ++ rest) (length l * f) (rows_long r p l) in
      let z : zeros ((n - length l) * f) (drop (length l * f) (words_of r l ++ (zs ++ rest))) ≡ true = ap (zeros ((n - length l) * f)) d ∙ zeros-written ((n - length l) * f) rest in
      (rw e v, fit ((most n r).put l ++ rest) ∙ rw e (and_from _ _ g₁ (and_from _ _ q z)))

  most-writes : (w : List ℕ) → parts_fit (most n r).parts w ≡ true
      → ((most n r).put ((most n r).get w) ++ drop (sizes (most n r).parts) w ≡ w) × ((most n r).good ((most n r).get w) ≡ true)
  most-writes [] e = absurd (false≢true (sym (fit []) ∙ e))
  most-writes (x ∷ w) e =
      let (a, b) = and_parts (leb x n) (rows_fit x r.cells w && zeros ((n - x) * f) (drop (x * f) w)) (sym (fit (x ∷ w)) ∙ e) in
      let (q, z) = and_parts (rows_fit x r.cells w) (zeros ((n - x) * f) (drop (x * f) w)) b in
      let (v, g) = rows-writes r p x w q in
      let m = rows-count r x w in
      let y = zeros-back ((n - x) * f) (drop (x * f) w) z in
      let d : drop (n * f) w ≡ drop ((n - x) * f) (drop (x * f) w) = ap (λ (k : ℕ). drop k w) (sym (rest_of x n f (leb-true x n a))) ∙ sym (drop-drop ((n - x) * f) (x * f) w) in
      let rows = rows_at r x w in
      let whole : (words_of r rows ++ replicate ((n - x) * f) 0) ++ drop (n * f) w ≡ w =
      append_assoc (words_of r rows) (replicate ((n - x) * f) 0) (drop (n * f) w)
      ∙ ap (λ t. words_of r rows ++ (replicate ((n - x) * f) 0 ++ t)) d
      ∙ ap (λ t. words_of r rows ++ t) y
      ∙ v in
      let s : drop (sizes (most n r).parts) (x ∷ w) ≡ drop (n * f) w = ap (λ (k : ℕ). drop k (x ∷ w)) (size ∙ one-add (n * f)) in
      let t : (most n r).put rows ≡ x ∷ (words_of r rows ++ replicate ((n - x) * f) 0) = ap (λ (k : ℕ). k ∷ (words_of r rows ++ replicate ((n - k) * f) 0)) m in
      (ap (λ y. (most n r).put rows ++ y) s ∙ ap (λ y. y ++ drop (n * f) w) t ∙ ap (λ y. x ∷ y) whole, and_from _ _ (ap (λ (k : ℕ). leb k n) m ∙ a) g)

  pub most-laws : CodecLaws (most n r)
  most-laws = record { long = most-long; reads = most-reads; writes = most-writes }

-- UNUSED WORDS ----------------------------------------------------------------------------------------------------------------------
zero-rows : (n : ℕ) (w : List ℕ) → rows_fit n (up_to 0 ∷ []) w ≡ zeros n w
unfolding rows_fit row_fits zeros
zero-rows zero w = refl
zero-rows (suc n) [] = refl
zero-rows (suc n) (x ∷ w) = rw (zero-rows n w) (ap (λ (b : Bool). b && zeros n w) (and-true (leb x 0 && (not (eqb x 0) || true))) ∙ only_zero x (zeros n w))

pub unused-laws : (n : ℕ) → CodecLaws (unused n)
unused-laws n =
    record {
      long = λ a g. length-replicate n 0 ∙ sym size;
      reads = λ a rest g. (refl, fit (replicate n 0 ++ rest) ∙ zeros-written n rest);
      writes = λ w f. (rw size (zeros-back n w (sym (fit w) ∙ f)), refl);
    }
  where
    size : sizes (unused n).parts ≡ n
    size = alone (fixed n (up_to 0 ∷ [])) ∙ mul-one n

    fit : (w : List ℕ) → parts_fit (unused n).parts w ≡ zeros n w
    fit w = alone-fits (fixed n (up_to 0 ∷ [])) w ∙ zero-rows n w

-- ONE BEHIND ANOTHER ----------------------------------------------------------------------------------------------------------------
sizes-append : (ps qs : List Part) → sizes (ps ++ qs) ≡ sizes ps + sizes qs
unfolding sizes
sizes-append [] qs = sym (zero-add (sizes qs))
sizes-append (p ∷ ps) qs = rw (sizes-append ps qs) (sym (add_assoc (size_of p) (sizes ps) (sizes qs)))

parts-append : (ps qs : List Part) (w : List ℕ) → parts_fit (ps ++ qs) w ≡ parts_fit ps w && parts_fit qs (drop (sizes ps) w)
unfolding parts_fit sizes
parts-append [] qs w = refl
parts-append (p ∷ ps) qs w =
    rw (parts-append ps qs (drop (size_of p) w), drop-drop (sizes ps) (size_of p) w) (sym (and_assoc (part_fits p w) (parts_fit ps (drop (size_of p) w)) (parts_fit qs (drop (size_of p + sizes ps) w))))

pub then-laws : {A B : Type 0} {c : Codec A} {d : Codec B} → CodecLaws c → CodecLaws d → CodecLaws (c then d)
then-laws {c} {d} p q =
    record {
      long = λ a g. let (g₁, g₂) = and_parts _ _ g in length-append (c.put a.0) (d.put a.1) ∙ rw (p.long a.0 g₁, q.long a.1 g₂, sizes-append);
      reads =
          λ a rest g.
          let (g₁, g₂) = and_parts _ _ g in
          let e = append_assoc (c.put a.0) (d.put a.1) rest in
          let (v₁, f₁) = p.reads a.0 (d.put a.1 ++ rest) g₁ in
          let (v₂, f₂) = q.reads a.1 rest g₂ in
          let b = drop_at (c.put a.0) (d.put a.1 ++ rest) (sizes c.parts) (p.long a.0 g₁) in
          (rw (e, b) (λ i. (v₁ i, v₂ i)), rw e (parts-append c.parts d.parts (c.put a.0 ++ (d.put a.1 ++ rest)) ∙ and_from _ _ f₁ (ap (parts_fit d.parts) b ∙ f₂)));
      writes =
          λ w f.
          let (f₁, f₂) = and_parts _ _ (sym (parts-append c.parts d.parts w) ∙ f) in
          let (v₁, g₁) = p.writes w f₁ in
          let t = drop (sizes c.parts) w in
          let (v₂, g₂) = q.writes t f₂ in
          let b : drop (sizes (c.parts ++ d.parts)) w ≡ drop (sizes d.parts) t =
          ap (λ (n : ℕ). drop n w) (sizes-append c.parts d.parts) ∙ sym (drop-drop (sizes d.parts) (sizes c.parts) w) in
          (rw b (append_assoc (c.put (c.get w)) (d.put (d.get t)) (drop (sizes d.parts) t) ∙ ap (λ t. c.put (c.get w) ++ t) v₂ ∙ v₁), and_from _ _ g₁ g₂);
    }

pub as-parts-laws : {A B : Type 0} (s : Same A B) {c : Codec A} → CodecLaws c → CodecLaws (as_parts s c)
as-parts-laws s {c} p =
    record {
      long = λ b. p.long (s.from b);
      reads = λ b rest g. let (v, f) = p.reads (s.from b) rest g in (ap s.to v ∙ s.there b, f);
      writes = λ w f. let (v, g) = p.writes w f in (ap (λ a. c.put a ++ drop (sizes c.parts) w) (s.back (c.get w)) ∙ v, ap c.good (s.back (c.get w)) ∙ g);
    }

-- READING AND WRITING -----------------------------------------------------------------------------------------------------------------
module _ {A : Type 0} (c : Codec A) (laws : CodecLaws c) (rules : A → Bool) where
  pub decode-put : (a : A) → c.good a ≡ true → rules a ≡ true → decode c rules (c.put a) ≡ Some a
  unfolding decode
  decode-put a g h =
      let l = laws.long a g in
      let n = append-nil (c.put a) in
      let (v, f) = laws.reads a [] g in
      let v' : c.get (c.put a) ≡ a = rw n at v in
      let f' : parts_fit c.parts (c.put a) ≡ true = rw n at f in
      rw (eq-eqb (length (c.put a)) (sizes c.parts) l, f', v', h)

  -- what words that are accepted hold
  pub record Holds (w : List ℕ) (a : A) : Type 0 where
    pub put_back : c.put a ≡ w
    pub good : c.good a ≡ true
    pub met : rules a ≡ true

  pub holds : (w : List ℕ) → accepted c rules w ≡ true → Holds w (c.get w)
  holds w e =
      let (l, r) = and_parts (eqb (length w) (sizes c.parts)) (parts_fit c.parts w && rules (c.get w)) e in
      let (f, h) = and_parts (parts_fit c.parts w) (rules (c.get w)) r in
      let (v, g) = laws.writes w f in
      let k = eqb-true (length w) (sizes c.parts) l in
      let z = drop_of_length-le w {i = sizes c.parts} (omega (arith, k)) in
      record { put_back = sym (append-nil (c.put (c.get w))) ∙ (rw z at v); good = g; met = h }

  pub put-decode : (w : List ℕ) (a : A) → decode c rules w ≡ Some a → Holds w a
  unfolding decode
  put-decode w a e = go (accepted c rules w) refl e
    where
      go : (b : Bool) → accepted c rules w ≡ b → cond b (Some (c.get w)) None ≡ Some a → Holds w a
      go true t e = rw (same_Some _ _ e) at (holds w t)
      go false t e = absurd (none-some _ e)
