-- What words say, and the words that say it. A codec is a layout with the two directions; codecs are put together as the words are.
use Rattle.std.specs.Prelude.{◌≡◌, Bool, true, ◌&&◌, cond, List, [], ◌∷◌, ◌++◌, ℕ, zero, suc, ◌-◌, ◌*◌, ◌^◌, leb, ltb, eqb, length, get_or, drop, replicate}
use Rattle.std.specs.Prelude.{Option, None, Some}
use Rattle.words.specs.Pairs.{joined, low_of, high_of}
use Rattle.model.specs.Layout.{Cell, Part, fixed, counted, up_to, free, mark, sizes, parts_fit}

-- ROWS ----------------------------------------------------------------------------------------------------------------------------
-- what the words in front say, and the values that have room in them
pub record Row (A : Type 0) : Type 0 where
  pub cells : List Cell
  pub get : List ℕ → A
  pub put : A → List ℕ
  pub good : A → Bool

-- a word of at most n
abbrev pub word : ℕ → Row ℕ
word n = record { cells = up_to n ∷ []; get = λ w. get_or w 0 0; put = λ x. x ∷ []; good = λ x. leb x n }

-- a 64-bit value: two words, low first
abbrev pub wide : Row ℕ
wide =
    record {
      cells = free ∷ free ∷ [];
      get = λ w. joined (get_or w 0 0) (get_or w 1 0);
      put = λ x. low_of x ∷ high_of x ∷ [];
      good = λ x. ltb x (2 ^ 64);
    }

-- one row behind another
abbrev pub ◌⊗◌ : {A B : Type 0} → Row A → Row B → Row (A × B)
◌⊗◌ r s =
    record {
      cells = r.cells ++ s.cells;
      get = λ w. (r.get w, s.get (drop (length r.cells) w));
      put = λ x. r.put x.0 ++ s.put x.1;
      good = λ x. r.good x.0 && s.good x.1;
    }

infixr 40 ◌⊗◌
-- a mark, and a row that is 0 where the mark is 0
abbrev pub marked : {A : Type 0} → ℕ → A → Option A
marked zero x = None
marked (suc n) x = Some x

abbrev pub put_maybe : {A : Type 0} → Row A → Option A → List ℕ
put_maybe r None = 0 ∷ replicate (length r.cells) 0
put_maybe r (Some x) = 1 ∷ r.put x

abbrev pub good_maybe : {A : Type 0} → Row A → Option A → Bool
good_maybe r None = true
good_maybe r (Some x) = r.good x

abbrev pub maybe : {A : Type 0} → Row A → Row (Option A)
maybe r =
    record {
      cells = mark (length r.cells) ∷ r.cells;
      get = λ w. marked (get_or w 0 0) (r.get (drop 1 w));
      put = put_maybe r;
      good = good_maybe r;
    }

-- n words that are 0
abbrev pub pad : ℕ → Row (Unit {0})
pad n = record { cells = replicate n (up_to 0); get = λ w. tt; put = λ x. replicate n 0; good = λ x. true }

-- the same values, by other names
pub record Same (A B : Type 0) : Type 0 where
  pub to : A → B
  pub from : B → A
  pub there : (b : B) → to (from b) ≡ b
  pub back : (a : A) → from (to a) ≡ a

abbrev pub as_row : {A B : Type 0} → Same A B → Row A → Row B
as_row s r = record { cells = r.cells; get = λ w. s.to (r.get w); put = λ b. r.put (s.from b); good = λ b. r.good (s.from b) }

-- n rows
unfoldable pub rows_at : {A : Type 0} → Row A → ℕ → List ℕ → List A
rows_at r zero w = []
rows_at r (suc n) w = r.get w ∷ rows_at r n (drop (length r.cells) w)

unfoldable pub words_of : {A : Type 0} → Row A → List A → List ℕ
words_of r [] = []
words_of r (x ∷ l) = r.put x ++ words_of r l

unfoldable pub all_good : {A : Type 0} → Row A → List A → Bool
all_good r [] = true
all_good r (x ∷ l) = r.good x && all_good r l

-- PARTS ---------------------------------------------------------------------------------------------------------------------------
pub record Codec (A : Type 0) : Type 0 where
  pub parts : List Part
  pub get : List ℕ → A
  pub put : A → List ℕ
  pub good : A → Bool

abbrev pub one : {A : Type 0} → Row A → Codec A
one r = record { parts = fixed 1 r.cells ∷ []; get = r.get; put = r.put; good = r.good }

-- n rows
abbrev pub all : {A : Type 0} → ℕ → Row A → Codec (List A)
all n r =
    record {
      parts = fixed n r.cells ∷ [];
      get = rows_at r n;
      put = words_of r;
      good = λ l. eqb (length l) n && all_good r l;
    }

-- at most n rows, with their count before them and zeros behind
abbrev pub most : {A : Type 0} → ℕ → Row A → Codec (List A)
most n r =
    record {
      parts = counted n r.cells ∷ [];
      get = λ w. rows_at r (get_or w 0 0) (drop 1 w);
      put = λ l. length l ∷ (words_of r l ++ replicate ((n - length l) * length r.cells) 0);
      good = λ l. leb (length l) n && all_good r l;
    }

-- n words that are 0
abbrev pub unused : ℕ → Codec (Unit {0})
unused n = record { parts = fixed n (up_to 0 ∷ []) ∷ []; get = λ w. tt; put = λ x. replicate n 0; good = λ x. true }

abbrev pub ◌then◌ : {A B : Type 0} → Codec A → Codec B → Codec (A × B)
◌then◌ c d =
    record {
      parts = c.parts ++ d.parts;
      get = λ w. (c.get w, d.get (drop (sizes c.parts) w));
      put = λ x. c.put x.0 ++ d.put x.1;
      good = λ x. c.good x.0 && d.good x.1;
    }

infixr 30 ◌then◌
abbrev pub as_parts : {A B : Type 0} → Same A B → Codec A → Codec B
as_parts s c = record { parts = c.parts; get = λ w. s.to (c.get w); put = λ b. c.put (s.from b); good = λ b. c.good (s.from b) }

-- READING ---------------------------------------------------------------------------------------------------------------------------
-- words that are as many as the layout has, fit it, and say something that meets the further rules
abbrev pub accepted : {A : Type 0} → Codec A → (A → Bool) → List ℕ → Bool
accepted c rules w = eqb (length w) (sizes c.parts) && (parts_fit c.parts w && rules (c.get w))

unfoldable pub decode : {A : Type 0} → Codec A → (A → Bool) → List ℕ → Option A
decode c rules w = cond (accepted c rules w) (Some (c.get w)) None
