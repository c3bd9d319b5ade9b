-- Values that have room in their words: a value whose words are words has. Assumes nothing.
use mathlib.Core.Path.{◌≡◌, refl, subst}
use mathlib.Core.Bool.{true}
use mathlib.Core.List.{List, [], ◌∷◌, ◌++◌}
use Rattle.std.specs.Prelude.{Option, None, Some}
use Prim.Native.Nat.{ℕ, suc, ◌+◌, ◌<◌}
use native.Mathlib.Nat.{div-lt_iff_lt-mul}
use native.Mathlib.Omega.{arith}
use lib.ListN.{length, get_or, take, drop}
use borrow.Author.Tests.{le-leb, lt-ltb}
use Rattle.std.proofs.lemmas.Bool.{and_from}
use Rattle.words.specs.Pairs.{high_of}
use Rattle.model.specs.Codec.{Row, wide, ◌⊗◌, maybe, pad, Same, as_row}
use Rattle.model.specs.Parts.{any, timer_row, jump_is, pending_is}
use Rattle.model.specs.Parts.{variable_row}
use Rattle.model.specs.Store.{variable_row_of}
use Rattle.model.specs.declared.Variable.{Variable}
use Rattle.model.specs.declared.VarValue.{VarValue}
use Rattle.model.specs.declared.VarValue.TheVariants.{Int, Text}
use Rattle.rows.specs.Places.{laid}
use Rattle.state.specs.Cuts.{Words}
use Rattle.state.specs.Meaning.{pending_row}

pub are_words : (w : List ℕ) → ((i : ℕ) → get_or w i 0 < 4294967296) → Words w
are_words [] h = tt
are_words (x ∷ w) h = (h 0, are_words w (λ i. h (suc i)))

pub words-front : (v w : List ℕ) → Words (v ++ w) → Words v
words-front [] w h = tt
words-front (x ∷ v) w h = (h.0, words-front v w h.1)

pub words_back : (v w : List ℕ) → Words (v ++ w) → Words w
words_back [] w h = h
words_back (x ∷ v) w h = words_back v w h.1

pub words-laid : (w : List ℕ) (k : ℕ) (v w₁ : List ℕ) → w₁ ≡ laid w k v → Words w₁ → Words v
unfolding laid
words-laid w k v w₁ e h = words_back (take k w) v (words-front (take k w ++ v) (drop (k + length v) w) (subst Words e h))

pub record Roomy {A : Type 0} (r : Row A) : Type 0 where
  pub fits : (a : A) → Words (r.put a) → r.good a ≡ true

pub any-roomy : Roomy any
any-roomy = record { fits = λ x h. le-leb x 4294967295 (omega (arith, h.0)) }

wide_fits : (x : ℕ) → high_of x < 4294967296 → x < 18446744073709551616
unfolding high_of
wide_fits x h = let d = (div-lt_iff_lt-mul {k = 4294967296} {x = x} {y = 4294967296} (omega arith)).0 (omega arith) in omega arith

pub wide-roomy : Roomy wide
wide-roomy = record { fits = λ x h. lt-ltb x 18446744073709551616 (wide_fits x h.1.0) }

pub ⊗-roomy : {A B : Type 0} {r : Row A} {s : Row B} → Roomy r → Roomy s → Roomy (r ⊗ s)
⊗-roomy {r} {s} p q = record { fits = λ x h. and_from _ _ (p.fits x.0 (words-front (r.put x.0) (s.put x.1) h)) (q.fits x.1 (words_back (r.put x.0) (s.put x.1) h)) }

pub pad-roomy : (n : ℕ) → Roomy (pad n)
pad-roomy n = record { fits = λ x h. refl }

pub maybe-roomy : {A : Type 0} {r : Row A} → Roomy r → Roomy (maybe r)
maybe-roomy {A} {r} p = record { fits = by }
  where
    by : (o : Option A) → Words ((maybe r).put o) → (maybe r).good o ≡ true
    by None h = refl
    by (Some x) h = p.fits x h.1

pub as-roomy : {A B : Type 0} (s : Same A B) {r : Row A} → Roomy r → Roomy (as_row s r)
as-roomy s p = record { fits = λ b h. p.fits (s.from b) h }

pub pending-roomy : Roomy pending_row
pending-roomy =
    as-roomy pending_is (⊗-roomy wide-roomy (⊗-roomy wide-roomy (⊗-roomy any-roomy (⊗-roomy any-roomy (⊗-roomy any-roomy (⊗-roomy (maybe-roomy (as-roomy jump_is (⊗-roomy any-roomy any-roomy))) (⊗-roomy any-roomy (⊗-roomy any-roomy (⊗-roomy wide-roomy (pad-roomy 1))))))))))

pub timer-good : (name due : ℕ) → name < 4294967296 → due < 18446744073709551616 → timer_row.good (record { name = name; due = due }) ≡ true
timer-good name due a b = and_from _ _ (le-leb name 4294967295 (omega arith)) (lt-ltb due 18446744073709551616 (omega arith))

-- a variable's tag is 0 or 1
pub variable-good : (x : Variable) → Words (variable_row.put (variable_row_of x)) → variable_row.good (variable_row_of x) ≡ true
variable-good x h = by x.name x.value h
  where
    by : (name : ℕ) (v : VarValue) → Words (variable_row.put (variable_row_of (record { name = name; value = v }))) → variable_row.good (variable_row_of (record { name = name; value = v })) ≡ true
    by name (Int n) h = and_from _ _ (any-roomy.fits name (h.0, tt)) (and_from _ _ refl (wide-roomy.fits n h.1.1))
    by name (Text n) h = and_from _ _ (any-roomy.fits name (h.0, tt)) (and_from _ _ refl (wide-roomy.fits n h.1.1))
