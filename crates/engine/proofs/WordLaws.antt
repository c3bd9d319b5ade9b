-- The words of a store that reads, and of one whose parts are written one by one. Assumes nothing.
use mathlib.Core.Path.{◌≡◌, refl, sym, ap, ◌∙◌, subst}
use mathlib.Core.Bool.{true, false≢true}
use mathlib.Core.List.{List}
use Rattle.std.specs.Prelude.{Option, None, Some}
use Prim.Native.Nat.{ℕ}
use lib.ListN.{length}
use Rattle.model.specs.Lists.{present}
use Rattle.model.specs.Codec.{wide}
use Rattle.model.specs.Parts.{loaded_part}
use Rattle.model.specs.State.{Volatile, Store}
use Rattle.model.specs.Store.{loaded_of, read, write, Keeps}
use Rattle.model.proofs.StoreLaws.{write_read}
use Rattle.rows.specs.Places.{laid}
use Rattle.store.specs.Places.{set_place}
use Rattle.store.specs.Volatile.{Wrote, changing_in}
use Rattle.store.proofs.Stored.{long, time-laid, set-laid, volatile-laid, from-read, volatile-read, ReadsAs}

-- A STORE THAT READS ----------------------------------------------------------------------------------------------------------------------
-- what is known of it
pub record Said (w : List ℕ) : Type 0 where
  pub store : Store
  pub is : read w ≡ Some store
  pub written : write store ≡ w
  pub keeps : Keeps store
  pub reads : ReadsAs w store
  pub long : length w ≡ 16384

abbrev pub saying : (w : List ℕ) (s : Store) → read w ≡ Some s → Said w
saying w s e =
    let r = write_read w s e in
    let a = from-read w s e in
    record { store = s; is = e; written = r.written; keeps = r.keeps; reads = a; long = a.readable.long }

pub said : (w : List ℕ) → present (read w) ≡ true → Said w
said w p = go (read w) refl p
  where
    go : (o : Option Store) → read w ≡ o → present o ≡ true → Said w
    go None e p = absurd (false≢true p)
    go (Some s) e p = saying w s e

-- its Every slots
pub old-slots : (w : List ℕ) (s : Store) → read w ≡ Some s → (changing_in w).slots ≡ s.vol.rest.every
old-slots w s e = ap (λ (v : Volatile). v.rest.every) (volatile-read w s (from-read w s e))

-- ALL THREE PARTS, AND TWO ----------------------------------------------------------------------------------------------------------------
pub all-written : (s s' : Store) (w w₁ w₂ w₃ : List ℕ) → Keeps s → Keeps s' → write s ≡ w
    → w₁ ≡ laid w set_place (loaded_part.put (loaded_of s'.loaded)) → Wrote w₁ s'.vol w₂ → w₃ ≡ laid w₂ 0 (wide.put s'.now)
    → w₃ ≡ write s'
all-written s s' w w₁ w₂ w₃ k k' e e₁ e₂ e₃ =
    let l = long s k in
    let l' = long s' k' in
    let s₁ : Store = record { now = s.now; loaded = s'.loaded; vol = s.vol } in
    let s₂ : Store = record { now = s.now; loaded = s'.loaded; vol = s'.vol } in
    let a : w₁ ≡ write s₁ = e₁ ∙ ap (λ (x : List ℕ). laid x set_place (loaded_part.put (loaded_of s'.loaded))) (sym e) ∙ set-laid s s'.loaded l.loaded l'.loaded in
    let b : w₂ ≡ write s₂ = volatile-laid s₁ s'.vol w₂ (record { loaded = l'.loaded; changing = l.changing }) (subst (λ (x : List ℕ). Wrote x s'.vol w₂) a e₂) in
    e₃ ∙ ap (λ (x : List ℕ). laid x 0 (wide.put s'.now)) b ∙ time-laid s₂ s'.now

pub volatile-written : (s : Store) (v : Volatile) (w w₁ : List ℕ) → Keeps s → write s ≡ w → Wrote w v w₁ → w₁ ≡ write (record { now = s.now; loaded = s.loaded; vol = v })
volatile-written s v w w₁ k e e₁ = volatile-laid s v w₁ (long s k) (subst (λ (x : List ℕ). Wrote x v w₁) (sym e) e₁)

pub time-written : (s : Store) (t : ℕ) (w w₁ : List ℕ) → write s ≡ w → w₁ ≡ laid w 0 (wide.put t) → w₁ ≡ write (record { now = t; loaded = s.loaded; vol = s.vol })
time-written s t w w₁ e e₁ = e₁ ∙ ap (λ (x : List ℕ). laid x 0 (wide.put t)) (sym e) ∙ time-laid s t
