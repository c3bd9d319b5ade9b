-- Slots that join a table trigger by trigger and rule by rule, and the due time of one that stood before. Assumes nothing.
use mathlib.Core.Path.{◌≡◌, refl, sym, ap, subst, ◌∙◌}
use mathlib.Core.List.{List, [], ◌∷◌, ◌++◌, map, append_assoc, append-nil}
use Prim.Native.Nat.{ℕ, suc, ◌+◌, ◌≤◌, ◌<◌}
use native.Mathlib.Numerals.{add-one}
use native.Mathlib.Omega.{arith}
use lib.ListN.{length, length-append, replicate, take, drop, get_or, drop_of_length-le}
use lib.Seq.{drop-cons}
use borrow.Rule.Slice.PartMut.{put_mid}
use Rattle.model.specs.declared.EverySlot.{EverySlot}
use Rattle.model.specs.declared.Trigger.{Trigger}
use Rattle.model.specs.declared.Trigger.TheVariants.{TimerFires, Every, AtTime, AtSolar, Other}
use Rattle.model.specs.Codec.{most, words_of, all_good, rows_at}
use Rattle.model.specs.Lists.{flatten}
use Rattle.model.specs.Parts.{slot_row}
use Rattle.model.specs.Rules.{name_of, triggers_of}
use Rattle.model.specs.Slots.{slots_from}
use Rattle.model.specs.State.{Volatile, with_rest, with_every}
use Rattle.model.proofs.PartsLaws.{slot_laws}
use Rattle.rows.specs.Places.{table_at}
use Rattle.state.specs.Meaning.{Sound, Holds, Counted, Means, meaning, base, slots_part, place_of, words_in}
use Rattle.state.proofs.Typed.{holds-get, holds-count}
use Rattle.state.proofs.EverySlots.{slots-hold, slots-back}
use Rattle.state.proofs.Follows.{follows, means}
use Rattle.every.specs.Joined.{HasRoomFor, Joined}

-- SLOTS THAT JOIN ------------------------------------------------------------------------------------------------------------------------------
abbrev pub get : List ℕ → List EverySlot
get = (most 64 slot_row).get

-- the slots that joined so far stand in t; those that are left, and all
pub record Partial (t : List ℕ) (left all : List EverySlot) : Type 0 where
  pub counted : Counted 64 slot_row t
  pub holds : get t ++ left ≡ all

table-count : (t : List ℕ) → Counted 64 slot_row t → get_or t 0 0 ≡ length (get t)
table-count t h = holds-count slot_row slot_laws 64 t (get t) h

pub begins : (t : List ℕ) (left : List EverySlot) → HasRoomFor t left → Partial t left (get t ++ left) × (length (get t ++ left) ≤ 64)
begins t left h = (record { counted = h.counted; holds = refl }, omega (arith, h.few, table-count t h.counted, length-append (get t) left))

-- an empty table
pub starts : (t : List ℕ) (left : List EverySlot) → Holds 64 slot_row t [] → Partial t left left
starts t left h =
    let g = holds-get slot_row slot_laws 64 t [] h in
    record { counted = subst (Holds 64 slot_row t) (sym g) h; holds = ap (λ (l : List EverySlot). l ++ left) g }

-- those that come next
pub record Next (left add rest : List EverySlot) : Type 0 where
  pub parts : left ≡ add ++ rest

module _ (t : List ℕ) (left add rest all : List EverySlot) (inv : Partial t left all) (next : Next left add rest) where
  split : get t ++ (add ++ rest) ≡ all
  split = rw next.parts at inv.holds

  pub room : length all ≤ 64 → HasRoomFor t add
  room h =
      let size = ap length split in
      record { counted = inv.counted; few = omega (arith, size, length-append (get t) (add ++ rest), length-append add rest, table-count t inv.counted) }

  pub joins-on : (t' : List ℕ) → Joined t add t' → Partial t' rest all
  joins-on t' h =
      let g = holds-get slot_row slot_laws 64 t' (get t ++ add) h in
      record { counted = subst (Holds 64 slot_row t') (sym g) h; holds = rw g (append_assoc (get t) add rest ∙ split) }

pub joined-all : (t : List ℕ) (left all : List EverySlot) → Partial t left all → left ≡ [] → Holds 64 slot_row t all
joined-all t left all inv e = let q : get t ≡ all = sym (append-nil (get t)) ∙ rw e at inv.holds in subst (Holds 64 slot_row t) q inv.counted

-- a trigger that adds no slot
pub adds_none : (old : List EverySlot) (now rule place : ℕ) (t : Trigger) (w : List ℕ) → ((ms : ℕ) → t ≡ Every ms → ⊥) → Counted 64 slot_row w → Joined w (slots_from old now rule place (t ∷ [])) w
unfolding slots_from
adds_none old now rule place (TimerFires t) w h k = rw append-nil k
adds_none old now rule place (Every ms) w h k = absurd (h ms refl)
adds_none old now rule place (AtTime hour minute days) w h k = rw append-nil k
adds_none old now rule place (AtSolar event offset) w h k = rw append-nil k
adds_none old now rule place Other w h k = rw append-nil k

module _ (old : List EverySlot) (now rule : ℕ) where
  next-trigger : (place : ℕ) (t : Trigger) (ts : List Trigger) → slots_from old now rule place (t ∷ ts) ≡ slots_from old now rule place (t ∷ []) ++ slots_from old now rule (suc place) ts
  unfolding slots_from
  next-trigger place (TimerFires t) ts = refl
  next-trigger place (Every ms) ts = refl
  next-trigger place (AtTime h m days) ts = refl
  next-trigger place (AtSolar event offset) ts = refl
  next-trigger place Other ts = refl

  -- a trigger, and those behind it
  pub trigger-left : (place : ℕ) (left : List Trigger) (t : Trigger) (rest : List Trigger) → left ≡ t ∷ rest → Next (slots_from old now rule place left) (slots_from old now rule place (t ∷ [])) (slots_from old now rule (suc place) rest)
  trigger-left place left t rest e = record { parts = rw e (next-trigger place t rest) }

  pub none_left : (place : ℕ) (left : List Trigger) → left ≡ [] → slots_from old now rule place left ≡ []
  unfolding slots_from
  none_left place left e = rw e

-- the slots of rule i
abbrev pub rule_slots : List ℕ → List EverySlot → ℕ → ℕ → List EverySlot
rule_slots img old now i = slots_from old now (name_of img i) 0 (triggers_of img i)

-- rule k in order, and those behind it
module _ (f : ℕ → List EverySlot) (order : List ℕ) (k : ℕ) where
  pub rule-left : (shown : List ℕ) → shown ≡ order → k < length shown → Next (flatten (map f (drop k order))) (f (get_or shown k 0)) (flatten (map f (drop (k + 1) order)))
  rule-left shown e h = let l : k < length order = rw e at h in record { parts = rw (drop-cons order k 0 l, add-one, e) }

  pub no-rule-left : length order ≤ k → flatten (map f (drop k order)) ≡ []
  no-rule-left h = let e : drop k order ≡ [] = drop_of_length-le order {i = k} h in rw e

-- A TABLE OF ITS OWN ---------------------------------------------------------------------------------------------------------------------------
pub blank : Holds 64 slot_row (replicate 321 0) []
unfolding words_of all_good
blank = record { words = refl; good = refl }

pub table_holds : (t : List ℕ) (l : List EverySlot) (n : ℕ) → Holds 64 slot_row t l → n ≡ get_or t 0 0 → table_at slot_row n t 1 ≡ l
unfolding table_at
table_holds t l n h e = rw e (holds-get slot_row slot_laws 64 t l h)

pub no_table : (w : List ℕ) (k : ℕ) → table_at slot_row 0 w k ≡ []
unfolding table_at rows_at
no_table w k = refl

-- THE SLOTS OF A STATE -------------------------------------------------------------------------------------------------------------------------
-- none is left, and others join
module _ (v v₁ : List ℕ) (s₁ : Sound v₁) (m : Means v₁ (base v) (with_rest (with_every [] (meaning v).rest) (meaning v))) where
  pub slots-empty : Holds 64 slot_row (take (words_in slots_part) (drop (place_of slots_part) v₁)) []
  slots-empty = subst (Holds 64 slot_row _) (ap (λ (x : Volatile). x.rest.every) m.says) (slots-hold v₁ s₁)

  module _ (p : List ℕ) (l : List EverySlot) (h : Holds 64 slot_row p l) where
    pub slots-sound : Sound (put_mid (place_of slots_part) (words_in slots_part) v₁ p)
    slots-sound = (slots-back v₁ s₁ p l h).sound

    pub slots-anew : Means (put_mid (place_of slots_part) (words_in slots_part) v₁ p) (base v) (with_rest (with_every l (meaning v).rest) (meaning v))
    slots-anew = follows (λ (x : Volatile). with_rest (with_every l x.rest) x) v₁ _ (base v) _ m (means (slots-back v₁ s₁ p l h))
