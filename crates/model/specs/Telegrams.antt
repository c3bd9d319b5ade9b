-- Fewer telegrams on the bus: of the levels that a list of effects sets for one lamp in one stretch, only the last counts.
use Rattle.std.specs.Prelude.{◌≡◌, ℕ, zero, suc, ◌+◌, ◌*◌, ◌<◌, ◌/◌, ◌%◌, Bool, true, false, cond, not, ◌&&◌, ◌||◌, List, [], ◌∷◌, map, leb, ltb, eqb, length, get_or, replicate}
use Rattle.std.specs.Prelude.{Option, None, Some, Result, Ok, Err}
use Rattle.model.specs.Answers.{words_of_effects, lent}
use Rattle.model.specs.Lists.{keep, up_from, every}
use Rattle.model.specs.declared.Effect.{Effect}
use Rattle.model.specs.declared.Refusal.{Refusal}
use Rattle.model.specs.declared.Refusal.TheVariants.{EffectWords, TelegramStore}

-- KINDS

-- kind 12 sets a lamp: target, level, hold
unfoldable pub is_level : Effect → Bool
is_level x = eqb x.kind 12

-- kinds 0 to 10 cut the list into stretches, whatever they are about; a Log (11) and a level (12) do not
unfoldable pub cuts : Effect → Bool
cuts x = ltb x.kind 11

-- x sets the lamp t
unfoldable pub sets : ℕ → Effect → Bool
sets t x = is_level x && eqb x.a t

-- SUPERSEDED, BY PLACES

-- the effect at place i; past the end one that cuts
unfoldable pub at : List Effect → ℕ → Effect
at l i = get_or l i (record { kind = 0; a = 0; b = 0; c = 0; d = 0 })

-- place j supersedes place i: it stands later, both set one lamp, and nothing between them cuts
unfoldable pub supersedes : List Effect → ℕ → ℕ → Bool
supersedes l i j = (ltb i j && (is_level (at l i) && sets (at l i).a (at l j))) && every j (λ k. leb k i || not (cuts (at l k)))

unfoldable pub superseded : List Effect → ℕ → Bool
superseded l i = not (every (length l) (λ j. not (supersedes l i j)))

-- those at the places that pass, in order
unfoldable pub select : (ℕ → Bool) → List Effect → List Effect
select f l = map (at l) (keep f (up_from 0 (length l)))

-- the kept list
unfoldable pub kept : List Effect → List Effect
kept l = select (λ i. not (superseded l i)) l

-- WHAT A LIST DOES TO THE LAMPS

-- the effects that cut, in order
unfoldable pub cutting : List Effect → List Effect
cutting l = keep cuts l

-- stretch n: what stands behind the first n effects that cut, up to the next one
unfoldable pub stretch : ℕ → List Effect → List Effect
stretch n [] = []
stretch zero (x ∷ xs) = cond (cuts x) [] (x ∷ stretch zero xs)
stretch (suc n) (x ∷ xs) = stretch (cond (cuts x) n (suc n)) xs

-- the level and the hold that a stretch sets last for lamp t
abbrev pub later : {A : Type 0} → Option A → Option A → Option A
later first None = first
later first (Some v) = Some v

abbrev pub Setting : Type 0
Setting = ℕ × ℕ

unfoldable pub setting : ℕ → Effect → Option Setting
setting t x = cond (sets t x) (Some (x.b, x.c)) None

unfoldable pub last_set : ℕ → List Effect → Option Setting
last_set t [] = None
last_set t (x ∷ xs) = later (setting t x) (last_set t xs)

-- in every stretch every lamp is set last to the same, or not at all in both
unfoldable pub SameLamps : List Effect → List Effect → Type 0
SameLamps l p = (n t : ℕ) → last_set t (stretch n p) ≡ last_set t (stretch n l)

-- SELECTIONS

-- a selection by places that leaves out nothing but levels
unfoldable pub KeepsOthers : (ℕ → Bool) → List Effect → Type 0
KeepsOthers f l = (i : ℕ) → i < length l → is_level (at l i) ≡ false → f i ≡ true

-- ON WORDS

-- record k of the words: kind, four words of fields
unfoldable pub effect_at : List ℕ → ℕ → Effect
effect_at ws k = record { kind = get_or ws (k * 5) 0; a = get_or ws (k * 5 + 1) 0; b = get_or ws (k * 5 + 2) 0; c = get_or ws (k * 5 + 3) 0; d = get_or ws (k * 5 + 4) 0 }

unfoldable pub effects_in : List ℕ → List Effect
effects_in ws = map (effect_at ws) (up_from 0 (length ws / 5))

-- refusal 60: no whole number of records, or a kind above 12
unfoldable pub are_effects : List ℕ → Bool
are_effects ws = eqb (length ws % 5) 0 && every (length ws / 5) (λ k. leb (effect_at ws k).kind 12)

-- refusal 61: `room` words are lent for the kept list
unfoldable pub has_room : ℕ → List ℕ → Bool
has_room room ws = leb (length (kept (effects_in ws)) * 5) room

-- 60 before 61
unfoldable pub answer : ℕ → List ℕ → Result ℕ Refusal
answer room ws = cond (are_effects ws) (cond (has_room room ws) (Ok (length (kept (effects_in ws)))) (Err TelegramStore)) (Err EffectWords)

-- the lent list: the kept effects, then zeros; zeros on refusal
unfoldable pub kept_store : ℕ → List ℕ → List ℕ
kept_store room ws = cond (are_effects ws && has_room room ws) (lent room (words_of_effects (kept (effects_in ws)))) (replicate room 0)
