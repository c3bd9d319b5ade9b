-- The kept list by recursion on the list, as the code comes to it.
use Rattle.std.specs.Prelude.{◌≡◌, ℕ, zero, ◌+◌, Bool, cond, ◌&&◌, List, [], ◌∷◌, ◌++◌, map, length}
use Rattle.model.specs.Lists.{present}
use Rattle.model.specs.declared.Effect.{Effect}
use Rattle.model.specs.Telegrams.{is_level, stretch, last_set, effect_at}
use Rattle.lent_words.specs.PutEffects.{put_effects}

-- lamp t is set in stretch n
unfoldable pub is_set : ℕ → ℕ → List Effect → Bool
is_set n t l = present (last_set t (stretch n l))

-- x sets a lamp that the rest of its stretch sets again
unfoldable pub set_again : Effect → List Effect → Bool
set_again x xs = is_level x && is_set zero x.a xs

-- x alone, where it is kept
unfoldable pub kept_head : Effect → List Effect → List Effect
kept_head x xs = cond (set_again x xs) [] (x ∷ [])

unfoldable pub keep_last : List Effect → List Effect
keep_last [] = []
keep_last (x ∷ xs) = kept_head x xs ++ keep_last xs

-- w' is the list w with the effects written into it from place n on, and m the place behind them
abbrev pub Puts : List ℕ → ℕ → List Effect → List ℕ → ℕ → Type 0
Puts w n xs w' m = (m ≡ n + length xs) × (w' ≡ put_effects w n xs)

-- the effects of records
abbrev pub effects_of : List (List ℕ) → List Effect
effects_of rs = map (λ r. effect_at r 0) rs
