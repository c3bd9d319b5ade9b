-- What the functions do in a turn, over lists and numbers. Assumes nothing.
use mathlib.Core.Path.{◌≡◌, refl, sym, ap, ◌∙◌}
use mathlib.Core.Bool.{Bool, true, false, ◌&&◌}
use mathlib.Core.List.{List, [], ◌∷◌, ◌++◌, map}
use Prim.Native.Nat.{ℕ, zero, suc, ◌+◌, ◌*◌, ◌-◌, ◌/◌, ◌%◌, ◌≤◌, ◌<◌}
use native.Mathlib.Omega.{arith}
use lib.Dec.{leb, lit<}
use lib.ListN.{length, get_or, take, drop, replicate, length-replicate, length-append, drop_of_length-le}
use lib.Seq.{get_or-take, get_or-drop}
use borrow.Author.Tests.{le-leb, lt-leb, eq-eqb, ne_eqb}
use Rattle.std.specs.Simd.{first_chunks}
use Rattle.std.proofs.lemmas.List.{drop_more, take_rest}
use Rattle.model.specs.Lists.{all, every, up_from}
use Rattle.model.specs.Answers.{words_of_effects, lent}
use Rattle.model.specs.declared.Effect.{Effect}
use Rattle.std.specs.Prelude.{Ok, Err}
use Rattle.model.specs.declared.Refusal.TheVariants.{EffectWords, TelegramStore}
use Rattle.model.specs.Telegrams.{is_level, cuts, sets, kept, effect_at, effects_in, are_effects, has_room, answer, kept_store}
use Rattle.model.proofs.TestLaws.{by, every_first}
use Rattle.model.proofs.SortLaws.{all_map}
use Rattle.telegrams.specs.Recursion.{is_set, set_again, kept_head, keep_last, effects_of, Puts}
use Rattle.lent_words.specs.PutEffects.{put_effect, put_effects}
use Rattle.telegrams.proofs.ShortestLaws.{none-set, cut-first, on-first}
use Rattle.telegrams.proofs.PlacesLaws.{kept-by-recursion}
use Rattle.lent_words.proofs.Written.{put-append, puts-length, lent-list}

-- RECORDS

-- record k of the words is record 0 of five of them
first-record : (ws : List ℕ) → effect_at (take 5 ws) 0 ≡ effect_at ws 0
unfolding effect_at
first-record ws = rw (get_or-take 5 ws 0 0 (lit< tt), get_or-take 5 ws 1 0 (lit< tt), get_or-take 5 ws 2 0 (lit< tt), get_or-take 5 ws 3 0 (lit< tt), get_or-take 5 ws 4 0 (lit< tt))

effect-behind : (ws : List ℕ) (i : ℕ) → effect_at (drop 5 ws) i ≡ effect_at ws (suc i)
unfolding effect_at
effect-behind ws i =
    let e0 : 5 + i * 5 ≡ suc i * 5 = omega arith in
    let e1 : 5 + (i * 5 + 1) ≡ suc i * 5 + 1 = omega arith in
    let e2 : 5 + (i * 5 + 2) ≡ suc i * 5 + 2 = omega arith in
    let e3 : 5 + (i * 5 + 3) ≡ suc i * 5 + 3 = omega arith in
    let e4 : 5 + (i * 5 + 4) ≡ suc i * 5 + 4 = omega arith in
    rw (get_or-drop 5 ws (i * 5) 0, get_or-drop 5 ws (i * 5 + 1) 0, get_or-drop 5 ws (i * 5 + 2) 0, get_or-drop 5 ws (i * 5 + 3) 0, get_or-drop 5 ws (i * 5 + 4) 0, e0, e1, e2, e3, e4)

effects_behind : (ws : List ℕ) (m i : ℕ) → map (effect_at (drop 5 ws)) (up_from i m) ≡ map (effect_at ws) (up_from (suc i) m)
effects_behind ws zero i = refl
effects_behind ws (suc m) i = rw (effect-behind ws i, effects_behind ws m (suc i))

chunks-are : (m : ℕ) (ws : List ℕ) → effects_of (first_chunks 5 m ws) ≡ map (effect_at ws) (up_from 0 m)
chunks-are zero ws = refl
chunks-are (suc m) ws = rw (first-record ws, chunks-are m (drop 5 ws), effects_behind ws m 0)

pub records-are : (ws : List ℕ) (rs : List (List ℕ)) → rs ≡ first_chunks 5 (length ws / 5) ws → effects_of rs ≡ effects_in ws
unfolding effects_in
records-are ws rs e = ap effects_of e ∙ chunks-are (length ws / 5) ws

-- the effects from record k on
abbrev pub effects_from : List (List ℕ) → ℕ → List Effect
effects_from rs k = effects_of (drop k rs)

abbrev pub effect_of : List (List ℕ) → ℕ → Effect
effect_of rs k = effect_at (get_or rs k []) 0

module _ (rs : List (List ℕ)) (k : ℕ) where
  pub from_cons : k < length rs → effects_from rs k ≡ effect_of rs k ∷ effects_from rs (k + 1)
  from_cons h = ap effects_of (drop_more rs k [] h)

  pub from_end : length rs ≤ k → effects_from rs k ≡ []
  from_end h = ap effects_of (drop_of_length-le rs h)

-- A LAMP IS SET FROM RECORD k ON

module _ (rs : List (List ℕ)) (t k : ℕ) where
  -- record k, read as x
  module _ (h : k < length rs) (x : Effect) (e : x ≡ effect_of rs k) (r : Bool) (c : r ≡ cuts x) where
    pub set-cut : r ≡ true → false ≡ is_set zero t (effects_from rs k)
    set-cut q = rw (from_cons rs k h, ← e) (sym (cut-first t x (effects_from rs (k + 1)) (sym c ∙ q)))

    module _ (q : r ≡ false) (s : Bool) (f : s ≡ sets t x) where
      pub set_here : s ≡ true → true ≡ is_set zero t (effects_from rs k)
      set_here p = rw (from_cons rs k h, ← e, on-first t x (effects_from rs (k + 1)) (sym c ∙ q), ← f, p)

      pub set_on : s ≡ false → is_set zero t (effects_from rs k) ≡ is_set zero t (effects_from rs (k + 1))
      set_on p = rw (from_cons rs k h, ← e, on-first t x (effects_from rs (k + 1)) (sym c ∙ q), ← f, p)

  pub set-end : length rs ≤ k → false ≡ is_set zero t (effects_from rs k)
  set-end h = rw (from_end rs k h) (sym (none-set zero t))

-- KEPT OR NOT

module _ (x : Effect) (xs : List Effect) (w : List ℕ) (n : ℕ) (r : Bool) (e : r ≡ set_again x xs) where
  pub left_out : r ≡ true → Puts w n (kept_head x xs) w n
  unfolding kept_head put_effects
  left_out q = rw (← e, q) (omega arith, refl)

  pub put_in : r ≡ false → (v : List ℕ) (y : Effect) → y ≡ x → v ≡ put_effect w n y → Puts w n (kept_head x xs) v (n + 1)
  unfolding kept_head put_effects
  put_in q v y h p = rw (← e, q) (refl, p ∙ ap (λ (z : Effect). put_effect w n z) h)

-- THE LOOP

module _ (rs : List (List ℕ)) (w₀ w : List ℕ) (k n : ℕ) where
  -- what is left to be written into w from place n on gives the whole
  pub record Putting : Type 0 where
    pub long : length w ≡ length w₀
    pub few : n ≤ k
    pub count : n + length (keep_last (effects_from rs k)) ≡ length (keep_last (effects_of rs))
    pub words : put_effects w n (keep_last (effects_from rs k)) ≡ put_effects w₀ zero (keep_last (effects_of rs))

  pub put-end : Putting → length rs ≤ k → Puts w₀ zero (keep_last (effects_of rs)) w n
  unfolding keep_last put_effects
  put-end p h =
      let e : effects_from rs k ≡ [] = from_end rs k h in
      (omega (arith, rw e at p.count), rw e at p.words)

pub put-begin : (rs : List (List ℕ)) (w : List ℕ) → Putting rs w w 0 0
put-begin rs w = record { long = refl; few = omega arith; count = omega arith; words = refl }

head-at-most-one : (x : Effect) (xs : List Effect) → length (kept_head x xs) ≤ 1
unfolding kept_head
head-at-most-one x xs = by (set_again x xs) (λ e. rw e (omega arith)) (λ e. rw e (omega arith))

module _ (rs : List (List ℕ)) (w₀ w : List ℕ) (k n : ℕ) (p : Putting rs w₀ w k n) (h : k < length rs) where
  put-turn : (v : List ℕ) (m : ℕ) → Puts w n (kept_head (effect_of rs k) (effects_from rs (k + 1))) v m → Putting rs w₀ v (k + 1) m
  put-turn v m (e, q) =
      let x = effect_of rs k in
      let xs = effects_from rs (k + 1) in
      let split : keep_last (effects_from rs k) ≡ kept_head x xs ++ keep_last xs = rw (from_cons rs k h) (unfold keep_last in refl) in
      let sum : length (keep_last (effects_from rs k)) ≡ length (kept_head x xs) + length (keep_last xs) = rw split (length-append (kept_head x xs) (keep_last xs)) in
      record {
        long = rw q (puts-length w n (kept_head x xs) ∙ p.long);
        few = omega (arith, p.few, head-at-most-one x xs);
        count = omega (arith, p.count, sum);
        words = rw (q, e) (sym (put-append w n (kept_head x xs) (keep_last xs)) ∙ ap (λ (l : List Effect). put_effects w n l) (sym split) ∙ p.words);
      }

  -- record k, and those behind it
  module _ (r : Bool) (q : r ≡ set_again (effect_of rs k) (effects_of (take (length rs - (k + 1)) (drop (k + 1) rs)))) where
    again : r ≡ set_again (effect_of rs k) (effects_from rs (k + 1))
    again = rw (take_rest rs (k + 1)) at q

    pub put-left : r ≡ true → Putting rs w₀ w (k + 1) n
    put-left b = put-turn w n (left_out (effect_of rs k) (effects_from rs (k + 1)) w n r again b)

    pub put-more : r ≡ false → (x : Effect) → x ≡ effect_of rs k → (v : List ℕ) → v ≡ put_effect w n x → Putting rs w₀ v (k + 1) (n + 1)
    put-more b x e v o = put-turn v (n + 1) (put_in (effect_of rs k) (effects_from rs (k + 1)) w n r again b v x e o)

-- THE TEST OF REFUSAL 60

shifted : (f : ℕ → Bool) (i m : ℕ) → all f (up_from (suc i) m) ≡ all (λ k. f (suc k)) (up_from i m)
shifted f i zero = refl
shifted f i (suc m) = ap (λ (b : Bool). f (suc i) && b) (shifted f (suc i) m)

as-every : (f : ℕ → Bool) (m : ℕ) → all f (up_from 0 m) ≡ every m f
unfolding every
as-every f zero = refl
as-every f (suc m) = ap (λ (b : Bool). f 0 && b) (shifted f 0 m ∙ as-every (λ k. f (suc k)) m) ∙ sym (every_first m f)

kinds : (m : ℕ) (ws : List ℕ) → all (λ r. leb (effect_at r 0).kind 12) (first_chunks 5 m ws) ≡ every m (λ k. leb (effect_at ws k).kind 12)
kinds m ws =
    let is_kind : Effect → Bool = λ x. leb x.kind 12 in
    sym (all_map (λ r. effect_at r 0) is_kind (first_chunks 5 m ws))
    ∙ ap (all is_kind) (chunks-are m ws)
    ∙ all_map (effect_at ws) is_kind (up_from 0 m)
    ∙ as-every (λ k. leb (effect_at ws k).kind 12) m

module _ (ws rest : List ℕ) (long : length rest ≡ length ws % 5) where
  pub not-whole : (length rest ≡ 0 → ⊥) → false ≡ are_effects ws
  unfolding are_effects
  not-whole h = let n : length ws % 5 ≡ 0 → ⊥ = λ e. h (long ∙ e) in rw (ne_eqb (length ws % 5) 0 n)

  pub whole : length rest ≡ 0 → (rs : List (List ℕ)) → rs ≡ first_chunks 5 (length ws / 5) ws → (r : Bool) → r ≡ all (λ r. leb (effect_at r 0).kind 12) rs → r ≡ are_effects ws
  unfolding are_effects
  whole h rs e r q = rw (eq-eqb (length ws % 5) 0 (sym long ∙ h)) (q ∙ ap (all (λ r. leb (effect_at r 0).kind 12)) e ∙ kinds (length ws / 5) ws)

-- AGAIN

module _ (x : Effect) (xs : List Effect) (r : Bool) (e : r ≡ is_level x) where
  pub never-again : r ≡ false → r ≡ set_again x xs
  unfolding set_again
  never-again q = rw (← e, q)

  pub level-again : r ≡ true → (s : Bool) → s ≡ is_set zero x.a xs → s ≡ set_again x xs
  unfolding set_again
  level-again q s p = rw (← e, q) p

-- THE ANSWER

kept_in : (ws : List ℕ) (rs : List (List ℕ)) → rs ≡ first_chunks 5 (length ws / 5) ws → keep_last (effects_of rs) ≡ kept (effects_in ws)
kept_in ws rs e = ap keep_last (records-are ws rs e) ∙ sym (kept-by-recursion (effects_in ws))

-- zeros, and what is written into them
zeros-then : (room : ℕ) (l : List Effect) → length l * 5 ≤ room → put_effects (replicate room 0) zero l ≡ lent room (words_of_effects l)
zeros-then room l h =
    let e = length-replicate {A = ℕ} room 0 in
    lent-list (replicate room 0) l (ap (λ (n : ℕ). replicate n 0) (sym e)) (rw e h) ∙ ap (λ (n : ℕ). lent n (words_of_effects l)) e

module _ (ws : List ℕ) (room : ℕ) (r : Bool) (e : r ≡ are_effects ws) where
  pub refuse-60 : r ≡ false → (z : List ℕ) → z ≡ replicate room 0 → (Err EffectWords ≡ answer room ws) × (z ≡ kept_store room ws)
  unfolding answer kept_store
  refuse-60 q z h = rw (← e, q) (refl, h)

  module _ (q : r ≡ true) (rs : List (List ℕ)) (f : rs ≡ first_chunks 5 (length ws / 5) ws) (z v : List ℕ) (n : ℕ) (hz : z ≡ replicate room 0)
      (puts : Puts z zero (keep_last (effects_of rs)) v n) where
    count : n ≡ length (kept (effects_in ws))
    count = let e : n ≡ length (keep_last (effects_of rs)) = omega (arith, puts.0) in rw (kept_in ws rs f) at e

    pub same-room : length v ≡ room
    same-room = rw (puts.1, hz) (puts-length (replicate room 0) zero (keep_last (effects_of rs)) ∙ length-replicate room 0)

    pub refuse-61 : length v / 5 < n → (u : List ℕ) → u ≡ replicate (length v) 0 → (Err TelegramStore ≡ answer room ws) × (u ≡ kept_store room ws)
    unfolding answer kept_store has_room
    refuse-61 h u k =
        let no_room : leb (length (kept (effects_in ws)) * 5) room ≡ false = lt-leb (length (kept (effects_in ws)) * 5) room (omega (arith, count, same-room)) in
        rw (← e, q, no_room) (refl, k ∙ rw same-room)

    pub keep_all : n ≤ length v / 5 → (Ok n ≡ answer room ws) × (v ≡ kept_store room ws)
    unfolding answer kept_store has_room
    keep_all h =
        let fits : length (kept (effects_in ws)) * 5 ≤ room = omega (arith, count, same-room) in
        let room-left : leb (length (kept (effects_in ws)) * 5) room ≡ true = le-leb _ _ fits in
        rw (← e, q, room-left) (ap Ok count, puts.1 ∙ rw (hz, kept_in ws rs f) (zeros-then room (kept (effects_in ws)) fits))
