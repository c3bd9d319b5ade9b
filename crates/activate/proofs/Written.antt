-- Outcomes written into lent words. Assumes nothing.
use Prim.Native.Nat.{ℕ, suc, ◌+◌, ◌*◌, ◌-◌, ◌≤◌, ◌<◌}
use native.Mathlib.Omega.{arith}
use mathlib.Core.Path.{◌≡◌, refl, sym, ap, ◌∙◌}
use mathlib.Core.Bool.{Bool, true, false, cond}
use mathlib.Core.List.{List, [], ◌∷◌, ◌++◌, append_assoc, append-nil}
use lib.Dec.{leb}
use lib.ListN.{length, take, drop, set, replicate, length-append, length-set, take-append-drop}
use lib.Seq.{sets-eq, take_at, drop_at, length-take-le, drop-drop}
use borrow.Author.Tests.{le-leb, lt-leb}
use borrow.Rule.Slice.PartMut.{put_mid}
use mir.Val.{bool_byte}
use Rattle.words.specs.Pairs.{low_of, high_of}
use Rattle.model.specs.Activate as model
use Rattle.model.specs.Answers as answers
use Rattle.model.specs.Answers.{outcome_words, lent}
use Rattle.model.specs.Calls.{effects_of}
use Rattle.model.specs.Outcome.{Outcome}
use Rattle.model.specs.declared.Effect.{Effect}
use Rattle.lent_words.specs.PutEffects.{put_effects}
use Rattle.model.specs.declared.Job.{Job}
use Rattle.lent_words.proofs.Written.{drop-zeros, lent-list}
use Rattle.activate.specs.Handled.{put_outcome, put_outcomes, all_effects}

-- one outcome, where there is room and where there is none
module _ (w : List ℕ) (n first : ℕ) (o : Outcome) where
  abbrev pub eight : List ℕ
  eight = o.rule ∷ o.dry ∷ o.trigger ∷ o.reason ∷ first ∷ length o.effects ∷ low_of o.number ∷ high_of o.number ∷ []

  abbrev pub written : List ℕ
  written =
      set (set (set (set (set (set (set (set w (n * 8) o.rule) (n * 8 + 1) o.dry) (n * 8 + 2) o.trigger) (n * 8 + 3) o.reason) (n * 8 + 4) first) (n * 8 + 5) (length o.effects))
      (n * 8 + 6) (low_of o.number)) (n * 8 + 7) (high_of o.number)

  pub put-room : n * 8 + 8 ≤ length w → written ≡ put_outcome w n first o
  unfolding put_outcome
  put-room h = rw (le-leb _ _ h)

  pub put-none : length w < n * 8 + 8 → w ≡ put_outcome w n first o
  unfolding put_outcome
  put-none h = rw (lt-leb _ _ h)

  pub put-words : n * 8 + 8 ≤ length w → put_outcome w n first o ≡ (take (n * 8) w ++ eight) ++ drop (n * 8 + 8) w
  put-words h =
      let e1 : n * 8 + 1 ≡ suc (n * 8) = omega arith in
      let e2 : n * 8 + 2 ≡ suc (suc (n * 8)) = omega arith in
      let e3 : n * 8 + 3 ≡ suc (suc (suc (n * 8))) = omega arith in
      let e4 : n * 8 + 4 ≡ suc (suc (suc (suc (n * 8)))) = omega arith in
      let e5 : n * 8 + 5 ≡ suc (suc (suc (suc (suc (n * 8))))) = omega arith in
      let e6 : n * 8 + 6 ≡ suc (suc (suc (suc (suc (suc (n * 8)))))) = omega arith in
      let e7 : n * 8 + 7 ≡ suc (suc (suc (suc (suc (suc (suc (n * 8))))))) = omega arith in
      sym (put-room h) ∙ rw (e1, e2, e3, e4, e5, e6, e7) (sets-eq (o.rule ∷ o.dry ∷ o.trigger ∷ o.reason ∷ first ∷ length o.effects ∷ low_of o.number ∷ high_of o.number ∷ []) w (n * 8) h)

  pub put-length : length (put_outcome w n first o) ≡ length w
  unfolding put_outcome
  put-length = go (leb (n * 8 + 8) (length w))
    where
      go : (t : Bool) → length (cond t written w) ≡ length w
      go true = simp length-set
      go false = refl

-- what the code writes of a job
byte-is : (b : Bool) → bool_byte b ≡ cond b 1 0
byte-is true = refl
byte-is false = refl

module _ (w : List ℕ) (n : ℕ) (j : Job) (reason first count : ℕ) (es : List Effect) (e : count ≡ length es) where
  pub job-room :
      (dry low high : ℕ) → n * 8 + 8 ≤ length w → dry ≡ bool_byte j.dry → low ≡ low_of j.number → high ≡ high_of j.number
      → put_mid (n * 8) (n * 8 + 8 - n * 8) w (j.rule ∷ dry ∷ j.trigger ∷ reason ∷ first ∷ count ∷ low ∷ high ∷ []) ≡ put_outcome w n first (model.outcome j es reason)
  unfolding model.outcome
  job-room dry low high h d l k =
      let o = model.outcome j es reason in
      let size : n * 8 + 8 - n * 8 ≡ 8 = omega arith in
      rw (size, d, byte-is, l, k, e)
      (ap (λ (rest : List ℕ). take (n * 8) w ++ (eight w n first o ++ rest)) (drop-drop 8 (n * 8) w)
      ∙ sym (put-words w n first o h ∙ append_assoc (take (n * 8) w) (eight w n first o) (drop (n * 8 + 8) w)))

-- one after another
pub put-append : (w : List ℕ) (n first : ℕ) (os ps : List Outcome)
    → put_outcomes w n first (os ++ ps) ≡ put_outcomes (put_outcomes w n first os) (n + length os) (first + effects_of os) ps
unfolding put_outcomes
put-append w n first [] ps =
    let a : n + 0 ≡ n = omega arith in
    let b : first + 0 ≡ first = omega arith in
    rw (a, b) refl
put-append w n first (o ∷ os) ps =
    let a : suc n + length os ≡ n + suc (length os) = omega arith in
    let b : (first + length o.effects) + effects_of os ≡ first + (length o.effects + effects_of os) = omega arith in
    let v = put_outcomes (put_outcome w n first o) (suc n) (first + length o.effects) os in
    put-append (put_outcome w n first o) (suc n) (first + length o.effects) os ps ∙ ap (λ (k : ℕ). put_outcomes v k ((first + length o.effects) + effects_of os) ps) a ∙ ap (λ (k : ℕ). put_outcomes v (n + suc (length os)) k ps) b

pub puts-length : (w : List ℕ) (n first : ℕ) (os : List Outcome) → length (put_outcomes w n first os) ≡ length w
unfolding put_outcomes
puts-length w n first [] = refl
puts-length w n first (o ∷ os) = puts-length (put_outcome w n first o) (suc n) (first + length o.effects) os ∙ put-length w n first o

-- where all fit: the old words, then the outcomes' words, then the old rest
pub put_all :
    (w : List ℕ) (n first : ℕ) (os : List Outcome) → (n + length os) * 8 ≤ length w
    → put_outcomes w n first os ≡ (take (n * 8) w ++ outcome_words first os) ++ drop ((n + length os) * 8) w
unfolding put_outcomes outcome_words
put_all w n first [] h =
    let e : (n + 0) * 8 ≡ n * 8 = omega arith in
    rw e (sym (ap (λ (l : List ℕ). l ++ drop (n * 8) w) (append-nil (take (n * 8) w)) ∙ take-append-drop (n * 8) w))
put_all w n first (o ∷ os) h =
    let room : n * 8 + 8 ≤ length w = omega arith in
    let v = put_outcome w n first o in
    let next = first + length o.effects in
    let s = put-words w n first o room in
    let k : length (take (n * 8) w ++ eight w n first o) ≡ suc n * 8 = simp (length-append, length-take-le (n * 8) w (omega arith)) (omega arith) in
    let more : (suc n + length os) * 8 ≤ length v = omega (arith, put-length w n first o) in
    let front : take (suc n * 8) v ≡ take (n * 8) w ++ eight w n first o = ap (take (suc n * 8)) s ∙ take_at (take (n * 8) w ++ eight w n first o) (drop (n * 8 + 8) w) (suc n * 8) k in
    let back : drop (suc n * 8) v ≡ drop (n * 8 + 8) w = ap (drop (suc n * 8)) s ∙ drop_at (take (n * 8) w ++ eight w n first o) (drop (n * 8 + 8) w) (suc n * 8) k in
    let a : suc n * 8 + length os * 8 ≡ (suc n + length os) * 8 = omega arith in
    let b : (n * 8 + 8) + length os * 8 ≡ (n + suc (length os)) * 8 = omega arith in
    let far : drop ((suc n + length os) * 8) v ≡ drop ((n + suc (length os)) * 8) w =
    sym (ap (λ (i : ℕ). drop i v) a) ∙ sym (drop-drop (length os * 8) (suc n * 8) v) ∙ ap (drop (length os * 8)) back ∙ drop-drop (length os * 8) (n * 8 + 8) w ∙ ap (λ (i : ℕ). drop i w) b in
    put_all v (suc n) next os more ∙ ap (λ (l : List ℕ). (l ++ outcome_words next os) ++ drop ((suc n + length os) * 8) v) front ∙ ap (λ (l : List ℕ). ((take (n * 8) w ++ eight w n first o) ++ outcome_words next os) ++ l) far ∙ ap (λ (l : List ℕ). l ++ drop ((n + suc (length os)) * 8) w) (append_assoc (take (n * 8) w) (eight w n first o) (outcome_words next os))

-- ---- words that were all 0
outcome-words-length : (first : ℕ) (os : List Outcome) → length (outcome_words first os) ≡ length os * 8
unfolding outcome_words
outcome-words-length first [] = refl
outcome-words-length first (o ∷ os) = let e = outcome-words-length (first + length o.effects) os in omega (arith, e)

pub lent-outcomes : (w : List ℕ) (os : List Outcome) → w ≡ replicate (length w) 0 → length os * 8 ≤ length w → put_outcomes w 0 0 os ≡ lent (length w) (outcome_words 0 os)
lent-outcomes w os z h =
    let e : 0 + length os ≡ length os = omega arith in
    rw e at (put_all w 0 0 os) h ∙ ap (λ (l : List ℕ). outcome_words 0 os ++ drop (length os * 8) l) z ∙ ap (λ (l : List ℕ). outcome_words 0 os ++ l) (drop-zeros (length os * 8) (length w)) ∙ ap (λ (k : ℕ). outcome_words 0 os ++ replicate (length w - k) 0) (sym (outcome-words-length 0 os))

effect-words-append : (xs ys : List Effect) → answers.words_of_effects (xs ++ ys) ≡ answers.words_of_effects xs ++ answers.words_of_effects ys
unfolding answers.words_of_effects
effect-words-append [] ys = refl
effect-words-append (x ∷ xs) ys = ap (λ (l : List ℕ). x.kind ∷ x.a ∷ x.b ∷ x.c ∷ x.d ∷ l) (effect-words-append xs ys)

all-effect-words : (os : List Outcome) → answers.words_of_effects (all_effects os) ≡ answers.effect_words os
unfolding answers.effect_words
all-effect-words [] = unfold answers.words_of_effects in refl
all-effect-words (o ∷ os) =
    effect-words-append o.effects (all_effects os) ∙ ap (λ (l : List ℕ). answers.words_of_effects o.effects ++ l) (all-effect-words os)

pub all-effects-length : (os : List Outcome) → length (all_effects os) ≡ effects_of os
all-effects-length [] = refl
all-effects-length (o ∷ os) = length-append o.effects (all_effects os) ∙ ap (λ (k : ℕ). length o.effects + k) (all-effects-length os)

pub lent-effects : (w : List ℕ) (os : List Outcome) → w ≡ replicate (length w) 0 → effects_of os * 5 ≤ length w → put_effects w 0 (all_effects os) ≡ lent (length w) (answers.effect_words os)
lent-effects w os z h =
    let xs = all_effects os in
    let k : length xs * 5 ≤ length w = rw (all-effects-length os) h in
    lent-list w xs z k ∙ ap (λ (l : List ℕ). lent (length w) l) (all-effect-words os)
