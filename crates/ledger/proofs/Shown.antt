-- The effects that are shown with the outcomes of an activation and its resumptions are those that the ledger counts for it.
use mathlib.Core.Path.{◌≡◌, refl, ◌∙◌, ap}
use Prim.Native.Nat.{ℕ, ◌+◌, ◌-◌, ◌*◌, ◌/◌, ◌≤◌}
use native.Mathlib.Omega.{arith}
use mathlib.Core.Bool.{Bool, true, false}
use mathlib.Core.List.{List, [], ◌∷◌, ◌++◌, map, cons≢nil}
use Rattle.std.specs.Prelude.{Option, None, Some}
use lib.ListN.{length, length-append}
use Rattle.model.specs.Lists.{to_list}
use Rattle.model.specs.World.{now_of}
use Rattle.model.specs.declared.Effect.{Effect}
use Rattle.model.specs.declared.Point.{Point}
use Rattle.model.specs.Outcome.{Outcome, Item, started, resumed, paid}
use Rattle.model.specs.State.{RuleSet, Store}
use Rattle.model.specs.Calls.{Call, new, load, unload, enable, tick, run, deadline, counters, Done, call}
use Rattle.model.specs.Answers.{outcomes_in}
use Rattle.ledger.specs.Ledger.{ticked, ran, traced, Activation, Ledger, count_effect, post_item, post_items, post, post_all, events_of, is_refused, start_ledger, notices, post_call, final_ledger}
use Rattle.ledger.specs.Effects.{from, only_if, effects_from, origins, shown_with, shown_at, shown_over}
use Rattle.ledger.specs.Trace.{effects_in, RunOf, ended, exhausted, waits, continues, ActivationsOf, no_more, activation, unevaluable, TraceOf, activations, resumption, Ticks, RunsWet, Conforms}
use Rattle.ledger.proofs.Sound.{Sound}
use Rattle.ledger.proofs.Simulation.{post-append, post-traced}
use Rattle.ledger.proofs.CallTrace.{call-conforms}
use Rattle.ledger.proofs.EffectBound.{effects-bounded}

module _ (a : Activation) where
  -- what the ledger has counted for a
  abbrev count : Ledger → ℕ
  count l = effects_from a l.effects

  only-if-none : (t : Bool) (n : ℕ) → n ≡ only_if t 0 + n
  only-if-none true n = omega arith
  only-if-none false n = omega arith

  -- ONE STEP, ONE RUN: its effects are counted for the payer's origin, and it begins nothing ------------------------------------------
  step_counts : (g : Option Effect) (w : Option Activation) (bs : List Activation) → effects_from a (count_effect g w bs) ≡ only_if (from a w) (length (to_list g)) + effects_from a bs
  step_counts None None bs = omega arith
  step_counts None (Some b) bs = only-if-none (from a (Some b)) (effects_from a bs)
  step_counts (Some x) None bs = omega arith
  step_counts (Some x) (Some b) bs = refl

  only-if-sum : (t : Bool) (xs ys : List Effect) (n : ℕ) → only_if t (length ys) + (only_if t (length xs) + n) ≡ only_if t (length (xs ++ ys)) + n
  only-if-sum true xs ys n = let e = length-append xs ys in omega arith
  only-if-sum false xs ys n = omega arith

  pub record Counted (l l' : Ledger) (es : List Effect) : Type 0 where
    pub counted : count l' ≡ only_if (from a l.payer.origin) (length es) + count l
    pub origin : l'.payer.origin ≡ l.payer.origin

  run-counts : {set : RuleSet} {i b reason : ℕ} {sp : Point} {ms : List Item} (l : Ledger) → RunOf set i b sp ms reason → Counted l (post_items ms l) (effects_in ms)
  unfolding post_item
  run-counts l (ended h) = record { counted = only-if-none (from a l.payer.origin) (count l); origin = refl }
  run-counts l (exhausted h) = record { counted = only-if-none (from a l.payer.origin) (count l); origin = refl }
  run-counts l (waits h) = record { counted = only-if-none (from a l.payer.origin) (count l); origin = refl }
  run-counts l (continues {x = x} {s = s} {g = g} {ms = ms} q h r to w) =
      let i = run-counts (post_item (paid x s g) l) w in
      record {
        counted =
            i.counted ∙ ap (λ n. only_if (from a l.payer.origin) (length (effects_in ms)) + n) (step_counts g l.payer.origin l.effects)
            ∙ only-if-sum (from a l.payer.origin) (to_list g) (effects_in ms) (count l);
        origin = i.origin;
      }

  run-begins : {set : RuleSet} {i b reason : ℕ} {sp : Point} {ms : List Item} (rest : List Item) (l : Ledger) → RunOf set i b sp ms reason
      → origins (map traced (ms ++ rest)) l ≡ origins (map traced rest) (post_items ms l)
  unfolding post
  run-begins rest l (ended h) = refl
  run-begins rest l (exhausted h) = refl
  run-begins rest l (waits h) = refl
  run-begins rest l (continues {x = x} {s = s} {g = g} q h r to w) = run-begins rest (post_item (paid x s g) l) w

  -- A TRACE WITH ITS OUTCOMES -----------------------------------------------------------------------------------------------------------
  abbrev Counts : List Item → List Outcome → Type 0
  Counts ms os = (l : Ledger) → count (post_items ms l) ≡ shown_with a (origins (map traced ms) l) os + count l

  -- a run behind the item that begins it, and the rest
  run-shown : {set : RuleSet} {i b reason : ℕ} {sp : Point} (ms rest : List Item) (os : List Outcome) (l l' : Ledger) → RunOf set i b sp ms reason → Counts rest os → count l' ≡ count l
      → count (post_items (ms ++ rest) l')
      ≡ (only_if (from a l'.payer.origin) (length (effects_in ms)) + shown_with a (origins (map traced (ms ++ rest)) l') os) + count l
  run-shown ms rest os l l' w ih e =
      let c = (run-counts l' w).counted in
      let i = ih (post_items ms l') in
      let p = ap count (post-append ms rest l') in
      let o = ap (λ ws. shown_with a ws os) (run-begins rest l' w) in
      omega arith

  activations-shown : {set : RuleSet} {ms : List Item} {os : List Outcome} → ActivationsOf set ms os → Counts ms os
  unfolding post post_item
  activations-shown no_more l = omega arith
  activations-shown (activation {ms = ms} {rest = rest} {os = os} w p) l = run-shown ms rest os l (post_item (started _) l) w (λ m. activations-shown p m) refl
  activations-shown (unevaluable i p) l = let ih = activations-shown p l in omega arith

  trace-shown : {set : RuleSet} {ms : List Item} {os : List Outcome} → TraceOf set ms os → Counts ms os
  unfolding post post_item
  trace-shown (activations p) l = activations-shown p l
  trace-shown (resumption {c = c} {ms = ms} {rest = rest} {os = os} w p) l = run-shown ms rest os l (post_item (resumed c) l) w (λ m. trace-shown p m) refl

  no-output-shown : (ms : List Item) (os : List Outcome) → ms ≡ [] → Counts ms os
  no-output-shown [] os e l = omega arith
  no-output-shown (x ∷ ms) os e l = absurd (cons≢nil e)

  -- ONE CALL, AND ALL -----------------------------------------------------------------------------------------------------------------------
  tick-shown : (o : Option RuleSet) (d : Done) → Ticks o d → Counts d.trace (outcomes_in d.answer)
  tick-shown None d h = no-output-shown d.trace _ h.trace
  tick-shown (Some set) d h = trace-shown h

  run-wet-shown : (r : ℕ) (o : Option RuleSet) (d : Done) → RunsWet r o d → Counts d.trace (outcomes_in d.answer)
  run-wet-shown r None d h = no-output-shown d.trace _ h.trace
  run-wet-shown r (Some set) d h = activations-shown h.runs

  call-shown : (b : Bool) (c : Call) (o : Option RuleSet) (d : Done) (l : Ledger) → Conforms c o d
      → count (post_all (events_of b c d.trace) l) ≡ shown_with a (origins (events_of b c d.trace) l) (outcomes_in d.answer) + count l
  unfolding events_of post
  call-shown true c o d l h = omega arith
  call-shown false (new t) o d l h = omega arith
  call-shown false (load t img) o d l h = omega arith
  call-shown false (unload t) o d l h = omega arith
  call-shown false (enable r true) o d l h = omega arith
  call-shown false (enable r false) o d l h = omega arith
  call-shown false (tick snap os es) o d l h =
      let m = post (ticked (now_of snap)) l in
      ap count (post-traced d.trace m) ∙ tick-shown o d h m
  call-shown false (run r true snap os es) o d l h = omega arith
  call-shown false (run r false snap os es) o d l h =
      let m = post (ran (now_of snap)) l in
      ap count (post-traced d.trace m) ∙ run-wet-shown r o d h m
  call-shown false deadline o d l h = omega arith
  call-shown false counters o d l h = omega arith

  all_shown : (s : Store) (l : Ledger) (cs : List Call) → count (final_ledger l (notices s cs)) ≡ shown_over a s l cs + count l
  unfolding final_ledger notices shown_over shown_at post_call
  all_shown s l [] = omega arith
  all_shown s l (c ∷ cs) =
      let d = call c s in
      let h = call-shown (is_refused d.answer) c s.loaded d l (call-conforms c s) in
      let i = all_shown d.store (post_all (events_of (is_refused d.answer) c d.trace) l) cs in
      omega arith

pub shown-bounded : (s : Store) → Sound s → (cs : List Call) (a : Activation) → shown_over a s (start_ledger s) cs ≤ a.budget * (a.budget - 1) / 2 + 1
shown-bounded s g cs a =
    let e = all_shown a s (start_ledger s) cs in
    let b = effects-bounded s g cs a in
    omega arith
