-- A run, its outcome, and the counters. Assumes nothing.
use Prim.Native.Nat.{ℕ, suc, ◌+◌, ◌-◌, ◌≤◌}
use native.Mathlib.Omega.{arith}
use mathlib.Core.Path.{◌≡◌, refl, sym, ap, subst, ◌∙◌}
use mathlib.Core.Bool.{true, false}
use mathlib.Core.List.{List, [], ◌∷◌, append-nil}
use Rattle.std.specs.Prelude.{Option, None, Some}
use Rattle.std.specs.Option.{is_some}
use lib.ListN.{length, get_or, set, replicate, length-replicate}
use borrow.Author.Tests.{eq-eqb, ne_eqb}
use Rattle.model.specs.Activate as model
use Rattle.model.specs.Activate.{no_outcome}
use Rattle.model.specs.Dry.{DryOutput, run_steps_dry}
use Rattle.model.specs.Exec.{RunOutput, run_steps}
use Rattle.model.specs.Image.{budget}
use Rattle.model.specs.Outcome.{Item}
use Rattle.model.specs.State as model-state
use Rattle.model.specs.State.{Rest, next_number, with_rest, with_last_activation, bump_by, activations_total, effects_emitted, partial_outcomes}
use Rattle.model.specs.Steps.{FlatStep, start}
use Rattle.model.specs.World.{world_of}
use Rattle.model.specs.declared.Effect.{Effect}
use Rattle.model.specs.declared.Point.{Point}
use Rattle.flat.specs.Words.{Says}
use Rattle.state.specs.Meaning.{Means, meaning, base, accepted}
use Rattle.state.proofs.Follows.{follows, next-is, accepted-by-next}
use Rattle.state.specs.Reasons.{reason_number}
use Rattle.state.specs.declared.reasons.Reason.{Reason}
use Rattle.state.specs.declared.reasons.Reason.TheVariants.{ConditionUnevaluable, EffectBudget}
use Rattle.eval.specs.Answers.{env_of}
use Rattle.exec.specs.Done.{RunDone}
use Rattle.exec.specs.DryRuns as exec-dry
use Rattle.lent_words.specs.PutEffects.{put_effects}
use Rattle.exec.specs.Runs as exec
use Rattle.model.specs.declared.Job.{Job}
use Rattle.activate.specs.Handled.{Continues, Within, Room, Handles, put_outcome, put_outcomes}
use Rattle.activate.specs.Outcomes.{Pushes}
use Rattle.activate.specs.Executes.{Changes, RunRoom, Starts, FinishesWet, RunsWet, RunsDry, dry_outcome}
use Rattle.activate.specs.Carried.{Carried, carried}
use Rattle.activate.specs.declared.Handled.{Handled}
use Rattle.activate.proofs.Continues.{with_vol, then-continues, no-outcome, within_by, within-then, room-left}

-- ---- the next outcome
pub pushed : (w : List ℕ) (x : Handled) (ow ew : List ℕ) (v : List ℕ) (j : Job) (reason count : ℕ) (r : Handled) (ow' ew' : List ℕ) → Pushes x ow j reason count r ow'
    → (s : model-state.Volatile) (es : List Effect) (why : ℕ) (trace : List Item) → Means v (base w) s → reason ≡ why → count ≡ x.effects + length es → ew' ≡ put_effects ew x.effects es
    → Continues (carried w x) ow ew (record { vol = s; outcomes = model.outcome j es why ∷ []; trace = trace }) (carried v r) ow' ew'
unfolding put_outcomes model.outcome
pushed w x ow ew v j reason count r ow' ew' p s es why trace m e n h =
    record {
      state = m;
      outcomes = p.outcomes ∙ omega arith;
      effects = p.effects ∙ n ∙ omega arith;
      outcome_words = p.written es n ∙ ap (λ (k : ℕ). put_outcome ow x.outcomes x.effects (model.outcome j es k)) e;
      effect_words = h ∙ ap (put_effects ew x.effects) (sym (append-nil es));
    }

-- ---- the state changes, but for its continuations
module _ (x : Carried) (w : List ℕ) (s : Rest) (c : Changes x.vol s w) where
  made : (ow ew : List ℕ) → Continues x ow ew (no_outcome (with_rest s (meaning x.vol))) (with_vol w x) ow ew
  made ow ew = no-outcome x ow ew (with_rest s (meaning x.vol)) (with_vol w x) c refl refl

  changed-within : (n : ℕ) → Within n x (with_vol w x)
  changed-within n = within_by n x [] [] (no_outcome (with_rest s (meaning x.vol))) (with_vol w x) [] [] (made [] []) (omega arith) (omega arith) (omega arith) (omega arith)

  pub changed-room : (n : ℕ) → Room n x → Room n (with_vol w x)
  changed-room n h = let z : 0 + n ≡ n = omega arith in room-left 0 n x (with_vol w x) (rw z h) (changed-within 0)

  -- an activation that is only counted
  pub changed : (part : List ℕ) (own i : ℕ) (ow ew : List ℕ) → Handles part own i (λ flat. no_outcome (with_rest s (meaning x.vol))) x ow ew (with_vol w x) ow ew
  changed part own i ow ew = record { says = λ flat e. made ow ew; within = changed-within 1 }

  -- what comes behind the change
  pub after-change : (part : List ℕ) (own i : ℕ) (k : List (List FlatStep) → model-state.Volatile → model.Handled) (ow ew : List ℕ) (r : Carried) (ow' ew' : List ℕ)
      → Handles part own i (λ flat. k flat (meaning w)) (with_vol w x) ow ew r ow' ew' → Handles part own i (λ flat. k flat (with_rest s (meaning x.vol))) x ow ew r ow' ew'
  after-change part own i k ow ew r ow' ew' h =
      let m = with_rest s (meaning x.vol) in
      let y = with_vol w x in
      record {
        says = λ flat e.
            let b : Continues y ow ew (k flat m) r ow' ew' = subst (λ (v : model-state.Volatile). Continues y ow ew (k flat v) r ow' ew') c.says (h.says flat e) in
            then-continues x ow ew (no_outcome m) y ow ew (k flat) r ow' ew' (made ow ew) b;
        within = within-then 0 1 x y r (changed-within 0) h.within;
      }

pub same-handles : (part : List ℕ) (own i : ℕ) (h k : List (List FlatStep) → model.Handled) (x : Carried) (ow ew : List ℕ) (r : Carried) (ow' ew' : List ℕ)
    → ((flat : List (List FlatStep)) → h flat ≡ k flat) → Handles part own i h x ow ew r ow' ew' → Handles part own i k x ow ew r ow' ew'
same-handles part own i h k x ow ew r ow' ew' e a =
    record { says = λ flat w. subst (λ (y : model.Handled). Continues x ow ew y r ow' ew') (e flat) (a.says flat w); within = a.within }

-- what comes behind the start of an activation
module _ (x : Carried) (w : List ℕ) (m : model-state.Volatile) (c : Means w (base x.vol) m) (next : m.next ≡ (meaning x.vol).next) (last : m.last_number ≡ suc (meaning x.vol).last_number) where
  same-accepted : accepted w ≡ accepted x.vol
  same-accepted = omega (arith, accepted-by-next w (base x.vol) m c, next-is x.vol, next)

  pub start-room : Room 1 x → RunRoom (with_vol w x)
  start-room h = record { accepted = omega (arith, same-accepted, h.accepted); outcomes = h.outcomes; effects = omega (arith, h.effects) }

  pub after-start : (part : List ℕ) (own i : ℕ) (k : List (List FlatStep) → model-state.Volatile → model.Handled) (ow ew : List ℕ) (r : Carried) (ow' ew' : List ℕ)
      → Handles part own i (λ flat. k flat (meaning w)) (with_vol w x) ow ew r ow' ew' → (meaning r.vol).last_number ≡ (meaning w).last_number → Handles part own i (λ flat. k flat m) x ow ew r ow' ew'
  after-start part own i k ow ew r ow' ew' h stays =
      let y = with_vol w x in
      record {
        says = λ flat e.
            let b : Continues y ow ew (k flat m) r ow' ew' = subst (λ (v : model-state.Volatile). Continues y ow ew (k flat v) r ow' ew') c.says (h.says flat e) in
            then-continues x ow ew (no_outcome m) y ow ew (k flat) r ow' ew' (no-outcome x ow ew m y c refl refl) b;
        within =
            record {
              accepted = omega (arith, h.within.accepted, same-accepted);
              outcomes = h.within.outcomes;
              effects = h.within.effects;
              numbers = omega (arith, stays, ap (λ (v : model-state.Volatile). v.last_number) c.says, last);
            };
      }

pub run_room : (x : Carried) → Room 1 x → RunRoom x
run_room x h = record { accepted = omega (arith, h.accepted); outcomes = h.outcomes; effects = omega (arith, h.effects) }

-- and an outcome without effects
pub refuses : (part : List ℕ) (own i : ℕ) (w : List ℕ) (x : Handled) (ow ew : List ℕ) (v : List ℕ) (s : Rest) (j : Job) (reason : ℕ) (trace : List Item) (r : Handled) (ow' : List ℕ)
    → Changes w s v → Pushes x ow j reason x.effects r ow'
    → Handles part own i (λ flat. record { vol = with_rest s (meaning w); outcomes = model.outcome j [] reason ∷ []; trace = trace }) (carried w x) ow ew (carried v r) ow' ew
unfolding model.outcome put_effects
refuses part own i w x ow ew v s j reason trace r ow' c p =
    let h = pushed w x ow ew v j reason x.effects r ow' ew p (with_rest s (meaning w)) [] reason trace c refl (omega arith) refl in
    record { says = λ flat e. h; within = within_by 1 (carried w x) ow ew _ (carried v r) ow' ew h (omega arith) (omega arith) (omega arith) (omega arith) }

-- ---- counters
-- an activation is counted, and then its time kept
abbrev keep_time : ℕ → ℕ → model-state.Volatile → model-state.Volatile
keep_time i now v = with_rest (with_last_activation (set v.rest.last_activation i (Some now)) v.rest) v

abbrev add_to : ℕ → ℕ → model-state.Volatile → model-state.Volatile
add_to k n v = with_rest (bump_by k n v.rest) v

abbrev take_number : model-state.Volatile → model-state.Volatile
take_number v = model.with_number (suc v.last_number) v

module _ (snapshot : List ℕ) (j : Job) (v w r : List ℕ) (time : ℕ) (a : Means w (base v) (add_to activations_total 1 (meaning v))) (b : Means r (base w) (keep_time j.index time (meaning w))) where
  pub same-last : (meaning r).last_number ≡ (meaning v).last_number
  same-last = ap (λ (m : model-state.Volatile). m.last_number) b.says ∙ ap (λ (m : model-state.Volatile). m.last_number) a.says

  pub starts : (u : List ℕ) (number : ℕ) → time ≡ (world_of snapshot).now → Means u (base r) (take_number (meaning r)) → number ≡ next_number (meaning r).last_number → Starts snapshot j v u (model.numbered number j)
  unfolding bump_by model.numbered
  starts u number e t n =
      let two = follows (keep_time j.index time) w r (base v) (add_to activations_total 1 (meaning v)) a b in
      let three = follows take_number r u (base v) _ two t in
      (rw e at three, ap (λ (k : ℕ). model.numbered k j) (n ∙ ap next_number same-last))

module _ (v w : List ℕ) (count reason : ℕ) (a : Means w (base v) (add_to effects_emitted count (meaning v))) where
  pub finishes-whole : reason ≡ 0 → FinishesWet v count reason w
  unfolding model.finish_wet
  finishes-whole h es e = rw (eq-eqb reason 0 h, ← e) a

  pub finishes-partial : (r : List ℕ) → (reason ≡ 0 → ⊥) → Means r (base w) (add_to partial_outcomes 1 (meaning w)) → FinishesWet v count reason r
  unfolding model.finish_wet
  finishes-partial r h b es e = rw (ne_eqb reason 0 h, ← e) (follows (add_to partial_outcomes 1) w r (base v) (add_to effects_emitted count (meaning v)) a b)

-- ---- reasons
pub has_reason : (o : Option Reason) → is_some o ≡ true → reason_number o ≡ 0 → ⊥
has_reason None h e = cc
has_reason (Some ConditionUnevaluable) h e = omega arith
has_reason (Some EffectBudget) h e = omega arith

pub no-reason : (o : Option Reason) → is_some o ≡ false → reason_number o ≡ 0
no-reason None h = refl
no-reason (Some r) h = cc

-- ---- runs
module _ (x : Carried) (b : ℕ) (few : b ≤ 256) where
  pub ready-dry : Room 1 x → exec-dry.DryReady x.vol b x.effects
  ready-dry room = record { most = few; counts = omega (arith, room.effects, few) }

-- some effects, so many
some_effects : ℕ → List Effect
some_effects n = replicate n (record { kind = 0; a = 0; b = 0; c = 0; d = 0 })

so_many : (n : ℕ) → n ≡ length (some_effects n)
unfolding some_effects
so_many n = sym (length-replicate n _)

module _ (snapshot image part : List ℕ) (own : ℕ) (j : Job) (v : List ℕ) (h : Handled) (b : ℕ) (ew : List ℕ) (run : RunDone) (ew' : List ℕ) where
  abbrev x : Carried
  x = carried v h

  module _ (from : Point) (k : exec.Runs snapshot image part own j v from b h.effects ew run ew') where
    abbrev out : List (List FlatStep) → RunOutput
    out flat = run_steps b (env_of snapshot image flat) j from (meaning v)

    module _ (ow : List ℕ) (n : ℕ) (w : List ℕ) (r : Handled) (ow' : List ℕ) (few : b ≤ 256) (e : n ≡ run.count - h.effects) (f : FinishesWet run.vol n run.reason w) (p : Pushes h ow j run.reason run.count r ow') where
      wet-says : (item : Item) (flat : List (List FlatStep)) → Says part own (get_or flat j.index []) → Continues x ow ew (model.finished j item (out flat)) (carried w r) ow' ew'
      wet-says item flat q =
          let o = out flat in
          let s = k.says flat q in
          let m = f o.effects (let l : n ≡ length o.effects = omega (arith, e, s.2) in l) in
          let finish : Means w (base v) (model.finish_wet o.effects o.reason o.vol) =
          record { says = m.says ∙ ap (λ (m : model-state.Volatile). model.finish_wet o.effects run.reason m) s.0.says ∙ ap (λ (z : ℕ). model.finish_wet o.effects z o.vol) s.1; based = m.based ∙ s.0.based } in
          pushed v h ow ew w j run.reason run.count r ow' ew' p (model.finish_wet o.effects o.reason o.vol) o.effects o.reason (item ∷ o.trace) finish s.1 s.2 s.3

      finished-means : Means w (base run.vol) (model.finish_wet (some_effects n) run.reason (meaning run.vol))
      finished-means = f (some_effects n) (so_many n)

      same-next : accepted w ≡ accepted run.vol
      unfolding model.finish_wet
      same-next = omega (arith, accepted-by-next w (base run.vol) _ finished-means, next-is run.vol)

      last-stays : (meaning w).last_number ≡ (meaning v).last_number
      unfolding model.finish_wet
      last-stays = ap (λ (m : model-state.Volatile). m.last_number) finished-means.says ∙ k.ran.last

      pub runs-wet : RunsWet snapshot image part own j from b x ow ew (carried w r) ow' ew'
      runs-wet = (
        λ item.
            record {
              says = wet-says item;
              within =
                  record {
                    accepted = omega (arith, same-next, k.accepted, few);
                    outcomes = omega (arith, p.outcomes);
                    effects = omega (arith, p.effects, k.ran.counted, few);
                    numbers = omega (arith, last-stays);
                  };
            },
        last-stays,
      )

  module _ (k : exec-dry.RunsDry snapshot image part own j v start b h.effects ew run ew') where
    abbrev out_dry : List (List FlatStep) → DryOutput
    out_dry flat = run_steps_dry b (env_of snapshot image flat) j start [] (meaning v).rest

    dry-says : (ow : List ℕ) (r : Handled) (ow' : List ℕ) → Pushes h ow j run.reason run.count r ow'
        → (flat : List (List FlatStep)) → Says part own (get_or flat j.index []) → Continues x ow ew (dry_outcome j (out_dry flat) (meaning v)) (carried run.vol r) ow' ew'
    dry-says ow r ow' p flat q =
        let o = out_dry flat in
        let s = k.says flat q in
        pushed v h ow ew run.vol j run.reason run.count r ow' ew' p (with_rest o.rest (meaning v)) o.effects o.reason _ s.0 s.1 s.2 s.3

    pub runs-dry : (ow : List ℕ) (r : Handled) (ow' : List ℕ) → b ≤ 256 → b ≡ budget image → Pushes h ow j run.reason run.count r ow' → RunsDry snapshot image part own j x ow ew (carried run.vol r) ow' ew'
    runs-dry ow r ow' few e p =
        record {
          says = λ flat q. rw e at (dry-says ow r ow' p flat q);
          within =
              record {
                accepted = omega (arith, k.accepted);
                outcomes = omega (arith, p.outcomes);
                effects = omega (arith, p.effects, k.ran.counted, few);
                numbers = omega (arith, k.ran.last);
              };
        }
