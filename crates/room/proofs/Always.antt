-- A history of calls: who keeps room for o outcomes and f effects, loads no set that needs more, and lends all of it to every tick and run, is never refused with 30.
use mathlib.Core.Path.{◌≡◌, refl, sym, subst}
use Prim.Native.Nat.{ℕ, zero, suc}
use native.Mathlib.Nat.{le_trans}
use mathlib.Core.Bool.{Bool, true}
use mathlib.Core.List.{List, [], ◌∷◌}
use Rattle.std.specs.Prelude.{Option, None, Some}
use Rattle.model.specs.Lists.{all}
use Rattle.model.specs.Snapshot.{snapshot_refusal}
use Rattle.model.specs.World.{now_of, world_of}
use Rattle.model.specs.Rules.{rule_named}
use Rattle.model.specs.Flat.{flatten_rules, set_of}
use Rattle.model.specs.Load.{image_refusal, image_refusal_with}
use Rattle.model.specs.State.{RuleSet, Store}
use Rattle.model.specs.Store.{Keeps, read}
use Rattle.model.specs.Activate.{Handled, no_outcome}
use Rattle.model.specs.Wheel.{service_tick}
use Rattle.model.specs.Calls.{Call, new, load, unload, enable, tick, run, deadline, counters, Done, fresh, loading, call_load, call_unload, enabling, rule_in, call_enable, overflow, committing, committed, tick_with, run_rule, run_with, given, call, answers}
use Rattle.model.proofs.StoreLaws.{write_read}
use Rattle.ledger.specs.Demand3.{in_words}
use Rattle.ledger.specs.OnWords.{answers_on}
use Rattle.ledger.proofs.ListLaws.{and_l, and_r, Every}
use Rattle.ledger.proofs.CallRules.{call-keeps}
use Rattle.ledger.proofs.OnWords.{on-readable}
use Rattle.room.specs.Room.{outcomes_needed, effects_needed}
use Rattle.room.specs.Enough.{Lent, EnoughFor, Room, Careful, LoadedWithin, Not30}
use Rattle.room.proofs.Enough.{enough}

module _ (o f : ℕ) where
  lent-enough : (img : List ℕ) (os es : ℕ) → Room o f img → Lent o f os es → Lent (outcomes_needed img) (effects_needed img) os es
  lent-enough img os es h l = record { outcomes = le_trans h.outcomes l.outcomes; effects = le_trans h.effects l.effects }

  careful-enough : (c : Call) (l : Option RuleSet) → LoadedWithin o f l → Careful o f c → EnoughFor l c
  careful-enough c None h k = tt
  careful-enough (new t) (Some set) h k = tt
  careful-enough (load t img) (Some set) h k = tt
  careful-enough (unload t) (Some set) h k = tt
  careful-enough (enable rule on) (Some set) h k = tt
  careful-enough (tick snap os es) (Some set) h k = lent-enough set.image os es h k
  careful-enough (run rule dry snap os es) (Some set) h k = lent-enough set.image os es h k
  careful-enough deadline (Some set) h k = tt
  careful-enough counters (Some set) h k = tt

  -- WHAT IS LOADED AFTER A CALL -------------------------------------------------------------------------------------------------------
  loading-within : (n t : ℕ) (img : List ℕ) (s : Store) → image_refusal_with img (flatten_rules img) ≡ n → LoadedWithin o f s.loaded → (image_refusal img ≡ 0 → Room o f img)
      → LoadedWithin o f (loading n t img (flatten_rules img) s).store.loaded
  unfolding image_refusal set_of
  loading-within zero t img s e h k = k e
  loading-within (suc n) t img s e h k = h

  enabling-within : (x : Option ℕ) (rule : ℕ) (on : Bool) (s : Store) → LoadedWithin o f s.loaded → LoadedWithin o f (enabling x rule on s).store.loaded
  enabling-within None rule on s h = h
  enabling-within (Some i) rule on s h = h

  committing-within : (n now : ℕ) (x : Handled) (s : Store) → LoadedWithin o f s.loaded → LoadedWithin o f (committing n now x s).store.loaded
  committing-within zero now x s h = h
  committing-within (suc n) now x s h = h

  tick-within : (l : Option RuleSet) (snap : List ℕ) (os es : ℕ) (s : Store) → LoadedWithin o f s.loaded → LoadedWithin o f (tick_with l snap os es s).store.loaded
  unfolding tick_with committed
  tick-within None snap os es s h = committing-within (overflow os es (no_outcome s.vol)) (now_of snap) (no_outcome s.vol) s h
  tick-within (Some set) snap os es s h =
      let x = service_tick (record { world = world_of snap; set = set }) s.vol in
      committing-within (overflow os es x) (now_of snap) x s h

  run-within : (l : Option RuleSet) (rule : ℕ) (dry : Bool) (snap : List ℕ) (os es : ℕ) (s : Store) → LoadedWithin o f s.loaded → LoadedWithin o f (run_with l rule dry snap os es s).store.loaded
  unfolding run_with committed
  run-within None rule dry snap os es s h = committing-within (overflow os es (no_outcome s.vol)) (now_of snap) (no_outcome s.vol) s h
  run-within (Some set) rule dry snap os es s h =
      let x = run_rule (record { world = world_of snap; set = set }) (rule_named set.image rule) dry s.vol in
      committing-within (overflow os es x) (now_of snap) x s h

  given-within : (n : ℕ) (s : Store) (K : Store → Done) → LoadedWithin o f s.loaded → LoadedWithin o f (K s).store.loaded → LoadedWithin o f (given n s K).store.loaded
  given-within zero s K h k = k
  given-within (suc n) s K h k = h

  stays_within : (c : Call) (s : Store) → LoadedWithin o f s.loaded → Careful o f c → LoadedWithin o f (call c s).store.loaded
  unfolding call call_load call_unload call_enable fresh
  stays_within (new t) s h k = tt
  stays_within (load t img) s h k = loading-within (image_refusal_with img (flatten_rules img)) t img s refl h k
  stays_within (unload t) s h k = tt
  stays_within (enable rule on) s h k = enabling-within (rule_in s.loaded rule) rule on s h
  stays_within (tick snap os es) s h k = given-within (snapshot_refusal snap) s (λ s'. tick_with s'.loaded snap os es s') h (tick-within s.loaded snap os es s h)
  stays_within (run rule dry snap os es) s h k = given-within (snapshot_refusal snap) s (λ s'. run_with s'.loaded rule dry snap os es s') h (run-within s.loaded rule dry snap os es s h)
  stays_within deadline s h k = h
  stays_within counters s h k = h

  pub always : (cs : List Call) (s : Store) → Keeps s → LoadedWithin o f s.loaded → all in_words cs ≡ true → Every (Careful o f) cs → Every Not30 (answers s cs)
  unfolding answers
  always [] s k h i cs = tt
  always (c ∷ cs) s k h i careful =
      let w = and_l (in_words c) _ i in (
        enough c s k w (careful-enough c s.loaded h careful.0),
        always cs (call c s).store (call-keeps c s w k) (stays_within c s h careful.0) (and_r (in_words c) _ i) careful.1,
      )

  -- on the words of a store
  pub always-on-words : (cs : List Call) (w : List ℕ) (s : Store) → read w ≡ Some s → LoadedWithin o f s.loaded → all in_words cs ≡ true → Every (Careful o f) cs → Every Not30 (answers_on w cs)
  always-on-words cs w s e h i careful =
      subst (Every Not30) (sym (on-readable w s cs i e).answers) (always cs s (write_read w s e).keeps h i careful)
