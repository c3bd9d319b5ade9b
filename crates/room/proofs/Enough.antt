-- What a tick or a run gives is within the numbers of its set's image, and a caller that lends so much is never refused with 30.
use mathlib.Core.Path.{◌≡◌, refl, sym, ap, subst}
use Prim.Native.Nat.{ℕ, zero, suc, ◌+◌, ◌-◌, ◌*◌, min, max, ◌≤◌}
use native.Mathlib.Omega.{arith}
use native.Mathlib.Nat.{le_trans, mul-le-mul_left}
use mathlib.Core.Bool.{Bool, true, false, not}
use mathlib.Core.List.{List, [], ◌∷◌, map}
use Rattle.std.specs.Prelude.{Option, None, Some}
use lib.Dec.{leb, ltb, eqb}
use lib.ListN.{length, get_or, length-map}
use Rattle.std.specs.Prelude.{slice_get}
use borrow.Author.Tests.{le-leb, leb-true, leb-false, ltb-true, ltb-false}
use Rattle.words.specs.Saturating.{max64}
use Rattle.model.specs.Lists.{all, every, total, up_from}
use Rattle.model.specs.Field.{unless}
use Rattle.model.specs.Image.{budget, size_of, image_sized, limits_fit, places_fit, tables_pass, names_differ, few_enough}
use Rattle.model.specs.Rows.{rules}
use Rattle.model.specs.Rules.{rule_named}
use Rattle.model.specs.Steps.{FlatStep}
use Rattle.model.specs.Flat.{Flattened, flatten_rule, flatten_rules, set_of, body_in, list_in, every_copy, too_many_steps}
use Rattle.model.specs.Load.{tables_refusal, image_refusal_with}
use Rattle.model.specs.Snapshot.{snapshot_refusal, snapshot_sized, header_fits, table_fits, table_distinct}
use Rattle.model.specs.World.{now_of, world_of}
use Rattle.model.specs.Outcome.{Outcome}
use Rattle.model.specs.State.{Env, Volatile, RuleSet, Store, is_enabled}
use Rattle.model.specs.Store.{rule_count, slots_of, Keeps, FlatFormOf, read}
use Rattle.model.specs.Activate.{Handled, no_outcome}
use Rattle.model.specs.Wheel.{service_tick}
use Rattle.model.specs.Calls.{Call, new, load, unload, enable, tick, run, deadline, counters, Done, done, refused, effects_of, outcome_room, effect_room, loading, call_load, call_unload, call_enable, enabling, rule_in, overflow, committing, committed, tick_with, run_rule, run_with, given, call}
use Rattle.model.specs.OnWords.{call_on, on_store, new_on, result, store_refusal}
use Rattle.model.proofs.StoreLaws.{write_read}
use Rattle.model.proofs.TestLaws.{total-same}
use Rattle.ledger.specs.Demand3.{in_words}
use Rattle.ledger.proofs.ListLaws.{and_l, and_r, by, IfSome}
use Rattle.ledger.proofs.SumLaws.{sum_of}
use Rattle.ledger.proofs.Shapes.{body_within, within_more}
use Rattle.ledger.proofs.FlatShapes.{is_word}
use Rattle.ledger.proofs.Accepted.{budget-range, rule-shape}
use Rattle.ledger.proofs.Values.{WorldOk, world-ok}
use Rattle.ledger.proofs.RestRules.{RestOk}
use Rattle.ledger.proofs.SetRules.{SetOk, list_of}
use Rattle.ledger.proofs.RunRules.{VolatileOk}
use Rattle.ledger.proofs.KeepsParts.{record_ok, of-keeps}
use Rattle.room.specs.Room.{starts_of, own_steps, body_steps, effects_of_start, longest, outcomes_needed, effects_needed}
use Rattle.room.specs.Enough.{Within, Lent, EnoughFor, EnoughIn}
use Rattle.room.proofs.SumLaws.{greatest-at}
use Rattle.room.proofs.Activations.{Single, wet_of, dry_of, auto-single, manual-single, dry-run-single, resume-single}
use Rattle.room.proofs.Ticks.{length-sum, tick-sum}

effects-sum : (os : List Outcome) → effects_of os ≡ sum_of (λ (o : Outcome). length o.effects) os
effects-sum [] = refl
effects-sum (o ∷ os) = let a = effects-sum os in omega arith

-- THE STEPS OF A RULE ---------------------------------------------------------------------------------------------------------------
body-few : (m p : ℕ) (xs : List FlatStep) → all (body_within m) xs ≡ true → length (body_in (slice_get xs p)) ≤ m
body-few m p [] h = omega arith
body-few m zero (x ∷ xs) h = leb-true _ _ (and_l (body_within m x) _ h)
body-few m (suc p) (x ∷ xs) h = body-few m p xs (and_r (body_within m x) _ h)

-- every after with its body
copies-few : (m : ℕ) (xs : List FlatStep) → all (body_within m) xs ≡ true → every_copy xs ≤ length xs + length xs * m
copies-few m [] h = omega arith
copies-few m (x ∷ xs) h =
    let a = leb-true (length x.body) m (and_l (body_within m x) _ h) in
    let b = copies-few m xs (and_r (body_within m x) _ h) in
    omega arith

-- the own list of a rule: its length, and that of its bodies
record Sizes (n m : ℕ) (xs : List FlatStep) : Type 0 where
  own : length xs ≤ n
  bodies : all (body_within m) xs ≡ true

module _ (img : List ℕ) where
  abbrev lists : ℕ → ℕ → List (List FlatStep)
  lists s n = map (λ (f : Flattened). f.steps) (map (flatten_rule img) (up_from s n))

  rule-sizes : (i : ℕ) → Sizes (own_steps img i) (body_steps img i) (flatten_rule img i).steps
  unfolding own_steps body_steps
  rule-sizes i = let h = rule-shape img i in record { own = omega (arith, h.rows); bodies = within_more (0 + length (flatten_rule img i).bodies) (length (flatten_rule img i).bodies) (flatten_rule img i).steps (omega arith) h.short }

  sizes-at : (s n i : ℕ) → Sizes (own_steps img (s + i)) (body_steps img (s + i)) (get_or (lists s n) i [])
  sizes-at s zero i = record { own = omega arith; bodies = refl }
  sizes-at s (suc n) zero = let q : s ≡ s + 0 = omega arith in subst (λ k. Sizes (own_steps img k) (body_steps img k) (flatten_rule img s).steps) q (rule-sizes s)
  sizes-at s (suc n) (suc i) =
      let q : suc s + i ≡ s + suc i = omega arith in
      subst (λ k. Sizes (own_steps img k) (body_steps img k) (get_or (lists (suc s) n) i [])) q (sizes-at (suc s) n i)

  past-lists : (s n i : ℕ) → n ≤ i → get_or (lists s n) i [] ≡ []
  past-lists s zero i h = refl
  past-lists s (suc n) zero h = absurd (omega arith)
  past-lists s (suc n) (suc i) h = past-lists (suc s) n i (omega arith)

  abbrev row_of : ℕ → List FlatStep
  row_of i = get_or (set_of img (flatten_rules img)).flat i []

  -- of rule i of the set
  sizes-of : (i : ℕ) → Sizes (own_steps img i) (body_steps img i) (row_of i)
  unfolding set_of flatten_rules
  sizes-of i = let q : 0 + i ≡ i = omega arith in subst (λ k. Sizes (own_steps img k) (body_steps img k) (get_or (lists 0 (size_of img rules)) i [])) q (sizes-at 0 (size_of img rules) i)

  none-past : (i : ℕ) → size_of img rules ≤ i → row_of i ≡ []
  unfolding set_of flatten_rules
  none-past i h = past-lists 0 (size_of img rules) i h

  -- no list of the set, and no body, is longer
  longest-sizes : (i : ℕ) → Sizes (longest img) (longest img) (row_of i)
  longest-sizes i =
      by (ltb i (size_of img rules))
      (λ t.
      let h = sizes-of i in
      let b = greatest-at (λ k. max (own_steps img k) (body_steps img k)) (size_of img rules) i (ltb-true i (size_of img rules) t) in
      let a = h.own in
      record { own = omega arith; bodies = within_more (body_steps img i) (longest img) (row_of i) (omega arith) h.bodies })
      (λ f. subst (Sizes (longest img) (longest img)) (sym (none-past i (ltb-false i (size_of img rules) f))) (record { own = omega arith; bodies = refl }))

-- A DRY RUN: no more than 32 continuations ----------------------------------------------------------------------------------------------
dry-covered : (b l n t : ℕ) → 1 ≤ b → b ≤ 256 → n ≤ l → min b (n + n * l) ≤ max (min b l) (32 * min (b - 1) l + t)
dry-covered b l n t h k le =
    by (leb l 7)
    (λ y. let s = leb-true l 7 y in let m = mul-le-mul_left n s in omega arith)
    (λ f. let s = leb-false l 7 f in omega arith)

-- TICK AND RUN ----------------------------------------------------------------------------------------------------------------------
module _ (e : Env) (ok : SetOk e.set) (world : WorldOk e.world) (flat : FlatFormOf (Some e.set)) where
  abbrev img : List ℕ
  img = e.set.image

  abbrev listed : ℕ → List FlatStep
  listed i = get_or e.set.flat i []

  same-list : (i : ℕ) → row_of img i ≡ listed i
  same-list i = ap (λ (s : RuleSet). get_or s.flat i []) (sym flat)

  steps-within : (i : ℕ) → length (listed i) ≤ own_steps img i
  steps-within i = let a = (sizes-of img i).own in let b = ap (λ (l : List FlatStep). length l) (same-list i) in omega arith

  all-longest : (i : ℕ) → Sizes (longest img) (longest img) (listed i)
  all-longest i = subst (Sizes (longest img) (longest img)) (same-list i) (longest-sizes img i)

  -- a list of a rule, its own or a body
  list-longest : (i n : ℕ) → length (list_of e.set i n) ≤ longest img
  unfolding list_in
  list-longest i zero = let a = (all-longest i).own in let b = length-map (listed i) (λ (x : FlatStep). x.step) in omega arith
  list-longest i (suc p) = body-few (longest img) p (listed i) (all-longest i).bodies

  outcomes-one : (x : Handled) (m : ℕ) → Single m x → sum_of (λ (o : Outcome). 1) x.outcomes ≤ 1
  outcomes-one x m h = let a = length-sum x.outcomes in let b = h.outcomes in omega arith

  effects-one : (x : Handled) (m n : ℕ) → m ≤ n → Single m x → sum_of (λ (o : Outcome). length o.effects) x.outcomes ≤ n
  effects-one x m n le h = let a = effects-sum x.outcomes in let b = h.effects in omega arith

  pub tick-within : (v : Volatile) → VolatileOk e.set v → length v.pending ≤ 32 → Within img (service_tick e v)
  unfolding outcomes_needed effects_needed
  tick-within v h few =
      let x = service_tick e v in
      let a =
      tick-sum e ok world (λ (o : Outcome). 1) (λ i. 1) 1 (λ i kind u. outcomes-one _ _ (auto-single e ok i kind u)) (λ c u k. outcomes-one _ _ (resume-single e ok (longest img) c u list-longest k)) v h few in
      let b =
      tick-sum e ok world (λ (o : Outcome). length o.effects) (effects_of_start img) (min (budget img - 1) (longest img))
      (λ i kind u. effects-one _ _ _ (let s = steps-within i in omega arith) (auto-single e ok i kind u))
      (λ c u k. effects-one _ _ _ (omega arith) (resume-single e ok (longest img) c u list-longest k)) v h few in
      let c = length-sum x.outcomes in
      let d = effects-sum x.outcomes in
      let one = total-same (size_of img rules) (λ i. starts_of img i * 1) (starts_of img) (λ i. times-one (starts_of img i)) in
      record { outcomes = omega arith; effects = omega arith }
    where
      times-one : (n : ℕ) → n * 1 ≡ n
      times-one n = omega arith

  wet-within : (i : ℕ) (x : Handled) → Single (wet_of e ok i) x → Within img x
  unfolding outcomes_needed effects_needed
  wet-within i x h =
      let a = h.outcomes in
      let b = h.effects in
      let c = (all-longest i).own in
      record { outcomes = omega arith; effects = omega arith }

  dry-within : (i : ℕ) (x : Handled) → Single (dry_of e ok i) x → Within img x
  unfolding outcomes_needed effects_needed
  dry-within i x h =
      let a = h.outcomes in
      let b = h.effects in
      let c = all-longest i in
      let d = copies-few (longest img) (listed i) c.bodies in
      let r = budget-range img ok.image in
      let t = total (size_of img rules) (λ k. starts_of img k * effects_of_start img k) in
      let f = dry-covered (budget img) (longest img) (length (listed i)) t r.0 r.1 c.own in
      record { outcomes = omega arith; effects = omega arith }

  pub run-within : (o : Option ℕ) (dry : Bool) (v : Volatile) → Within img (run_rule e o dry v)
  run-within None dry v = record { outcomes = omega arith; effects = omega arith }
  run-within (Some i) true v = dry-within i _ (dry-run-single e ok i v)
  run-within (Some i) false v =
      by (is_enabled v.rest i) (λ t. rw t (wet-within i _ (manual-single e ok i v))) (λ f. rw f (record { outcomes = omega arith; effects = omega arith }))

-- of every store that keeps the rules, and every accepted snapshot
module _ (s : Store) (keeps : Keeps s) (set : RuleSet) (loaded : s.loaded ≡ Some set) (snap : List ℕ) (words : all is_word snap ≡ true) (fine : snapshot_refusal snap ≡ 0) where
  abbrev pub env : Env
  env = record { world = world_of snap; set = set }

  set-ok : SetOk set
  set-ok = subst (IfSome SetOk) loaded (of-keeps s keeps).set

  flat-form : FlatFormOf (Some set)
  flat-form = subst FlatFormOf loaded keeps.flat

  volatile-ok : VolatileOk set s.vol
  volatile-ok =
      let h = of-keeps s keeps in
      record {
        rest = subst (λ o. RestOk (rule_count o) (slots_of o) s.vol.rest) loaded h.rest;
        pending = subst (λ o. all (record_ok o) s.vol.pending ≡ true) loaded h.pending;
      }

  pub tick-room : Within set.image (service_tick env s.vol)
  tick-room = tick-within env set-ok (world-ok snap words fine) flat-form s.vol volatile-ok (of-keeps s keeps).few

  pub run_room : (rule : ℕ) (dry : Bool) → Within set.image (run_rule env (rule_named set.image rule) dry s.vol)
  run_room rule dry = run-within env set-ok (world-ok snap words fine) flat-form (rule_named set.image rule) dry s.vol

-- NEVER 30 ----------------------------------------------------------------------------------------------------------------------------
other : (b : Bool) (n rest m : ℕ) → (n ≡ m → ⊥) → (rest ≡ m → ⊥) → unless b n rest ≡ m → ⊥
other true n rest m h k e = k e
other false n rest m h k e = h e

-- the lent stores hold what the call did
room-held : (os es : ℕ) (x : Handled) → length x.outcomes ≤ outcome_room os → effects_of x.outcomes ≤ effect_room es → overflow os es x ≡ 30 → ⊥
unfolding overflow
room-held os es x h k e =
    let o : leb (length x.outcomes) (outcome_room os) ≡ true = le-leb (length x.outcomes) (outcome_room os) h in
    let f : leb (effects_of x.outcomes) (effect_room es) ≡ true = le-leb (effects_of x.outcomes) (effect_room es) k in
    other (leb x.vol.next max64) 31 _ 30 (λ z. omega arith) (other (leb x.vol.last_number max64) 32 0 30 (λ z. omega arith) (λ z. omega arith)) (rw (o, f) at e)

lent-held : (image : List ℕ) (os es : ℕ) (x : Handled) → Within image x → Lent (outcomes_needed image) (effects_needed image) os es → overflow os es x ≡ 30 → ⊥
lent-held image os es x h l = room-held os es x (le_trans h.outcomes l.outcomes) (le_trans h.effects l.effects)

committing-30 : (n now : ℕ) (x : Handled) (s : Store) → (n ≡ 30 → ⊥) → (committing n now x s).answer ≡ refused 30 → ⊥
committing-30 zero now x s h e = let z : ◌≡◌ {A = ℕ} 0 1 = cc in omega arith
committing-30 (suc n) now x s h e = h (cc)

-- a snapshot is refused with 20 to 22
snapshot-30 : (snap : List ℕ) → snapshot_refusal snap ≡ 30 → ⊥
unfolding snapshot_refusal
snapshot-30 snap =
    other (snapshot_sized snap) 20 _ 30 (λ e. omega arith)
    (other (header_fits snap) 21 _ 30 (λ e. omega arith)
    (other (every 5 (table_fits snap)) 21 _ 30 (λ e. omega arith) (other (every 5 (table_distinct snap)) 22 0 30 (λ e. omega arith) (λ e. omega arith))))

given-30 : (n : ℕ) (s : Store) (K : Store → Done) → (n ≡ 30 → ⊥) → (n ≡ 0 → (K s).answer ≡ refused 30 → ⊥) → (given n s K).answer ≡ refused 30 → ⊥
given-30 zero s K h k e = k refl e
given-30 (suc n) s K h k e = h (cc)

module _ (s : Store) (keeps : Keeps s) (snap : List ℕ) (words : all is_word snap ≡ true) where
  tick-30 : (o : Option RuleSet) (os es : ℕ) → s.loaded ≡ o → EnoughFor o (tick snap os es) → snapshot_refusal snap ≡ 0 → (tick_with o snap os es s).answer ≡ refused 30 → ⊥
  unfolding tick_with committed
  tick-30 None os es q l fine = committing-30 _ (now_of snap) (no_outcome s.vol) s (room-held os es (no_outcome s.vol) (omega arith) (omega arith))
  tick-30 (Some set) os es q l fine =
      committing-30 _ (now_of snap) (service_tick (record { world = world_of snap; set = set }) s.vol) s
      (lent-held set.image os es _ (tick-room s keeps set q snap words fine) l)

  run-30 : (o : Option RuleSet) (rule : ℕ) (dry : Bool) (os es : ℕ) → s.loaded ≡ o → EnoughFor o (run rule dry snap os es) → snapshot_refusal snap ≡ 0
      → (run_with o rule dry snap os es s).answer ≡ refused 30 → ⊥
  unfolding run_with committed
  run-30 None rule dry os es q l fine = committing-30 _ (now_of snap) (no_outcome s.vol) s (room-held os es (no_outcome s.vol) (omega arith) (omega arith))
  run-30 (Some set) rule dry os es q l fine =
      committing-30 _ (now_of snap) (run_rule (record { world = world_of snap; set = set }) (rule_named set.image rule) dry s.vol) s
      (lent-held set.image os es _ (run_room s keeps set q snap words fine rule dry) l)

image-30 : (img : List ℕ) (fs : List Flattened) → image_refusal_with img fs ≡ 30 → ⊥
unfolding image_refusal_with tables_refusal
image-30 img fs =
    other (image_sized img) 10 _ 30 (λ e. omega arith)
    (other (limits_fit img) 11 _ 30 (λ e. omega arith)
    (other (places_fit img) 12 _ 30 (λ e. omega arith)
    (other (tables_pass img false) 13 _ 30 (λ e. omega arith)
    (other (tables_pass img true) 14 _ 30 (λ e. omega arith)
    (other (names_differ img) 15 _ 30 (λ e. omega arith)
    (other (not (too_many_steps fs)) 16 _ 30 (λ e. omega arith) (other (few_enough img) 17 0 30 (λ e. omega arith) (λ e. omega arith))))))))

loading-30 : (n t : ℕ) (img : List ℕ) (fs : List Flattened) (s : Store) → (n ≡ 30 → ⊥) → (loading n t img fs s).answer ≡ refused 30 → ⊥
loading-30 zero t img fs s h e = let z : ◌≡◌ {A = ℕ} 0 1 = cc in omega arith
loading-30 (suc n) t img fs s h e = h (cc)

load-30 : (t : ℕ) (img : List ℕ) (s : Store) → (call_load t img s).answer ≡ refused 30 → ⊥
unfolding call_load
load-30 t img s = loading-30 (image_refusal_with img (flatten_rules img)) t img (flatten_rules img) s (image-30 img (flatten_rules img))

unload-30 : (t : ℕ) (s : Store) → (call_unload t s).answer ≡ refused 30 → ⊥
unfolding call_unload
unload-30 t s e = let z : ◌≡◌ {A = ℕ} 0 1 = cc in omega arith

enabling-30 : (o : Option ℕ) (rule : ℕ) (on : Bool) (s : Store) → (enabling o rule on s).answer ≡ refused 30 → ⊥
enabling-30 None rule on s e = let z : ◌≡◌ {A = ℕ} 0 1 = cc in omega arith
enabling-30 (Some i) rule on s e = let z : ◌≡◌ {A = ℕ} 0 1 = cc in omega arith

enable-30 : (rule : ℕ) (on : Bool) (s : Store) → (call_enable rule on s).answer ≡ refused 30 → ⊥
unfolding call_enable
enable-30 rule on s = enabling-30 (rule_in s.loaded rule) rule on s

-- a call that lends room for the loaded set is not refused with 30: every call, in every store that keeps the rules
pub enough : (c : Call) (s : Store) → Keeps s → in_words c ≡ true → EnoughFor s.loaded c → (call c s).answer ≡ refused 30 → ⊥
unfolding call in_words
enough (new t) s k i l e = let z : ◌≡◌ {A = ℕ} 0 1 = cc in omega arith
enough (load t img) s k i l e = load-30 t img s e
enough (unload t) s k i l e = unload-30 t s e
enough (enable rule on) s k i l e = enable-30 rule on s e
enough (tick snap os es) s k i l e = given-30 (snapshot_refusal snap) s (λ s'. tick_with s'.loaded snap os es s') (snapshot-30 snap) (λ fine. tick-30 s k snap i s.loaded os es refl l fine) e
enough (run rule dry snap os es) s k i l e =
    given-30 (snapshot_refusal snap) s (λ s'. run_with s'.loaded rule dry snap os es s') (snapshot-30 snap) (λ fine. run-30 s k snap (and_r (is_word rule) _ i) s.loaded rule dry os es refl l fine) e
enough deadline s k i l e = let z : ◌≡◌ {A = ℕ} 0 1 = cc in omega arith
enough counters s k i l e = let z : ◌≡◌ {A = ℕ} 0 1 = cc in omega arith

store-30 : (w : List ℕ) → store_refusal w ≡ 30 → ⊥
unfolding store_refusal
store-30 w = other (eqb (length w) 16384) 1 2 30 (λ e. omega arith) (λ e. omega arith)

on-store-30 : (c : Call) (w : List ℕ) (o : Option Store) → read w ≡ o → in_words c ≡ true → EnoughIn o c → (on_store c o w).answer ≡ refused 30 → ⊥
unfolding result
on-store-30 c w None q i l e = store-30 w (cc)
on-store-30 c w (Some s) q i l e = enough c s (write_read w s q).keeps i l e

new-30 : (t : ℕ) (w : List ℕ) → (new_on t w).answer ≡ refused 30 → ⊥
unfolding new_on result
new-30 t w e =
    by (eqb (length w) 16384)
    (λ y. let k : done ≡ refused 30 = rw y at e in let z : ◌≡◌ {A = ℕ} 0 1 = cc in omega arith)
    (λ f. let k : refused 1 ≡ refused 30 = rw f at e in let z : ◌≡◌ {A = ℕ} 1 30 = cc in omega arith)

-- and on whatever words: with this room no call is refused with 30
pub enough-on-words : (c : Call) (w : List ℕ) → in_words c ≡ true → EnoughIn (read w) c → (call_on c w).answer ≡ refused 30 → ⊥
unfolding call_on
enough-on-words (new t) w i l = new-30 t w
enough-on-words (load t img) w i l = on-store-30 (load t img) w (read w) refl i l
enough-on-words (unload t) w i l = on-store-30 (unload t) w (read w) refl i l
enough-on-words (enable rule on) w i l = on-store-30 (enable rule on) w (read w) refl i l
enough-on-words (tick snap os es) w i l = on-store-30 (tick snap os es) w (read w) refl i l
enough-on-words (run rule dry snap os es) w i l = on-store-30 (run rule dry snap os es) w (read w) refl i l
enough-on-words deadline w i l = on-store-30 deadline w (read w) refl i l
enough-on-words counters w i l = on-store-30 counters w (read w) refl i l
