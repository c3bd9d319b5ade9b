-- Request 8's two theorems, for every image and for every list of calls.
use mathlib.Core.Path.{◌≡◌, refl, sym, ◌∙◌, ap, ap₂}
use mathlib.Core.Bool.{Bool, true, false, not, false≢true}
use mathlib.Core.List.{List, [], ◌∷◌, map}
use Prim.Native.Nat.{ℕ, zero, suc, ◌+◌, ◌≤◌, ◌^◌}
use native.Mathlib.Omega.{arith}
use lib.Dec.{ltb, eqb}
use lib.ListN.{length-append}
use borrow.Author.Tests.{ltb-true, ltb-false, le-ltb}
use Rattle.std.proofs.lemmas.Bool.{or_parts, not-true}
use Rattle.model.proofs.StoreLaws.{read-write}
use Rattle.model.specs.Lists.{all}
use Rattle.model.specs.Field.{unless}
use Rattle.model.specs.Image.{image_sized, limits_fit, places_fit, tables_pass, names_differ, few_enough}
use Rattle.model.specs.Rules.{rule_indices}
use Rattle.model.specs.Steps.{FlatStep}
use Rattle.model.specs.Flat.{Flattened, flatten_rule, flatten_rules, every_copy, every_copy_in, steps_in, taken_in, too_many_steps, set_of}
use Rattle.model.specs.Load.{tables_refusal, image_refusal_with, image_refusal}
use Rattle.model.specs.State.{Store}
use Rattle.model.specs.Calls.{Call, new, load, unload, enable, tick, run, deadline, counters, Done, loading, call_load, call, answers, fresh}
use Rattle.model.specs.Store.{write}
use Rattle.ledger.specs.Demand3.{in_words}
use Rattle.ledger.specs.OnWords.{answers_on}
use Rattle.ledger.proofs.ListLaws.{and_l, and_r}
use Rattle.ledger.proofs.CallRules.{fresh_keeps}
use Rattle.ledger.proofs.OnWords.{on-readable}
use Rattle.sharing.specs.Unshared as unshared
use Rattle.sharing.specs.Sharing.{refusal_before, SharedCount, load_unshared, load_before, call_with, answers_with, not_sixteen, SharedAnswers}
use Rattle.sharing.proofs.Same.{rule-same}

-- THEOREM 1 -------------------------------------------------------------------------------------------------------------------------
module _ (img : List ℕ) where
  abbrev Shared : List ℕ → List Flattened
  Shared is = map (flatten_rule img) is

  abbrev Unshared : List ℕ → List Flattened
  Unshared is = map (unshared.flatten_rule img) is

  fewer-in : (is : List ℕ) → steps_in (Shared is) ≤ steps_in (Unshared is)
  fewer-in [] = omega arith
  fewer-in (i ∷ is) =
      let s = rule-same img i in
      let x = flatten_rule img i in
      let y = unshared.flatten_rule img i in
      omega (arith, fewer-in is, s.rows, s.bodies, length-append x.bodies x.rows, length-append y.bodies y.rows)

  every_in : (is : List ℕ) → steps_in (Unshared is) ≡ every_copy_in (Shared is)
  every_in [] = refl
  every_in (i ∷ is) =
      let s = rule-same img i in
      let y = unshared.flatten_rule img i in
      omega (arith, every_in is, s.counted, ap every_copy s.steps, length-append y.bodies y.rows)

  taken_in_lem : (is : List ℕ) → taken_in (Shared is) ≡ taken_in (Unshared is)
  taken_in_lem [] = refl
  taken_in_lem (i ∷ is) = ap₂ ◌+◌ (rule-same img i).taken (taken_in_lem is)

  lists-in : (is : List ℕ) → map (λ (f : Flattened). f.steps) (Shared is) ≡ map (λ (f : Flattened). f.steps) (Unshared is)
  lists-in [] = refl
  lists-in (i ∷ is) = ap₂ (λ (x : List FlatStep) xs. x ∷ xs) (rule-same img i).steps (lists-in is)

  fewer : steps_in (flatten_rules img) ≤ steps_in (unshared.flatten_rules img)
  unfolding flatten_rules unshared.flatten_rules
  fewer = fewer-in (rule_indices img)

  every-copy : steps_in (unshared.flatten_rules img) ≡ every_copy_in (flatten_rules img)
  unfolding flatten_rules unshared.flatten_rules
  every-copy = every_in (rule_indices img)

  taken : taken_in (flatten_rules img) ≡ taken_in (unshared.flatten_rules img)
  unfolding flatten_rules unshared.flatten_rules
  taken = taken_in_lem (rule_indices img)

  -- the sets are one
  pub set_same : set_of img (flatten_rules img) ≡ set_of img (unshared.flatten_rules img)
  unfolding set_of flatten_rules unshared.flatten_rules
  set_same = ap (λ (xs : List (List FlatStep)). record { image = img; flat = xs }) (lists-in (rule_indices img))

  -- 16 refuses no image that it did not refuse
  sixteen : too_many_steps (unshared.flatten_rules img) ≡ false → too_many_steps (flatten_rules img) ≡ false
  unfolding too_many_steps
  sixteen h =
      let b = or_parts (ltb 2048 (steps_in (unshared.flatten_rules img))) (ltb 65536 (taken_in (unshared.flatten_rules img))) h in
      let l = ltb-false 2048 (steps_in (unshared.flatten_rules img)) b.0 in
      rw (le-ltb 2048 (steps_in (flatten_rules img)) (omega (arith, l, fewer)), taken, b.1)

-- a verdict that is not 16: the checks before 16 gave it, or 16 passed
checked : (b : Bool) (n r s : ℕ) → (eqb r 16 ≡ false → s ≡ r) → eqb (unless b n r) 16 ≡ false → unless b n s ≡ unless b n r
checked true n r s h e = h e
checked false n r s h e = refl

passed : (a b : Bool) (r : ℕ) → (a ≡ false → b ≡ false) → eqb (unless (not a) 16 r) 16 ≡ false → unless (not b) 16 r ≡ unless (not a) 16 r
passed true b r h e = absurd (false≢true (sym e))
passed false b r h e = rw (h refl)

as_before : (img : List ℕ) → eqb (refusal_before img) 16 ≡ false → image_refusal img ≡ refusal_before img
unfolding refusal_before image_refusal image_refusal_with tables_refusal
as_before img =
    checked (image_sized img) 10 _ _
    (checked (limits_fit img) 11 _ _
    (checked (places_fit img) 12 _ _
    (checked (tables_pass img false) 13 _ _
    (checked (tables_pass img true) 14 _ _
    (checked (names_differ img) 15 _ _
    (passed (too_many_steps (unshared.flatten_rules img)) (too_many_steps (flatten_rules img)) (unless (few_enough img) 17 0) (sixteen img)))))))

pub shared-count : (img : List ℕ) → SharedCount img
shared-count img =
    record {
      fewer = fewer img;
      every-copy = every-copy img;
      taken = taken img;
      as_before = as_before img;
      loads = λ e. as_before img (ap (λ n. eqb n 16) e) ∙ e;
    }

-- THEOREM 2 -------------------------------------------------------------------------------------------------------------------------
-- a load with the unshared set
load_same : (n t : ℕ) (img : List ℕ) (s : Store) → loading n t img (flatten_rules img) s ≡ loading n t img (unshared.flatten_rules img) s
load_same zero t img s = rw (set_same img)
load_same (suc n) t img s = refl

call-unshared : (c : Call) (s : Store) → call c s ≡ call_with load_unshared c s
unfolding call call_with call_load load_unshared image_refusal
call-unshared (new t) s = refl
call-unshared (load t img) s = load_same (image_refusal_with img (flatten_rules img)) t img s
call-unshared (unload t) s = refl
call-unshared (enable rule on) s = refl
call-unshared (tick snap os es) s = refl
call-unshared (run rule dry snap os es) s = refl
call-unshared deadline s = refl
call-unshared counters s = refl

answers-unshared : (s : Store) (cs : List Call) → answers s cs ≡ answers_with load_unshared s cs
unfolding answers answers_with
answers-unshared s [] = refl
answers-unshared s (c ∷ cs) =
    let e = call-unshared c s in
    ap₂ ◌∷◌ (ap (λ (d : Done). d.answer) e) (answers-unshared (call c s).store cs ∙ ap (λ (d : Done). answers_with load_unshared d.store cs) e)

-- where 16 did not refuse, load is as it was
not-sixteen : (n : ℕ) → not (eqb n 16) ≡ true → eqb n 16 ≡ false
not-sixteen n h = not-true (eqb n 16) h

load-before : (t : ℕ) (img : List ℕ) (s : Store) → eqb (refusal_before img) 16 ≡ false → load_unshared t img s ≡ load_before t img s
unfolding load_unshared load_before
load-before t img s h = ap (λ n. loading n t img (unshared.flatten_rules img) s) (as_before img h)

call-before : (c : Call) (s : Store) → not_sixteen c ≡ true → call c s ≡ call_with load_before c s
unfolding call_with
call-before (new t) s h = refl
call-before (load t img) s h = call-unshared (load t img) s ∙ load-before t img s (not-sixteen (refusal_before img) h)
call-before (unload t) s h = refl
call-before (enable rule on) s h = refl
call-before (tick snap os es) s h = refl
call-before (run rule dry snap os es) s h = refl
call-before deadline s h = refl
call-before counters s h = refl

answers-before : (s : Store) (cs : List Call) → all not_sixteen cs ≡ true → answers s cs ≡ answers_with load_before s cs
unfolding answers answers_with
answers-before s [] h = refl
answers-before s (c ∷ cs) h =
    let e = call-before c s (and_l (not_sixteen c) _ h) in
    ap₂ ◌∷◌ (ap (λ (d : Done). d.answer) e)
    (answers-before (call c s).store cs (and_r (not_sixteen c) _ h) ∙ ap (λ (d : Done). answers_with load_before d.store cs) e)

-- a new store in words
on-words : (t : ℕ) (cs : List Call) → all in_words (new t ∷ cs) ≡ true → answers_on (write (fresh t)) cs ≡ answers (fresh t) cs
unfolding in_words
on-words t cs h =
    (on-readable (write (fresh t)) (fresh t) cs (and_r (ltb t (2 ^ 64)) _ h) (read-write (fresh t) (fresh_keeps t (ltb-true t (2 ^ 64) (and_l (ltb t (2 ^ 64)) _ h))))).answers

pub shared-answers : (t : ℕ) (cs : List Call) → SharedAnswers t cs
shared-answers t cs =
    record {
      unshared = answers-unshared (fresh t) cs;
      as_before = answers-before (fresh t) cs;
      on-words = λ h. on-words t cs h ∙ answers-unshared (fresh t) cs;
    }
