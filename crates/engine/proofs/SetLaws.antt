-- What load and unload leave of the parts that calls change. Assumes nothing.
use mathlib.Core.Path.{◌≡◌, refl, sym, ap, subst, ◌∙◌}
use mathlib.Core.Bool.{Bool, true, false}
use mathlib.Core.List.{List, [], ◌∷◌, ◌++◌, map, append-nil, append_assoc}
use Rattle.std.specs.Prelude.{Option, None}
use Prim.Native.Nat.{ℕ, zero, suc, ◌+◌, ◌-◌, ◌≤◌, ◌<◌}
use native.Mathlib.Nat.{add-zero, zero-add}
use native.Mathlib.Omega.{arith}
use lib.ListN.{length, set, replicate, length-map}
use Rattle.model.specs.Image.{size_of, few_enough}
use Rattle.model.specs.Rows.{rules}
use Rattle.model.specs.Load.{image_refusal}
use Rattle.model.specs.Flat.{flatten_rules}
use Rattle.model.specs.Lists.{up_from}
use Rattle.model.proofs.ListLaws.{length-up_from}
use Rattle.model.specs.declared.EverySlot.{EverySlot}
use Rattle.model.specs.State as model
use Rattle.model.specs.State.{Rest, Store, with_rest, with_enabled, with_last_activation, with_cycle_pos, with_every, bump_by}
use Rattle.model.specs.Rules.{enabled_of}
use Rattle.model.specs.Slots.{rebuild_every}
use Rattle.model.specs.Calls.{rest_with, rest_without}
use Rattle.image.specs.Accepted.{Accepted}
use Rattle.image.specs.Sized.{Sized}
use Rattle.image.proofs.Accepted.{tables-accepted, few-accepted, rules-few, accepted, sized}
use Rattle.state.specs.Meaning.{Sound, AllNumbered, Means, meaning, base}
use Rattle.state.specs.Named.{unset_rules}
use Rattle.state.specs.Pending.{emptied}
use Rattle.state.proofs.Follows.{follows}
use Rattle.engine.specs.Sets.{cleared, activation_of, position_of, rule_of, rules_of}
use Rattle.engine.proofs.CallLaws.{same_numbers, next-is}

-- an image that load accepts
pub record Loadable (img : List ℕ) : Type 0 where
  pub sized : Sized img
  pub accepted : Accepted img
  pub few : size_of img rules ≤ 64
  pub few_enough : few_enough img ≡ true

pub loadable : (img : List ℕ) → image_refusal img ≡ 0 → Loadable img
unfolding image_refusal
loadable img e =
    let t = tables-accepted img (flatten_rules img) e in
    record { sized = sized img t; accepted = accepted img t; few = rules-few img (few-accepted img (flatten_rules img) e); few_enough = few-accepted img (flatten_rules img) e }

-- THE RULES, ONE BY ONE -----------------------------------------------------------------------------------------------------------------------
-- of n rules the first i are set: f of each; d stands at the others
abbrev so_far : {A : Type 0} → (ℕ → A) → A → ℕ → ℕ → List A
so_far f d n i = map f (up_from 0 i) ++ replicate (n - i) d

map-up : {B : Type 0} (f : ℕ → B) (k n : ℕ) → map f (up_from k (suc n)) ≡ map f (up_from k n) ++ (f (k + n) ∷ [])
map-up f k zero = ap (λ (m : ℕ). f m ∷ []) (sym (add-zero k))
map-up {B = B} f k (suc n) =
    let e : suc k + n ≡ k + suc n = omega arith in
    ap (λ (l : List B). f k ∷ l) (map-up f (suc k) n ∙ ap (λ (m : ℕ). map f (up_from (suc k) n) ++ (f m ∷ [])) e)

module _ {A : Type 0} (f : ℕ → A) (d : A) (n : ℕ) where
  none-set : replicate n d ≡ so_far f d n 0
  none-set = let e : n ≡ n - 0 = omega arith in ap (λ (k : ℕ). replicate k d) e

  all_set : (i : ℕ) → i ≤ n → n ≤ i → so_far f d n i ≡ map f (up_from 0 n)
  all_set i h l =
      let e : i ≡ n = omega arith in
      let z : n - i ≡ 0 = omega arith in
      (λ j. map f (up_from 0 (e j)) ++ replicate (z j) d) ∙ append-nil (map f (up_from 0 n))

  one_set : (i : ℕ) → i < n → set (so_far f d n i) i (f i) ≡ so_far f d n (i + 1)
  one_set i h =
      let l : length (map f (up_from 0 i)) ≡ i = length-map (up_from 0 i) f ∙ length-up_from 0 i in
      let z : i ≡ length (map f (up_from 0 i)) + 0 = omega arith in
      let k : n - i ≡ suc (n - (i + 1)) = omega arith in
      let m : i + 1 ≡ suc i = omega arith in
      ap (λ (x : ℕ). set (map f (up_from 0 i) ++ replicate x d) i (f i)) k
      ∙ set-behind (map f (up_from 0 i)) d (replicate (n - (i + 1)) d) i (f i) l
      ∙ sym (ap (λ (x : ℕ). map f (up_from 0 x) ++ replicate (n - (i + 1)) d) m ∙ ap (λ (x : List A). x ++ replicate (n - (i + 1)) d) (map-up f 0 i) ∙ append_assoc (map f (up_from 0 i)) (f (0 + i) ∷ []) (replicate (n - (i + 1)) d) ∙ ap (λ (x : ℕ). map f (up_from 0 i) ++ (f x ∷ replicate (n - (i + 1)) d)) (zero-add i))
    where
      set-behind : (xs : List A) (x : A) (ys : List A) (k : ℕ) (y : A) → length xs ≡ k → set (xs ++ (x ∷ ys)) k y ≡ xs ++ (y ∷ ys)
      set-behind [] x ys zero y e = refl
      set-behind [] x ys (suc k) y e = absurd (omega arith)
      set-behind (a ∷ xs) x ys zero y e = absurd (omega arith)
      set-behind (a ∷ xs) x ys (suc k) y e = ap (λ (l : List A). a ∷ l) (set-behind xs x ys k y (omega arith))

module _ (img : List ℕ) (s : Store) (n : ℕ) where
  -- the first i of n rules are set
  unfoldable pub rules_to : ℕ → Rest → Rest
  rules_to i r =
      with_enabled (so_far (enabled_of img) false n i)
      (with_last_activation (so_far (activation_of img s) None n i) (with_cycle_pos (so_far (position_of img s) None n i) r))

  -- from words v of which no rule is set yet
  module _ (v : List ℕ) where
    abbrev said : Rest → model.Volatile
    said r = with_rest r (meaning v)

    pub rules-begin : (e : List ℕ) → Means v (base e) (with_rest (unset_rules n (meaning e).rest) (meaning e)) → Means v (base v) (said (rules_to 0 (meaning v).rest))
    unfolding rules_to
    rules-begin e h =
        let m = meaning e in
        let same : with_rest (unset_rules n m.rest) m ≡ with_rest (rules_to 0 (unset_rules n m.rest)) m =
        λ i. with_rest (with_enabled (none-set (enabled_of img) false n i) (with_last_activation (none-set (activation_of img s) None n i) (with_cycle_pos (none-set (position_of img s) None n i) m.rest))) m in
        record { says = subst (λ (x : model.Volatile). x ≡ with_rest (rules_to 0 x.rest) x) (sym h.says) same; based = refl }

    pub rules-go : (u w : List ℕ) (i : ℕ) → i < n → Means u (base v) (said (rules_to i (meaning v).rest))
        → Means w (base u) (with_rest (rule_of img s i (meaning u).rest) (meaning u)) → Means w (base v) (said (rules_to (i + 1) (meaning v).rest))
    unfolding rules_to rule_of
    rules-go u w i h a b =
        subst (Means w (base v))
        (λ j. said (with_enabled (one_set (enabled_of img) false n i h j) (with_last_activation (one_set (activation_of img s) None n i h j) (with_cycle_pos (one_set (position_of img s) None n i h j) (meaning v).rest))))
        (follows (λ (m : model.Volatile). with_rest (rule_of img s i m.rest) m) u w (base v) (said (rules_to i (meaning v).rest)) a b)

    pub rules-end : (e u : List ℕ) (i : ℕ) → i ≤ n → n ≤ i → n ≡ size_of img rules → Means v (base e) (with_rest (unset_rules n (meaning e).rest) (meaning e))
        → Means u (base v) (said (rules_to i (meaning v).rest)) → Means u (base e) (with_rest (rules_of img s (meaning e).rest) (meaning e))
    unfolding rules_to rules_of
    rules-end e u i h l q a b =
        let bits = all_set (enabled_of img) false n i h l ∙ ap (λ (k : ℕ). map (enabled_of img) (up_from 0 k)) q in
        let activations = all_set (activation_of img s) None n i h l ∙ ap (λ (k : ℕ). map (activation_of img s) (up_from 0 k)) q in
        let positions = all_set (position_of img s) None n i h l ∙ ap (λ (k : ℕ). map (position_of img s) (up_from 0 k)) q in
        let c : Means u (base v) (said (rules_of img s (meaning v).rest)) =
        subst (Means u (base v)) (λ j. said (with_enabled (bits j) (with_last_activation (activations j) (with_cycle_pos (positions j) (meaning v).rest)))) b in
        follows (λ (m : model.Volatile). with_rest (rules_of img s m.rest) m) v u (base e) _ a c

-- one rule: its bit, its last activation, its cycle position
pub rule-put : (img : List ℕ) (s : Store) (i : ℕ) (v v₁ v₂ v₃ : List ℕ) (on : Bool) (a p : Option ℕ) → on ≡ enabled_of img i → a ≡ activation_of img s i → p ≡ position_of img s i
    → Means v₁ (base v) (with_rest (with_enabled (set (meaning v).rest.enabled i on) (meaning v).rest) (meaning v))
    → Means v₂ (base v₁) (with_rest (with_last_activation (set (meaning v₁).rest.last_activation i a) (meaning v₁).rest) (meaning v₁))
    → Means v₃ (base v₂) (with_rest (with_cycle_pos (set (meaning v₂).rest.cycle_pos i p) (meaning v₂).rest) (meaning v₂))
    → Means v₃ (base v) (with_rest (rule_of img s i (meaning v).rest) (meaning v))
unfolding rule_of
rule-put img s i v v₁ v₂ v₃ on a p e f g m₁ m₂ m₃ =
    let k = follows (λ (m : model.Volatile). with_rest (with_last_activation (set m.rest.last_activation i a) m.rest) m) v₁ v₂ (base v) _ m₁ m₂ in
    let l = follows (λ (m : model.Volatile). with_rest (with_cycle_pos (set m.rest.cycle_pos i p) m.rest) m) v₂ v₃ (base v) _ k m₃ in
    subst (Means v₃ (base v))
    (λ j. with_rest (with_enabled (set (meaning v).rest.enabled i (e j)) (with_last_activation (set (meaning v).rest.last_activation i (f j)) (with_cycle_pos (set (meaning v).rest.cycle_pos i (g j)) (meaning v).rest))) (meaning v)) l

-- THE WHOLE ---------------------------------------------------------------------------------------------------------------------------------------
pub set-taken : (img : List ℕ) (t : ℕ) (s : Store) (v v₁ v₂ v₃ : List ℕ) (old : List EverySlot) → Sound v₃ → AllNumbered v (meaning v) → s.vol ≡ meaning v
    → old ≡ (meaning v).rest.every
    → Means v₁ (base v) (with_rest (with_every (rebuild_every img old t) (meaning v).rest) (meaning v)) → Means v₂ (base v₁) (emptied (meaning v₁))
    → Means v₃ (base v₂) (with_rest (rules_of img s (meaning v₂).rest) (meaning v₂)) → AllNumbered v₃ (cleared (rest_with img t s) s.vol)
unfolding rules_of rest_with bump_by
set-taken img t s v v₁ v₂ v₃ old y n q o m₁ m₂ m₃ =
    let k = follows emptied v₁ v₂ (base v) _ m₁ m₂ in
    let l = follows (λ (m : model.Volatile). with_rest (rules_of img s m.rest) m) v₂ v₃ (base v) _ k m₃ in
    let z : model.Volatile → List EverySlot → model.Volatile = λ (m : model.Volatile) (x : List EverySlot). with_rest (rules_of img s (emptied (with_rest (with_every (rebuild_every img x t) m.rest) m)).rest) (emptied (with_rest (with_every (rebuild_every img x t) m.rest) m)) in
    let r : Means v₃ (base v) (cleared (rest_with img t s) s.vol) = subst (Means v₃ (base v)) (ap (z (meaning v)) o ∙ ap (λ (m : model.Volatile). z m m.rest.every) (sym q)) l in
    same_numbers v₃ (base v) (cleared (rest_with img t s) s.vol) y r (ap (λ (m : model.Volatile). m.next) q ∙ next-is v (meaning v) n) (omega (arith, ap (λ (m : model.Volatile). m.last_number) q, n.last_fits))

pub set-left : (s : Store) (v v₁ v₂ v₃ : List ℕ) → Sound v₃ → AllNumbered v (meaning v) → s.vol ≡ meaning v
    → Means v₁ (base v) (emptied (meaning v)) → Means v₂ (base v₁) (with_rest (with_every [] (meaning v₁).rest) (meaning v₁))
    → Means v₃ (base v₂) (with_rest (unset_rules 0 (meaning v₂).rest) (meaning v₂)) → AllNumbered v₃ (cleared (rest_without s) s.vol)
unfolding rest_without bump_by
set-left s v v₁ v₂ v₃ y n q m₁ m₂ m₃ =
    let k = follows (λ (m : model.Volatile). with_rest (with_every [] m.rest) m) v₁ v₂ (base v) _ m₁ m₂ in
    let l = follows (λ (m : model.Volatile). with_rest (unset_rules 0 m.rest) m) v₂ v₃ (base v) _ k m₃ in
    let z : model.Volatile → model.Volatile = λ (m : model.Volatile). with_rest (unset_rules 0 (with_every [] (emptied m).rest)) (emptied m) in
    let r : Means v₃ (base v) (cleared (rest_without s) s.vol) = subst (Means v₃ (base v)) (ap z (sym q)) l in
    same_numbers v₃ (base v) (cleared (rest_without s) s.vol) y r (ap (λ (m : model.Volatile). m.next) q ∙ next-is v (meaning v) n) (omega (arith, ap (λ (m : model.Volatile). m.last_number) q, n.last_fits))
