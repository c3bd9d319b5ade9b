-- The flat steps of a loaded set's rules, as the runner asks for them. Assumes nothing.
use Prim.Native.Nat.{ℕ, zero, suc, ◌+◌, ◌≤◌, ◌<◌}
use native.Mathlib.Omega.{arith}
use mathlib.Core.Path.{◌≡◌, refl, ap, ◌∙◌}
use mathlib.Core.Bool.{true, false}
use mathlib.Core.List.{List, [], ◌∷◌, map}
use lib.ListN.{length, get_or, length-append}
use Rattle.model.specs.Flat.{Flattened, no_steps, flatten_rule, flatten_rules, list_in, part_of, too_many_steps}
use Rattle.model.specs.Image.{call_depth, size_of}
use Rattle.model.specs.Rows.{rules}
use Rattle.model.specs.Lists.{all, flatten}
use Rattle.model.specs.Load.{image_refusal}
use Rattle.model.specs.Rules.{rule_indices}
use Rattle.image.proofs.Accepted.{steps-accepted, call-depth-fits}
use Rattle.flat.specs.Load.{stored}
use Rattle.flat.specs.Words.{layout, Says}
use Rattle.flat.proofs.Counts.{rule-counted, rule-short-bodies, longer, few-stored}
use Rattle.flat.proofs.RuleSays.{part_says, rule-says}
use Rattle.flat.proofs.Words.{layout-length}
use Rattle.flat.proofs.FlatPart.{rules-length}
use Rattle.store.specs.FlatPart.{FlatPart, KeepsRule}
use Rattle.store.proofs.SetRules.{image-accepted}
use Rattle.flat.specs.Near.{is_near, NearLists}
use Rattle.flat.proofs.NearSteps.{rule-near}
use Rattle.flat.proofs.Decoded.{said}

-- a rule of the set, or past the last one a rule without steps
module _ (p : Flattened → Type 0) (None : p no_steps) where
  one_of : (f : ℕ → Flattened) → ((j : ℕ) → p (f j)) → (js : List ℕ) (i : ℕ) → p (get_or (map f js) i no_steps)
  one_of f h [] i = None
  one_of f h (j ∷ js) zero = h j
  one_of f h (j ∷ js) (suc i) = one_of f h js i

  each-rule : (img : List ℕ) → ((j : ℕ) → p (flatten_rule img j)) → (i : ℕ) → p (get_or (flatten_rules img) i no_steps)
  unfolding flatten_rules
  each-rule img h i = one_of (flatten_rule img) h (rule_indices img) i

none-near : (n : ℕ) → all is_near (list_in [] n) ≡ true
unfolding list_in
none-near zero = refl
none-near (suc p) = refl

one-stored : (fs : List Flattened) (i : ℕ) → length (part_of (get_or fs i no_steps)) ≤ length (stored fs)
unfolding stored
one-stored [] i = omega arith
one-stored (f ∷ fs) zero = omega (arith, length-append (part_of f) (flatten (map part_of fs)))
one-stored (f ∷ fs) (suc i) = omega (arith, length-append (part_of f) (flatten (map part_of fs)), one-stored fs i)

module _ (img : List ℕ) (ok : image_refusal img ≡ 0) where
  not-many : too_many_steps (flatten_rules img) ≡ false
  unfolding image_refusal
  not-many = steps-accepted img (flatten_rules img) ok

  abbrev rule : ℕ → Flattened
  rule i = get_or (flatten_rules img) i no_steps

  part-says-lists : (i : ℕ) → Says (layout (part_of (rule i))) (length (rule i).bodies) (rule i).steps
  part-says-lists = each-rule (λ f. Says (layout (part_of f)) (length f.bodies) f.steps) (part_says [] [] [] tt) img (rule-says img)

  -- no list passes 256 + D + 4 steps
  rule-lists-near : (j n : ℕ) → all is_near (list_in (flatten_rule img j).steps n) ≡ true
  rule-lists-near j n =
      let d = call-depth-fits img (image-accepted img ok).passes in
      rule-near img j 2048 (omega (arith, d, rule-counted img j)) (longer (256 + call_depth img + 4) 2048 (flatten_rule img j).steps (omega (arith, d)) (rule-short-bodies img j)) n

  lists-near : (i n : ℕ) → all is_near (list_in (rule i).steps n) ≡ true
  lists-near i n = each-rule (λ f. all is_near (list_in f.steps n) ≡ true) (none-near n) img (λ j. rule-lists-near j n) i

  -- what a `FlatRule` keeps of a rule's part; a place past the last rule has none
  rule-words : (i : ℕ) → NearLists (layout (part_of (rule i))) (length (rule i).bodies)
  rule-words i =
      record {
        few = omega (arith, layout-length (part_of (rule i)), one-stored (flatten_rules img) i, few-stored img not-many);
        near = λ n. ap (all is_near) (said (layout (part_of (rule i))) (length (rule i).bodies) (rule i).steps (part-says-lists i) n) ∙ lists-near i n;
      }

  pub near-part : (i : ℕ) (part : List ℕ) (own : ℕ) → part ≡ layout (part_of (rule i)) → own ≡ length (rule i).bodies → NearLists part own
  near-part i part own e f = rw (e, f) (rule-words i)

-- a rule of an accepted image that the store keeps
pub keeps-rule : (w img : List ℕ) → image_refusal img ≡ 0 → FlatPart w (flatten_rules img) → (i : ℕ) → i < size_of img rules → KeepsRule w i
keeps-rule w img ok p i h = record { image = img; accepted = ok; flat = p; inside = omega (arith, h, rules-length img) }
