-- (a): an image that load accepts, and whose tree has at most 4,096 words, is written as words that load accepts.
use mathlib.Core.Path.{◌≡◌, refl, sym, ap, ◌∙◌}
use mathlib.Core.Bool.{Bool, true, false, not}
use mathlib.Core.List.{List}
use Prim.Native.Nat.{ℕ, ◌<◌, ◌≤◌}
use Rattle.model.specs.Image.{size_of, image_sized, limits_fit, places_fit, tables_pass, names_differ, few_enough}
use Rattle.model.specs.Flat.{flatten_rules, too_many_steps}
use Rattle.model.specs.Load.{tables_refusal, image_refusal_with, image_refusal}
use Rattle.model.proofs.Bools.{not-refused}
use Rattle.flat.specs.Load.{Checked}
use Rattle.model.specs.Tree.{tree_of, tree_size, words_of}
use Rattle.rewrite.proofs.Theorems as theorems
use Rattle.rewrite.proofs.Placed.{out-sized, out-limits, out-places}
use Rattle.rewrite.proofs.Kept.{out-names, out-few}
use Rattle.rewrite.proofs.AcceptedRange.{Fits, record-fits}
use Rattle.rewrite.proofs.AcceptedTables.{out-passes}
use Rattle.rewrite.proofs.AcceptedSteps.{few-actions, steps-follow, too_many_in}

-- every check of load passes
record Passes (img : List ℕ) : Type 0 where
  sized : image_sized img ≡ true
  limited : limits_fit img ≡ true
  placed : places_fit img ≡ true
  ranged : tables_pass img false ≡ true
  linked : tables_pass img true ≡ true
  named : names_differ img ≡ true
  short : not (too_many_steps (flatten_rules img)) ≡ true
  few : few_enough img ≡ true

passes : (img : List ℕ) → image_refusal img ≡ 0 → Passes img
unfolding image_refusal image_refusal_with tables_refusal
passes img e =
    let (a, r) = not-refused (image_sized img) 9 _ e in
    let (b, s) = not-refused (limits_fit img) 10 _ r in
    let (c, t) = not-refused (places_fit img) 11 _ s in
    let (d, u) = not-refused (tables_pass img false) 12 _ t in
    let (f, v) = not-refused (tables_pass img true) 13 _ u in
    let (g, w) = not-refused (names_differ img) 14 _ v in
    let (h, x) = not-refused (not (too_many_steps (flatten_rules img))) 15 _ w in
    let (i, _) = not-refused (few_enough img) 16 _ x in
    record { sized = a; limited = b; placed = c; ranged = d; linked = f; named = g; short = h; few = i }

not-refuses : (img : List ℕ) → Passes img → image_refusal img ≡ 0
unfolding image_refusal image_refusal_with tables_refusal
not-refuses img p = rw (p.sized, p.limited, p.placed, p.ranged, p.linked, p.named, p.short, p.few) refl

checked : (img : List ℕ) → Passes img → Checked img
checked img p = record { sized = p.sized; limited = p.limited; placed = p.placed; linked = p.linked }

fit : (img : List ℕ) → Passes img → (t i : ℕ) → t < 8 → i < size_of img t → Fits img t i
fit img p t i a b = record-fits img p.ranged p.linked t i a b

module _ (img : List ℕ) (accepted : image_refusal img ≡ 0) (small : tree_size (tree_of img) ≤ 4096) where
  abbrev out : List ℕ
  out = theorems.out img

  before : Passes img
  before = passes img accepted

  tables-pass : (links : Bool) → tables_pass out links ≡ true
  tables-pass = out-passes img (few-actions img (checked img before) (fit img before)) (fit img before)

  out-checked : Checked out
  out-checked =
      record { sized = out-sized img small; limited = out-limits img ∙ before.limited; placed = out-places img; linked = tables-pass true }

  same-tree : tree_of out ≡ tree_of img
  same-tree = ap tree_of (sym (theorems.words-are img)) ∙ theorems.tree-kept img

  -- 16
  out-short : too_many_steps (flatten_rules out) ≡ too_many_steps (flatten_rules img)
  out-short =
      steps-follow out out-checked (λ t i a b. record-fits out (tables-pass false) (tables-pass true) t i a b)
      ∙ ap too_many_in same-tree ∙ sym (steps-follow img (checked img before) (fit img before))

  after : Passes out
  after =
      record {
        sized = out-checked.sized;
        limited = out-checked.limited;
        placed = out-checked.placed;
        ranged = tables-pass false;
        linked = tables-pass true;
        named = out-names img ∙ before.named;
        short = ap not out-short ∙ before.short;
        few = out-few img ∙ before.few;
      }

  -- (a)
  pub out-accepted : image_refusal (words_of (tree_of img)) ≡ 0
  out-accepted = ap image_refusal (theorems.words-are img) ∙ not-refuses out after
