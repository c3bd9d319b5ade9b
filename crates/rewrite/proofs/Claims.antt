-- Request 11 of document 02: what is written for an image that load accepts, and that is not refused with 40. Assumes nothing.
use mathlib.Core.Path.{◌≡◌, refl, sym, ap, ap₂, ◌∙◌}
use mathlib.Core.List.{List, [], ◌∷◌}
use Prim.Native.Nat.{ℕ, zero, suc, ◌≤◌}
use lib.Dec.{leb}
use Rattle.model.specs.Field.{unless}
use Rattle.model.specs.Answers.{lent}
use Rattle.model.specs.Load.{image_refusal}
use Rattle.model.specs.Tree.{Tree, tree_of, tree_size, words_of}
use Rattle.model.specs.Rewrite.{room_refusal, first_refusal, rewrite_refusal, written, rewritten}
use Rattle.rewrite.proofs.Theorems.{tree-kept, words-kept, same-tree, same-words}
use Rattle.rewrite.proofs.Accepted.{out-accepted}

-- "Two images that are both written get equal words exactly when they describe equal trees, trailer limits included"
pub equal-words : (a b : List ℕ) → (words_of (tree_of a) ≡ words_of (tree_of b) → tree_of a ≡ tree_of b) × (tree_of a ≡ tree_of b → words_of (tree_of a) ≡ words_of (tree_of b))
equal-words a b = (same-tree a b, same-words a b)

same-written : (room n : ℕ) (a b : List ℕ) → tree_of a ≡ tree_of b → written n a room ≡ written n b room
same-written room zero a b e = λ i. record { number = 0; values = tree_size (e i) ∷ []; lent = lent room (words_of (e i)) }
same-written room (suc n) a b e = refl

same-room : (room : ℕ) (a b : List ℕ) → tree_of a ≡ tree_of b → room_refusal a room ≡ room_refusal b room
unfolding room_refusal
same-room room a b e = ap (λ (t : Tree). unless (leb (tree_size t) 4096) 40 (unless (leb (tree_size t) room) 41 0)) e

-- equal trees of images that load accepts give one answer
pub same-answer : (a b : List ℕ) → image_refusal a ≡ image_refusal b → tree_of a ≡ tree_of b → (room : ℕ) → rewritten a room ≡ rewritten b room
unfolding rewritten rewrite_refusal
same-answer a b r e room =
    ap (λ n. written n a room) (ap₂ first_refusal r (same-room room a b e)) ∙ same-written room (rewrite_refusal b room) a b e

module _ (a : List ℕ) (accepted : image_refusal a ≡ 0) (small : tree_size (tree_of a) ≤ 4096) where
  -- load accepts the written image
  pub written-accepted : image_refusal (words_of (tree_of a)) ≡ 0
  written-accepted = out-accepted a accepted small

  -- it has the tree
  pub written-tree : tree_of (words_of (tree_of a)) ≡ tree_of a
  written-tree = tree-kept a

  -- "writing a written one changes nothing"
  pub written-again : words_of (tree_of (words_of (tree_of a))) ≡ words_of (tree_of a)
  written-again = words-kept a

  pub answered-again : (room : ℕ) → rewritten (words_of (tree_of a)) room ≡ rewritten a room
  answered-again room = same-answer (words_of (tree_of a)) a (written-accepted ∙ sym accepted) written-tree room
