-- One image for one rule set: document 02, request 11. An accepted image written anew from its tree.
use Rattle.std.specs.Prelude.{ℕ, zero, suc, List, [], ◌∷◌, leb}
use Rattle.model.specs.Field.{unless}
use Rattle.model.specs.Answers.{lent}
use Rattle.model.specs.Load.{image_refusal}
use Rattle.model.specs.Tree.{tree_of, tree_size, words_of}
use Rattle.model.specs.Asked.{Asked, declined}

-- "40, the new image would exceed 4,096 words; 41, the lent store is shorter than the new image"
unfoldable pub room_refusal : List ℕ → ℕ → ℕ
room_refusal img room = unless (leb (tree_size (tree_of img)) 4096) 40 (unless (leb (tree_size (tree_of img)) room) 41 0)

-- "load's own numbers come first"
abbrev pub first_refusal : ℕ → ℕ → ℕ
first_refusal zero number = number
first_refusal (suc load) number = suc load

unfoldable pub rewrite_refusal : List ℕ → ℕ → ℕ
rewrite_refusal img room = first_refusal (image_refusal img) (room_refusal img room)

-- a refusal, 0 for none: "the lent store is then all zeros"; else the words of the tree, then zeros, and how many words they are
abbrev pub written : ℕ → List ℕ → ℕ → Asked
written zero img room = record { number = 0; values = tree_size (tree_of img) ∷ []; lent = lent room (words_of (tree_of img)) }
written (suc number) img room = declined room (suc number)

-- the image written anew into `room` lent words
unfoldable pub rewritten : List ℕ → ℕ → Asked
rewritten img room = written (rewrite_refusal img room) img room
