-- Starts in lent words.
use Rattle.std.specs.Prelude.{ℕ, ◌+◌, ◌*◌, List, [], ◌∷◌}
use Rattle.std.proofs.lemmas.List.Edits.{sets}

-- written one behind the other from place n on
abbrev pub written : List ℕ → ℕ → List (List ℕ) → List ℕ
written w n [] = w
written w n (x ∷ xs) = written (sets w (3 * n) x) (n + 1) xs
