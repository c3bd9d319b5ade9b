-- Effects as words: what lent words hold once effects are written into them.
use Rattle.std.specs.Prelude.{ℕ, suc, ◌+◌, ◌*◌, cond, List, [], ◌∷◌, leb, length, set}
use Rattle.model.specs.declared.Effect.{Effect}

-- effect n, where there is room for it
unfoldable pub put_effect : List ℕ → ℕ → Effect → List ℕ
put_effect w n x =
    cond (leb (n * 5 + 5) (length w))
    (set (set (set (set (set w (n * 5) x.kind) (n * 5 + 1) x.a) (n * 5 + 2) x.b) (n * 5 + 3) x.c) (n * 5 + 4) x.d)
    w

-- effects n, n + 1, ..
unfoldable pub put_effects : List ℕ → ℕ → List Effect → List ℕ
put_effects w n [] = w
put_effects w n (x ∷ xs) = put_effects (put_effect w n x) (suc n) xs
