-- What load says of an image: document 01, "Who can cause a refusal", 10 to 17, the lowest first.
use Rattle.std.specs.Prelude.{ℕ, true, false, not, List}
use Rattle.model.specs.Field.{unless}
use Rattle.model.specs.Image.{image_sized, limits_fit, places_fit, tables_pass, names_differ, few_enough}
use Rattle.model.specs.Flat.{Flattened, flatten_rules, too_many_steps}

-- 10 to 15, else what the checks behind them say
unfoldable pub tables_refusal : List ℕ → ℕ → ℕ
tables_refusal img rest =
    unless (image_sized img) 10
    (unless (limits_fit img) 11
    (unless (places_fit img) 12
    (unless (tables_pass img false) 13
    (unless (tables_pass img true) 14
    (unless (names_differ img) 15
    rest)))))

-- 0 where no check fails; `fs` are the image's flat steps
unfoldable pub image_refusal_with : List ℕ → List Flattened → ℕ
image_refusal_with img fs = tables_refusal img (unless (not (too_many_steps fs)) 16 (unless (few_enough img) 17 0))

unfoldable pub image_refusal : List ℕ → ℕ
image_refusal img = image_refusal_with img (flatten_rules img)
