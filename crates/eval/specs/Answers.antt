-- The environment that evaluation sees.
use Rattle.std.specs.Prelude.{ℕ, List}
use Rattle.model.specs.Flat.{flatten_rules, set_of}
use Rattle.model.specs.World.{world_of}
use Rattle.model.specs.State.{Env}
use Rattle.model.specs.Steps.{FlatStep}

-- a snapshot and a loaded image. Evaluation reads no flat steps: the contracts hold for any
abbrev pub env_of : List ℕ → List ℕ → List (List FlatStep) → Env
env_of snapshot image flat = record { world = world_of snapshot; set = record { image = image; flat = flat } }

-- the snapshot, and the set of the image
unfoldable pub env_in : List ℕ → List ℕ → Env
env_in snapshot image = record { world = world_of snapshot; set = set_of image (flatten_rules image) }
