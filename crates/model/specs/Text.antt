-- Texts as bytes.
use Rattle.std.specs.Prelude.{ℕ, List, [], ◌∷◌}
use Prim.Native.Char.{code}
use Prim.Native.String as string
use Prim.Native.String.{String}

abbrev pub bytes_of : String → List ℕ
bytes_of string.[] = []
bytes_of (string.◌∷◌ c s) = code c ∷ bytes_of s
