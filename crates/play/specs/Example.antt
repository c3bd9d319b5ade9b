-- Document 01's example as a script: rule 5 (B 8: Log 7, Wait 1000, Log 9), a wet run at 0, ticks at 999 and 1000; and the lines that it prints: the theorem `example` of
-- proofs/Example.antt.
use Rattle.std.specs.Prelude.{ℕ, List, replicate}
use Rattle.model.specs.Calls.{new}
use Rattle.model.specs.Text.{bytes_of}
use Rattle.play.specs.Playing.{Room, Play, calling, begins}

-- the buffers of `main`
unfoldable pub room : Room
room = record { line = 262144; list = 8192; outcomes = 24576; effects = 327680 }

unfoldable pub start : Play
start = begins (calling 16384 (new 0) (replicate 16385 0)).store

unfoldable pub new_line : List ℕ
new_line = bytes_of "new 0\n"

unfoldable pub load_line : List ℕ
load_line =
    bytes_of "load 0  5 1 0 0  0 0  0 0  0 3  0 0 0 0 0 0  21 7 0 0 0 0 0 0  23 1000 0 0 0 0 0 0  21 9 0 0 0 0 0 0  8 0 1 0 0  0 16 16 16 16 40 40 40\n"

unfoldable pub run_lines : List ℕ
run_lines =
    bytes_of "run 5 0  0 0  0 0 0  0 0 0  1  0 0 0 0 0\ntick 999 0  0 0 0  0 0 0  1  0 0 0 0 0\ntick 1000 0  0 0 0  0 0 0  1  0 0 0 0 0\n"

unfoldable pub printed_lines : List ℕ
printed_lines =
    bytes_of "run 0 1\nrule 5 0 0 0 1\neffect 11 7 0 0 0\ntick 999 0\ntick 1000 1\nrule 5 0 0 0 1\neffect 11 9 0 0 0\n"
