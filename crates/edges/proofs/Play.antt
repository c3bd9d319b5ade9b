-- The `play` example on words.
use mathlib.Core.Path.{◌≡◌, refl}
use lib.ListN.{replicate}
use Rattle.edges.specs.Play.{history_on, play_calls, play_answers, rows}
use Rattle.edges.proofs.Definitions.{definitions}

pub play : history_on (replicate 16384 4294967295) play_calls ≡ play_answers
unfolding definitions rows
play = refl
