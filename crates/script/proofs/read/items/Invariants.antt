-- `script::read::items` meets its contract. Assumes nothing.
use Rattle.script.specs.Words.{words_of}
use Rattle.script.specs.Script.{list_from}
use Rattle.script.proofs.Reading.{Filled}
use Rattle.script.proofs.read.items.Given as goal

abbrev pub invariant-loop-n : goal.invariant-loop-n
invariant-loop-n l = Filled (list_from l.call l.room 0 (words_of l.text)) (list_from l.call l.room l.n (words_of l.left)) l.initial.list l.list l.n
