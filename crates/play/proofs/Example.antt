-- Document 01's example, byte for byte: the definition of playing a script, computed. Assumes nothing.
use mathlib.Core.Path.{◌≡◌, refl}
use mathlib.Core.List.{◌++◌}
use Rattle.edges.proofs.Definitions.{definitions}
use Rattle.cerambiu.specs.Called.{called, lent_answer, answered}
use Rattle.model.specs.Digits.{is_digit, value_from}
use Rattle.decimal.specs.Numbers.{argument_of}
use Rattle.script.specs.Words.{past_space, past_word, past_words, words_of}
use Rattle.std.specs.Fmt.{digits}
use Rattle.script.specs.Table.{calls}
use Rattle.script.specs.Script.{behind_name, call_named, command, ending, list_from, numbers_from, parse, parse_call}
use Rattle.play.specs.Printed.{words_at}
use Rattle.play.specs.Playing.{byte_comes, bytes_come, calling, doing, line_ends, said, seen}
use Rattle.play.specs.Example.{room, start, new_line, load_line, run_lines, printed_lines}

pub example : (bytes_come room (new_line ++ load_line ++ run_lines) start).printed ≡ printed_lines
unfolding definitions called lent_answer answered argument_of is_digit past_space past_word past_words value_from words_of calls behind_name call_named command ending list_from numbers_from parse parse_call digits words_at byte_comes bytes_come calling doing line_ends said seen room start new_line load_line run_lines printed_lines
example = refl
