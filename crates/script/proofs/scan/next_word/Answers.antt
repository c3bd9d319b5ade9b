-- `script::scan::next_word` meets its contract. Assumes nothing.
use Rattle.std.proofs.Common.{◌≡◌, rules, length}
use Rattle.std.specs.Char.{is_ascii_whitespace}
use Rattle.script.proofs.Splits.{position_within, no_word, takes_word}
use Rattle.script.proofs.scan.next_word.Goals as goal

pub returns-then-is_empty : goal.returns-then-is_empty
returns-then-is_empty c = no_word c.args.text.now c.trim_ascii_start-text.result.now c.trim_ascii_start-text.ensures.value (search rules)

pub split_at-requires : goal.split_at-requires
split_at-requires c = rw c.word_len.ensures (position_within is_ascii_whitespace c.trim_ascii_start-text.result.now)

pub returns : goal.returns
returns c =
    let ne : length c.trim_ascii_start-text.result.now ≡ 0 → ⊥ = search rules in
    let t = takes_word c.args.text.now c.trim_ascii_start-text.result.now c.trim_ascii_start-text.ensures.value ne in
    rw (c.split_at.ensures.front, c.split_at.ensures.back, c.word_len.ensures) t
