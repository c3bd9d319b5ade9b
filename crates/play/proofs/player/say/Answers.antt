-- `play::player::say` meets its contract. Assumes nothing.
use Rattle.std.proofs.Common.{◌≡◌, length, rules}
use borrow.Author.Tests.{lt-ltb, le-ltb}
use Rattle.script.proofs.Reading.{plainly}
use Rattle.play.specs.Playing.{said}
use Rattle.play.specs.Example.{room}
use Rattle.play.proofs.player.say.Goals as goal

pub returns-then-line-gt-LINE_BYTES : goal.returns-then-line-gt-LINE_BYTES
unfolding said room
returns-then-line-gt-LINE_BYTES c = record { parses = rw (lt-ltb 262144 _ c.if-line-gt-LINE_BYTES.true) (plainly _ _); finds = tt; list = c.told-list }

pub returns : goal.returns
unfolding said room
returns c =
    let p = rw c.told-list at c.parse.ensures.parses in
    let f = rw c.told-list at c.parse.ensures.finds in
    let l : length c.parse.new.list ≡ 8192 = search rules in
    rw (le-ltb 262144 _ c.if-line-gt-LINE_BYTES.false) (record { parses = p; finds = f; list = l })
