-- `room::room_for` meets its contract. Assumes nothing.
use mathlib.Core.Path.{sym}
use borrow.Author.Rules.{rules}
use Rattle.image.proofs.Accepted.{accepted}
use Rattle.load.proofs.Laws.{tables-refuse}
use Rattle.model.proofs.RefusalLaws.{refusal-some}
use Rattle.room.proofs.Rows.{refused-is, listed, late-refused, needed-is}
use Rattle.room.proofs.room_for.Goals as goal

pub returns-in_err-refusal : goal.returns-in_err-refusal
returns-in_err-refusal c = search (rules, refused-is _ _ (tables-refuse _ _ c.in_err-refusal.ensures (refusal-some _)))

pub accepted-requires : goal.accepted-requires
accepted-requires c = accepted _ (sym c.in_ok-refusal.ensures)

pub returns-in_err-image : goal.returns-in_err-image
returns-in_err-image c = search (rules, late-refused _ (accepted _ (sym c.in_ok-refusal.ensures)) _ c.in_err-image.ensures.number)

pub room-requires : goal.room-requires
room-requires c =
    rw c.in_ok-image.ensures.image (listed _ _ (accepted _ (sym c.in_ok-refusal.ensures)) c.in_ok-image.ensures.number (search rules) c.in_ok-image.ensures.rows)

pub returns : goal.returns
returns c =
    needed-is _ (accepted _ (sym c.in_ok-refusal.ensures)) _ c.in_ok-image.ensures.number (rw c.in_ok-image.ensures.image at c.room.ensures)
