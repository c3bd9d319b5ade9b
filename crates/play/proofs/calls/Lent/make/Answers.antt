-- `play::calls::Lent::make` meets its contract. Assumes nothing.
use Rattle.std.proofs.Common.{◌≡◌, length, rules}
use Rattle.play.specs.Playing.{doing}
use Rattle.play.proofs.calls.Lent.make.Goals as goal

pub returns-in-New-clause-makes : goal.returns-in-New-clause-makes
unfolding doing
returns-in-New-clause-makes c = rw c.in-New.is (c.new.ensures _)

pub returns-in-Load-clause-makes : goal.returns-in-Load-clause-makes
unfolding doing
returns-in-Load-clause-makes c = rw c.in-Load.is (c.load.ensures _)

pub returns-in-Unload-clause-makes : goal.returns-in-Unload-clause-makes
unfolding doing
returns-in-Unload-clause-makes c = rw c.in-Unload.is (c.unload.ensures _)

pub returns-in-Telegrams-clause-makes : goal.returns-in-Telegrams-clause-makes
unfolding doing
returns-in-Telegrams-clause-makes c =
    let e : length c.args.self.now.effects ≡ 327680 = search rules in
    rw (c.in-Telegrams.is, ← e) (c.telegrams.ensures _)

pub returns-in-Crontab-clause-makes : goal.returns-in-Crontab-clause-makes
unfolding doing
returns-in-Crontab-clause-makes c =
    let e : length c.args.self.now.effects ≡ 327680 = search rules in
    rw (c.in-Crontab.is, ← e) (c.crontab.ensures _)

pub returns-in-ShortList-clause-makes : goal.returns-in-ShortList-clause-makes
unfolding doing
returns-in-ShortList-clause-makes c = rw c.in-ShortList.is (c.short_list.ensures _)

pub returns-in-RoomFor-clause-makes : goal.returns-in-RoomFor-clause-makes
unfolding doing
returns-in-RoomFor-clause-makes c = rw c.in-RoomFor.is (c.room.ensures _)

pub returns-in-Rewrite-clause-makes : goal.returns-in-Rewrite-clause-makes
unfolding doing
returns-in-Rewrite-clause-makes c =
    let e : length c.args.self.now.effects ≡ 327680 = search rules in
    rw (c.in-Rewrite.is, ← e) (c.rewrite.ensures _)

pub returns-in-Readback-clause-makes : goal.returns-in-Readback-clause-makes
unfolding doing
returns-in-Readback-clause-makes c =
    let e : length c.args.self.now.effects ≡ 327680 = search rules in
    rw (c.in-Readback.is, ← e) c.readback.ensures
