-- `engine::handle::service` meets its contract. Assumes nothing.
use mathlib.Core.Path.{refl, sym, ap}
use Rattle.std.specs.Prelude.{Option}
use Rattle.model.specs.State.{RuleSet}
use Rattle.state.specs.Meaning.{meaning}
use Rattle.store.proofs.Stored.{from-read}
use Rattle.activate.proofs.Continues.{nothing-done}
use Rattle.activate.specs.Carried.{carried_by}
use Rattle.wheel.specs.Tick.{start}
use Rattle.engine.specs.Handling.{ticked_in}
use Rattle.engine.proofs.LoadedLaws.{none-given, image-given}
use Rattle.engine.proofs.HandlingLaws.{continues-as}
use Rattle.engine.proofs.TickLaws.{tick-ready, ticked}
use Rattle.engine.proofs.handle.service.Goals as goal

pub returns-in_default : goal.returns-in_default
returns-in_default c =
    let x = carried_by c.args.lent.now in
    let n = none-given c.args.store.now.loaded (rw c.in_default.is at c.image.ensures.value) in
    record {
      does = continues-as x _ _ _ _ _ _ _ (sym (ap (λ (o : Option RuleSet). ticked_in o c.args.snapshot.now (meaning x.vol)) n)) (nothing-done x _ _);
      same = (refl, refl, refl);
    }

pub service_tick-requires : goal.service_tick-requires
service_tick-requires c =
    let e = c.words.ensures in
    let l = image-given _ _ c.args.store.now e c.in-Some.ensures.value in
    tick-ready _ _ c.args.snapshot.now c.args.store.now l c.args.lent.now.state.now c.requires.ready (from-read _ _ e)

pub returns-in-Some : goal.returns-in-Some
returns-in-Some c =
    let l = image-given _ _ c.args.store.now c.words.ensures c.in-Some.ensures.value in
    record {
      does = rw c.requires.nothing (ticked _ _ c.args.snapshot.now c.args.store.now l c.args.lent.now.state.now c.requires.ready (start c.args.lent.now.state.now) _ _ _ _ _ c.service_tick.ensures.does.says);
      same = c.service_tick.ensures.same;
    }
