-- `exec::dry::next_step` meets its contract. Assumes nothing.
use Rattle.std.proofs.Common.{◌≡◌, refl, sym, ap, ◌∙◌}
use lib.Seq.{drop-drop}
use Rattle.exec.proofs.DryGoing.{oldest, stands, empties, pops}
use Rattle.flat.specs.Stands.{step_of_placed}
use Rattle.exec.proofs.dry.next_step.Goals as goal

pub returns-in-Some : goal.returns-in-Some
returns-in-Some c =
    let v = c.loop-here.invariant in record {
      moves = stands _ _ _ _ _ _ v.0 _ (sym (ap step_of_placed c.in-Some.is) ∙ c.step_at.ensures.found) c.in-Some.ensures.at;
      same = v.1;
    }

pub returns-in_err-list : goal.returns-in_err-list
returns-in_err-list c =
    let v = c.loop-here.invariant in
    let b = c.loop-here.bodies in
    let first : c.pop.new.self.first ≡ b.first = rw c.in_err-list.was at c.pop.ensures.absent in
    rw c.from_residual.ensures
    (record {
      moves = empties _ _ _ _ _ _ v.0 (sym (ap step_of_placed c.in_default.is) ∙ c.step_at.ensures.found) _ (oldest b.lists.items b.first ∙ sym c.pop.ensures.value ∙ c.in_err-list.was) (rw (c.pop.ensures.lists, first) refl);
      same = c.pop.ensures.lists ∙ v.1;
    })

pub loop-here-preserved : goal.loop-here-preserved
loop-here-preserved c =
    let v = c.loop-here.invariant in
    let b = c.loop-here.bodies in (
      pops _ _ _ _ _ _ v.0 (sym (ap step_of_placed c.in_default.is) ∙ c.step_at.ensures.found) _ _ (oldest b.lists.items b.first ∙ sym c.pop.ensures.value ∙ c.in_ok-list.was) (rw (c.pop.ensures.lists, c.in_ok-list.ensures.next) (sym (drop-drop 1 b.first b.lists.items))),
      c.pop.ensures.lists ∙ v.1,
    )
