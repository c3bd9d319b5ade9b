-- `wheel::minutes::Window::in_window` meets its contract. Assumes nothing.
use Rattle.model.specs.Wheel.{in_window}
use Rattle.image.proofs.Ranges.{le-is}
use Rattle.wheel.proofs.minutes.Window.in_window.Goals as goal

pub returns : goal.returns
unfolding in_window
returns c =
    let d = c.new.ensures in
    let n = c.cyclic_dist.result in
    rw (← c.cyclic_dist.ensures, c.contains.ensures.value, d.start, d.end, d.exhausted, le-is 1 n, le-is n c.args.self.window)
