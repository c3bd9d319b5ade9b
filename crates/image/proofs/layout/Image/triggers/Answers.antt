-- `image::layout::Image::triggers` meets its contract. Assumes nothing.
use mathlib.Core.Path.{◌≡◌, refl}
use Prim.Native.Nat.{◌+◌, ◌<◌}
use native.Mathlib.Omega.{arith}
use lib.ListN.{length}
use Rattle.model.specs.Rows.{rules}
use Rattle.model.specs.Image.{word_at}
use Rattle.model.specs.Rules.{triggers_of}
use Rattle.image.proofs.Rules.{trigger-count}
use Rattle.image.proofs.layout.Image.triggers.Goals as goal

pub returns : goal.returns
unfolding triggers_of
returns c =
    let img = c.args.self.now in
    let first : c.word_at.result + 0 ≡ word_at img rules c.args.i 4 = omega (arith, c.word_at.ensures) in
    let few : length (triggers_of img c.args.i) < 4294967296 = omega (arith, trigger-count img c.args.i, c.word_at-2.ensures, c.word_at-2.type_inv) in
    (rw (first, c.word_at-2.ensures) refl, rw (first, c.word_at-2.ensures) few)
