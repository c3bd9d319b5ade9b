-- `curve::level_of` meets its contract. Assumes nothing.
use mathlib.Core.Path.{refl}
use native.Mathlib.Omega.{arith}
use Rattle.curve.specs.Curve.{curve}
use Rattle.curve.proofs.Levels.{place_inside, level-zero, level-few, level-many, at_most-full, level-within}
use Rattle.curve.proofs.level_of.Goals as goal
use Rattle.curve.proofs.level_of.Goals.{then-ppm-lt-LEAST-via-then-ppm-lt-LEAST, then-ppm-lt-LEAST-via-else-ppm-lt-LEAST+then-ppm-gt-FULL}

pub returns-then-ppm-eq0 : goal.returns-then-ppm-eq0
returns-then-ppm-eq0 c = level-zero c.ranges.ppm c.if-ppm-eq0.true

pub returns-then-ppm-lt-LEAST : goal.returns-then-ppm-lt-LEAST
returns-then-ppm-lt-LEAST c = elim c.then-ppm-lt-LEAST.branch [
  | then-ppm-lt-LEAST-via-then-ppm-lt-LEAST w ↦ level-few c.ranges.ppm c.if-ppm-eq0.false w.if-ppm-lt-LEAST.true
  | then-ppm-lt-LEAST-via-else-ppm-lt-LEAST+then-ppm-gt-FULL w ↦ level-many c.ranges.ppm w.if-ppm-gt-FULL.true
]

pub nearest_place-place-requires : goal.nearest_place-place-requires
unfolding curve
nearest_place-place-requires c = (refl, at_most-full c.ranges.ppm c.if-ppm-lt-LEAST.false c.if-ppm-gt-FULL.false)

pub overflow_cast-result : goal.overflow_cast-result
overflow_cast-result c = record { fits = omega (arith, place_inside _ c.nearest_place-place.ensures) }

pub overflow_add-result : goal.overflow_add-result
overflow_add-result c = record { fits = omega (arith, place_inside _ c.nearest_place-place.ensures) }

pub returns : goal.returns
returns c = level-within c.ranges.ppm c.if-ppm-lt-LEAST.false c.if-ppm-gt-FULL.false c.nearest_place-place.ensures
