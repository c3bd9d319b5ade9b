-- `script::put::number` meets its contract. Assumes nothing.
use mathlib.Core.Path.{ap, ◌∙◌}
use mathlib.Core.List.{append-nil, append_assoc}
use native.Mathlib.Omega.{arith}
use lib.ListN.{length}
use Rattle.script.proofs.put.number.Goals as goal

pub returns : goal.returns
returns c =
    let p = c.put-behind.ensures in
    let q = c.put.ensures in
    let e = c.as_bytes.ensures.value in
    record {
      bytes-stand = q.stand ∙ rw (p.stand, e, c.format.ensures.text, append-nil, append_assoc);
      ends = omega (arith, p.ends, q.ends, ap length e, c.format.ensures.fits);
      same = q.same ∙ p.same;
    }
