-- `state::table::push` meets its contract. Assumes nothing.
use native.Mathlib.Omega.{arith}
use mathlib.Core.Path.{ap, ◌∙◌}
use mathlib.Core.List.{List}
use Prim.Native.Nat.{ℕ, ◌+◌, ◌*◌}
use lib.ListN.{get_or, set}
use Rattle.rows.specs.Places.{laid}
use Rattle.state.proofs.Good.{words-laid, are_words}
use Rattle.state.proofs.table.push.Goals as goal

pub returns : goal.returns
returns g c =
    let t = c.args.t.now in
    let here = c.put.ensures ∙ ap (λ (m : ℕ). laid t (1 + get_or t 0 0 * m) (g.R.Row.codec.put c.args.x)) c.WORDS.ensures in
    record {
      rows = ap (λ (q : List ℕ). set q 0 (get_or t 0 0 + 1)) here;
      words = words-laid _ _ _ c.put.new.s c.put.ensures (are_words c.put.new.s (λ i. omega (arith, c.slice_known-3-1.given i)));
    }
