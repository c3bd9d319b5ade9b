-- `store::checks::Rows::marks_unset` meets its contract. Assumes nothing.
use Rattle.std.proofs.Common.{rules, eqb}
use lib.ListN.{length-replicate}
use Rattle.model.specs.Layout.{free}
use Rattle.rows.specs.Rows.{first_word}
use Rattle.store.proofs.Rules.{all_rows, mark-is}
use Rattle.store.proofs.checks.Rows.marks_unset.Goals as goal

pub returns : goal.returns
returns c = all_rows (λ x. eqb x 0) (first_word c.args.width) _ _ (length-replicate c.args.width free) _ _ _ _ _ c.all.ensures.ran (λ i a q h. search (rules, mark-is))
