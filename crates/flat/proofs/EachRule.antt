-- What holds of every list of the action table holds of every rule's list.
use mathlib.Core.List.{List}
use Prim.Native.Nat.{ℕ}
use Rattle.model.specs.Rows.{rules, blocks, actions}
use Rattle.model.specs.Image.{word_at, table_of, call_depth, repeat_limit}
use Rattle.model.specs.Flat.{flatten_rule}
use Rattle.flat.specs.Load.{rule_context}
use Rattle.flat.proofs.Induction.{Of, Closed, of-table}

pub of-rule : (A L : Of) → Closed A L → (img : List ℕ) (i : ℕ) → L (call_depth img) (rule_context (repeat_limit img)) 0 0 (flatten_rule img i)
unfolding flatten_rule
of-rule A L h img i =
    of-table A L h (table_of img actions) (table_of img blocks) (call_depth img) (word_at img rules i 8) (word_at img rules i 9) (rule_context (repeat_limit img)) 0 0
