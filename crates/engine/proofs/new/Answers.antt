-- `engine::new` meets its contract. Assumes nothing.
use Rattle.std.proofs.Common.{sym, ◌∙◌}
use Rattle.std.proofs.lemmas.Result.{err_from_is_err_and}
use Rattle.engine.proofs.Seeing.{new-refused, new-done}
use Rattle.engine.proofs.SizedLaws.{unsized, array-is}
use Rattle.engine.proofs.new.Goals as goal

pub returns-in_err-words : goal.returns-in_err-words
returns-in_err-words c =
    let k = unsized _ _ _ c.as_mut_array.ensures.cases (sym c.ok_or.ensures.value ∙ c.in_err-words.was) in
    let p = err_from_is_err_and c.from_residual.result c.from_residual.ensures.1 in
    rw (p.1, p.2, ← k.is) (new-refused _ _ k.other)

pub returns : goal.returns
returns c =
    new-done _ _ _ (array-is _ _ _ c.as_mut_array.ensures.cases (sym c.ok_or.ensures.value ∙ c.in_ok-words.was)).long c.put_new.ensures
