-- `script::read::items` meets its contract. Assumes nothing.
use Rattle.std.proofs.Common.{◌≡◌, length, rules, arith, None, Some}
use Rattle.std.proofs.lemmas.List.{set-get_or}
use Rattle.std.proofs.lemmas.Result.{err_from_is_err_and}
use Rattle.script.proofs.Reading.{filled-ends, filled_more, list-end, list_full, list-stop, list-item}
use Rattle.script.proofs.read.items.Goals as goal

pub returns-in_default : goal.returns-in_default
returns-in_default c =
    rw set-get_or (filled-ends _ _ _ _ _ c.loop-n.invariant (search rules) None (list-end _ _ _ _ c.in_default.ensures))

pub returns-in_err-place : goal.returns-in_err-place
returns-in_err-place c =
    let p = err_from_is_err_and c.from_residual.result c.from_residual.ensures.1 in
    rw (p.1, p.2, set-get_or)
    (filled-ends _ _ _ _ _ c.loop-n.invariant (search rules) (Some _) (list-stop _ _ _ _ _ _ c.in-Some.ensures c.loop-n-test.true _ c.in_err-place.ensures))

pub loop-n-preserved : goal.loop-n-preserved
loop-n-preserved c =
    filled_more _ _ _ _ _ c.loop-n.invariant c.args.call _ _ (list-item _ _ _ _ _ _ c.in-Some.ensures c.loop-n-test.true _ c.in_ok-place.ensures) (search rules)

pub returns-in-None : goal.returns-in-None
returns-in-None c =
    let all : c.loop-n.n ≡ length c.args.list.now = omega arith in
    rw all at (filled-ends _ _ _ _ _ c.loop-n.invariant (search rules) None (list-end _ _ _ _ c.in-None.ensures))

pub returns-in-Some-next_word : goal.returns-in-Some-next_word
returns-in-Some-next_word c =
    filled-ends _ _ _ _ _ c.loop-n.invariant (search rules) (Some _) (list_full _ _ _ _ _ _ c.in-Some-next_word.ensures c.loop-n-test.false)
