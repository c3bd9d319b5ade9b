-- `script::parse` meets its contract. Assumes nothing.
use Rattle.std.proofs.Common.{◌≡◌, None, Some, arith}
use Rattle.std.proofs.lemmas.Result.{err_from_is_err_and}
use Rattle.script.specs.Table.{rows}
use Rattle.script.specs.Script.{NoSuchCall, call_named}
use Rattle.script.proofs.Reading.{blank, one_word, unknown-call, known-call}
use Rattle.script.proofs.Ways.{line_finds}
use Rattle.script.proofs.parse.Goals as goal

pub returns-in_default-clause-parses : goal.returns-in_default-clause-parses
returns-in_default-clause-parses c = blank _ _ _ c.uncommented-text.ensures c.in_default.ensures _

pub behind_name-said-requires-clause-rest : goal.behind_name-said-requires-clause-rest
behind_name-said-requires-clause-rest c = one_word 0 c.args.line.now _ c.uncommented-text.ensures _ _ c.in-Some.ensures

pub returns-in_err-call-clause-parses : goal.returns-in_err-call-clause-parses
returns-in_err-call-clause-parses c =
    let p = err_from_is_err_and c.from_residual.result c.from_residual.ensures.1 in
    let w : c.in_err-call.field-0.0 ≡ NoSuchCall = grind arith in
    let n : None ≡ call_named rows c.in-Some.name.now = grind arith in
    rw (p.1, p.2, w) (unknown-call _ _ _ c.uncommented-text.ensures _ _ c.in-Some.ensures n _)

pub returns-in_err-call_of-clause-parses : goal.returns-in_err-call_of-clause-parses
returns-in_err-call_of-clause-parses c =
    let n : Some c.in_ok-call.call ≡ call_named rows c.in-Some.name.now = grind arith in
    let p = err_from_is_err_and c.from_residual-in_err-call_of.result c.from_residual-in_err-call_of.ensures.1 in
    rw (p.1, p.2) (known-call _ _ _ c.uncommented-text.ensures _ _ c.in-Some.ensures _ n _ c.behind_name-said.ensures _ _ _ c.in_err-call_of.ensures)

pub returns : goal.returns
returns c =
    let n : Some c.in_ok-call.call ≡ call_named rows c.in-Some.name.now = grind arith in
    let p = known-call _ _ _ c.uncommented-text.ensures _ _ c.in-Some.ensures _ n _ c.behind_name-said.ensures _ _ _ c.in_ok-call_of.ensures in
    record { parses = p; finds = line_finds _ _ _ _ _ c.call_of.auto.list p }
