-- `store::points::jump_fits` meets its contract. Assumes nothing.
use Rattle.std.proofs.Common.{rules, arith, ◌≡◌, ◌+◌, ◌-◌, ◌*◌, true, false, refl}
use Rattle.std.proofs.lemmas.Iterator.{first_from_Range}
use Rattle.std.proofs.lemmas.Option.{MatchOption-at_none, MatchOption-at_some}
use Rattle.flat.specs.Words.{step_of}
use Rattle.model.specs.Parts.{step_row}
use Rattle.rows.specs.Places.{row_at}
use Rattle.store.specs.Points.{in_region}
use Rattle.store.proofs.StepPlaces.{no-jump, jump-before, jump-found, jump-ends}
use Rattle.store.proofs.points.jump_fits.Goals as goal

pub leads-requires : goal.leads-requires
leads-requires c =
    let f = first_from_Range _ _ _ _ (λ i. in_region (step_of (row_at step_row c.args.steps.now (i * 4))) (c.args.place - (i + 1)) ≡ true)
    (λ i. in_region (step_of (row_at step_row c.args.steps.now (i * 4))) (c.args.place - (i + 1)) ≡ false) c.find.ensures.ran
    (λ x q k. search rules) (λ x q k. (search rules, search rules)) in
    let i = MatchOption-at_some _ _ _ c.in-Some.is f in
    omega (arith, i.1)

pub returns-in-Some : goal.returns-in-Some
returns-in-Some c =
    let f = first_from_Range _ _ _ _ (λ i. in_region (step_of (row_at step_row c.args.steps.now (i * 4))) (c.args.place - (i + 1)) ≡ true)
    (λ i. in_region (step_of (row_at step_row c.args.steps.now (i * 4))) (c.args.place - (i + 1)) ≡ false) c.find.ensures.ran
    (λ x q k. search rules) (λ x q k. (search rules, search rules)) in
    let i = MatchOption-at_some _ _ _ c.in-Some.is f in
    let b = jump-before c.args.steps.now c.args.place c.args.jump c.in-Some.i (omega (arith, i.1)) c.requires i.3 in
    jump-found c.args.steps.now c.args.place c.args.jump _ c.in-Some.i _ _ _ _ _ i.1 c.requires b i.2 refl refl refl refl c.leads.ensures

pub returns-in-None : goal.returns-in-None
returns-in-None c =
    let f = first_from_Range _ _ _ _ (λ i. in_region (step_of (row_at step_row c.args.steps.now (i * 4))) (c.args.place - (i + 1)) ≡ true)
    (λ i. in_region (step_of (row_at step_row c.args.steps.now (i * 4))) (c.args.place - (i + 1)) ≡ false) c.find.ensures.ran
    (λ x q k. search rules) (λ x q k. (search rules, search rules)) in
    let n = MatchOption-at_none _ _ c.in-None.is f in
    let b = jump-before c.args.steps.now c.args.place c.args.jump c.args.place (omega arith) c.requires n in
    jump-ends c.args.steps.now c.args.place c.args.jump _ c.args.place _ refl b (no-jump _ _ c.is_none.ensures)
