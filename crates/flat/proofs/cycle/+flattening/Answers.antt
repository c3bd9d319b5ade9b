-- The functions of the cycle of flattening meet their contracts, one after the other. Assumes nothing.
use Rattle.std.proofs.Common.{◌≡◌, refl, sym, ◌∙◌, [], ◌-◌, ◌*◌, ◌/◌, length, arith}
use lib.Seq.{length-take-le}
use Rattle.model.specs.declared.Step.TheVariants as step
use Rattle.flat.specs.Outcome.{told}
use Rattle.flat.proofs.Starts.{begun, start-after, start-repeat, start-region, start-next, start-call, call-number, call-found}
use Rattle.flat.proofs.Calls.{one-act, call-zero, call-unknown, call_known, call-inside}
use Rattle.flat.proofs.Forms.{after-fails, after-refused, body-fits, after-there, repeat-fails, repeat-refused, repeat-over, repeat-wrote, branch-fails, branch-refused, else-refused, branch-wrote}
use Rattle.flat.proofs.Outcomes.{handed-on}
use Rattle.flat.proofs.Lists.{finished, full, refused, next}
use Rattle.flat.proofs.cycle.+flattening.Invariants.{left_le, left_is, left_behind}
use Rattle.flat.proofs.cycle.+flattening.Goals as goal

-- AN ACTION -------------------------------------------------------------------------------------------------------------------------
pub flatten_action-returns-in-Wait-clause-out : goal.flatten_action-returns-in-Wait-clause-out
flatten_action-returns-in-Wait-clause-out t c =
    let a = c.args in
    let o = c.one_step.ensures in
    rw o.counted
    (one-act (begun c.args.t.now c.requires.start) a.i a.bodies.now.same a.bodies.now.seen.now a.list.now a.bodies.now.words.now _ (step.Wait c.in-Wait.duration_ms)
    (sym c.read_action.ensures ∙ c.in-Wait.is) refl o.written)

pub flatten_action-returns-in-Plain-clause-out : goal.flatten_action-returns-in-Plain-clause-out
flatten_action-returns-in-Plain-clause-out t c =
    let a = c.args in
    let o = c.one_step-in-Plain.ensures in
    rw o.counted
    (one-act (begun c.args.t.now c.requires.start) a.i a.bodies.now.same a.bodies.now.seen.now a.list.now a.bodies.now.words.now _ (step.Primitive a.i)
    (sym c.read_action.ensures ∙ c.in-Plain.is) refl o.written)

-- AN AFTER --------------------------------------------------------------------------------------------------------------------------
pub flatten_after-returns-then-at-clause-out : goal.flatten_after-returns-then-at-clause-out
flatten_after-returns-then-at-clause-out t c =
    let o = c.one_step.ensures in rw o.counted (after-fails (begun c.args.t.now c.requires.start) c.args.ms c.requires.i_in_bounds.2 c.if-at.true o.written)

pub flatten_after-flatten_list-requires : goal.flatten_after-flatten_list-requires
flatten_after-flatten_list-requires t c =
    let a = c.args in
    let q = c.requires in
    let b = q.i_in_bounds.2 in
    let e = c.within_after-inner.ensures in (
      omega (arith, left_behind (length a.t.now.acts.now / 8) a.i a.first a.count b q.i_in_bounds.0, c.decreases, e.0),
      (rw e.0 (start-after (begun c.args.t.now c.requires.start) e.1), b.inside),
    )

pub flatten_after-returns-in_err-q-clause-out : goal.flatten_after-returns-in_err-q-clause-out
flatten_after-returns-in_err-q-clause-out t c =
    let p = handed-on _ _ c.from_residual.ensures.1 in
    let e = c.within_after-inner.ensures in
    let r = rw (c.in_err-q.was, e.0, e.1) at c.flatten_list.ensures.out in
    rw p (r.0, after-refused (begun c.args.t.now c.requires.start) c.args.ms c.requires.i_in_bounds.2 c.if-at.false r.1)

pub flatten_after-slice_bounds-append_steps-end : goal.flatten_after-slice_bounds-append_steps-end
flatten_after-slice_bounds-append_steps-end t c =
    let e = c.within_after-inner.ensures in
    let w = rw (c.in_ok-q.was, e.0, e.1) at c.flatten_list.ensures.out in
    omega (arith, body-fits (begun c.args.t.now c.requires.start) c.args.ms c.requires.i_in_bounds.2 c.if-at.false w, c.flatten_list.auto.list)

pub flatten_after-slice_bounds-append_steps-end-2 :
    goal.flatten_after-slice_bounds-append_steps-end-2
flatten_after-slice_bounds-append_steps-end-2 t c =
    let e = c.within_after-inner.ensures in
    let w = rw (c.in_ok-q.was, e.0, e.1) at c.flatten_list.ensures.out in
    let fits = body-fits (begun c.args.t.now c.requires.start) c.args.ms c.requires.i_in_bounds.2 c.if-at.false w in
    sym (length-take-le (c.in_ok-q.q.n * 4) c.flatten_list.new.list (omega (arith, fits, c.flatten_list.auto.list)))

pub flatten_after-returns-clause-out : goal.flatten_after-returns-clause-out
flatten_after-returns-clause-out t c =
    let e = c.within_after-inner.ensures in
    let w = rw (c.in_ok-q.was, e.0, e.1) at c.flatten_list.ensures.out in
    let x = c.append_steps in
    rw x.ensures.same_count
    (after-there (begun c.args.t.now c.requires.start) c.args.ms c.requires.i_in_bounds.2 c.if-at.false w refl c.flatten_list.ensures.lent.2 c.put_after.ensures
    (rw c.flatten_list.ensures.lent.1 at x.ensures.behinds) x.ensures.words_unchanged)

-- A CONDITIONAL ---------------------------------------------------------------------------------------------------------------------
pub flatten_branch-returns-then-at-clause-out : goal.flatten_branch-returns-then-at-clause-out
flatten_branch-returns-then-at-clause-out t c =
    let h = c.requires.i_in_bounds in
    let o = c.one_step.ensures in rw o.counted (branch-fails (begun c.args.t.now c.requires.start) c.args.condition h.2 h.3 c.if-at.true o.written)

pub flatten_branch-flatten_list-requires : goal.flatten_branch-flatten_list-requires
flatten_branch-flatten_list-requires t c =
    let a = c.args in
    let h = c.requires.i_in_bounds in
    let e = c.within_conditional-inner.ensures in (
      omega (arith, left_behind (length a.t.now.acts.now / 8) a.i a.then_first a.then_count h.2 h.0, c.decreases, e.0),
      (rw e.0 (start-region (begun c.args.t.now c.requires.start) refl (omega (arith, h.1)) (omega arith) (omega arith) e.1), h.2.inside),
    )

pub flatten_branch-returns-in_err-q-clause-out : goal.flatten_branch-returns-in_err-q-clause-out
flatten_branch-returns-in_err-q-clause-out t c =
    let p = handed-on _ _ c.from_residual.ensures.1 in
    let h = c.requires.i_in_bounds in
    let e = c.within_conditional-inner.ensures in
    let r = rw (c.in_err-q.was, e.0, e.1) at c.flatten_list.ensures.out in
    rw p (r.0, branch-refused (begun c.args.t.now c.requires.start) c.args.condition h.2 h.3 c.if-at.false r.1)

pub flatten_branch-flatten_list-requires-2 : goal.flatten_branch-flatten_list-requires-2
flatten_branch-flatten_list-requires-2 t c =
    let a = c.args in
    let s = c.requires.start in
    let h = c.requires.i_in_bounds in
    let e = c.within_conditional-inner.ensures in
    let w = rw (c.in_ok-q.was, e.0, e.1) at c.flatten_list.ensures.out in (
      omega (arith, left_behind (length a.t.now.acts.now / 8) a.i a.else_first a.else_count h.3 h.0, c.decreases, e.0),
      (
        rw e.0 (start-region (begun c.args.t.now c.requires.start) c.flatten_list.auto.body (omega (arith, w.few, h.1, s.allowed-le)) (omega (arith, w.taken)) (omega (arith, w.few')) e.1),
        h.3.inside,
      ),
    )

pub flatten_branch-returns-in_err-r-clause-out : goal.flatten_branch-returns-in_err-r-clause-out
flatten_branch-returns-in_err-r-clause-out t c =
    let p = handed-on _ _ c.from_residual-in_err-r.ensures.1 in
    let h = c.requires.i_in_bounds in
    let e = c.within_conditional-inner.ensures in
    let w = rw (c.in_ok-q.was, e.0, e.1) at c.flatten_list.ensures.out in
    let r = rw (c.in_err-r.was, e.0, e.1) at c.flatten_list-2.ensures.out in
    rw p (r.0, else-refused (begun c.args.t.now c.requires.start) c.args.condition h.2 h.3 c.if-at.false w r.1)

pub flatten_branch-returns-clause-out : goal.flatten_branch-returns-clause-out
flatten_branch-returns-clause-out t c =
    let h = c.requires.i_in_bounds in
    let f = c.flatten_list in
    let e = c.within_conditional-inner.ensures in
    let w = rw (c.in_ok-q.was, e.0, e.1) at f.ensures.out in
    let v = rw (c.in_ok-r.was, e.0, e.1, f.ensures.lent.1) at c.flatten_list-2.ensures.out in
    branch-wrote (begun c.args.t.now c.requires.start) c.args.condition h.2 h.3 c.if-at.false w f.auto.list f.ensures.lent.2 c.flatten_list-2.auto.list v c.put.ensures

-- A CALL ----------------------------------------------------------------------------------------------------------------------------
pub flatten_call-returns-then-at-eq0-clause-out : goal.flatten_call-returns-then-at-eq0-clause-out
flatten_call-returns-then-at-eq0-clause-out t c =
    let o = c.one_step.ensures in rw o.counted (call-zero (begun c.args.t.now c.requires.start) c.args.name c.if-at-eq0.true o.written)

pub flatten_call-called_block-requires : goal.flatten_call-called_block-requires
flatten_call-called_block-requires t c = call-number (begun c.args.t.now c.requires.start) c.requires.i_in_bounds.0

pub flatten_call-returns-in_default-clause-out : goal.flatten_call-returns-in_default-clause-out
flatten_call-returns-in_default-clause-out t c =
    let h = c.requires.i_in_bounds in
    let o = c.one_step-in_default.ensures in
    let found = call-found (begun c.args.t.now c.requires.start) h.0 c.args.name h.2 in
    rw o.counted (call-unknown (begun c.args.t.now c.requires.start) c.args.name c.if-at-eq0.false (sym found ∙ sym c.called_block.ensures ∙ c.in_default.is) o.written)

pub flatten_call-flatten_list-requires : goal.flatten_call-flatten_list-requires
flatten_call-flatten_list-requires t c =
    let a = c.args in
    let h = c.requires.i_in_bounds in
    let found = call-found (begun c.args.t.now c.requires.start) h.0 a.name h.2 in
    let r = c.in-Some.block in
    let b = call-inside (begun c.args.t.now c.requires.start) a.name (sym found ∙ sym c.called_block.ensures ∙ c.in-Some.is) in (
      omega (arith, left_le r.b (length a.t.now.acts.now / 8 - r.a), a.t.now.checked.tables.few, c.decreases, c.if-at-eq0.false),
      (start-call (begun c.args.t.now c.requires.start), b),
    )

pub flatten_call-returns-clause-out : goal.flatten_call-returns-clause-out
flatten_call-returns-clause-out t c =
    let a = c.args in
    let h = c.requires.i_in_bounds in
    let f = c.flatten_list in
    let found = call-found (begun c.args.t.now c.requires.start) h.0 a.name h.2 in
    call_known (begun c.args.t.now c.requires.start) a.name c.if-at-eq0.false a.bodies.now.same a.bodies.now.seen.now a.list.now a.bodies.now.words.now f.new.list f.new.bodies.words.now (told f.new.bodies.count f.new.bodies.same f.result) _
    (sym found ∙ sym c.called_block.ensures ∙ c.in-Some.is) f.ensures.out

-- A LIST ----------------------------------------------------------------------------------------------------------------------------
pub flatten_list-returns-then-full-clause-out : goal.flatten_list-returns-then-full-clause-out
flatten_list-returns-then-full-clause-out t c =
    let o = c.one_step.ensures in
    rw o.counted (full c.loop-i.invariant.0 c.requires.count_in_bounds c.loop-i-test.true (omega arith) _ o.written)

pub flatten_list-returns-then-q-eq0-clause-out : goal.flatten_list-returns-then-q-eq0-clause-out
flatten_list-returns-then-q-eq0-clause-out t c =
    refused c.loop-i.invariant.0 c.requires.count_in_bounds c.loop-i-test.true (omega arith) [] [] (omega (arith, c.if-q-eq0.true))

pub flatten_list-flatten_action-requires : goal.flatten_list-flatten_action-requires
flatten_list-flatten_action-requires t c =
    let a = c.args in
    let q = c.requires in
    let l = c.loop-i.invariant in
    let Some : a.count ≡ 0 → ⊥ = λ e. omega (arith, l.0.from, c.loop-i-test.true) in (
      omega (arith, left_is a.count (length a.t.now.acts.now / 8 - a.first) Some, c.decreases, q.count_in_bounds, l.0.from, c.loop-i-test.true),
      (
        start-next (begun c.args.t.now c.requires.start) l.1 (omega arith) (omega (arith, l.0.less)) (omega (arith, l.0.few')),
        (omega (arith, q.count_in_bounds, c.loop-i-test.true), omega arith),
      ),
    )

pub flatten_list-returns-in_err-q-clause-out : goal.flatten_list-returns-in_err-q-clause-out
flatten_list-returns-in_err-q-clause-out t c =
    let p = handed-on _ _ c.from_residual.ensures.1 in
    let r = rw c.in_err-q.was at c.flatten_action.ensures.out in
    rw (p, r.0) (refused c.loop-i.invariant.0 c.requires.count_in_bounds c.loop-i-test.true (omega arith) [] [] (omega (arith, r.1, c.if-q-eq0.false)))

pub flatten_list-loop-i-preserved : goal.flatten_list-loop-i-preserved
flatten_list-loop-i-preserved t c =
    let f = c.flatten_action in (
      next c.loop-i.invariant.0 c.requires.count_in_bounds c.loop-i-test.true (omega arith) c.if-q-eq0.false f.auto.list f.ensures.lent.2 (rw (c.in_ok-q.was, c.loop-i.invariant.3) at f.ensures.out),
      f.auto.body ∙ c.loop-i.invariant.1,
      f.ensures.lent.0 ∙ c.loop-i.invariant.2,
      f.ensures.lent.1 ∙ c.loop-i.invariant.3,
    )

pub flatten_list-returns-clause-out : goal.flatten_list-returns-clause-out
flatten_list-returns-clause-out t c = finished c.loop-i.invariant.0 c.requires.count_in_bounds (λ h. omega (arith, c.loop-i-test.false))

-- A REPEAT --------------------------------------------------------------------------------------------------------------------------
pub flatten_repeat-returns-then-repeat_fails-clause-out : goal.flatten_repeat-returns-then-repeat_fails-clause-out
flatten_repeat-returns-then-repeat_fails-clause-out t c =
    let o = c.one_step.ensures in
    rw o.counted (repeat-fails (begun c.args.t.now c.requires.start) c.args.times c.requires.i_in_bounds.2 (sym c.repeat_fails.ensures ∙ c.if-repeat_fails.true) o.written)

pub flatten_repeat-flatten_list-requires : goal.flatten_repeat-flatten_list-requires
flatten_repeat-flatten_list-requires t c =
    let a = c.args in
    let q = c.requires in
    let b = q.i_in_bounds.2 in
    let e = c.within_repeat-inner.ensures in (
      omega (arith, left_behind (length a.t.now.acts.now / 8) a.i a.first a.count b q.i_in_bounds.0, c.decreases, e.0),
      (rw e.0 (start-repeat (begun c.args.t.now c.requires.start) e.1), b.inside),
    )

pub flatten_repeat-returns-in_err-q-clause-out : goal.flatten_repeat-returns-in_err-q-clause-out
flatten_repeat-returns-in_err-q-clause-out t c =
    let p = handed-on _ _ c.from_residual.ensures.1 in
    let e = c.within_repeat-inner.ensures in
    let r = rw (c.in_err-q.was, e.0, e.1) at c.flatten_list.ensures.out in
    rw p (r.0, repeat-refused (begun c.args.t.now c.requires.start) c.args.times c.requires.i_in_bounds.2 (sym c.repeat_fails.ensures ∙ c.if-repeat_fails.false) r.1)

pub flatten_repeat-returns-then-p-q-gt256-clause-out : goal.flatten_repeat-returns-then-p-q-gt256-clause-out
flatten_repeat-returns-then-p-q-gt256-clause-out t c =
    let f = c.flatten_list in
    let p = c.place-from in
    let o = c.one_step-then-p-q-gt256.ensures in
    let e = c.within_repeat-inner.ensures in
    let w = rw (c.in_ok-q.was, e.0, e.1) at f.ensures.out in
    rw o.counted
    (repeat-over (begun c.args.t.now c.requires.start) c.args.times c.requires.i_in_bounds.2 (sym c.repeat_fails.ensures ∙ c.if-repeat_fails.false)
    c.args.list.now f.new.list p.result p.ensures.0 p.ensures.1 p.ensures.2 f.auto.list w c.if-p-q-gt256.true o.written)

pub flatten_repeat-returns-clause-out : goal.flatten_repeat-returns-clause-out
flatten_repeat-returns-clause-out t c =
    let f = c.flatten_list in
    let p = c.place-from in
    let e = c.within_repeat-inner.ensures in
    let w = rw (c.in_ok-q.was, e.0, e.1) at f.ensures.out in
    repeat-wrote (begun c.args.t.now c.requires.start) c.args.times c.requires.i_in_bounds.2 (sym c.repeat_fails.ensures ∙ c.if-repeat_fails.false)
    c.args.list.now f.new.list p.result p.ensures.0 p.ensures.1 p.ensures.2 f.auto.list w c.requires.i_in_bounds.1
    c.if-p-q-gt256.false (c.copies-n.ensures _)
