-- `rewrite::rewrite` meets its contract. Assumes nothing.
use mathlib.Core.Path.{sym}
use native.Mathlib.Omega.{arith}
use lib.ListN.{length}
use Rattle.std.proofs.lemmas.Result.{err_from_is_err_and}
use Rattle.rewrite.proofs.Answers.{load-accepts, load-refuses, refuses-40, refuses-41, writes, room-there, lends, cleared-long}
use Rattle.rewrite.proofs.rewrite.Goals as goal

pub returns-in_err-refusal : goal.returns-in_err-refusal
returns-in_err-refusal c =
    let s = c.args in
    let p = err_from_is_err_and c.from_residual.result c.from_residual.ensures.1 in
    rw (p.1, p.2) (load-refuses s.image.now (length s.store.now) _ _ c.in_err-refusal.ensures c.clear.ensures)

pub new-image-requires : goal.new-image-requires
new-image-requires c = let a = load-accepts _ (sym c.in_ok-refusal.ensures) in (a.least, a.most)

pub count_words-size-requires-clause-image : goal.count_words-size-requires-clause-image
count_words-size-requires-clause-image c = rw c.new-image.ensures (load-accepts _ (sym c.in_ok-refusal.ensures))

pub returns-then-size-gt-MOST_WORDS : goal.returns-then-size-gt-MOST_WORDS
returns-then-size-gt-MOST_WORDS c =
    let s = c.args in
    refuses-40 s.image.now (length s.store.now) (sym c.in_ok-refusal.ensures) _ _ _ (rw c.new-image.ensures at c.count_words-size.ensures)
    c.if-size-gt-MOST_WORDS.true c.clear.ensures

pub returns-then-store-size : goal.returns-then-store-size
returns-then-store-size c =
    let s = c.args in
    let l = cleared-long s.image.now (length s.store.now) _ c.clear.ensures in
    refuses-41 s.image.now (length s.store.now) (sym c.in_ok-refusal.ensures) _ _ _ (rw c.new-image.ensures at c.count_words-size.ensures)
    (omega (arith, c.if-size-gt-MOST_WORDS.false)) (omega (arith, c.if-store-size.true, l)) c.clear.ensures

pub write_words-requires-clause-image : goal.write_words-requires-clause-image
write_words-requires-clause-image c = rw c.new-image.ensures (load-accepts _ (sym c.in_ok-refusal.ensures))

pub write_words-requires-clause-counts : goal.write_words-requires-clause-counts
write_words-requires-clause-counts c =
    let n = c.count_words-size.ensures in (n.eight, (n.within (omega (arith, c.if-size-gt-MOST_WORDS.false))).1)

pub write_words-requires-clause-room : goal.write_words-requires-clause-room
write_words-requires-clause-room c =
    let s = c.args in
    rw c.new-image.ensures
    (room-there s.image.now (length s.store.now) _ _ _ c.clear.ensures (rw c.new-image.ensures at c.count_words-size.ensures)
    (omega (arith, c.if-size-gt-MOST_WORDS.false)) (omega (arith, c.if-store-size.false)))

pub returns : goal.returns
returns c =
    let s = c.args in
    let l = cleared-long s.image.now (length s.store.now) _ c.clear.ensures in
    writes s.image.now (length s.store.now) (sym c.in_ok-refusal.ensures) _ _ _ (rw c.new-image.ensures at c.count_words-size.ensures)
    (omega (arith, c.if-size-gt-MOST_WORDS.false)) (omega (arith, c.if-store-size.false, l))
    (lends s.image.now (length s.store.now) _ _ _ c.clear.ensures (rw c.new-image.ensures at c.write_words.ensures))
