-- `rewrite::walk::put_mention` meets its contract. Assumes nothing.
use Rattle.rewrite.proofs.CodeLaws.{put-one, put-two}
use Rattle.rewrite.proofs.walk.put_mention.Goals as goal

pub returns-in_default : goal.returns-in_default
returns-in_default c =
    let s = c.args in
    put-one s.firsts.now s.counts.now s.words.now s.m s.f.table s.f.row s.f.word _ _ c.place-at.ensures.0 c.last_word-last.ensures
    _ c.in_default.is c.put.ensures

pub returns : goal.returns
returns c =
    let s = c.args in
    put-two s.firsts.now s.counts.now s.words.now s.m s.f.table s.f.row s.f.word _ _ c.place-at.ensures.0 c.last_word-last.ensures
    _ _ _ c.in-Some.is c.put-2.ensures c.put-3.ensures
