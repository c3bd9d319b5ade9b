-- What each function of the cycle ensures, of what it was lent: how far it came, the bodies before and after, the list before and after.
use Rattle.std.specs.Prelude.{◌≡◌, List, ℕ, length, Result}
use Rattle.model.specs.declared.Refusal.{Refusal}
use Rattle.model.specs.Flat.{Flattened}
use Rattle.flat.specs.declared.Bodies.{Bodies}
use Rattle.flat.specs.declared.Progress.{Progress}
use Rattle.flat.specs.Outcome.{ListOut, ActOut, told, so_far}

abbrev pub FlattensList : Flattened → Progress → Bodies → Bodies → List ℕ → List ℕ → Result Progress Refusal → Type 0
FlattensList f p b b' list list' r = ListOut f (so_far p.n b.count p.left b.same) b.seen.now list b.words.now list' b'.words.now (told b'.count b'.same r)

abbrev pub FlattensAct : Flattened → Progress → Bodies → Bodies → List ℕ → List ℕ → Result Progress Refusal → Type 0
FlattensAct f p b b' list list' r = ActOut f (so_far p.n b.count p.left b.same) b.seen.now list b.words.now list' b'.words.now (told b'.count b'.same r)

-- the same words are lent, as many as before, and the same are compared
abbrev pub SameLent : Bodies → Bodies → Type 0
SameLent b b' = (b'.words.ghost_name ≡ b.words.ghost_name) × (b'.seen.now ≡ b.seen.now) × (length b'.words.now ≡ length b.words.now)
