-- Words that are no store: their refusal is that of their length, or else of the rules. Assumes nothing.
use Rattle.std.proofs.Common.{◌≡◌, refl, sym, ◌∙◌, true, false, List, ℕ, eqb, length, Option, None, Some}
use Rattle.std.proofs.lemmas.Bool.{false≢true}
use Rattle.model.specs.Lists.{present}
use Rattle.model.specs.OnWords.{store_refusal}
use Rattle.model.specs.State.{Store}
use Rattle.model.specs.Store.{read}
use Rattle.store.specs.Refused.{refusal_of}
use Rattle.store.proofs.Holding.{reads-by}

absent : (o : Option Store) (w : List ℕ) → present o ≡ false → refusal_of o w ≡ store_refusal w
absent None w e = refl
absent (Some s) w e = absurd (false≢true (sym e))

pub no_length : (w : List ℕ) → eqb (length w) 16384 ≡ false → 1 ≡ refusal_of (read w) w
unfolding store_refusal
no_length w e = sym (absent (read w) w (reads-by w ∙ rw e) ∙ rw e)

pub no_rule : (w : List ℕ) → eqb (length w) 16384 ≡ true → present (read w) ≡ false → 2 ≡ refusal_of (read w) w
unfolding store_refusal
no_rule w e h = sym (absent (read w) w h ∙ rw e)
