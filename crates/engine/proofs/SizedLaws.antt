-- The words of a store as an array: their length alone decides, and its refusal is 1. Assumes nothing.
use Rattle.std.proofs.Common.{◌≡◌, ◌≢◌, sym, subst, ap, ◌∙◌, false, List, ℕ, eqb, length, Option, None, Some, Result, Ok, Err, MutBor}
use Rattle.std.proofs.lemmas.Bool.{ne_eqb}
use Rattle.std.specs.Array.{IsWholeChunk}
use Rattle.std.specs.Option.{MatchOption, ok_or}
use Rattle.model.specs.Refusals.{refusal_code, refusal_number}
use Rattle.model.specs.declared.Refusal.{Refusal}
use Rattle.model.specs.declared.Refusal.TheVariants.{StoreLength}
use Rattle.model.specs.State.{Store}
use Rattle.model.specs.Store.{read}
use Rattle.model.proofs.RefusalLaws.{refusal-some}
use Rattle.store.proofs.Refused.{no_length}
use Rattle.engine.specs.Asked.{lowest_of}
use Rattle.engine.specs.Seen.{refusal_of}

abbrev Cases : List ℕ → Option (MutBor (List ℕ)) → Type 0
Cases w o = MatchOption o (length w ≢ 16384) (λ y. IsWholeChunk w y.now 16384)

abbrev in_ok : {A : Type 0} → A → Result A Refusal → A
in_ok a (Ok x) = x
in_ok a (Err r) = a

abbrev in_err : {A : Type 0} → Result A Refusal → Refusal
in_err (Ok x) = StoreLength
in_err (Err r) = r

-- words of another length
pub record Unsized (w : List ℕ) (e : Refusal) : Type 0 where
  pub is : StoreLength ≡ e
  pub other : eqb (length w) 16384 ≡ false

pub unsized : (w : List ℕ) (o : Option (MutBor (List ℕ))) (e : Refusal) → Cases w o → ok_or o StoreLength ≡ Err e → Unsized w e
unsized w None e h d = record { is = ap in_err d; other = ne_eqb (length w) 16384 h }
unsized w (Some x) e h d = absurd (refusal-some e (sym (ap refusal_number d)))

pub unsized-number : (w : List ℕ) (o : Option (MutBor (List ℕ))) (e : Refusal) → Cases w o → ok_or o StoreLength ≡ Err e → refusal_code e ≡ refusal_of (read w) w
unsized-number w o e h d = let k = unsized w o e h d in sym (ap refusal_code k.is) ∙ no_length w k.other

pub unsized-lowest : (w : List ℕ) (o : Option (MutBor (List ℕ))) (e : Refusal) (other : ℕ) → Cases w o → ok_or o StoreLength ≡ Err e → refusal_code e ≡ lowest_of (read w) w other
unsized-lowest w o e other h d = go (read w) (unsized-number w o e h d)
  where
    go : (s : Option Store) → refusal_code e ≡ refusal_of s w → refusal_code e ≡ lowest_of s w other
    go None z = z
    go (Some s) z = absurd (refusal-some e z)

-- the array has the words
pub array-is : (w : List ℕ) (o : Option (MutBor (List ℕ))) (y : MutBor (List ℕ)) → Cases w o → ok_or o StoreLength ≡ Ok y → IsWholeChunk w y.now 16384
array-is w None y h d = absurd (refusal-some StoreLength (ap refusal_number d))
array-is w (Some x) y h d = subst (λ (z : MutBor (List ℕ)). IsWholeChunk w z.now 16384) (ap (in_ok x) d) h
