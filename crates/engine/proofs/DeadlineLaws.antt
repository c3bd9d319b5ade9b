-- The next deadline of a store that reads. Assumes nothing.
use mathlib.Core.Path.{◌≡◌, refl, sym, ap, ◌∙◌}
use mathlib.Core.List.{List, []}
use Rattle.std.specs.Prelude.{Option, None, Some, Ok, option_map}
use Rattle.std.proofs.lemmas.Option.{none-some, same_Some}
use Prim.Native.Nat.{ℕ}
use Rattle.model.specs.State.{RuleSet, Store}
use Rattle.model.specs.Steps.{FlatStep}
use Rattle.model.specs.Store.{write}
use Rattle.model.specs.Wheel.{next_deadline}
use Rattle.model.specs.Calls.{deadline, due, call}
use Rattle.model.specs.Answers as answers
use Rattle.model.specs.OnWords.{call_on}
use Rattle.state.specs.Meaning.{AllNumbered}
use Rattle.wheel.specs.Deadline.{set_if, store_of}
use Rattle.engine.specs.Seen.{seen}
use Rattle.engine.specs.Answers.{due_values, shown}
use Rattle.engine.proofs.Seeing.{Same, no-outcomes, no-effects, OnStore, call-seen}
use Rattle.engine.proofs.WordLaws.{Said}
use Rattle.engine.proofs.LoadedLaws.{none-given}

-- the loaded set, by the words of its image
record SetIs (o : Option (List ℕ)) (set : Option RuleSet) : Type 0 where
  flat : List (List FlatStep)
  is : set_if o flat ≡ set

set_is : (o : Option (List ℕ)) (l : Option RuleSet) → o ≡ option_map (λ (set : RuleSet). set.image) l → SetIs o l
set_is None l h = record { flat = []; is = sym (none-given l h) }
set_is (Some img) None h = absurd (none-some img (sym h))
set_is (Some img) (Some set) h = record { flat = set.flat; is = ap (λ (x : List ℕ). Some (record { image = x; flat = set.flat })) (same_Some img set.image h) }

pub deadline-is : (s : Store) (o : Option (List ℕ)) (v : List ℕ) (last : ℕ) (t : Option ℕ)
    → o ≡ option_map (λ (set : RuleSet). set.image) s.loaded → last ≡ s.now → AllNumbered v s.vol
    → ((flat : List (List FlatStep)) → t ≡ next_deadline (store_of o flat v last)) → t ≡ next_deadline s
deadline-is s o v last t i l a h =
    let k = set_is o s.loaded i in
    let r : store_of o k.flat v last ≡ s = λ j. record { now = l j; loaded = k.is j; vol = a.says j } in
    h k.flat ∙ ap next_deadline r

same-due : (t : Option ℕ) → Same due_values (Ok t) (due t)
unfolding answers.number_of answers.values_of
same-due None = record { number = refl; values = refl }
same-due (Some t) = record { number = refl; values = refl }

pub deadline-on : (w : List ℕ) → OnStore deadline w
unfolding call_on
deadline-on w = refl

deadline-answer : (s : Store) → (call deadline s).answer ≡ due (next_deadline s)
unfolding call
deadline-answer s = refl

deadline-store : (s : Store) → (call deadline s).store ≡ s
unfolding call
deadline-store s = refl

pub deadline-seen : (w : List ℕ) (k : Said w) (t : Option ℕ) → t ≡ next_deadline k.store → shown due_values (Ok t) w [] [] ≡ seen (call_on deadline w)
deadline-seen w k t e =
    let s = k.store in
    call-seen due_values deadline w w [] [] s (Ok t) (due t) (deadline-on w) k.is (deadline-answer s ∙ ap due (sym e)) (same-due t)
    (sym k.written ∙ sym (ap write (deadline-store s))) (no-outcomes 0 (due t) refl) (no-effects 0 (due t) refl)
