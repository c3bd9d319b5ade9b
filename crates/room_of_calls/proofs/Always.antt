-- Room of the eight functions, from their contracts and the theorem about the specification's calls. Assumes nothing.
use mathlib.Core.Path.{◌≡◌, refl, sym, subst}
use mathlib.Core.List.{List, [], ◌∷◌, map}
use Rattle.std.specs.Prelude.{Some}
use Prim.Native.Nat.{ℕ}
use native.Mathlib.Omega.{arith}
use Rattle.model.specs.State.{Store}
use Rattle.model.specs.Store.{read, write, Keeps}
use Rattle.model.specs.Calls.{Answer, done, refused, enabled, handled, due, counted, answers}
use Rattle.model.specs.Answers.{number_of}
use Rattle.model.proofs.StoreLaws.{read-write, write_read}
use Rattle.ledger.proofs.ListLaws.{Every}
use Rattle.room.specs.Enough.{Careful, LoadedWithin, Not30}
use Rattle.room.proofs.Always.{always}
use Rattle.demand3.specs.Runs.{AnyRun, call_of, shown_by, From}
use Rattle.demand3.proofs.Demand3.{list-in-words, demand3-of-calls}
use Rattle.room_of_calls.specs.Always.{AllCareful, Never30}

-- a number other than 30 shows no refusal 30
abbrev Other : ℕ → Type 0
Other n = n ≡ 30 → ⊥

number-other : (a : Answer) → Not30 a → Other (number_of a)
unfolding number_of
number-other done h e = omega arith
number-other (refused n) h e = h (rw e refl)
number-other (enabled b) h e = omega arith
number-other (handled os) h e = omega arith
number-other (due t) h e = omega arith
number-other (counted cs) h e = omega arith

numbers-other : (xs : List Answer) → Every Not30 xs → Every Other (map number_of xs)
numbers-other [] h = tt
numbers-other (x ∷ xs) h = (number-other x h.0, numbers-other xs h.1)

shown-other : (xs : List AnyRun) → Every Other (map (λ x. (shown_by x).number) xs) → Never30 xs
shown-other [] h = tt
shown-other (x ∷ xs) h = (h.0, shown-other xs h.1)

calls-careful : (o f : ℕ) (xs : List AnyRun) → AllCareful o f xs → Every (Careful o f) (map call_of xs)
calls-careful o f [] h = tt
calls-careful o f (x ∷ xs) h = (h.0, calls-careful o f xs h.1)

pub always-of-calls : (o f : ℕ) (w : List ℕ) (s : Store) → read w ≡ Some s → LoadedWithin o f s.loaded → (xs : List AnyRun) → From w xs → AllCareful o f xs → Never30 xs
always-of-calls o f w s e l xs h careful =
    let cs = map call_of xs in
    let d = demand3-of-calls w s e xs h in
    shown-other xs
    (subst (Every Other) (sym d.numbers)
    (numbers-other (answers s cs) (always o f cs s (write_read w s e).keeps l (list-in-words xs) (calls-careful o f xs careful))))

-- from a store that keeps the store rules
pub always-from-store : (o f : ℕ) (s : Store) → Keeps s → LoadedWithin o f s.loaded → (xs : List AnyRun) → From (write s) xs → AllCareful o f xs → Never30 xs
always-from-store o f s k l xs h careful = always-of-calls o f (write s) s (read-write s k) l xs h careful
