-- An action's answer, and an action that changes the state and then answers. Assumes nothing.
use Prim.Native.Nat.{ℕ}
use mathlib.Core.Path.{◌≡◌, refl, sym, ap, subst, ◌∙◌}
use mathlib.Core.Bool.{Bool, true, false, not, true≢false}
use mathlib.Core.List.{List}
use Rattle.std.specs.Prelude.{None, Ok, Err}
use Rattle.std.specs.Result.{IsErr}
use lib.Dec.{leb}
use lib.ListN.{length}
use Rattle.words.specs.Saturating.{saturating_add, max64}
use Rattle.model.specs.Actions as model
use Rattle.model.specs.State as model-state
use Rattle.model.specs.State.{Rest, with_rest, with_enabled, add_timer, with_vars, put_var}
use Rattle.model.specs.declared.VarValue.{VarValue}
use Rattle.state.specs.Meaning.{Means, meaning, base}
use Rattle.state.specs.Named.{armed, assigned, lacks_room}
use Rattle.exec.specs.Results.{Does, Acts, struck}
use Rattle.exec.specs.Done.{PrimResult, ActionDone, action_done, counted}
use Rattle.model.specs.declared.Unevaluable.{Unevaluable}

pub answers : {v : List ℕ} {r : ActionDone} {a b : model.PrimResult} → Does v r a → a ≡ b → Does v r b
answers {v} {r} d e = subst (λ (x : model.PrimResult). Does v r x) e d

-- an action that does nothing
pub does-nothing : {v : List ℕ} → Does v (action_done v (Ok None)) (model.no_effect (meaning v).rest)
does-nothing = record { state = refl; based = refl; effect = refl; reason = refl }

-- an action that fails leaves the state as it is
pub does-fail : {v : List ℕ} {u : Unevaluable} → Does v (action_done v (Err u)) (model.fails (meaning v).rest)
unfolding model.fails
does-fail = record { state = refl; based = refl; effect = refl; reason = refl }

-- so does one whose error `?` hands on
pub hands-on : {v : List ℕ} (r : PrimResult) → IsErr r → Does v (action_done v r) (model.fails (meaning v).rest)
hands-on (Ok x) h = absurd (true≢false (sym h))
hands-on (Err u) h = does-fail

-- what an action did, once it is counted that it failed
pub acts :
    (v w : List ℕ) (a : ActionDone) (x : model.PrimResult) (r : PrimResult) → Does v a x → (r ≡ a.answer) × Means w (base a.vol) (counted a.answer (meaning a.vol))
    → Acts v (action_done w r) x
acts v w a x r d n =
    rw n.0 (record { state = record { says = n.1.says ∙ d.state; based = n.1.based ∙ d.based }; effect = d.effect; reason = d.reason })

-- w has the rest s in place of v's: what is answered of w is answered of v
pub follows :
    (f : Rest → model.PrimResult) (v w : List ℕ) (r : ActionDone) (s : Rest) → Means w (base v) (with_rest s (meaning v)) → Does w r (f (meaning w).rest)
    → Does v r (f s)
follows f v w r s m d =
    record {
      state = subst (λ (x : model-state.Volatile). counted r.answer (meaning r.vol) ≡ struck (f x.rest).disables (with_rest (f x.rest).rest x)) m.says d.state;
      based = d.based ∙ m.based;
      effect = d.effect ∙ ap (λ (x : model-state.Volatile). (f x.rest).effect) m.says;
      reason = d.reason ∙ ap (λ (x : model-state.Volatile). (f x.rest).reason) m.says;
    }

-- a state that takes one more timer, and one more value of a variable
pub armed-wet : (v w : List ℕ) (name due : ℕ) → leb 16 (length (meaning v).rest.timers) ≡ false → Means w (base v) (armed name due (meaning v)) → Means w (base v) (with_rest (add_timer name due (meaning v).rest) (meaning v))
unfolding armed
armed-wet v w name due h m = rw h at m

pub assigned-wet : (v w : List ℕ) (name : ℕ) (x : VarValue) → lacks_room name (meaning v) ≡ false → Means w (base v) (assigned name x (meaning v)) → Means w (base v) (with_rest (with_vars (put_var name x (meaning v).rest.vars) (meaning v).rest) (meaning v))
unfolding assigned
assigned-wet v w name x h m = rw h at m

-- a state that has no room for it stays as it is
pub armed-full : (v w : List ℕ) (name due : ℕ) → leb 16 (length (meaning v).rest.timers) ≡ true → Means w (base v) (armed name due (meaning v)) → Means w (base v) (with_rest (meaning v).rest (meaning v))
unfolding armed
armed-full v w name due h m = rw h at m

pub assigned-full : (v w : List ℕ) (name : ℕ) (x : VarValue) → lacks_room name (meaning v) ≡ true → Means w (base v) (assigned name x (meaning v)) → Means w (base v) (with_rest (meaning v).rest (meaning v))
unfolding assigned
assigned-full v w name x h m = rw h at m

-- what a try answers of the room that there was
pub has-room : (r full : Bool) → r ≡ not full → r ≡ true → full ≡ false
has-room r true e f = absurd (true≢false (sym f ∙ e))
has-room r false e f = refl

pub no-room : (r full : Bool) → r ≡ not full → r ≡ false → full ≡ true
no-room r true e f = refl
no-room r false e f = absurd (true≢false (sym e ∙ f))

-- a time that is a number of milliseconds from now
pub due-is : (due now n ms : ℕ) → due ≡ saturating_add max64 now ms → now ≡ n → due ≡ saturating_add max64 n ms
due-is due now n ms d h = rw h at d
