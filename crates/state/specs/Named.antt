-- Timers, variables and Every slots: what the contracts on them cite.
use Rattle.std.specs.Prelude.{ℕ, ◌+◌, ◌*◌, Option, ltb, Bool, false, cond, not, ◌&&◌, List, [], ◌∷◌, eqb, leb, length, replicate}
use Rattle.std.specs.Prelude.{None}
use Rattle.model.specs.Codec.{Row, maybe}
use Rattle.model.specs.Lists.{present, find, keep}
use Rattle.model.specs.Parts.{timer_row}
use Rattle.model.specs.State.{Rest, Volatile, with_rest, with_enabled, with_last_activation, with_cycle_pos, add_timer, with_timers, with_vars, var_named, put_var}
use Rattle.model.specs.declared.EverySlot.{EverySlot}
use Rattle.model.specs.declared.NamedTimer.{NamedTimer}
use Rattle.model.specs.declared.VarValue.{VarValue}
use Rattle.model.specs.declared.Variable.{Variable}
use Rattle.rows.specs.Places.{row_at, laid}
use Rattle.state.specs.Meaning.{rules_of}

abbrev pub timer_has_name : ℕ → NamedTimer → Bool
timer_has_name name t = eqb t.name name

abbrev pub timer_due : ℕ → NamedTimer → Bool
timer_due now t = leb t.due now

abbrev pub timer_later : ℕ → NamedTimer → Bool
timer_later now t = not (leb t.due now)

-- the timers whose rows pass stay
abbrev pub timers_kept : (List ℕ → Bool) → Volatile → Volatile
timers_kept test v = with_rest (with_timers (keep (λ (t : NamedTimer). test (timer_row.put t)) v.rest.timers) v.rest) v

abbrev pub slot_due : ℕ → EverySlot → Bool
slot_due now x = leb x.due now

abbrev pub variable_has_name : ℕ → Variable → Bool
variable_has_name name x = eqb x.name name

-- a timer joins where there is room
unfoldable pub armed : ℕ → ℕ → Volatile → Volatile
armed name due v = cond (leb 16 (length v.rest.timers)) v (with_rest (add_timer name due v.rest) v)

-- no variable of this name, and no room for one
unfoldable pub lacks_room : ℕ → Volatile → Bool
lacks_room name v = not (present (var_named v.rest name)) && leb 16 (length v.rest.vars)

unfoldable pub assigned : ℕ → VarValue → Volatile → Volatile
assigned name x v = cond (lacks_room name v) v (with_rest (with_vars (put_var name x v.rest.vars) v.rest) v)

-- rows of variables: name, tag, value. A row set again stays in its place
abbrev pub has_name : ℕ → ℕ × (ℕ × ℕ) → Bool
has_name name r = eqb r.0 name

abbrev pub put_row : ℕ → ℕ × (ℕ × ℕ) → List (ℕ × (ℕ × ℕ)) → List (ℕ × (ℕ × ℕ))
put_row name x [] = x ∷ []
put_row name x (y ∷ ys) = cond (has_name name y) (x ∷ ys) (y ∷ put_row name x ys)

-- no row of this name, and no room for one
abbrev pub no_row : ℕ → List (ℕ × (ℕ × ℕ)) → Bool
no_row name l = not (present (find (has_name name) l)) && leb 16 (length l)

unfoldable pub assign_row : ℕ → ℕ × (ℕ × ℕ) → List (ℕ × (ℕ × ℕ)) → List (ℕ × (ℕ × ℕ))
assign_row name x l = cond (no_row name l) l (put_row name x l)

-- what a part with an option for each rule, of n words and a mark, says of rule i; and the words that say it otherwise
unfoldable pub kept_for : {A : Type 0} → Row A → ℕ → List ℕ → ℕ → ℕ → Option A
kept_for r n w part i = cond (ltb i (rules_of w)) (row_at (maybe r) w (part + i * (1 + n))) None

unfoldable pub kept_laid : {A : Type 0} → Row A → ℕ → List ℕ → ℕ → ℕ → Option A → List ℕ
kept_laid r n w part i x = cond (ltb i (rules_of w)) (laid w (part + i * (1 + n)) ((maybe r).put x)) w

-- n rules, and nothing is kept of any
abbrev pub unset_rules : ℕ → Rest → Rest
unset_rules n s = with_enabled (replicate n false) (with_last_activation (replicate n None) (with_cycle_pos (replicate n None) s))
