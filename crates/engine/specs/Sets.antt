-- What load and unload leave of the parts that calls change.
use Rattle.std.specs.Prelude.{List, [], map, ℕ, set}
use Rattle.std.specs.Prelude.{Option}
use Rattle.model.specs.Rules.{name_of, enabled_of, rule_indices}
use Rattle.model.specs.State.{Rest, Volatile, Store, with_enabled, with_last_activation, with_cycle_pos}
use Rattle.model.specs.Calls.{kept}

-- another rest, and no continuation
abbrev pub cleared : Rest → Volatile → Volatile
cleared rest v = record v { rest = rest; pending = [] }

module _ (img : List ℕ) (s : Store) where
  -- what store s keeps for the name of the image's rule i
  abbrev pub activation_of : ℕ → Option ℕ
  activation_of i = kept s.loaded s.vol.rest.last_activation (name_of img i)

  abbrev pub position_of : ℕ → Option ℕ
  position_of i = kept s.loaded s.vol.rest.cycle_pos (name_of img i)

  -- rule i is set; all rules are
  unfoldable pub rule_of : ℕ → Rest → Rest
  rule_of i r =
      with_enabled (set r.enabled i (enabled_of img i))
      (with_last_activation (set r.last_activation i (activation_of i)) (with_cycle_pos (set r.cycle_pos i (position_of i)) r))

  unfoldable pub rules_of : Rest → Rest
  rules_of r =
      with_enabled (map (enabled_of img) (rule_indices img))
      (with_last_activation (map activation_of (rule_indices img)) (with_cycle_pos (map position_of (rule_indices img)) r))
