-- The tick and the next deadline: wheel.rs.
use Rattle.std.specs.Prelude.{ℕ, suc, ◌+◌, ◌-◌, ◌*◌, ◌%◌, min, Bool, true, false, cond, not, ◌&&◌, ◌||◌, List, [], ◌∷◌, ◌++◌, map, leb, ltb, eqb}
use Rattle.std.specs.Prelude.{Option, None, Some}
use Rattle.words.specs.Saturating.{saturating_add, max64}
use Rattle.model.specs.Arith.{has_day}
use Rattle.model.specs.Lists.{◌>>=◌, any, flatten, keep, sort, to_list, up_from}
use Rattle.model.specs.Rules.{triggers_of, name_order, rule_indices, rule_named, SolarEvent, Trigger, TimerFires, Every, AtTime, AtSolar, Other}
use Rattle.model.specs.World.{WallTime}
use Rattle.model.specs.State.{Env, Rest, Volatile, Pending, NamedTimer, EverySlot, Store, RuleSet, with_rest, with_timers, with_every, with_prev_week_min, bump, is_enabled, ticks_time_unsynced}
use Rattle.model.specs.Eval.{solar_of}
use Rattle.model.specs.Activate.{Handled, no_outcome, and_then, activate, resume, Auto}

-- triggers of an outcome
abbrev pub by_timer : ℕ
by_timer = 1

abbrev pub by_every : ℕ
by_every = 2

abbrev pub by_time : ℕ
by_time = 3

abbrev pub by_solar : ℕ
by_solar = 4

-- CONTINUATIONS ------------------------------------------------------------------------------------------------------------
-- by due time, then by sequence number
abbrev pub due_before : Pending → Pending → Bool
due_before a b = ltb a.due b.due || (eqb a.due b.due && ltb a.seq b.seq)

unfoldable pub due_now : ℕ → List Pending → List Pending
due_now now ps = sort due_before (keep (λ (c : Pending). leb c.due now) ps)

-- each record with its index, where the first has index i
abbrev pub indexed_from : ℕ → List Pending → List (ℕ × Pending)
indexed_from i [] = []
indexed_from i (c ∷ cs) = (i, c) ∷ indexed_from (suc i) cs

-- the indices of what is due, in the order of `due_now`: document 02, request 3
unfoldable pub due_indices : ℕ → List Pending → List ℕ
due_indices now ps =
    map (λ (x : ℕ × Pending). x.0)
    (sort (λ (x y : ℕ × Pending). due_before x.1 y.1) (keep (λ (x : ℕ × Pending). leb x.1.due now) (indexed_from 0 ps)))

-- the store without what is due
unfoldable pub not_due : ℕ → Volatile → Volatile
not_due now v = record v { pending = keep (λ (c : Pending). not (leb c.due now)) v.pending }

unfoldable pub resume_all : Env → List Pending → Volatile → Handled
resume_all e [] v = no_outcome v
resume_all e (c ∷ cs) v = and_then (resume e c v) (λ v'. resume_all e cs v')

-- what is due leaves before the first of it resumes
unfoldable pub fire_continuations : Env → Volatile → Handled
fire_continuations e v = resume_all e (due_now e.world.now v.pending) (not_due e.world.now v)

-- TIMERS AND EVERY: a source says which rules it starts, one after the other; whether one is enabled is asked when its turn comes --
pub record Plan : Type 0 where
  pub rest : Rest
  pub rules : List ℕ

unfoldable pub activate_if_enabled : Env → ℕ → ℕ → Volatile → Handled
activate_if_enabled e kind i v = cond (is_enabled v.rest i) (activate e i kind Auto v) (no_outcome v)

unfoldable pub activate_each : Env → ℕ → List ℕ → Volatile → Handled
activate_each e kind [] v = no_outcome v
activate_each e kind (i ∷ is) v = and_then (activate_if_enabled e kind i v) (λ v'. activate_each e kind is v')

abbrev pub planned : Env → ℕ → Plan → Volatile → Handled
planned e kind p v = activate_each e kind p.rules (with_rest p.rest v)

abbrev pub fires_on : ℕ → Trigger → Bool
fires_on timer (TimerFires t) = eqb t timer
fires_on timer (Every ms) = false
fires_on timer (AtTime h m days) = false
fires_on timer (AtSolar event offset) = false
fires_on timer Other = false

-- due timers, by due time, then by name
abbrev pub timer_before : NamedTimer → NamedTimer → Bool
timer_before a b = ltb a.due b.due || (eqb a.due b.due && leb a.name b.name)

unfoldable pub due_timers : ℕ → Rest → List NamedTimer
due_timers now s = sort timer_before (keep (λ (t : NamedTimer). leb t.due now) s.timers)

unfoldable pub rules_on_timer : List ℕ → ℕ → List ℕ
rules_on_timer img timer = keep (λ i. any (fires_on timer) (triggers_of img i)) (name_order img)

-- `fire_timers`: all due ones leave
unfoldable pub timers_due : Env → Rest → Plan
timers_due e s =
    record {
      rest = with_timers (keep (λ (t : NamedTimer). not (leb t.due e.world.now)) s.timers) s;
      rules = flatten (map (λ (t : NamedTimer). rules_on_timer e.set.image t.name) (due_timers e.world.now s));
    }

-- `fire_every`: each due slot fires once, and is due again a period from now
abbrev pub moved : ℕ → EverySlot → EverySlot
moved now x =
    cond (leb x.due now) (record x { due = saturating_add max64 now x.period }) x

unfoldable pub every_due : Env → Rest → Plan
every_due e s =
    record {
      rest = with_every (map (moved e.world.now) s.every) s;
      rules =
          flatten
          (map (λ (x : EverySlot). to_list (rule_named e.set.image x.rule))
          (keep (λ (x : EverySlot). leb x.due e.world.now) s.every));
    }

-- WALL SCHEDULES -------------------------------------------------------------------------------------------------------------
abbrev pub week_minutes : ℕ
week_minutes = 7 * 24 * 60

unfoldable pub week_minute : WallTime → ℕ
week_minute w = w.weekday * 1440 + w.minutes_of_day

unfoldable pub cyclic_dist : ℕ → ℕ → ℕ
cyclic_dist from to = (to + week_minutes - from) % week_minutes

unfoldable pub in_window : ℕ → ℕ → ℕ → Bool
in_window base window target = let dist = cyclic_dist base target in leb 1 dist && leb dist window

abbrev pub weekdays : List ℕ
weekdays = up_from 0 7

-- a minute of these days is due
unfoldable pub minute_due : ℕ → ℕ → ℕ → ℕ → Bool
minute_due base window days minute = any (λ d. has_day days d && in_window base window (d * 1440 + minute)) weekdays

-- the kind of the first due trigger, and whether one before it asked for a sun that is not known
pub record WallKind : Type 0 where
  pub kind : Option ℕ
  pub unsynced : Bool

abbrev pub without_sun : WallKind → WallKind
without_sun w = record { kind = w.kind; unsynced = true }

unfoldable pub solar_due : Env → ℕ → ℕ → SolarEvent → ℕ → Option Bool
solar_due e base window event offset = do
  sun ← e.world.sun
  Some (minute_due base window 127 (solar_of sun event offset))

unfoldable pub due_wall_kind : Env → ℕ → ℕ → List Trigger → WallKind
due_wall_kind e base window [] = record { kind = None; unsynced = false }
due_wall_kind e base window (TimerFires t ∷ ts) = due_wall_kind e base window ts
due_wall_kind e base window (Every ms ∷ ts) = due_wall_kind e base window ts
due_wall_kind e base window (AtTime h m days ∷ ts) =
    elim (minute_due base window days (h * 60 + m)) [
      | true ↦ record { kind = Some by_time; unsynced = false }
      | false ↦ due_wall_kind e base window ts
    ]
due_wall_kind e base window (AtSolar event offset ∷ ts) =
    elim (solar_due e base window event offset) [
      | None ↦ without_sun (due_wall_kind e base window ts)
      | Some is ↦ elim is [ true ↦ record { kind = Some by_solar; unsynced = false } | false ↦ due_wall_kind e base window ts ]
    ]
due_wall_kind e base window (Other ∷ ts) = due_wall_kind e base window ts

abbrev pub start_wall : Option ℕ → Env → ℕ → Volatile → Handled
start_wall None e i v = no_outcome v
start_wall (Some kind) e i v = activate e i kind Auto v

-- a rule's turn: whether it is enabled, and whether a sun was missed so far; then the others'
abbrev pub wall_turn : Bool → Bool → Env → ℕ → ℕ → ℕ → Volatile → (Bool → Volatile → Handled) → Handled
wall_turn false missed e base window i v k = k missed v
wall_turn true missed e base window i v k =
    let w = due_wall_kind e base window (triggers_of e.set.image i) in
    and_then (start_wall w.kind e i v) (k (missed || w.unsynced))

-- `fire_due_wall_rules`: a missing sun counts once, when all rules have had their turn
unfoldable pub fire_due_wall_rules : Env → ℕ → ℕ → Bool → List ℕ → Volatile → Handled
fire_due_wall_rules e base window missed [] v = no_outcome (with_rest (cond missed (bump ticks_time_unsynced v.rest) v.rest) v)
fire_due_wall_rules e base window missed (i ∷ is) v =
    wall_turn (is_enabled v.rest i) missed e base window i v (λ missed' v'. fire_due_wall_rules e base window missed' is v')

abbrev pub is_wall_trigger : Trigger → Bool
is_wall_trigger (TimerFires t) = false
is_wall_trigger (Every ms) = false
is_wall_trigger (AtTime h m days) = true
is_wall_trigger (AtSolar event offset) = true
is_wall_trigger Other = false

-- an enabled rule has a wall trigger
unfoldable pub has_wall_triggers : List ℕ → Rest → Bool
has_wall_triggers img s = any (λ i. is_enabled s i && any is_wall_trigger (triggers_of img i)) (rule_indices img)

-- what has become due since the minute before, at most an hour of it
abbrev pub window_of : ℕ → ℕ → ℕ
window_of prev now = min (cyclic_dist prev now) 60

unfoldable pub fire_window : Env → ℕ → ℕ → Volatile → Handled
fire_window e now window v =
    cond (has_wall_triggers e.set.image v.rest && leb 1 window)
    (fire_due_wall_rules e ((now + week_minutes - window) % week_minutes) window false (name_order e.set.image) v)
    (no_outcome v)

-- document 01's rule for every jump of the clock
unfoldable pub make_up : Env → ℕ → ℕ → Volatile → Handled
make_up e now prev v = fire_window e now (window_of prev now) v

-- request 5 of document 02: the clock was set back, "1 to 120 minutes behind the previous one, round the week"
unfoldable pub is_set_back : ℕ → ℕ → Bool
is_set_back prev now = in_window now 120 prev

-- such a tick "starts no wall rule"
abbrev pub catch_up : Env → ℕ → Option ℕ → Volatile → Handled
catch_up e now None v = no_outcome v
catch_up e now (Some prev) v = cond (is_set_back prev now) (no_outcome v) (make_up e now prev v)

-- without a wall clock the minute before is forgotten
abbrev pub without_clock : Env → Rest → Rest
without_clock e s = with_prev_week_min None (cond (has_wall_triggers e.set.image s) (bump ticks_time_unsynced s) s)

abbrev pub fire_wall_at : Option WallTime → Env → Volatile → Handled
fire_wall_at None e v = no_outcome (with_rest (without_clock e v.rest) v)
fire_wall_at (Some w) e v = catch_up e (week_minute w) v.rest.prev_week_min (with_rest (with_prev_week_min (Some (week_minute w)) v.rest) v)

unfoldable pub fire_wall_schedules : Env → Volatile → Handled
fire_wall_schedules e v = fire_wall_at e.world.wall e v

-- THE TICK ---------------------------------------------------------------------------------------------------------------------
unfoldable pub fire_timers : Env → Volatile → Handled
fire_timers e v = planned e by_timer (timers_due e v.rest) v

unfoldable pub fire_every : Env → Volatile → Handled
fire_every e v = planned e by_every (every_due e v.rest) v

unfoldable pub service_tick : Env → Volatile → Handled
service_tick e v = and_then (and_then (and_then (fire_continuations e v) (fire_timers e)) (fire_every e)) (fire_wall_schedules e)

-- THE NEXT DEADLINE ------------------------------------------------------------------------------------------------------------------
abbrev pub least_of : ℕ → Option ℕ → Option ℕ
least_of x None = Some x
least_of x (Some y) = Some (min x y)

abbrev pub least : List ℕ → Option ℕ
least [] = None
least (x ∷ xs) = least_of x (least xs)

abbrev pub wall_poll : Store → Option RuleSet → List ℕ
wall_poll s None = []
wall_poll s (Some set) = cond (has_wall_triggers set.image s.vol.rest) (saturating_add max64 s.now 1000 ∷ []) []

unfoldable pub next_deadline : Store → Option ℕ
next_deadline s =
    least
    (map (λ (c : Pending). c.due) s.vol.pending
    ++ map (λ (t : NamedTimer). t.due) s.vol.rest.timers
    ++ map (λ (x : EverySlot). x.due) s.vol.rest.every
    ++ wall_poll s s.loaded)
