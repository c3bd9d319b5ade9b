-- Images, snapshots and histories, written short: for worked examples of the specification.
use Rattle.std.specs.Prelude.{ℕ, ◌+◌, ◌-◌, true, false, List, [], ◌∷◌, ◌++◌, map, length, replicate}
use Rattle.model.specs.declared.Effect.{Effect}
use Rattle.model.specs.Lists.{flatten, to_list}
use Rattle.model.specs.Outcome.{Outcome}
use Rattle.model.specs.Calls.{Call, load, run, tick, Answer, done, refused, enabled, handled, due, counted, fresh, answers}

-- IMAGES AND SNAPSHOTS -------------------------------------------------------------------------------------------------------------
unfoldable pub padded : ℕ → List ℕ → List ℕ
padded n r = r ++ replicate (n - length r) 0

unfoldable pub tabled : ℕ → List (List ℕ) → List ℕ
tabled n rs = flatten (map (padded n) rs)

-- where the tables begin, the first at n
unfoldable pub starts : ℕ → List (List ℕ) → List ℕ
starts n [] = []
starts n (t ∷ ts) = n ∷ starts (n + length t) ts

-- an image of budget b: rules, triggers, conditions, actions and time bounds
unfoldable pub image_of : ℕ → List (List ℕ) → List (List ℕ) → List (List ℕ) → List (List ℕ) → List (List ℕ) → List ℕ
image_of b rules triggers conditions actions bounds =
    let tables : List (List ℕ) = tabled 16 rules ∷ [] ∷ tabled 8 triggers ∷ tabled 8 conditions ∷ tabled 8 actions ∷ [] ∷ tabled 8 bounds ∷ [] ∷ [] in
    flatten tables ++ (b ∷ 0 ∷ 255 ∷ 255 ∷ 255 ∷ []) ++ starts 0 tables

-- an enabled rule: name, cooldown, then triggers, conditions and actions
unfoldable pub rule : ℕ → ℕ → ℕ → ℕ → ℕ → ℕ → ℕ → ℕ → List ℕ
rule name cooldown t tn c cn a an = name ∷ 1 ∷ 0 ∷ cooldown ∷ t ∷ tn ∷ c ∷ cn ∷ a ∷ an ∷ []

-- actions
unfoldable pub log : ℕ → List ℕ
log text = 21 ∷ text ∷ []

unfoldable pub wait : ℕ → List ℕ
wait ms = 23 ∷ ms ∷ []

unfoldable pub after : ℕ → ℕ → ℕ → List ℕ
after ms first count = 24 ∷ ms ∷ first ∷ count ∷ []

unfoldable pub logs : ℕ → List (List ℕ)
logs n = replicate n (log 7)

unfoldable pub percent : ℕ → ℕ → ℕ → List ℕ
percent target hold value = 28 ∷ target ∷ hold ∷ value ∷ []

-- a value
unfoldable pub literal : ℕ → List ℕ
literal n = 0 ∷ n ∷ 0 ∷ []

-- rule 5 does these actions of the table, the first n of them as its own
unfoldable pub doing : ℕ → ℕ → List (List ℕ) → List ℕ
doing b n actions = image_of b (rule 5 0 0 0 0 0 0 n ∷ []) [] [] actions []

-- the same with values
unfoldable pub valued : ℕ → ℕ → List (List ℕ) → List (List ℕ) → List ℕ
valued b n actions values =
    let tables : List (List ℕ) = tabled 16 (rule 5 0 0 0 0 0 0 n ∷ []) ∷ [] ∷ [] ∷ [] ∷ tabled 8 actions ∷ tabled 8 values ∷ [] ∷ [] ∷ [] in
    flatten tables ++ (b ∷ 0 ∷ 255 ∷ 255 ∷ 255 ∷ []) ++ starts 0 tables

unfoldable pub snapshot : ℕ → List ℕ → List ℕ → List ℕ
snapshot now wall sun = (now ∷ 0 ∷ []) ++ wall ++ sun ++ replicate 6 0

unfoldable pub absent : List ℕ
absent = 0 ∷ 0 ∷ 0 ∷ []

-- CALLS, with room for nine outcomes and nine effects --------------------------------------------------------------------------------
-- a tick at a time, and one at a minute of a weekday
unfoldable pub tick_at : ℕ → Call
tick_at now = tick (snapshot now absent absent) 72 45

unfoldable pub tick_at_minute : ℕ → ℕ → ℕ → Call
tick_at_minute now day minute = tick (snapshot now (1 ∷ day ∷ minute ∷ []) absent) 72 45

-- a wet and a dry run of a rule
unfoldable pub run_wet : ℕ → ℕ → Call
run_wet r now = run r false (snapshot now absent absent) 72 45

unfoldable pub run_dry : ℕ → ℕ → Call
run_dry r now = run r true (snapshot now absent absent) 72 45

-- WHAT IS COMPARED ---------------------------------------------------------------------------------------------------------------------
-- of an outcome: rule, reason, and the first word of each effect (of a Log, its text)
unfoldable pub shown : Outcome → List ℕ
shown o = o.rule ∷ o.reason ∷ map (λ (x : Effect). x.a) o.effects

-- of an answer: a line for each of its outcomes, or one for a refusal, a deadline, the counters
unfoldable pub seen : Answer → List (List ℕ)
seen done = []
seen (refused n) = (n ∷ []) ∷ []
seen (enabled b) = []
seen (handled os) = map shown os
seen (due t) = to_list t ∷ []
seen (counted cs) = cs ∷ []

-- a list, computed once and then handed on
unfoldable pub force : {A : Type 0} → List ℕ → (List ℕ → A) → A
force [] k = k []
force (x ∷ xs) k = force xs (λ ys. k (x ∷ ys))

-- of calls on a new store that has loaded an image: what is seen of each
unfoldable pub history : List ℕ → List Call → List (List (List ℕ))
history image cs = force image (λ img. map seen (answers (fresh 0) (load 0 img ∷ cs)))

-- a row of a table of examples: what the definitions give, and what the document says
pub record Edge : Type 0 where
  pub is : List (List (List ℕ))
  pub says : List (List (List ℕ))

unfoldable pub edge : List (List (List ℕ)) → List (List (List ℕ)) → Edge
edge is says = record { is = is; says = says }

-- one name that opens them all
unfoldable pub samples : ℕ
unfolding padded tabled starts image_of rule log wait after doing logs percent literal valued snapshot absent tick_at tick_at_minute run_wet run_dry shown seen force history edge
samples = 0
