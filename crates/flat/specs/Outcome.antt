-- What the functions of flattening require and ensure.
use Rattle.std.specs.Prelude.{◌≡◌, Bool, false, ◌&&◌, List, [], ◌++◌, ℕ, zero, suc, ◌+◌, ◌*◌, ◌/◌, ◌≤◌, ◌<◌, length, take, drop, get_or}
use Rattle.std.specs.Prelude.{Option, None, Some, Result, Ok, Err}
use Rattle.model.specs.declared.Refusal.{Refusal}
use Rattle.model.specs.declared.Refusal.TheVariants.{FlatSteps}
use Rattle.model.specs.declared.Record.{Record}
use Rattle.model.specs.declared.FlowAction.{FlowAction}
use Rattle.model.specs.declared.FlowAction.TheVariants.{Wait, After, Call, Repeat, Conditional, Plain}
use Rattle.model.specs.declared.FlattenCtx.{FlattenCtx}
use Rattle.model.specs.Rules.{record_in, flow_of}
use Rattle.model.specs.Flat.{Row, Flattened, Flattening, copies, flatten_list, flatten_action, flatten_call, flattenings, block_named}
use Rattle.flat.specs.Words.{layout, same_at}
use Rattle.flat.specs.declared.Done.{Done}
use Rattle.flat.specs.declared.Progress.{Progress}

-- PARTS OF THE ACTION TABLE ---------------------------------------------------------------------------------------------------------
-- the action in record i
abbrev pub action_in : List ℕ → ℕ → FlowAction
action_in acts i = flow_of (record_in acts i)

-- what `count` records from `first` on give as a list, and what record i gives, also read as another action
abbrev pub list_at : List ℕ → List ℕ → ℕ → ℕ → ℕ → Flattening
list_at acts blocks d first count = flatten_list (take count (drop first (flattenings acts blocks d)))

abbrev pub form_at : List ℕ → List ℕ → ℕ → ℕ → FlowAction → Flattening
form_at acts blocks d i = flatten_action (flatten_call acts blocks d) i (drop (suc i) (flattenings acts blocks d))

abbrev pub action_at : List ℕ → List ℕ → ℕ → ℕ → Flattening
action_at acts blocks d i = form_at acts blocks d i (action_in acts i)

-- what the block table gives, where 0 stands for no block and k + 1 for block k
unfoldable pub block_at : List ℕ → ℕ → Option Record
block_at blocks zero = None
block_at blocks (suc k) = Some (record_in blocks k)

-- the block that the call in record i names; none where no call stands there
abbrev pub called_in : List ℕ → FlowAction → Option Record
called_in blocks (Wait ms) = None
called_in blocks (After ms f k) = None
called_in blocks (Call b) = block_named [] blocks b
called_in blocks (Repeat t f k) = None
called_in blocks (Conditional q yf yk ef ek) = None
called_in blocks Plain = None

-- `calls` says of each of n action records which block it calls: looked up once for an image
unfoldable pub Resolved : List ℕ → List ℕ → List ℕ → ℕ → Type 0
Resolved acts blocks calls n =
    (i : ℕ) → i < n → (get_or calls i 0 ≤ length blocks / 8) × (block_at blocks (get_or calls i 0) ≡ called_in blocks (action_in acts i))

-- WORDS -------------------------------------------------------------------------------------------------------------------------------
-- step n is these words, the others are as they were
abbrev pub Put : List ℕ → ℕ → List ℕ → List ℕ → Type 0
Put list n w after = n * 4 + 4 ≤ length list → after ≡ take (n * 4) list ++ w ++ drop (n * 4 + 4) list

-- behind n steps stand these rows
abbrev pub Behinds : List ℕ → ℕ → List Row → List ℕ → ℕ → Type 0
Behinds list n rows after n' = n' * 4 ≤ length list → take (n' * 4) after ≡ take (n * 4) list ++ layout rows

-- one step more in the list
abbrev pub one_more : Progress → Progress
one_more p = record p { n = p.n + 1 }

-- these rows stand in `seen` behind m steps
abbrev pub holds_at : List ℕ → ℕ → List Row → Bool
holds_at seen m rows = same_at seen (m * 4) (layout rows)

-- WHAT IS REQUIRED ------------------------------------------------------------------------------------------------------------------
-- a list of record i lies in a table of n records and, unless it is empty, behind record i
pub record Behind (n i first count : ℕ) : Type 0 where
  pub inside : first + count ≤ n
  pub behind : 0 < count → i < first

abbrev pub NestedIn : ℕ → ℕ → FlowAction → Type 0
NestedIn n i (Wait ms) = Unit {0}
NestedIn n i (After ms f k) = Behind n i f k
NestedIn n i (Call b) = Unit {0}
NestedIn n i (Repeat t f k) = Behind n i f k
NestedIn n i (Conditional q yf yk ef ek) = Behind n i yf yk × Behind n i ef ek
NestedIn n i Plain = Unit {0}

abbrev pub BlockIn : ℕ → Option Record → Type 0
BlockIn n (Some r) = r.a + r.b ≤ n
BlockIn n None = Unit {0}

-- what load has checked (refusals 10 and 14)
pub record Tables (acts blocks : List ℕ) : Type 0 where
  pub few : length acts ≤ 4096
  pub nested : (i : ℕ) → i < length acts / 8 → NestedIn (length acts / 8) i (action_in acts i)
  pub found : (b : ℕ) → BlockIn (length acts / 8) (block_named acts blocks b)

-- what each function of the cycle requires: the numbers are small enough, and an after's body has room: no list passes 256 + 8 + 4 steps
pub record Start (scratch d : ℕ) (ctx : FlattenCtx) (n m allowed : ℕ) : Type 0 where
  pub depth_le : d ≤ 8
  pub room : ctx.in_after ≡ false → 1072 ≤ scratch
  pub limit-lt : ctx.limit < 256
  pub allowed-le : allowed ≤ 65536
  pub listed_le : n ≤ 4294967295
  pub stored-le : m + 257 * allowed ≤ 4294967295

-- WHAT IS ENSURED -------------------------------------------------------------------------------------------------------------------
-- how far flattening is: n steps in the list, m in the bodies, so many actions allowed, and whether all bodies so far are those to be compared
abbrev pub so_far : ℕ → ℕ → ℕ → Bool → Done
so_far n m left same = record { n = n; m = m; left = left; same = same }

-- `f` was flattened from p on, and q is then how far it is: its sizes are told; its rows stand behind the steps of the list, and its bodies behind
-- those of the bodies, if they have room; and whether its bodies stand in `seen`, if all before did. The last two keep the numbers
-- small: a repeat makes at most 257 steps.
pub record Wrote (e e' : ℕ) (f : Flattened) (p : Done) (seen list bodies list' bodies' : List ℕ) (q : Done) : Type 0 where
  pub counted : q.n ≡ p.n + length f.steps
  pub rows : length f.rows ≡ length f.steps
  pub stored : q.m ≡ p.m + length f.bodies
  pub taken : q.left + f.taken ≡ p.left
  pub listed : Behinds list p.n f.rows list' q.n
  pub bodied : Behinds bodies p.m f.bodies bodies' q.m
  pub kept : take (p.m * 4) bodies' ≡ take (p.m * 4) bodies
  pub agrees : q.same ≡ p.same && holds_at seen p.m f.bodies
  pub few : q.n + 257 * q.left ≤ p.n + 257 * p.left + e
  pub few' : q.m + 257 * q.left ≤ p.m + 257 * p.left + e'

-- how far it is then, of the list and of the bodies
abbrev pub told : ℕ → Bool → Result Progress Refusal → Result Done Refusal
told m same (Err refusal) = Err refusal
told m same (Ok p) = Ok (so_far p.n m p.left same)

abbrev pub FlattensTo : ℕ → ℕ → Flattened → Done → List ℕ → List ℕ → List ℕ → List ℕ → List ℕ → Result Done Refusal → Type 0
FlattensTo e e' f p seen list bodies list' bodies' (Err refusal) = (refusal ≡ FlatSteps) × (p.left < f.taken)
FlattensTo e e' f p seen list bodies list' bodies' (Ok q) = Wrote e e' f p seen list bodies list' bodies' q

-- of a list, and of an action, which has been counted by the list around it
abbrev pub ListOut : Flattened → Done → List ℕ → List ℕ → List ℕ → List ℕ → List ℕ → Result Done Refusal → Type 0
ListOut = FlattensTo 1 0

abbrev pub ActOut : Flattened → Done → List ℕ → List ℕ → List ℕ → List ℕ → List ℕ → Result Done Refusal → Type 0
ActOut = FlattensTo 257 257

-- the copies of a repeat's body, whose first copy stands behind the n steps that `list` has
pub record Copied (b : Flattened) (times n : ℕ) (list after : List ℕ) (n' : ℕ) : Type 0 where
  pub counted : n' ≡ n + length (copies times b n).steps
  pub rows : length (copies times b n).rows ≡ length (copies times b n).steps
  pub few : n' ≤ 257
  pub written : (list₀ : List ℕ) → length list₀ ≡ length list → Behinds list₀ n b.rows list (n + length b.rows) → Behinds list₀ n (copies times b n).rows after n'
