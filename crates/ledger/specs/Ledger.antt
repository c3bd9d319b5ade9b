-- The ledger of demand 3: document 01, "Demand 3 is one claim about the list". It is told each call's arguments and any refusal and, in
-- order, the executed steps. "After the start it sees no store."
use Rattle.std.specs.Prelude.{ℕ, suc, pred, Bool, true, false, cond, not, ◌&&◌, ◌||◌, leb, ltb, eqb, length}
use mathlib.Core.List.{List, [], ◌∷◌, ◌++◌, map, tail}
use Rattle.std.specs.Prelude.{Option, None, Some}
use Rattle.model.specs.Lists.{keep, sort}
use Rattle.words.specs.Saturating.{saturating_add, max64}
use Rattle.model.specs.Image as image
use Rattle.model.specs.World.{now_of}
use Rattle.model.specs.declared.Point.{Point}
use Rattle.model.specs.declared.Effect.{Effect}
use Rattle.model.specs.Outcome.{Report, plain, disables, defers, Item, started, resumed, aborted, paid}
use Rattle.model.specs.declared.Pending.{Pending}
use Rattle.model.specs.State.{RuleSet, Store, next_number}
use Rattle.model.specs.Calls.{Call, new, load, unload, enable, tick, run, deadline, counters, Answer, done, refused, enabled, handled, due, counted, Done, call}

-- WHAT IT IS TOLD ------------------------------------------------------------------------------------------------------------
-- one call
pub record Notice : Type 0 where
  pub call : Call
  pub refused : Bool
  pub trace : List Item

-- what changes the ledger: the arguments of a call, and the items of its trace
pub data Event : Type 0 where
  made : Event  -- a new: the activation numbers start again
  cleared : ℕ → Event  -- a load or unload: the budget B of the set from now on
  disabled : ℕ → Event  -- a call that disables this rule
  ticked : ℕ → Event  -- a tick at this time
  ran : ℕ → Event  -- a wet run at this time
  traced : Item → Event  -- an activation or resumption begins, or a step is executed

-- "Refused or dry call, next deadline, counters: nothing"
unfoldable pub events_of : Bool → Call → List Item → List Event
events_of true c tr = []
events_of false (new t) tr = made ∷ []
events_of false (load t img) tr = cleared (image.budget img) ∷ []
events_of false (unload t) tr = cleared 0 ∷ []
events_of false (enable r true) tr = []
events_of false (enable r false) tr = disabled r ∷ []
events_of false (tick snap os es) tr = ticked (now_of snap) ∷ map traced tr
events_of false (run r true snap os es) tr = []
events_of false (run r false snap os es) tr = ran (now_of snap) ∷ map traced tr
events_of false deadline tr = []
events_of false counters tr = []

-- ENTRIES --------------------------------------------------------------------------------------------------------------------
-- "an accepted continuation: rule, list, place, jump, due time, budget left"; list, place and jump are its point
pub record Entry : Type 0 where
  pub rule : ℕ
  pub point : Point
  pub due : ℕ
  pub budget : ℕ

-- a wet activation: its number in the list of calls, and the budget of its set
pub record Activation : Type 0 where
  pub number : ℕ
  pub budget : ℕ

-- an entry with its age, its activation number and its origin, the activation that it comes from: none for what was pending at the start
pub record Posting : Type 0 where
  pub entry : Entry
  pub age : ℕ
  pub number : ℕ
  pub origin : Option Activation

-- the entries that stand, in order, the age of the next, and the last activation number given
pub record Standing : Type 0 where
  pub postings : List Posting
  pub next : ℕ
  pub last_number : ℕ

-- the activation or resumption to which the steps at hand belong: its rule, the budget that it has left, its number, its origin
pub record Payer : Type 0 where
  pub rule : ℕ
  pub left : ℕ
  pub number : ℕ
  pub origin : Option Activation

pub record Ledger : Type 0 where
  pub now : ℕ  -- the call's time
  pub budget : ℕ  -- B of the loaded set
  pub standing : Standing
  pub due : List Posting  -- what has left at this tick and is still to resume
  pub payer : Payer
  pub count : ℕ  -- wet activations so far
  pub effects : List Activation  -- the origin of each effect so far

-- "by due time, then age (start records first, by sequence number)"
unfoldable pub leaves_before : Posting → Posting → Bool
leaves_before a b = ltb a.entry.due b.entry.due || (eqb a.entry.due b.entry.due && ltb a.age b.age)

-- "all entries due by its time leave"
unfoldable pub leaving : ℕ → List Posting → List Posting
leaving t hs = sort leaves_before (keep (λ (h : Posting). leb h.entry.due t) hs)

unfoldable pub staying : ℕ → List Posting → List Posting
staying t hs = keep (λ (h : Posting). not (leb h.entry.due t)) hs

-- "a call or wet step that disables a rule, off already or not, strikes its entries"
unfoldable pub struck : ℕ → List Posting → List Posting
struck q hs = keep (λ (h : Posting). not (eqb h.entry.rule q)) hs

-- "a new last entry, or dropped if 32 stand"
unfoldable pub accept : Posting → Standing → Standing
accept h s = cond (eqb (length s.postings) 32) s (record { postings = s.postings ++ (h ∷ []); next = suc s.next; last_number = s.last_number })

-- what a step reports, once it is paid; whether the engine says that it drops a wait or an after is not asked; the due time is the "call's time plus its milliseconds, saturating"
unfoldable pub post_report : Report → ℕ → Payer → Standing → Standing
post_report plain now u s = s
post_report (disables q) now u s = record s { postings = struck q s.postings }
post_report (defers d ms sp) now u s =
    accept
    (record {
      entry = record { rule = u.rule; point = sp; due = saturating_add max64 now ms; budget = u.left };
      age = s.next;
      number = u.number;
      origin = u.origin;
    }) s

-- "A paid step takes one from the budget"
abbrev pub pay : Payer → Payer
pay u = record u { left = pred u.left }

-- "and gives at most one effect": it is counted for its origin
abbrev pub count_effect : Option Effect → Option Activation → List Activation → List Activation
count_effect None origin before = before
count_effect (Some x) None before = before
count_effect (Some x) (Some a) before = a ∷ before

-- a resumption goes on with the budget and the origin of the first entry that is still to resume; of the record only the rule is asked
abbrev pub resumed_payer : ℕ → List Posting → Payer
resumed_payer r [] = record { rule = r; left = 0; number = 0; origin = None }
resumed_payer r (h ∷ hs) = record { rule = r; left = h.entry.budget; number = h.number; origin = h.origin }

-- nothing runs
abbrev pub nobody : Payer
nobody = record { rule = 0; left = 0; number = 0; origin = None }

-- POSTING --------------------------------------------------------------------------------------------------------------------
unfoldable pub post_item : Item → Ledger → Ledger
post_item (started r) l =
    record {
      now = l.now;
      budget = l.budget;
      standing = record (l.standing) { last_number = suc l.standing.last_number };
      due = l.due;
      payer = record { rule = r; left = l.budget; number = next_number l.standing.last_number; origin = Some (record { number = l.count; budget = l.budget }) };
      count = suc l.count;
      effects = l.effects;
    }
post_item (aborted r) l = l
post_item (resumed c) l =
    record l { due = tail l.due; payer = resumed_payer c.rule l.due }
post_item (paid x s g) l =
    record l { standing = post_report s l.now (pay l.payer) l.standing; payer = pay l.payer; effects = count_effect g l.payer.origin l.effects }

abbrev pub post_items : List Item → Ledger → Ledger
post_items [] l = l
post_items (i ∷ is) l = post_items is (post_item i l)

-- "New, load or unload strikes all"; "Tick: first all entries due by its time leave"
unfoldable pub post : Event → Ledger → Ledger
post made l =
    record { now = l.now; budget = 0; standing = record { postings = []; next = l.standing.next; last_number = 0 }; due = []; payer = nobody; count = l.count; effects = l.effects }
post (cleared b) l =
    record l { budget = b; standing = record (l.standing) { postings = [] }; due = []; payer = nobody }
post (disabled q) l =
    record l { standing = record (l.standing) { postings = struck q l.standing.postings } }
post (ticked t) l =
    record l { now = t; standing = record (l.standing) { postings = staying t l.standing.postings }; due = leaving t l.standing.postings }
post (ran t) l =
    record l { now = t; due = [] }
post (traced i) l = post_item i l

abbrev pub post_all : List Event → Ledger → Ledger
post_all [] l = l
post_all (m ∷ ms) l = post_all ms (post m l)

-- the entries that leave at a call
unfoldable pub leaving_at : Bool → Call → Ledger → List Entry
leaving_at true c l = []
leaving_at false (new t) l = []
leaving_at false (load t img) l = []
leaving_at false (unload t) l = []
leaving_at false (enable r b) l = []
leaving_at false (tick snap os es) l = map (λ (h : Posting). h.entry) (leaving (now_of snap) l.standing.postings)
leaving_at false (run r d snap os es) l = []
leaving_at false deadline l = []
leaving_at false counters l = []

-- THE LIST OF CALLS ----------------------------------------------------------------------------------------------------------
-- the six fields of a pending record
unfoldable pub entry_of : Pending → Entry
entry_of c = record { rule = c.rule; point = c.point; due = c.due; budget = c.budget }

abbrev pub budget_of : Option RuleSet → ℕ
budget_of None = 0
budget_of (Some set) = image.budget set.image

-- "Start: the pending records, in order"
unfoldable pub start_ledger : Store → Ledger
start_ledger s =
    record {
      now = s.now;
      budget = budget_of s.loaded;
      standing = record {
        postings = map (λ (c : Pending). record { entry = entry_of c; age = c.seq; number = c.number; origin = None }) s.vol.pending;
        next = s.vol.next;
        last_number = s.vol.last_number;
      };
      due = [];
      payer = nobody;
      count = 0;
      effects = [];
    }

abbrev pub is_refused : Answer → Bool
is_refused done = false
is_refused (refused n) = true
is_refused (enabled b) = false
is_refused (handled os) = false
is_refused (due t) = false
is_refused (counted cs) = false

-- a store that is made new starts its sequence numbers again
abbrev pub is_new : Call → Bool
is_new (new t) = true
is_new (load t img) = false
is_new (unload t) = false
is_new (enable rule on) = false
is_new (tick snap os es) = false
is_new (run rule dry snap os es) = false
is_new deadline = false
is_new counters = false

abbrev pub notice_of : Call → Done → Notice
notice_of c d = record { call = c; refused = is_refused d.answer; trace = d.trace }

-- the records that a call resumes, as its trace has them
abbrev pub resumed_in : List Item → List Pending
resumed_in [] = []
resumed_in (resumed c ∷ ms) = c ∷ resumed_in ms
resumed_in (started r ∷ ms) = resumed_in ms
resumed_in (aborted r ∷ ms) = resumed_in ms
resumed_in (paid x s g ∷ ms) = resumed_in ms

-- the calls one after the other: what the ledger is told, the records that each resumes, and the store after them
unfoldable pub notices : Store → List Call → List Notice
notices s [] = []
notices s (c ∷ cs) = notice_of c (call c s) ∷ notices (call c s).store cs

unfoldable pub resumed_at_each : Store → List Call → List (List Entry)
resumed_at_each s [] = []
resumed_at_each s (c ∷ cs) = map entry_of (resumed_in (call c s).trace) ∷ resumed_at_each (call c s).store cs

unfoldable pub final_store : Store → List Call → Store
final_store s [] = s
final_store s (c ∷ cs) = final_store (call c s).store cs

-- the ledger over what it is told: the entries that leave at each call, and the ledger after them
unfoldable pub post_call : Notice → Ledger → Ledger
post_call t l = post_all (events_of t.refused t.call t.trace) l

unfoldable pub leaving_at_each : Ledger → List Notice → List (List Entry)
leaving_at_each l [] = []
leaving_at_each l (t ∷ ts) = leaving_at t.refused t.call l ∷ leaving_at_each (post_call t l) ts

unfoldable pub final_ledger : Ledger → List Notice → Ledger
final_ledger l [] = l
final_ledger l (t ∷ ts) = final_ledger (post_call t l) ts
