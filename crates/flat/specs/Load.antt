-- Flattening a whole image, and where each rule's part stands in the flat part.
use Rattle.std.specs.Prelude.{Bool, true, false, cond, not, ◌&&◌, eqb, ◌≡◌, List, ◌++◌, map, ℕ, ◌+◌, ◌*◌, ◌-◌, ◌/◌, ◌≤◌, ◌<◌, length, take, get_or, replicate, Result, Ok, Err}
use Rattle.model.specs.declared.FlattenCtx.{FlattenCtx}
use Rattle.model.specs.Lists.{up_from, flatten}
use Rattle.model.specs.Codec.{words_of}
use Rattle.model.specs.Parts.{list_row}
use Rattle.model.specs.Store.{filled, no_list, list_rows, same_list}
use Rattle.model.specs.Image.{image_sized, limits_fit, places_fit, tables_pass}
use Rattle.model.specs.declared.Refusal.{Refusal}
use Rattle.model.specs.declared.Refusal.TheVariants.{FlatSteps}
use Rattle.model.specs.Flat.{Row, Flattened, part_of, too_many_steps}
use Rattle.flat.specs.Words.{layout, same_at}
use Rattle.flat.specs.declared.Done.{Done}
use Rattle.flat.specs.Outcome.{Tables, list_at}
use Rattle.flat.specs.declared.Made.{Made}

-- THE WORDS OF A FLAT PART ----------------------------------------------------------------------------------------------------------
-- the stored steps, the part of one rule behind the other
unfoldable pub stored : List Flattened → List Row
stored fs = flatten (map part_of fs)

-- their words, and the words of the row of each rule: where its own list begins, and how many steps it has
abbrev pub step_part : List Flattened → List ℕ
step_part fs = layout (stored fs)

abbrev pub list_part : List Flattened → List ℕ
list_part fs = words_of list_row (list_rows 0 fs)

-- refusal 16, or so many stored steps
unfoldable pub loaded : List Flattened → Result ℕ Refusal
loaded fs = cond (too_many_steps fs) (Err FlatSteps) (Ok (length (stored fs)))

-- where the set is accepted and there is room, the words are the two parts, each with 0 behind it
pub record Parts (fs : List Flattened) (n : ℕ) (words lists : List ℕ) : Type 0 where
  pub steps : n * 4 ≤ length words → words ≡ step_part fs ++ replicate (length words - n * 4) 0
  pub rows : length fs * 2 ≤ length lists → lists ≡ list_part fs ++ replicate (length lists - length fs * 2) 0

abbrev pub Stored : List Flattened → List ℕ → List ℕ → Result ℕ Refusal → Type 0
Stored fs words lists (Err refusal) = Unit {0}
Stored fs words lists (Ok n) = Parts fs n words lists

-- one rule was flattened with so many actions allowed: the sizes of its own list and of its bodies are told; its part stands in front of the
-- words, if they have room; and whether it stands in front of `seen`, if all before did. A list has at most 268 steps; the last keeps the
-- numbers small
pub record RuleWrote (f : Flattened) (allowed : ℕ) (same : Bool) (seen words : List ℕ) (n m left : ℕ) (same' : Bool) : Type 0 where
  pub listed : n ≡ length f.rows
  pub short : n ≤ 268
  pub stored : m ≡ length f.bodies
  pub taken : left + f.taken ≡ allowed
  pub written : (m + n) * 4 ≤ length words → take ((m + n) * 4) words ≡ layout (part_of f)
  pub agrees : same' ≡ same && same_at seen 0 (layout (part_of f))
  pub few : m + n + 514 * left ≤ 514 * allowed + 1

abbrev pub RuleOut : Flattened → ℕ → Bool → List ℕ → List ℕ → Result Done Refusal → Type 0
RuleOut f allowed same seen words (Err refusal) = (refusal ≡ FlatSteps) × (allowed < f.taken)
RuleOut f allowed same seen words (Ok p) = RuleWrote f allowed same seen words p.n p.m p.left p.same

-- what flattening all rules gives: the set is over the limits; or its parts are told, stand in front of the words that have room for them,
-- and are compared
pub record EachWrote (fs : List Flattened) (n : ℕ) (same : Bool) (seen words lists : List ℕ) : Type 0 where
  pub few : too_many_steps fs ≡ false
  pub count : n ≡ length (stored fs)
  pub written : n * 4 ≤ length words → take (n * 4) words ≡ step_part fs
  pub listed : length fs * 2 ≤ length lists → take (length fs * 2) lists ≡ list_part fs
  pub agrees : same ≡ same_at seen 0 (step_part fs)

abbrev pub EachOut : List Flattened → List ℕ → List ℕ → List ℕ → Result Made Refusal → Type 0
EachOut fs seen words lists (Err refusal) = (refusal ≡ FlatSteps) × (too_many_steps fs ≡ true)
EachOut fs seen words lists (Ok m) = EachWrote fs m.size m.same seen words lists

-- with 0 behind the parts
pub record MadeOf (fs : List Flattened) (n : ℕ) (same : Bool) (seen words lists : List ℕ) : Type 0 where
  pub few : too_many_steps fs ≡ false
  pub count : n ≡ length (stored fs)
  pub parts : Parts fs n words lists
  pub agrees : same ≡ same_at seen 0 (step_part fs)

abbrev pub Loading : List Flattened → List ℕ → List ℕ → List ℕ → Result Made Refusal → Type 0
Loading fs seen words lists (Err refusal) = (refusal ≡ FlatSteps) × (too_many_steps fs ≡ true)
Loading fs seen words lists (Ok m) = MadeOf fs m.size m.same seen words lists

-- the words of a store's flat part are those of the set's flat form
unfoldable pub same_flat : List Flattened → List ℕ → List ℕ → Bool
same_flat fs lists steps =
    not (too_many_steps fs) && (same_list eqb lists (words_of list_row (filled 64 no_list (list_rows 0 fs))) && same_list eqb steps (step_part fs))

-- OVER THE WORDS OF THE TABLES ------------------------------------------------------------------------------------------------------
-- where a rule's own actions stand
abbrev pub rule_context : ℕ → FlattenCtx
rule_context limit = record { limit = limit; in_repeat = false; in_conditional = false; in_after = false }

-- rule i's list
abbrev pub rule_at : List ℕ → List ℕ → List ℕ → ℕ → ℕ → ℕ → Flattened
rule_at acts blocks rules d limit i = list_at acts blocks d (get_or rules (i * 16 + 8) 0) (get_or rules (i * 16 + 9) 0) (rule_context limit) 0 0

-- the first k rules' lists
unfoldable pub rules_up_to : List ℕ → List ℕ → List ℕ → ℕ → ℕ → ℕ → List Flattened
rules_up_to acts blocks rules d limit k = map (rule_at acts blocks rules d limit) (up_from 0 k)

abbrev pub flatten_tables : List ℕ → List ℕ → List ℕ → ℕ → ℕ → List Flattened
flatten_tables acts blocks rules d limit = rules_up_to acts blocks rules d limit (length rules / 16)

-- WHAT LOAD HAS CHECKED BEFORE ------------------------------------------------------------------------------------------------------
-- 10, 11, 12 and 14
pub record Checked (img : List ℕ) : Type 0 where
  pub sized : image_sized img ≡ true
  pub limited : limits_fit img ≡ true
  pub placed : places_fit img ≡ true
  pub linked : tables_pass img true ≡ true

-- what that says of the tables
pub record CheckedTables (acts blocks rules : List ℕ) (depth limit : ℕ) : Type 0 where
  pub tables : Tables acts blocks
  pub depth_le : depth ≤ 8
  pub limit-lt : limit < 256
  pub blocks-few : length blocks ≤ 4096
  pub rules-few : length rules ≤ 4096
  pub inside : (i : ℕ) → i < length rules / 16 → get_or rules (i * 16 + 8) 0 + get_or rules (i * 16 + 9) 0 ≤ length acts / 8
