-- What the code asks of values, pool and each action instead of load: proofs/Accepted.antt shows that it is the same.
use Rattle.std.specs.Prelude.{ℕ, ◌+◌, ◌/◌, ◌%◌, Bool, true, ◌&&◌, List, leb, ltb, eqb, length, get_or}
use Rattle.model.specs.Lists.{all, every}
use Rattle.model.specs.declared.Field.{Field}
use Rattle.model.specs.declared.Field.TheVariants.{Free, UpTo, Mark, Tag, Index, Span, Nested}
use Rattle.model.specs.Field.{fits}
use Rattle.model.specs.Rows.{actions, values, field_of}
use Rattle.model.specs.ShortLists.{is_plain, record_at}

-- with so many values and so many pool words
module _ (size room : ℕ) where
  -- where a field leads: of the records that are asked, only to the values and to the pool
  unfoldable pub leads_to : Field → ℕ → ℕ → Bool
  leads_to Free w next = true
  leads_to (UpTo most) w next = true
  leads_to (Mark most value) w next = true
  leads_to (Tag t) w next = true
  leads_to (Index t) w next = ltb w size
  leads_to (Span t) w next = leb (w + next) room
  leads_to Nested w next = true

  unfoldable pub field_passes : Field → ℕ → ℕ → Bool
  field_passes f w next = fits f w next && leads_to f w next

  -- word j of a record r of table t
  unfoldable pub word_passes : ℕ → List ℕ → ℕ → Bool
  word_passes t r j = field_passes (field_of t (get_or r 0 0) (get_or r 1 0) j) (get_or r j 0) (get_or r (j + 1) 0)

  unfoldable pub record_passes : ℕ → List ℕ → Bool
  record_passes t r = every 8 (word_passes t r)

  unfoldable pub action_passes : List ℕ → Bool
  action_passes r = is_plain (get_or r 0 0) && record_passes actions r

  -- all records of some actions, and of some values
  unfoldable pub actions_pass : List ℕ → Bool
  actions_pass acts = every (length acts / 8) (λ i. action_passes (record_at acts i))

  unfoldable pub values_pass : List ℕ → Bool
  values_pass vals = every (length vals / 8) (λ i. record_passes values (record_at vals i))

abbrev pub is_byte : ℕ → Bool
is_byte w = leb w 255

-- beside values and pool an image has 53 words, so that 4,043 are left for them
unfoldable pub data_sized : List ℕ → List ℕ → Bool
data_sized vals pool = leb (length vals + length pool) 4043 && eqb (length vals % 8) 0

-- all records are accepted
unfoldable pub records_pass : List ℕ → List ℕ → List ℕ → Bool
records_pass acts vals pool =
    let size = length vals / 8 in
    let room = length pool in
    data_sized vals pool && (values_pass size room vals && (all is_byte pool && actions_pass size room acts))
