-- What the functions ask and answer, over lists and numbers. Assumes nothing.
use mathlib.Core.Path.{◌≡◌, sym, ◌∙◌}
use mathlib.Core.Bool.{Bool, true, false, ◌&&◌}
use mathlib.Core.List.{List, []}
use Prim.Native.Nat.{ℕ, ◌+◌, ◌/◌, ◌%◌, ◌≤◌, ◌<◌}
use borrow.Author.Tests.{le-ltb, lt-ltb, leb-true}
use lib.Dec.{leb, eqb}
use lib.ListN.{length}
use Rattle.std.specs.Prelude.{Ok, Err}
use Rattle.std.proofs.lemmas.Bool.{and_parts}
use Rattle.model.specs.Lists.{all, every}
use Rattle.model.specs.Asked.{declined, shown_result}
use Rattle.model.specs.declared.Refusal.TheVariants.{ActionWords, ActionRecord, ListNumber}
use Rattle.short_lists.specs.declared.ShortList.{ShortList}
use Rattle.short_lists.specs.Answers.{list_words}
use Rattle.model.specs.ShortLists.{count_of, list_at, actions_fit, record_fits, list_refusal, places_of, short_list}
use Rattle.short_lists.specs.Checks.{data_sized, values_pass, is_byte, actions_pass, records_pass}
use Rattle.short_lists.proofs.Accepted.{all-by-parts}

-- one to eight records
pub some-records : (acts : List ℕ) → actions_fit acts ≡ true → (8 ≤ length acts) × (length acts ≤ 64)
unfolding actions_fit
some-records acts h =
    let x = and_parts (leb 8 (length acts)) (leb (length acts) 64 && eqb (length acts % 8) 0) h in
    (leb-true 8 (length acts) x.0, leb-true (length acts) 64 (and_parts (leb (length acts) 64) (eqb (length acts % 8) 0) x.1).0)

module _ (k : ℕ) (acts vals pool : List ℕ) where
  pub refuse-70 : actions_fit acts ≡ false → shown_result list_words (Err ActionWords) [] ≡ short_list k acts vals pool
  unfolding short_list list_refusal shown_result declined
  refuse-70 a = rw a

  module _ (a : actions_fit acts ≡ true) where
    pub refuse-71 : every (length acts / 8) (record_fits acts vals pool) ≡ false → shown_result list_words (Err ActionRecord) [] ≡ short_list k acts vals pool
    unfolding short_list list_refusal shown_result declined
    refuse-71 b = rw (a, b)

    module _ (b : every (length acts / 8) (record_fits acts vals pool) ≡ true) (c : ℕ) (n : c ≡ count_of (length acts / 8)) where
      pub refuse-72 : c ≤ k → shown_result list_words (Err ListNumber) [] ≡ short_list k acts vals pool
      unfolding short_list list_refusal shown_result declined
      refuse-72 h = rw (a, b, ← n, le-ltb k c h)

      pub give : k < c → (l : ShortList) → list_words l ≡ places_of (list_at (length acts / 8) k) → shown_result list_words (Ok l) [] ≡ short_list k acts vals pool
      unfolding short_list list_refusal shown_result
      give h l e = rw (a, b, ← n, lt-ltb k c h, e)

-- 71, and the numbers of values and of pool words
module _ (acts vals pool : List ℕ) where
  pub small : data_sized vals pool ≡ true → length vals + length pool ≤ 4043
  unfolding data_sized
  small h = leb-true (length vals + length pool) 4043 (and_parts (leb (length vals + length pool) 4043) (eqb (length vals % 8) 0) h).0

  module _ (some : 8 ≤ length acts) where
    pub unsized : data_sized vals pool ≡ false → false ≡ every (length acts / 8) (record_fits acts vals pool)
    unfolding records_pass
    unsized h = sym (all-by-parts acts vals pool some ∙ rw h)

    pub by-records : (b : Bool) → data_sized vals pool ≡ true → b ≡ values_pass (length vals / 8) (length pool) vals && (all is_byte pool && actions_pass (length vals / 8) (length pool) acts) → b ≡ every (length acts / 8) (record_fits acts vals pool)
    unfolding records_pass
    by-records b h e = rw e (sym (all-by-parts acts vals pool some ∙ rw h))
