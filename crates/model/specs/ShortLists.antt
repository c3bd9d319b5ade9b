-- All short lists for the bench: document 02, request 13. The lists in order, the image of a list, what is refused, and the answer.
use Rattle.std.specs.Prelude.{ℕ, zero, suc, ◌+◌, ◌*◌, ◌/◌, ◌%◌, Bool, not, ◌&&◌, ◌||◌, List, [], ◌∷◌, ◌++◌, map, leb, ltb, eqb, length, get_or, take, drop}
use Rattle.model.specs.Lists.{every, flatten, up_from}
use Rattle.model.specs.Field.{unless}
use Rattle.model.specs.Load.{image_refusal}
use Rattle.model.specs.Asked.{Asked, declined}

-- THE LISTS: "every list of 0 to 3 of them: shorter first, then by the records' places with the first place weighing most" -------------
-- the lists of m places below n, in order
unfoldable pub lists_of : ℕ → ℕ → List (List ℕ)
lists_of n zero = [] ∷ []
lists_of n (suc m) = flatten (map (λ p. map (λ l. p ∷ l) (lists_of n m)) (up_from 0 n))

-- those of m places, then m + 1, ..: f lengths
unfoldable pub lists_from : ℕ → ℕ → ℕ → List (List ℕ)
lists_from n m f = flatten (map (lists_of n) (up_from m f))

unfoldable pub short_lists : ℕ → List (List ℕ)
short_lists n = lists_from n 0 4

unfoldable pub count_of : ℕ → ℕ
count_of n = length (short_lists n)

unfoldable pub list_at : ℕ → ℕ → List ℕ
list_at n k = get_or (short_lists n) k []

-- THE IMAGE OF A LIST: "one rule .., the limits 256, 8, 255, 255 and 255, the caller's pool and values, and nothing else" -------------
-- an enabled rule of n actions; no check looks at its name
unfoldable pub rule_words : ℕ → List ℕ
rule_words n = 5 ∷ 1 ∷ 0 ∷ 0 ∷ 0 ∷ 0 ∷ 0 ∷ 0 ∷ 0 ∷ n ∷ 0 ∷ 0 ∷ 0 ∷ 0 ∷ 0 ∷ 0 ∷ []

-- the limits, then where the tables begin; the values at `at`, so many words of them
unfoldable pub trailer_words : ℕ → ℕ → List ℕ
trailer_words at values = 256 ∷ 8 ∷ 255 ∷ 255 ∷ 255 ∷ 0 ∷ 16 ∷ 16 ∷ 16 ∷ 16 ∷ at ∷ (at + values) ∷ (at + values) ∷ []

-- that rule with the words of n action records
unfoldable pub image_with : ℕ → List ℕ → List ℕ → List ℕ → List ℕ
image_with n records values pool =
    rule_words n ++ (records ++ (values ++ (pool ++ trailer_words (16 + n * 8) (length values))))

-- the words of record i
unfoldable pub record_at : List ℕ → ℕ → List ℕ
record_at acts i = take 8 (drop (i * 8) acts)

unfoldable pub image_of : List ℕ → List ℕ → List ℕ → List ℕ → List ℕ
image_of acts values pool l = image_with (length l) (flatten (map (record_at acts) l)) values pool

-- WHAT IS REFUSED, the lowest first -----------------------------------------------------------------------------------------------------
-- 70: one to eight whole records
unfoldable pub actions_fit : List ℕ → Bool
actions_fit acts = leb 8 (length acts) && (leb (length acts) 64 && eqb (length acts % 8) 0)

-- After, Repeat and Conditional hold lists of their own, even where they are empty
unfoldable pub is_plain : ℕ → Bool
is_plain kind = not (eqb kind 24 || (eqb kind 26 || eqb kind 27))

-- 71, of record i: load accepts the list that has it three times
unfoldable pub record_fits : List ℕ → List ℕ → List ℕ → ℕ → Bool
record_fits acts values pool i =
    is_plain (get_or acts (i * 8) 0) && eqb (image_refusal (image_of acts values pool (i ∷ i ∷ i ∷ []))) 0

-- 71 is for any record, whether list k has it or not; 72
unfoldable pub list_refusal : ℕ → List ℕ → List ℕ → List ℕ → ℕ
list_refusal k acts values pool =
    let n = length acts / 8 in
    unless (actions_fit acts) 70 (unless (every n (record_fits acts values pool)) 71 (unless (ltb k (count_of n)) 72 0))

-- THE ANSWER: "its length and three places, from 0, those past the length 0" -----------------------------------------------------------
unfoldable pub places_of : List ℕ → List ℕ
places_of l = length l ∷ get_or l 0 0 ∷ get_or l 1 0 ∷ get_or l 2 0 ∷ []

abbrev pub list_answer : ℕ → List ℕ → Asked
list_answer zero l = record { number = 0; values = places_of l; lent = [] }
list_answer (suc number) l = declined 0 (suc number)

unfoldable pub short_list : ℕ → List ℕ → List ℕ → List ℕ → Asked
short_list k acts values pool = list_answer (list_refusal k acts values pool) (list_at (length acts / 8) k)
