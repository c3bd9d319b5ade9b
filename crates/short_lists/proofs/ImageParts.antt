-- The parts of the image of a list: its trailer, where its tables lie, and their words. Assumes nothing.
use mathlib.Core.Path.{◌≡◌, refl, sym, ap, ◌∙◌}
use mathlib.Core.Bool.{true}
use mathlib.Core.List.{List, [], ◌++◌, append_assoc}
use Prim.Native.Nat.{ℕ, ◌+◌, ◌-◌, ◌*◌, ◌/◌, ◌≤◌, ◌<◌}
use native.Mathlib.Nat.{div-one}
use native.Mathlib.Omega.{arith}
use lib.Dec.{ltb}
use lib.ListN.{length, get_or, take, drop, length-append, get_or-append}
use lib.Seq.{get_or-append-add, get_or-take, get_or-drop, take_at, drop_at}
use Rattle.model.specs.Image.{trailer, first_of, width_of, size_of, table_of, word_at}
use Rattle.model.specs.ShortLists.{rule_words, trailer_words, image_with, record_at}

-- word j of record i of a part of an image
pub part-word :
    (img before part after : List ℕ) (t : ℕ) → img ≡ before ++ (part ++ after) → first_of img t ≡ length before → width_of t ≡ 8
    → (i j : ℕ) → i * 8 + 8 ≤ length part → j < 8 → word_at img t i j ≡ get_or (record_at part i) j 0
unfolding word_at record_at
part-word img before part after t e f w i j h l =
    let p : first_of img t + width_of t * i + j ≡ length before + (i * 8 + j) = rw (f, w) (omega arith) in
    let q : i * 8 + j < length part = omega arith in
    ap (λ (k : ℕ). get_or img k 0) p
    ∙ ap (λ (x : List ℕ). get_or x (length before + (i * 8 + j)) 0) e
    ∙ get_or-append-add before (part ++ after) (i * 8 + j) 0
    ∙ get_or-append part after 0 (i * 8 + j) q
    ∙ sym (get_or-take 8 (drop (i * 8) part) j 0 l ∙ get_or-drop (i * 8) part j 0)

module _ (n : ℕ) (recs vals pool : List ℕ) (len : length recs ≡ n * 8) where
  abbrev pub img : List ℕ
  img = image_with n recs vals pool

  abbrev tr : List ℕ
  tr = trailer_words (16 + n * 8) (length vals)

  abbrev front : List ℕ
  front = rule_words n ++ (recs ++ (vals ++ pool))

  rule-length : length (rule_words n) ≡ 16
  unfolding rule_words
  rule-length = refl

  trailer-length : length tr ≡ 13
  unfolding trailer_words
  trailer-length = refl

  front_length : length front ≡ 16 + n * 8 + length vals + length pool
  front_length =
      omega (arith, length-append (rule_words n) (recs ++ (vals ++ pool)), length-append recs (vals ++ pool), length-append vals pool, rule-length, len)

  -- the image from each of its parts on
  with-trailer : img ≡ front ++ tr
  unfolding image_with
  with-trailer = simp append_assoc

  from-records : img ≡ rule_words n ++ (recs ++ (vals ++ (pool ++ tr)))
  unfolding image_with
  from-records = refl

  from-values : img ≡ (rule_words n ++ recs) ++ (vals ++ (pool ++ tr))
  unfolding image_with
  from-values = simp append_assoc

  from-pool : img ≡ ((rule_words n ++ recs) ++ vals) ++ (pool ++ tr)
  unfolding image_with
  from-pool = simp append_assoc

  pub image-length : length img ≡ 29 + n * 8 + length vals + length pool
  image-length = ap length with-trailer ∙ omega (arith, length-append front tr, front_length, trailer-length)

  -- THE TRAILER

  pub trailer-at : (j : ℕ) → trailer img j ≡ get_or tr j 0
  unfolding trailer
  trailer-at j =
      let e : length img - 13 + j ≡ length front + j = omega (arith, image-length, front_length) in
      ap (λ (k : ℕ). get_or img k 0) e ∙ ap (λ (x : List ℕ). get_or x (length front + j) 0) with-trailer ∙ get_or-append-add front tr j 0

  first-at : (t : ℕ) → ltb t 8 ≡ true → first_of img t ≡ get_or tr (5 + t) 0
  unfolding first_of
  first-at t h = rw h (trailer-at (5 + t))

  pub first-0 : first_of img 0 ≡ 0
  unfolding trailer_words
  first-0 = first-at 0 refl

  pub first-1 : first_of img 1 ≡ 16
  unfolding trailer_words
  first-1 = first-at 1 refl

  pub first-2 : first_of img 2 ≡ 16
  unfolding trailer_words
  first-2 = first-at 2 refl

  pub first-3 : first_of img 3 ≡ 16
  unfolding trailer_words
  first-3 = first-at 3 refl

  pub first-4 : first_of img 4 ≡ 16
  unfolding trailer_words
  first-4 = first-at 4 refl

  pub first-5 : first_of img 5 ≡ 16 + n * 8
  unfolding trailer_words
  first-5 = first-at 5 refl

  pub first-6 : first_of img 6 ≡ 16 + n * 8 + length vals
  unfolding trailer_words
  first-6 = first-at 6 refl

  pub first-7 : first_of img 7 ≡ 16 + n * 8 + length vals
  unfolding trailer_words
  first-7 = first-at 7 refl

  pub first-8 : first_of img 8 ≡ 16 + n * 8 + length vals + length pool
  unfolding first_of
  first-8 = omega (arith, image-length)

  -- HOW MANY RECORDS

  pub size-rules : size_of img 0 ≡ 1
  unfolding size_of width_of
  size-rules = rw (first-1, first-0)

  pub size-blocks : size_of img 1 ≡ 0
  unfolding size_of width_of
  size-blocks = rw (first-2, first-1)

  pub size-triggers : size_of img 2 ≡ 0
  unfolding size_of width_of
  size-triggers = rw (first-3, first-2)

  pub size-conditions : size_of img 3 ≡ 0
  unfolding size_of width_of
  size-conditions = rw (first-4, first-3)

  pub size-actions : size_of img 4 ≡ n
  unfolding size_of width_of
  size-actions = rw (first-5, first-4) (omega arith)

  pub size-values : size_of img 5 ≡ length vals / 8
  unfolding size_of width_of
  size-values =
      let e : 16 + n * 8 + length vals - (16 + n * 8) ≡ length vals = omega arith in
      rw (first-6, first-5, e)

  pub size-bounds : size_of img 6 ≡ 0
  unfolding size_of width_of
  size-bounds =
      let e : 16 + n * 8 + length vals - (16 + n * 8 + length vals) ≡ 0 = omega arith in
      rw (first-7, first-6, e)

  pub size-pool : size_of img 7 ≡ length pool
  unfolding size_of width_of
  size-pool =
      let e : 16 + n * 8 + length vals + length pool - (16 + n * 8 + length vals) ≡ length pool = omega arith in
      rw (first-8, first-7, e) (div-one (length pool))

  -- THEIR WORDS

  pub rule-word : (j : ℕ) → j < 16 → word_at img 0 0 j ≡ get_or (rule_words n) j 0
  unfolding word_at
  rule-word j l =
      let p : first_of img 0 + width_of 0 * 0 + j ≡ j = rw first-0 (omega arith) in
      ap (λ (k : ℕ). get_or img k 0) p
      ∙ ap (λ (x : List ℕ). get_or x j 0) from-records
      ∙ get_or-append (rule_words n) (recs ++ (vals ++ (pool ++ tr))) 0 j (rw rule-length l)

  pub action-word : (i j : ℕ) → i < n → j < 8 → word_at img 4 i j ≡ get_or (record_at recs i) j 0
  action-word i j h l =
      part-word img (rule_words n) recs (vals ++ (pool ++ tr)) 4 from-records (first-4 ∙ sym rule-length) (unfold width_of in refl) i j (omega arith) l

  pub value-word : (i j : ℕ) → i < length vals / 8 → j < 8 → word_at img 5 i j ≡ get_or (record_at vals i) j 0
  value-word i j h l =
      let b : length (rule_words n ++ recs) ≡ 16 + n * 8 = omega (arith, length-append (rule_words n) recs, rule-length) in
      part-word img (rule_words n ++ recs) vals (pool ++ tr) 5 from-values (first-5 ∙ sym b) (unfold width_of in refl) i j (omega arith) l

  pub pool-word : (i : ℕ) → i < length pool → get_or img (first_of img 7 + 1 * i) 0 ≡ get_or pool i 0
  pool-word i h =
      let before = (rule_words n ++ recs) ++ vals in
      let b : first_of img 7 + 1 * i ≡ length before + i =
      omega (arith, first-7, length-append (rule_words n ++ recs) vals, length-append (rule_words n) recs, rule-length) in
      ap (λ (k : ℕ). get_or img k 0) b
      ∙ ap (λ (x : List ℕ). get_or x (length before + i) 0) from-pool
      ∙ get_or-append-add before (pool ++ tr) i 0
      ∙ get_or-append pool tr 0 i h

  -- THE TABLES THAT ARE FLATTENED

  pub actions-table : table_of img 4 ≡ recs
  unfolding table_of
  actions-table =
      let e : 16 + n * 8 - 16 ≡ n * 8 = omega arith in
      rw (first-5, first-4, e)
      (ap (λ (x : List ℕ). take (n * 8) (drop 16 x)) from-records
      ∙ ap (take (n * 8)) (drop_at (rule_words n) (recs ++ (vals ++ (pool ++ tr))) 16 rule-length)
      ∙ take_at recs (vals ++ (pool ++ tr)) (n * 8) len)

  pub no_blocks : table_of img 1 ≡ []
  unfolding table_of
  no_blocks = rw (first-2, first-1)
