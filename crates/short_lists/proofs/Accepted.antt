-- Load's checks of the image of a list, and what follows: 71 by parts, and (d): where 71 is not given, the image of every short list is accepted.
-- What a check says of one action does not depend on the others: none of the actions leads to another. Assumes nothing.
use mathlib.Core.Path.{◌≡◌, refl, sym, ap, ◌∙◌}
use mathlib.Core.Bool.{Bool, true, false, not, ◌&&◌, and-true, and-false}
use mathlib.Core.List.{List, [], ◌∷◌, map}
use Prim.Native.Nat.{ℕ, zero, suc, ◌+◌, ◌-◌, ◌*◌, ◌/◌, ◌%◌, ◌≤◌, ◌<◌}
use native.Mathlib.Omega.{arith}
use borrow.Author.Tests.{le-leb, lt-leb, leb-true, leb-false, lt-ltb, ltb-true, ltb-false, eqb-true, eq-eqb, ne_eqb}
use lib.Dec.{leb, ltb, eqb}
use lib.ListN.{length, get_or, drop, length-append, length-drop}
use lib.Seq.{length-take-le, get_or-take, get_or-drop}
use Rattle.std.proofs.lemmas.Bool.{and_from, and_parts}
use Rattle.model.specs.Lists.{all, every, flatten, total}
use Rattle.model.specs.Field.{unless}
use Rattle.model.specs.Image.{image_sized, limits_fit, first_of, width_of, size_of, word_at, place_fits, places_fit, tables_pass, names_differ, few_enough, call_depth}
use Rattle.model.specs.Rows.{field_of}
use Rattle.model.specs.Flat.{flatten_rule, flatten_rules, too_many_steps}
use Rattle.model.specs.Load.{image_refusal, image_refusal_with, tables_refusal}
use Rattle.fields.proofs.Every.{at, fails, every_holds}
use Rattle.image.specs.Passing.{IsRecord, word_both, record_both, table_both}
use Rattle.image.proofs.OnePass.{rule-both, pool-both, tables-split}
use Rattle.model.specs.ShortLists.{rule_words, trailer_words, image_with, record_at, image_of, actions_fit, is_plain, record_fits, list_refusal}
use Rattle.short_lists.specs.Order.{is_short}
use Rattle.short_lists.specs.Checks.{word_passes, record_passes, action_passes, actions_pass, values_pass, is_byte, data_sized, records_pass}
use Rattle.short_lists.proofs.Blocks.{by}
use Rattle.short_lists.proofs.Chunks.{all-every, first-record, later-record}
use Rattle.short_lists.proofs.SimpleFields.{SimpleRows, simple-passes, void-passes, simple-action, simple-value, all_get_d}
use Rattle.short_lists.proofs.OneStep.{few-enough}
use Rattle.short_lists.proofs.ImageParts.{image-length, trailer-at, first-0, first-1, first-2, first-3, first-4, first-5, first-6, first-7, first-8, size-rules, size-blocks, size-triggers, size-conditions, size-actions, size-values, size-bounds, size-pool, rule-word, action-word, value-word, pool-word, actions-table, no_blocks}

every-below : (n : ℕ) (f g : ℕ → Bool) → ((i : ℕ) → i < n → f i ≡ g i) → every n f ≡ every n g
unfolding every
every-below zero f g h = refl
every-below (suc n) f g h = rw (every-below n f g (λ i l. h i (omega arith)), h n (omega arith))

-- A RECORD IN AN IMAGE, AND BY ITSELF

module _ (img : List ℕ) (t i : ℕ) (r : List ℕ) (width : width_of t ≡ 8) (s : SimpleRows t (get_or r 0 0) (get_or r 1 0)) (word : (j : ℕ) → j < 8 → word_at img t i j ≡ get_or r j 0) where
  last-alike : word_both img t i 7 ≡ word_passes (size_of img 5) (size_of img 7) t r 7
  unfolding word_passes
  last-alike =
      rw (word 0 (omega arith), word 1 (omega arith), word 7 (omega arith), s.last)
      (void-passes img i (size_of img 5) (size_of img 7) (get_or r 7 0) (word_at img t i 8) (get_or r 8 0))

  word-alike : (j : ℕ) → j < 8 → word_both img t i j ≡ word_passes (size_of img 5) (size_of img 7) t r j
  unfolding word_passes
  word-alike j l =
      by (ltb j 7)
      (λ e.
      let m : j + 1 < 8 = omega (arith, ltb-true j 7 e) in
      rw (word 0 (omega arith), word 1 (omega arith), word j l, word (j + 1) m)
      (simple-passes img i (field_of t (get_or r 0 0) (get_or r 1 0) j) (get_or r j 0) (get_or r (j + 1) 0) (s.field j)))
      (λ e. let z : j ≡ 7 = omega (arith, ltb-false j 7 e) in rw z last-alike)

  record-alike : record_both img t i ≡ record_passes (size_of img 5) (size_of img 7) t r
  unfolding record_both record_passes
  record-alike = rw width (every-below 8 (word_both img t i) (word_passes (size_of img 5) (size_of img 7) t r) word-alike)

-- EIGHT TABLES, of which five pass

regroup : (a b c : Bool) → ((a && b) && true) && c ≡ a && (b && c)
regroup true b c = rw (and-true b)
regroup false b c = refl

eight : (f : ℕ → Bool) (a b c : Bool) → f 0 ≡ true → f 1 ≡ true → f 2 ≡ true → f 3 ≡ true → f 4 ≡ a → f 5 ≡ b → f 6 ≡ true → f 7 ≡ c → every 8 f ≡ a && (b && c)
unfolding every
eight f a b c h0 h1 h2 h3 h4 h5 h6 h7 = rw (h0, h1, h2, h3, h4, h5, h6, h7) (regroup a b c)

-- A CHAIN OF REFUSALS that gives none

none_of : (b : Bool) (m rest : ℕ) → eqb (unless b (suc m) rest) 0 ≡ b && eqb rest 0
none_of true m rest = refl
none_of false m rest = ne_eqb (suc m) 0 (omega arith)

no-refusal : (a b c d e f g h : Bool) → b ≡ true → f ≡ true → g ≡ true → h ≡ true
    → eqb (unless a 10 (unless b 11 (unless c 12 (unless d 13 (unless e 14 (unless f 15 (unless g 16 (unless h 17 0)))))))) 0 ≡ a && (c && (d && e))
no-refusal a b c d e f g h hb hf hg hh =
    rw (hb, hf, hg, hh)
    (none_of a 9 (unless c 12 (unless d 13 (unless e 14 0)))
    ∙ rw (none_of c 11 (unless d 13 (unless e 14 0)), none_of d 12 (unless e 14 0), none_of e 13 0, and-true e))

-- THE IMAGE OF n RECORDS

module _ (n : ℕ) (recs vals pool : List ℕ) (len : length recs ≡ n * 8) where
  abbrev img : List ℕ
  img = image_with n recs vals pool

  abbrev size : ℕ
  size = length vals / 8

  abbrev room : ℕ
  room = length pool

  -- 10
  is-sized : image_sized img ≡ leb (29 + n * 8 + length vals + length pool) 4096
  unfolding image_sized
  is-sized = rw (image-length n recs vals pool len, le-leb 13 (29 + n * 8 + length vals + length pool) (omega arith))

  -- 11
  limits : limits_fit img ≡ true
  unfolding limits_fit every trailer_words
  limits =
      rw (trailer-at n recs vals pool len 0, trailer-at n recs vals pool len 1, trailer-at n recs vals pool len 2, trailer-at n recs vals pool len 3, trailer-at n recs vals pool len 4)

  -- 12
  place : (t a b : ℕ) → first_of img t ≡ a → first_of img (t + 1) ≡ b → a ≤ b → (b - a) % width_of t ≡ 0 → place_fits img t ≡ true
  place t a b ea eb l m = rw (ea, eb, le-leb a b l, eq-eqb ((b - a) % width_of t) 0 m)

  values-place : place_fits img 5 ≡ eqb (length vals % 8) 0
  unfolding width_of
  values-place =
      let e : 16 + n * 8 + length vals - (16 + n * 8) ≡ length vals = omega arith in
      rw (first-5 n recs vals pool len, first-6 n recs vals pool len, e, le-leb (16 + n * 8) (16 + n * 8 + length vals) (omega arith))

  places : places_fit img ≡ eqb (length vals % 8) 0
  unfolding places_fit
  places =
      let f1 = first-1 n recs vals pool len in
      let f2 = first-2 n recs vals pool len in
      let f3 = first-3 n recs vals pool len in
      let f4 = first-4 n recs vals pool len in
      let f5 = first-5 n recs vals pool len in
      let f6 = first-6 n recs vals pool len in
      let f7 = first-7 n recs vals pool len in
      let f8 = first-8 n recs vals pool len in
      let w = 16 + n * 8 + length vals in
      rw (eq-eqb (first_of img 0) 0 (first-0 n recs vals pool len))
      (eight (place_fits img) true (eqb (length vals % 8) 0) true
      (place 0 0 16 (first-0 n recs vals pool len) f1 (omega arith) (unfold width_of in refl))
      (place 1 16 16 f1 f2 (omega arith) (unfold width_of in refl))
      (place 2 16 16 f2 f3 (omega arith) (unfold width_of in refl))
      (place 3 16 16 f3 f4 (omega arith) (unfold width_of in refl))
      (place 4 16 (16 + n * 8) f4 f5 (omega arith) (unfold width_of in omega arith))
      values-place
      (place 6 w w f6 f7 (omega arith) (unfold width_of in omega arith))
      (place 7 w (w + length pool) f7 f8 (omega arith) (unfold width_of in omega arith))
      ∙ and-true (eqb (length vals % 8) 0))

  -- 15
  names : names_differ img ≡ true
  unfolding names_differ every
  names = rw (size-rules n recs vals pool len)

  -- 17
  few : few_enough img ≡ true
  unfolding few_enough total rule_words
  few = rw (size-rules n recs vals pool len, size-blocks n recs vals pool len, rule-word n recs vals pool len 5 (omega arith))

  -- 13 and 14
  rule-passes : table_both img 0 ≡ true
  unfolding table_both every image_with rule_words
  rule-passes =
      let r : IsRecord img 0 0 (rule_words n) = λ j l. sym (rule-word n recs vals pool len j l) in
      let a : true ≡ leb 0 (size_of img 2) = rw (size-triggers n recs vals pool len) in
      let b : true ≡ leb 0 (size_of img 3) = rw (size-conditions n recs vals pool len) in
      let c : true ≡ leb (0 + n) (size_of img 4) = rw (size-actions n recs vals pool len) (sym (le-leb (0 + n) n (omega arith))) in
      rw (size-rules n recs vals pool len) (sym (rule-both img 0 (rule_words n) refl r true true true a b c))

  no-records : (t : ℕ) → size_of img t ≡ 0 → table_both img t ≡ true
  unfolding table_both every
  no-records t e = rw e

  values-pass : table_both img 5 ≡ values_pass size room vals
  unfolding table_both values_pass
  values-pass =
      rw (size-values n recs vals pool len)
      (every-below size (record_both img 5) (λ i. record_passes size room 5 (record_at vals i))
      (λ i l.
      record-alike img 5 i (record_at vals i) (unfold width_of in refl) (simple-value (get_or (record_at vals i) 0 0) (get_or (record_at vals i) 1 0)) (λ j g. value-word n recs vals pool len i j l g)
      ∙ (λ k. record_passes (size-values n recs vals pool len k) (size-pool n recs vals pool len k) 5 (record_at vals i))))

  pool-record : (i : ℕ) → i < room → IsRecord img 7 i (get_or pool i 0 ∷ [])
  unfolding word_at width_of
  pool-record i l zero m =
      let z : first_of img 7 + 1 * i + 0 ≡ first_of img 7 + 1 * i = omega arith in
      sym (ap (λ (k : ℕ). get_or img k 0) z ∙ pool-word n recs vals pool len i l)
  pool-record i l (suc j) m = absurd (omega (arith, m))

  pool-passes : table_both img 7 ≡ all is_byte pool
  unfolding table_both
  pool-passes =
      rw (size-pool n recs vals pool len)
      (every-below room (record_both img 7) (λ i. is_byte (get_or pool i 0))
      (λ i l. sym (pool-both img i (get_or pool i 0 ∷ []) refl (pool-record i l))))
      ∙ sym (all-every is_byte pool 0)

  module _ (plain : (i : ℕ) → i < n → is_plain (get_or (record_at recs i) 0 0) ≡ true) where
    actions-pass : table_both img 4 ≡ every n (λ i. record_passes size room 4 (record_at recs i))
    unfolding table_both
    actions-pass =
        rw (size-actions n recs vals pool len)
        (every-below n (record_both img 4) (λ i. record_passes size room 4 (record_at recs i))
        (λ i l.
        record-alike img 4 i (record_at recs i) (unfold width_of in refl) (simple-action (get_or (record_at recs i) 0 0) (get_or (record_at recs i) 1 0) (plain i l)) (λ j g. action-word n recs vals pool len i j l g)
        ∙ (λ k. record_passes (size-values n recs vals pool len k) (size-pool n recs vals pool len k) 4 (record_at recs i))))

    tables : tables_pass img false && tables_pass img true ≡ every n (λ i. record_passes size room 4 (record_at recs i)) && (values_pass size room vals && all is_byte pool)
    tables =
        sym (tables-split img)
        ∙ eight (table_both img) (every n (λ i. record_passes size room 4 (record_at recs i))) (values_pass size room vals) (all is_byte pool)
        rule-passes
        (no-records 1 (size-blocks n recs vals pool len))
        (no-records 2 (size-triggers n recs vals pool len))
        (no-records 3 (size-conditions n recs vals pool len))
        actions-pass
        values-pass
        (no-records 6 (size-bounds n recs vals pool len))
        pool-passes

    -- 16
    plain-kind : (i : ℕ) → i < length recs / 8 → is_plain (get_or recs (i * 8) 0) ≡ true
    unfolding record_at
    plain-kind i l =
        let z : i * 8 + 0 ≡ i * 8 = omega arith in
        let e : get_or (record_at recs i) 0 0 ≡ get_or recs (i * 8) 0 = get_or-take 8 (drop (i * 8) recs) 0 0 (omega arith) ∙ get_or-drop (i * 8) recs 0 0 ∙ ap (λ (k : ℕ). get_or recs k 0) z in
        rw e at (plain i (omega arith))

    steps : n ≤ 3 → too_many_steps (flatten_rules img) ≡ false
    unfolding flatten_rules flatten_rule rule_words
    steps small =
        rw (size-rules n recs vals pool len, rule-word n recs vals pool len 9 (omega arith), rule-word n recs vals pool len 8 (omega arith), actions-table n recs vals pool len, no_blocks n recs vals pool len)
        (few-enough recs (call_depth img) n small plain-kind _)

    pub image-accepted :
        n ≤ 3 → eqb (image_refusal img) 0 ≡ leb (29 + n * 8 + length vals + length pool) 4096 && (eqb (length vals % 8) 0 && (every n (λ i. record_passes size room 4 (record_at recs i)) && (values_pass size room vals && all is_byte pool)))
    unfolding image_refusal image_refusal_with tables_refusal
    image-accepted small =
        no-refusal (image_sized img) (limits_fit img) (places_fit img) (tables_pass img false) (tables_pass img true) (names_differ img) (not (too_many_steps (flatten_rules img))) (few_enough img)
        limits names (ap not (steps small)) few
        ∙ rw (is-sized, places, tables)

-- THE IMAGE OF A LIST

module _ (acts : List ℕ) where
  abbrev inside : ℕ → Bool
  inside p = ltb p (length acts / 8)

  record-length : (p : ℕ) → inside p ≡ true → length (record_at acts p) ≡ 8
  unfolding record_at
  record-length p h =
      let l : p < length acts / 8 = ltb-true p (length acts / 8) h in
      length-take-le 8 (drop (p * 8) acts) (rw (length-drop (p * 8) acts) (omega arith))

  abbrev words : List ℕ → List ℕ
  words l = flatten (map (record_at acts) l)

  words-length : (l : List ℕ) → all inside l ≡ true → length (words l) ≡ length l * 8
  words-length [] h = refl
  words-length (p ∷ l) h =
      let b = and_parts (inside p) (all inside l) h in
      omega (arith, length-append (record_at acts p) (words l), record-length p b.0, words-length l b.1)

  record_is : (l : List ℕ) → all inside l ≡ true → (j : ℕ) → j < length l → record_at (words l) j ≡ record_at acts (get_or l j 0)
  record_is [] h j g = absurd (omega arith)
  record_is (p ∷ l) h zero g = first-record (record_at acts p) (words l) (record-length p (and_parts (inside p) (all inside l) h).0)
  record_is (p ∷ l) h (suc j) g =
      let b = and_parts (inside p) (all inside l) h in
      later-record (record_at acts p) (words l) j (record-length p b.0) ∙ record_is l b.1 j (omega arith)

  kind-is : (p : ℕ) → get_or (record_at acts p) 0 0 ≡ get_or acts (p * 8) 0
  unfolding record_at
  kind-is p =
      let z : p * 8 + 0 ≡ p * 8 = omega arith in
      get_or-take 8 (drop (p * 8) acts) 0 0 (omega arith) ∙ get_or-drop (p * 8) acts 0 0 ∙ ap (λ (k : ℕ). get_or acts k 0) z

  module _ (vals pool : List ℕ) where
    abbrev values_ok : Bool
    values_ok = values_pass (length vals / 8) (length pool) vals && all is_byte pool

    abbrev passes : ℕ → Bool
    passes p = record_passes (length vals / 8) (length pool) 4 (record_at acts p)

    list-accepted : (l : List ℕ) → length l ≤ 3 → all inside l ≡ true → ((j : ℕ) → j < length l → is_plain (get_or acts (get_or l j 0 * 8) 0) ≡ true)
        → eqb (image_refusal (image_of acts vals pool l)) 0 ≡ leb (29 + length l * 8 + length vals + length pool) 4096 && (eqb (length vals % 8) 0 && (every (length l) (λ j. passes (get_or l j 0)) && values_ok))
    unfolding image_of
    list-accepted l small h plain =
        image-accepted (length l) (words l) vals pool (words-length l h) (λ i g. rw (record_is l h i g, kind-is (get_or l i 0)) (plain i g)) small
        ∙ rw (every-below (length l) (λ i. record_passes (length vals / 8) (length pool) 4 (record_at (words l) i)) (λ j. passes (get_or l j 0)) (λ i g. ap (record_passes (length vals / 8) (length pool) 4) (record_is l h i g)))

    -- 71 OF A RECORD, by parts

    three : (a b : ℕ) → leb (29 + 3 * 8 + a + b) 4096 ≡ leb (a + b) 4043
    three a b =
        by (leb (a + b) 4043)
        (λ e. let g : a + b ≤ 4043 = leb-true (a + b) 4043 e in le-leb (29 + 3 * 8 + a + b) 4096 (omega arith) ∙ sym e)
        (λ e. let g : 4043 < a + b = leb-false (a + b) 4043 e in lt-leb (29 + 3 * 8 + a + b) 4096 (omega arith) ∙ sym e)

    thrice : (x : Bool) → (x && x) && x ≡ x
    thrice true = refl
    thrice false = refl

    turned : (x t : Bool) → x && t ≡ t && x
    turned true t = sym (and-true t)
    turned false t = sym (and-false t)

    parts : (s m x t : Bool) → s && (m && (x && t)) ≡ (s && (m && t)) && x
    parts true true x t = turned x t
    parts true false x t = refl
    parts false m x t = refl

    same : (i j : ℕ) → j < 3 → get_or (i ∷ i ∷ i ∷ []) j 0 ≡ i
    same i zero g = refl
    same i (suc zero) g = refl
    same i (suc (suc zero)) g = refl
    same i (suc (suc (suc j))) g = absurd (omega arith)

    accepted : (i : ℕ) → inside i ≡ true → is_plain (get_or acts (i * 8) 0) ≡ true
        → eqb (image_refusal (image_of acts vals pool (i ∷ i ∷ i ∷ []))) 0 ≡ (leb (length vals + length pool) 4043 && (eqb (length vals % 8) 0 && values_ok)) && passes i
    unfolding every
    accepted i here e =
        list-accepted (i ∷ i ∷ i ∷ []) (omega arith) (and_from _ _ here (and_from _ _ here (and_from _ _ here refl))) (λ j g. rw (same i j g) e)
        ∙ rw (three (length vals) (length pool), thrice (passes i))
        (parts (leb (length vals + length pool) 4043) (eqb (length vals % 8) 0) (passes i) values_ok)

    abbrev given : Bool
    given = leb (length vals + length pool) 4043 && (eqb (length vals % 8) 0 && values_ok)

    abbrev acted : ℕ → Bool
    acted i = action_passes (length vals / 8) (length pool) (record_at acts i)

    fits-by-parts : (i : ℕ) → i < length acts / 8 → record_fits acts vals pool i ≡ given && acted i
    unfolding record_fits action_passes
    fits-by-parts i l =
        rw (kind-is i)
        (by (is_plain (get_or acts (i * 8) 0))
        (λ e. rw e (accepted i (lt-ltb i (length acts / 8) l) e))
        (λ e. rw e (sym (and-false given))))

    every-by-parts : 8 ≤ length acts → every (length acts / 8) (record_fits acts vals pool) ≡ given && actions_pass (length vals / 8) (length pool) acts
    unfolding actions_pass
    every-by-parts some =
        by given
        (λ e. rw e (every-below (length acts / 8) (record_fits acts vals pool) acted (λ i l. fits-by-parts i l ∙ rw e)))
        (λ e. rw e (fails (record_fits acts vals pool) (length acts / 8) 0 (omega arith) (fits-by-parts 0 (omega arith) ∙ rw e)))

    ordered : (s m v p a : Bool) → (s && (m && (v && p))) && a ≡ (s && m) && (v && (p && a))
    ordered true true true p a = refl
    ordered true true false p a = refl
    ordered true false v p a = refl
    ordered false m v p a = refl

    -- the same of all
    pub all-by-parts : 8 ≤ length acts → every (length acts / 8) (record_fits acts vals pool) ≡ records_pass acts vals pool
    unfolding records_pass data_sized
    all-by-parts some =
        every-by-parts some
        ∙ ordered (leb (length vals + length pool) 4043) (eqb (length vals % 8) 0) (values_pass (length vals / 8) (length pool) vals) (all is_byte pool) (actions_pass (length vals / 8) (length pool) acts)

    -- (d)

    module _ (some : actions_fit acts ≡ true) (fit : every (length acts / 8) (record_fits acts vals pool) ≡ true) where
      has_one : 8 ≤ length acts
      unfolding actions_fit
      has_one = leb-true 8 (length acts) (and_parts (leb 8 (length acts)) (leb (length acts) 64 && eqb (length acts % 8) 0) some).0

      passed : (given ≡ true) × (actions_pass (length vals / 8) (length pool) acts ≡ true)
      passed = and_parts given (actions_pass (length vals / 8) (length pool) acts) (sym (every-by-parts has_one) ∙ fit)

      action-fits : (p : ℕ) → inside p ≡ true → (is_plain (get_or acts (p * 8) 0) ≡ true) × (passes p ≡ true)
      unfolding action_passes actions_pass
      action-fits p h =
          rw (kind-is p) at (and_parts (is_plain (get_or (record_at acts p) 0 0)) (passes p) (at acted (length acts / 8) p passed.1 (ltb-true p (length acts / 8) h)))

      pub every-list : (l : List ℕ) → is_short (length acts / 8) l ≡ true → image_refusal (image_of acts vals pool l) ≡ 0
      unfolding is_short
      every-list l short =
          let b = and_parts (ltb (length l) 4) (all inside l) short in
          let small : length l ≤ 3 = omega (arith, ltb-true (length l) 4 b.0) in
          let zero-inside : inside 0 ≡ true = lt-ltb 0 (length acts / 8) (omega (arith, has_one)) in
          let place : (j : ℕ) → j < length l → inside (get_or l j 0) ≡ true = λ j g. all_get_d inside l 0 zero-inside b.1 j in
          let d = and_parts (leb (length vals + length pool) 4043) (eqb (length vals % 8) 0 && values_ok) passed.0 in
          let room : length vals + length pool ≤ 4043 = leb-true (length vals + length pool) 4043 d.0 in
          let v = and_parts (eqb (length vals % 8) 0) values_ok d.1 in
          eqb-true (image_refusal (image_of acts vals pool l)) 0
          (list-accepted l small b.1 (λ j g. (action-fits (get_or l j 0) (place j g)).0)
          ∙ and_from _ _ (le-leb (29 + length l * 8 + length vals + length pool) 4096 (omega arith))
          (and_from _ _ v.0 (and_from _ _ (every_holds (λ j. passes (get_or l j 0)) (length l) (λ j g. (action-fits (get_or l j 0) (place j g)).1)) v.1)))

-- (d) as the answers say it: a number that is neither 70 nor 71 was given
pub accepted-lists : (k : ℕ) (acts vals pool : List ℕ) → (list_refusal k acts vals pool ≡ 70 → ⊥) → (list_refusal k acts vals pool ≡ 71 → ⊥)
    → (l : List ℕ) → is_short (length acts / 8) l ≡ true → image_refusal (image_of acts vals pool l) ≡ 0
unfolding list_refusal
accepted-lists k acts vals pool not-70 not-71 =
    by (actions_fit acts)
    (λ e.
    by (every (length acts / 8) (record_fits acts vals pool))
    (λ f. every-list acts vals pool e f)
    (λ f. absurd (not-71 (rw (e, f)))))
    (λ e. absurd (not-70 (rw e)))
