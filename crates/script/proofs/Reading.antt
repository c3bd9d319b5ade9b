-- A call read from the words of a line. Assumes nothing.
use Rattle.std.proofs.Common.{◌≡◌, ℕ, suc, ◌+◌, ◌-◌, ◌<◌, ◌≤◌, List, [], ◌∷◌, ◌++◌, length, take, drop, set, get_or, replicate, Option, None, Some, Result, Ok, Err, refl, sym, ap, ◌∙◌, arith, append_assoc, add-one, length-drop, drop-cons}
use borrow.Author.Tests.{lt-ltb, le-ltb}
use mathlib.Core.List.{append-nil}
use lib.ListN.{length-append, length-set, take-append-drop, drop_of_length-le}
use lib.Seq.{take-suc-set, drop-set-lt, drop-drop, take_all, drop_at, length-take-le}
use Rattle.words.specs.Saturating.{max32}
use Rattle.decimal.specs.declared.NotANumber.{NotANumber}
use Rattle.decimal.specs.Numbers.{argument_of}
use Rattle.script.specs.Words.{words_of, uncommented, past_space, past_word, past_words}
use Rattle.script.specs.Table.{Call, Param, Row, rows, most_of, Tail, Nothing, Words, Parts, Text}
use Rattle.script.specs.Script.{Line, plain, command, Wrong, NoSuchCall, Missing, TooFewWords, TooManyWords, ListTooLong, wrong_number, numbers_from, Listed, wrong_word, listed, list_from, stopped, wanted_by, count_wrong, first_wrong, counted, line_with, with_list, ending, parse_call, call_named, behind_name, parse}
use Rattle.script.proofs.Splits.{EndOf, end-words, cut-rest}
use Rattle.script.specs.Scan.{TakesWord, TakesNumber, TakesNumbers, word_number, end_with, ListEnds, Counts, Parses}

-- NUMBERS ------------------------------------------------------------------------------------------------------------------------------
module _ (text : List ℕ) (call : Call) (p : Param) where
  pub missing : words_of text ≡ [] → (ps : List Param) (ns : List ℕ) → numbers_from call (p ∷ ps) ns (words_of text) ≡ Err (Missing call p)
  unfolding numbers_from
  missing w = λ ps ns. rw w refl

  module _ (word rest : List ℕ) (w : TakesWord text word rest) (most : ℕ) (m : most ≡ most_of p) where
    pub given : (n : ℕ) → Ok n ≡ argument_of most word → TakesNumber text call p n rest
    unfolding numbers_from
    given n e = record { takes = λ ps ns. rw (w.word, ← m, ← e) refl; left = w.left }

    pub refused : (e : NotANumber) → Err e ≡ argument_of most word → (ps : List Param) (ns : List ℕ)
        → numbers_from call (p ∷ ps) ns (words_of text) ≡ Err (wrong_number call p e)
    unfolding numbers_from
    refused e h = λ ps ns. rw (w.word, ← m, ← h) refl

-- The invariant of the loop over the parameters ps: the first i are taken, and what is read from here is the whole.
pub record Numbering (text : List ℕ) (call : Call) (ps : List Param) (four rest : List ℕ) (i : ℕ) : Type 0 where
  pub takes : numbers_from call ps [] (words_of text) ≡ numbers_from call (drop i ps) (take i four) (words_of rest)
  pub kept : drop i four ≡ drop i (replicate 4 0)
  pub left : rest ≡ past_words i text
  pub long : length four ≡ 4

pub none-numbered : (text : List ℕ) (call : Call) (ps : List Param) → Numbering text call ps (replicate 4 0) text 0
unfolding past_words
none-numbered text call ps = record { takes = refl; kept = refl; left = refl; long = refl }

module _ (text : List ℕ) (call : Call) (ps : List Param) (four rest : List ℕ) (i : ℕ) (n : Numbering text call ps four rest i) where
  pub numbers-end : length ps ≡ i → i ≤ 4 → TakesNumbers text call ps four rest
  unfolding numbers_from
  numbers-end e h =
      let m : length (take i four) ≡ i = length-take-le i four (omega (arith, n.long)) in
      record {
        numbers = take i four;
        takes = let all : length ps ≤ i = omega arith in n.takes ∙ rw (drop_of_length-le ps all) refl;
        padded = sym (rw (m, ← n.kept) (take-append-drop i four));
        left = n.left ∙ ap (λ (z : ℕ). past_words z text) (sym e);
      }

  module _ (d : Param) (h : i < length ps) where
    here : (ws : List (List ℕ)) → numbers_from call (drop i ps) (take i four) ws ≡ numbers_from call (get_or ps i d ∷ drop (suc i) ps) (take i four) ws
    here ws = ap (λ qs. numbers_from call qs (take i four) ws) (drop-cons ps i d h)

    pub numbers_more : (v : ℕ) (rest' : List ℕ) → TakesNumber rest call (get_or ps i d) v rest' → i < 4 → Numbering text call ps (set four i v) rest' (i + 1)
    unfolding past_words
    numbers_more v rest' t k =
        record {
          takes = rw (add-one, take-suc-set four i v (omega (arith, n.long))) (n.takes ∙ (here (words_of rest) ∙ t.takes (drop (suc i) ps) (take i four)));
          kept = drop-set-lt (i + 1) four i v (omega arith) ∙ (sym (drop-drop 1 i four) ∙ (ap (drop 1) n.kept ∙ drop-drop 1 i (replicate 4 0)));
          left = rw add-one (t.left ∙ ap (λ (z : List ℕ). past_word (past_space z)) n.left);
          long = length-set four i v ∙ n.long;
        }

-- LISTS ----------------------------------------------------------------------------------------------------------------------------
-- The invariant of the loop: the first n words of the lent list, and what is read from here, are the whole.
pub record Filled (whole rest : Listed) (before after : List ℕ) (n : ℕ) : Type 0 where
  pub words : whole.words ≡ take n after ++ rest.words
  pub wrong : whole.wrong ≡ rest.wrong
  pub kept : drop n after ≡ drop n before

module _ (text : List ℕ) (call : Call) (n room : ℕ) where
  pub list-end : words_of text ≡ [] → list_from call room n (words_of text) ≡ stopped None
  unfolding list_from
  list-end w = rw w

  module _ (word rest : List ℕ) (w : TakesWord text word rest) where
    pub list_full : room ≤ n → list_from call room n (words_of text) ≡ stopped (Some (ListTooLong call room))
    unfolding list_from
    list_full h = rw (w.word, le-ltb n room h)

    list-word : n < room → list_from call room n (words_of text) ≡ listed call n (argument_of max32 word) (list_from call room (n + 1) (words_of rest))
    unfolding list_from
    list-word h = rw (add-one, w.word, lt-ltb n room h)

    pub list-stop : n < room → (v : Wrong) → Err v ≡ word_number call n (argument_of max32 word)
        → list_from call room n (words_of text) ≡ stopped (Some v)
    list-stop h v e = list-word h ∙ go (argument_of max32 word) e
      where
        go : (a : Result ℕ NotANumber) → Err v ≡ word_number call n a → listed call n a (list_from call room (n + 1) (words_of rest)) ≡ stopped (Some v)
        go (Ok k) f = let z : ◌≡◌ {A = ℕ} 0 1 = cc in absurd (omega arith)
        go (Err k) f = let z : v ≡ wrong_word call n k = cc in rw z

    pub list-item : n < room → (v : ℕ) → Ok v ≡ word_number call n (argument_of max32 word)
        → list_from call room n (words_of text) ≡ listed call n (Ok v) (list_from call room (n + 1) (words_of rest))
    list-item h v e = list-word h ∙ go (argument_of max32 word) e
      where
        l : Listed
        l = list_from call room (n + 1) (words_of rest)

        go : (a : Result ℕ NotANumber) → Ok v ≡ word_number call n a → listed call n a l ≡ listed call n (Ok v) l
        go (Ok k) f = let z : v ≡ k = cc in rw z
        go (Err k) f = let z : ◌≡◌ {A = ℕ} 0 1 = cc in absurd (omega arith)

module _ (whole rest : Listed) (before after : List ℕ) (n : ℕ) (f : Filled whole rest before after n) where
  pub filled-ends : n ≤ length after → (o : Option Wrong) → rest ≡ stopped o → ListEnds whole before after (end_with o n)
  filled-ends h o e =
      let w : whole.words ≡ take n after = f.words ∙ (ap (λ (l : Listed). take n after ++ l.words) e ∙ append-nil (take n after)) in
      let m : length whole.words ≡ n = ap length w ∙ length-take-le n after h in
      record {
        ends = rw (f.wrong ∙ ap (λ (l : Listed). l.wrong) e, m);
        list = sym (rw (m, w, ← f.kept) (take-append-drop n after));
      }

  pub filled_more : (call : Call) (v : ℕ) (rest' : Listed) → rest ≡ listed call n (Ok v) rest' → n < length after
      → Filled whole rest' before (set after n v) (n + 1)
  filled_more call v rest' e h =
      record {
        words = f.words ∙ rw (add-one, take-suc-set after n v h, append_assoc) (ap (λ (l : Listed). take n after ++ l.words) e);
        wrong = f.wrong ∙ ap (λ (l : Listed). l.wrong) e;
        kept = drop-set-lt (n + 1) after n v (omega arith) ∙ (sym (drop-drop 1 n after) ∙ (ap (drop 1) f.kept ∙ drop-drop 1 n before));
      }

-- CALLS ------------------------------------------------------------------------------------------------------------------------------
pub plainly : (x : Line) (xs : List ℕ) → Parses (plain x) xs xs x
plainly x xs = record { line = refl; list = refl }

module _ (row : Row) (room : ℕ) (call : Call) (text : List ℕ) where
  pub numbers-failed : (w : Wrong) (xs : List ℕ) → numbers_from call row.params [] (words_of text) ≡ Err w → Parses (parse_call row room call text) xs xs (Err w)
  unfolding parse_call
  numbers-failed w xs e = rw e (plainly (Err w) xs)

  module _ (four rest : List ℕ) (t : TakesNumbers text call row.params four rest) where
    abbrev call_with : ℕ → ℕ → Line
    call_with n k = Ok (Some (record { call = call; numbers = four; words = n; bytes = k }))

    made : (n k : ℕ) → call_with n k ≡ command call t.numbers n k
    unfolding command
    made n k = ap (λ (z : List ℕ). Ok (Some (record { call = call; numbers = z; words = n; bytes = k }))) t.padded

    goes-on : parse_call row room call text ≡ ending row room call text t.numbers (words_of rest)
    unfolding parse_call
    goes-on = rw t.takes refl

    pub ends-plain : row.tail ≡ Nothing → words_of rest ≡ [] → (xs : List ℕ) → Parses (parse_call row room call text) xs xs (call_with 0 0)
    unfolding ending
    ends-plain e w xs = rw (goes-on, e, w, made 0 0) (plainly (command call t.numbers 0 0) xs)

    pub too_many : row.tail ≡ Nothing → (v : List ℕ) (rest' : List ℕ) → TakesWord rest v rest' → (xs : List ℕ)
        → Parses (parse_call row room call text) xs xs (Err (TooManyWords call))
    unfolding ending
    too_many e v rest' w xs = rw (goes-on, e, w.word) (plainly (Err (TooManyWords call)) xs)

    pub ends-text : row.tail ≡ Text → (k : ℕ) → k ≡ length rest - 1 → (xs : List ℕ) → Parses (parse_call row room call text) xs xs (call_with 0 k)
    unfolding ending
    ends-text e k h xs =
        let d : k ≡ length (drop 1 rest) = h ∙ sym (length-drop 1 rest) in
        rw (goes-on, e) (record { line = made 0 k ∙ ap (command call t.numbers 0) (d ∙ ap (λ (z : List ℕ). length (drop 1 z)) t.left); list = refl })

    module _ (e : row.tail ≡ Words) (xs ys : List ℕ) where
      listing : parse_call row room call text ≡ with_list call t.numbers (list_from call room 0 (words_of rest))
      unfolding ending
      listing = goes-on ∙ rw e refl

      pub list-stopped : (w : Wrong) → ListEnds (list_from call room 0 (words_of rest)) xs ys (Err w) → Parses (parse_call row room call text) xs ys (Err w)
      list-stopped w h = rw listing (record { line = go l.wrong (length l.words) h.ends; list = h.list })
        where
          l : Listed
          l = list_from call room 0 (words_of rest)

          go : (o : Option Wrong) (n : ℕ) → Err w ≡ end_with o n → Err w ≡ line_with o (command call t.numbers n 0)
          go None n f = let z : ◌≡◌ {A = ℕ} 0 1 = cc in absurd (omega arith)
          go (Some v) n f = let z : w ≡ v = cc in rw z

      pub list_counted : (n : ℕ) → ListEnds (list_from call room 0 (words_of rest)) xs ys (Ok n) → Parses (parse_call row room call text) xs ys (call_with n 0)
      list_counted n h = rw listing (record { line = made n 0 ∙ go l.wrong (length l.words) h.ends; list = h.list })
        where
          l : Listed
          l = list_from call room 0 (words_of rest)

          go : (o : Option Wrong) (m : ℕ) → Ok n ≡ end_with o m → command call t.numbers n 0 ≡ line_with o (command call t.numbers m 0)
          go None m f = let z : n ≡ m = cc in ap (λ (k : ℕ). command call t.numbers k 0) z
          go (Some v) m f = let z : ◌≡◌ {A = ℕ} 0 1 = cc in absurd (omega arith)

    module _ (e : row.tail ≡ Parts) (xs ys : List ℕ) where
      abbrev read : Listed
      read = list_from call room 0 (words_of rest)

      abbrev wanted : Option Wrong
      wanted = count_wrong call (wanted_by four) (length read.words)

      -- the line, by what is wrong with a word and with their number
      parts : parse_call row room call text ≡ record { line = line_with (first_wrong read.wrong wanted) (command call t.numbers (length read.words) 0); list = read.words; text = [] }
      unfolding ending counted
      parts = goes-on ∙ rw (e, t.padded) refl

      pub parts-stopped : (w : Wrong) → ListEnds read xs ys (Err w) → Parses (parse_call row room call text) xs ys (Err w)
      parts-stopped w h = rw parts (record { line = go read.wrong (length read.words) wanted h.ends; list = h.list })
        where
          go : (o : Option Wrong) (n : ℕ) (x : Option Wrong) → Err w ≡ end_with o n → Err w ≡ line_with (first_wrong o x) (command call t.numbers (length read.words) 0)
          go None n x f = let z : ◌≡◌ {A = ℕ} 0 1 = cc in absurd (omega arith)
          go (Some v) n x f = let z : w ≡ v = cc in rw z

      -- so many words were read
      ended : (n : ℕ) → ListEnds read xs ys (Ok n) → (read.wrong ≡ None) × (n ≡ length read.words)
      ended n h = go read.wrong (length read.words) h.ends
        where
          go : (o : Option Wrong) (m : ℕ) → Ok n ≡ end_with o m → (o ≡ None) × (n ≡ m)
          go None m f = (refl, cc)
          go (Some v) m f = let z : ◌≡◌ {A = ℕ} 0 1 = cc in absurd (omega arith)

      pub parts-counted : (n : ℕ) → ListEnds read xs ys (Ok n) → Counts (count_wrong call (wanted_by four) n) (Ok tt) → Parses (parse_call row room call text) xs ys (call_with n 0)
      parts-counted n h f =
          let d = ended n h in
          rw (parts, d.0, ← d.1, f) (record { line = made n 0; list = h.list })

      pub parts-refused : (n : ℕ) (w : Wrong) → ListEnds read xs ys (Ok n) → Counts (count_wrong call (wanted_by four) n) (Err w) → Parses (parse_call row room call text) xs ys (Err w)
      parts-refused n w h f =
          let d = ended n h in
          rw (parts, d.0, ← d.1, f) (record { line = refl; list = h.list })

-- how many words stand there, and how many are wanted
module _ (call : Call) (wanted n : ℕ) where
  pub too_few_words : n < wanted → Counts (count_wrong call wanted n) (Err (TooFewWords call))
  too_few_words h = rw (lt-ltb n wanted h)

  pub too_many_words : wanted < n → Counts (count_wrong call wanted n) (Err (TooManyWords call))
  too_many_words h = rw (le-ltb n wanted (omega arith), lt-ltb wanted n h)

  pub as_wanted : wanted ≤ n → n ≤ wanted → Counts (count_wrong call wanted n) (Ok tt)
  as_wanted h k = rw (le-ltb n wanted h, le-ltb wanted n k)

-- BEHIND THE NAME ------------------------------------------------------------------------------------------------------------------------
behind : (text rest : List ℕ) → rest ≡ past_words 1 text → EndOf text rest
behind text rest r = rw r (end-words 1 text)

pub rest_within : (text rest : List ℕ) → rest ≡ past_words 1 text → length rest ≤ length text
rest_within text rest r = let e = behind text rest r in omega (arith, ap length e.whole ∙ length-append e.front rest)

module _ (row : Row) (line text rest : List ℕ) (t : text ≡ uncommented line) (r : rest ≡ past_words 1 text) where
  pub no_text : (x : Tail) → row.tail ≡ x → (x ≡ Text → ⊥) → rest ≡ behind_name row line
  unfolding behind_name
  no_text Nothing h n = rw (h, ← t, append-nil) r
  no_text Words h n = rw (h, ← t, append-nil) r
  no_text Parts h n = rw (h, ← t, append-nil) r
  no_text Text h n = absurd (n refl)

  pub to_end : row.tail ≡ Text → take (length line - (length text - length rest)) (drop (length text - length rest) line) ≡ behind_name row line
  unfolding behind_name
  to_end h =
      let e = behind text rest r in
      let k = length text - length rest in
      let c = drop (length (uncommented line)) line in
      let f : length e.front ≡ k = omega (arith, ap length e.whole ∙ length-append e.front rest) in
      let w : line ≡ e.front ++ (rest ++ c) = sym (cut-rest _ line) ∙ (ap (λ (z : List ℕ). z ++ c) (sym t ∙ e.whole) ∙ append_assoc e.front rest c) in
      let d : drop k line ≡ rest ++ c = ap (drop k) w ∙ drop_at e.front (rest ++ c) k f in
      rw h (take_all (length line - k) (drop k line) (omega (arith, length-drop k line)) ∙ (d ∙ rw (← t, ← r) refl))

-- LINES ----------------------------------------------------------------------------------------------------------------------------------
-- u is the line without its comment
module _ (room : ℕ) (line u : List ℕ) (e : u ≡ uncommented line) where
  pub blank : words_of u ≡ [] → (xs : List ℕ) → Parses (parse rows room line) xs xs (Ok None)
  unfolding parse
  blank h xs = rw (← e, h) (plainly (Ok None) xs)

  module _ (name rest : List ℕ) (w : TakesWord u name rest) where
    pub one_word : rest ≡ past_words 1 u
    unfolding past_words
    one_word = w.left

    pub unknown-call : None ≡ call_named rows name → (xs : List ℕ) → Parses (parse rows room line) xs xs (Err NoSuchCall)
    unfolding parse
    unknown-call f xs = rw (← e, w.word, ← f) (plainly (Err NoSuchCall) xs)

    pub known-call : (call : Call) → Some call ≡ call_named rows name → (text : List ℕ) → text ≡ behind_name (rows call) line → (xs ys : List ℕ) (r : Line)
        → Parses (parse_call (rows call) room call text) xs ys r → Parses (parse rows room line) xs ys r
    unfolding parse
    known-call call f text t xs ys r p = rw (← e, w.word, ← f, ← t) p
