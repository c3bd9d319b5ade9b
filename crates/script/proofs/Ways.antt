-- What every parsed line is: blank, wrong, or a call whose numbers are within their ranges and whose text ends the line. Assumes nothing.
use Rattle.std.proofs.Common.{◌≡◌, ℕ, zero, suc, ◌-◌, ◌≤◌, List, [], ◌∷◌, ◌++◌, length, get_or, drop, replicate, map, Option, None, Some, Result, Ok, Err, refl, sym, ap, ◌∙◌, append_assoc, arith}
use Rattle.std.specs.Prelude.{IfOk, IfSome}
use mathlib.Core.Path.{subst}
use mathlib.Core.List.{append-nil}
use lib.ListN.{length-append, length-drop}
use lib.Seq.{take_at, drop_at}
use Rattle.decimal.specs.Numbers.{argument_of}
use Rattle.decimal.specs.declared.NotANumber.{NotANumber}
use Rattle.decimal.proofs.DigitLaws.{taken-most}
use Rattle.script.specs.Words.{words_of, uncommented, past_words}
use Rattle.script.specs.Table.{Call, Param, Row, rows, most_of, Tail, Nothing, Words, Parts, Text}
use Rattle.script.specs.Script.{Command, Line, Parsed, plain, over, command, Wrong, NoSuchCall, Missing, TooManyWords, wrong_number, with_number, numbers_from, Listed, list_from, counted, line_with, at_end, with_list, tailed, ending, going_on, parse_call, call_named, behind_name, called_by, parse_words, parse}
use Rattle.script.specs.Scan.{Parses, Finds}
use Rattle.script.proofs.Splits.{EndOf, end-then, end-words, end-drop, cut-rest}

-- each number is at most the largest of its parameter; past the numbers, and past the parameters, stands 0
pub record InRange (ps : List Param) (ns : List ℕ) : Type 0 where
  pub most : (j : ℕ) → get_or ns j 0 ≤ get_or (map most_of ps) j 0

pub data Way (t : Call → Row) (line : List ℕ) : Parsed → Type 0 where
  blank-way : Way t line (plain (Ok None))
  bad-way : (w : Wrong) (list : List ℕ) → Way t line (record { line = Err w; list = list; text = [] })
  call-way :
      (call : Call) (ns list text front : List ℕ) → InRange (t call).params ns → line ≡ front ++ text
      → Way t line (record { line = command call ns (length list) (length text); list = list; text = text })

-- where a call takes a text, what stands behind its name goes to the line's end
name-end : (row : Row) (line : List ℕ) → row.tail ≡ Text → EndOf line (behind_name row line)
unfolding behind_name
name-end row line e =
    let u = uncommented line in
    let rest = drop (length u) line in
    let f = end-words 1 u in
    rw e
    (record {
      front = f.front;
      whole = sym (cut-rest _ line) ∙ (ap (λ (z : List ℕ). z ++ rest) f.whole ∙ append_assoc f.front (past_words 1 u) rest);
    })

-- NUMBERS ------------------------------------------------------------------------------------------------------------------------------
in-none : (ps : List Param) → InRange ps []
in-none ps = record { most = λ j. omega arith }

in-more : (p : Param) (n : ℕ) (ps : List Param) (ns : List ℕ) → n ≤ most_of p → InRange ps ns → InRange (p ∷ ps) (n ∷ ns)
in-more p n ps ns h r = record { most = go }
  where
    go : (j : ℕ) → get_or (n ∷ ns) j 0 ≤ get_or (map most_of (p ∷ ps)) j 0
    go zero = h
    go (suc j) = r.most j

module _ (Q : Parsed → Type 0) (bad : (w : Wrong) → Q (plain (Err w))) (k : List ℕ → List (List ℕ) → Parsed) (call : Call) where
  way-numbers : (ps : List Param) (taken : List ℕ) (ws : List (List ℕ)) → ((ns : List ℕ) (ws : List (List ℕ)) → InRange ps ns → Q (k (taken ++ ns) ws))
      → Q (going_on (numbers_from call ps taken ws) k)
  unfolding numbers_from
  way-numbers [] taken ws f = subst (λ (z : List ℕ). Q (k z ws)) (append-nil taken) (f [] ws (in-none []))
  way-numbers (p ∷ ps) taken [] f = bad (Missing call p)
  way-numbers (p ∷ ps) taken (w ∷ ws) f = go (argument_of (most_of p) w) refl (λ n. way-numbers ps (taken ++ n ∷ []) ws)
    where
      go : (a : Result ℕ NotANumber) → argument_of (most_of p) w ≡ a
          → ((n : ℕ) → ((ns : List ℕ) (us : List (List ℕ)) → InRange ps ns → Q (k ((taken ++ n ∷ []) ++ ns) us)) → Q (going_on (numbers_from call ps (taken ++ n ∷ []) ws) k))
          → Q (going_on (with_number call p a (λ n. numbers_from call ps (taken ++ n ∷ []) ws)) k)
      go (Err x) e h = bad (wrong_number call p x)
      go (Ok n) e h =
          h n
          (λ ns us r.
          subst (λ (z : List ℕ). Q (k z us)) (sym (append_assoc taken (n ∷ []) ns))
          (f (n ∷ ns) us (in-more p n ps ns (taken-most (most_of p) w n e) r)))

-- CALLS --------------------------------------------------------------------------------------------------------------------------------
module _ (t : Call → Row) (line : List ℕ) (room : ℕ) (call : Call) where
  way-list : (ns : List ℕ) → InRange (t call).params ns → (l : Listed) → Way t line (with_list call ns l)
  way-list ns r l = go l.wrong
    where
      go : (o : Option Wrong) → Way t line (record { line = line_with o (command call ns (length l.words) 0); list = l.words; text = [] })
      go None = call-way call ns l.words [] line r (sym (append-nil line))
      go (Some w) = bad-way w l.words

  way_end : (ns : List ℕ) → InRange (t call).params ns → (ws : List (List ℕ)) → Way t line (plain (at_end call ws (command call ns 0 0)))
  way_end ns r [] = call-way call ns [] [] line r (sym (append-nil line))
  way_end ns r (w ∷ ws) = bad-way (TooManyWords call) []

  module _ (s : List ℕ) (e : (t call).tail ≡ Text → EndOf line s) where
    way-tail : (x : Tail) → (t call).tail ≡ x → (n : ℕ) (ns : List ℕ) → InRange (t call).params ns → (ws : List (List ℕ))
        → Way t line (tailed x n room call s ns ws)
    way-tail Nothing h n ns r ws = way_end ns r ws
    way-tail Words h n ns r ws = way-list ns r (list_from call room 0 ws)
    way-tail Parts h n ns r ws = way-list ns r (counted call ns (list_from call room 0 ws))
    way-tail Text h n ns r ws =
        let f = end-then (e h) (end-then (end-words n s) (end-drop 1 (past_words n s))) in
        call-way call ns [] (drop 1 (past_words n s)) f.front r f.whole

    way-call : Way t line (parse_call (t call) room call s)
    unfolding parse_call ending
    way-call =
        way-numbers (Way t line) (λ w. bad-way w []) (ending (t call) room call s) call (t call).params [] (words_of s)
        (λ ns ws r. way-tail (t call).tail refl (length (t call).params) ns r ws)

pub way : (t : Call → Row) (room : ℕ) (line : List ℕ) → Way t line (parse t room line)
unfolding parse
way t room line = words (words_of (uncommented line))
  where
    called : (o : Option Call) → Way t line (called_by t room line o)
    called None = bad-way NoSuchCall []
    called (Some call) = way-call t line room call (behind_name (t call) line) (name-end (t call) line)

    words : (ws : List (List ℕ)) → Way t line (parse_words t room line ws)
    words [] = blank-way
    words (w ∷ ws) = called (call_named t w)

-- zeros behind numbers are no other numbers
zeros : (k m j : ℕ) → ◌≡◌ {A = ℕ} (get_or (drop k (replicate m 0)) j 0) 0
zeros zero zero j = refl
zeros zero (suc m) zero = refl
zeros zero (suc m) (suc j) = zeros zero m j
zeros (suc k) zero j = refl
zeros (suc k) (suc m) j = zeros k m j

pub zeros-behind : (xs : List ℕ) (k m j : ℕ) → ◌≡◌ {A = ℕ} (get_or (xs ++ drop k (replicate m 0)) j 0) (get_or xs j 0)
zeros-behind [] k m j = zeros k m j
zeros-behind (x ∷ xs) k m zero = refl
zeros-behind (x ∷ xs) k m (suc j) = zeros-behind xs k m j

-- the bytes of a line behind its front
behind : (front text : List ℕ) → drop (length (front ++ text) - length text) (front ++ text) ≡ text
behind front text =
    let l : length front ≡ length (front ++ text) - length text = omega (arith, length-append front text) in
    drop_at front text (length (front ++ text) - length text) l

-- what a call finds in its line and in the list
pub finds : (line before after : List ℕ) (c : Command) (p : Parsed) → Way rows line p → length after ≡ length before → Parses p before after (Ok (Some c))
    → Finds p line after c
unfolding command
finds line before after c p blank-way same h = let l : Ok (Some c) ≡ Ok None = h.line in let z : ◌≡◌ {A = ℕ} 0 1 = cc in absurd (omega arith)
finds line before after c p (bad-way w list) same h = let l : Ok (Some c) ≡ Err w = h.line in let z : ◌≡◌ {A = ℕ} 0 1 = cc in absurd (omega arith)
finds line before after c p (call-way call ns list text front r e) same h =
    let l : Ok (Some c) ≡ Ok (Some (record { call = call; numbers = over ns (replicate 4 0); words = length list; bytes = length text })) = h.line in
    let z : c ≡ record { call = call; numbers = over ns (replicate 4 0); words = length list; bytes = length text } = cc in
    rw z
    (record {
      words = rw h.list (take_at list (drop (length list) before) (length list) refl);
      listed = omega (arith, ap length h.list ∙ length-append list (drop (length list) before), length-drop (length list) before);
      text = rw e (behind front text);
      texted = omega (arith, ap length e ∙ length-append front text);
      ranged = λ i. rw zeros-behind (r.most i);
    })

-- and every line finds what it says
pub line_finds : (room : ℕ) (line before after : List ℕ) (r : Line) → length after ≡ length before → Parses (parse rows room line) before after r
    → IfOk r (λ o. IfSome o (Finds (parse rows room line) line after))
line_finds room line before after (Ok None) same h = tt
line_finds room line before after (Ok (Some c)) same h = finds line before after c (parse rows room line) (way rows room line) same h
line_finds room line before after (Err w) same h = tt
