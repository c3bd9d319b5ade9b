-- Laws of the parts of several rules, one behind the other.
use mathlib.Core.Path.{◌≡◌, refl, sym, ap, ◌∙◌}
use mathlib.Core.Bool.{Bool, true, false, ◌&&◌, and_assoc}
use mathlib.Core.List.{List, [], ◌∷◌, ◌++◌, map, append-nil, append_assoc, map-append}
use Prim.Native.Nat.{ℕ, zero, suc, ◌+◌, ◌*◌, ◌-◌, ◌/◌, ◌≤◌, ◌<◌}
use native.Mathlib.Nat.{add-zero, zero-add}
use native.Mathlib.Numerals.{add-one}
use native.Mathlib.Omega.{arith}
use borrow.Author.Tests.{lt-ltb, le-ltb}
use borrow.Rule.Slice.PartMut.{mid_of, put_mid}
use lib.Dec.{ltb}
use lib.ListN.{length, take, get_or, replicate, length-append, length-map}
use Rattle.model.specs.Lists.{up_from, flatten}
use Rattle.model.specs.Codec as codec
use Rattle.model.specs.Codec.{words_of}
use Rattle.model.specs.Parts.{list_row}
use Rattle.model.specs.Store.{list_rows}
use Rattle.model.specs.Flat.{Row, Flattened, part_of, steps_in, taken_in, too_many_steps}
use Rattle.model.proofs.ListLaws.{length-up_from, up_from-last}
use Rattle.model.proofs.Bools.{or-true}
use Rattle.std.specs.Prelude.{Ok}
use Rattle.flat.specs.Words.{layout, same_at}
use Rattle.flat.specs.Outcome.{so_far, Start, Behinds, holds_at, Wrote}
use Rattle.flat.specs.Load.{stored, step_part, list_part, loaded, RuleWrote, EachWrote, MadeOf, CheckedTables, rule_context, rule_at, rules_up_to, flatten_tables}
use Rattle.flat.proofs.Words.{layout-append, same_none, same-rows-append, same_drop, tail_of, tail-drop}
use Rattle.flat.proofs.Rows.{whole_length, tail-behinds}
use Rattle.flat.proofs.Parts.{Placed, drop-placed}
use Rattle.flat.proofs.Lengths.{list_length}

-- LISTS OF LISTS --------------------------------------------------------------------------------------------------------------------
flatten-more : {A : Type 0} (xss : List (List A)) (xs : List A) → flatten (xss ++ (xs ∷ [])) ≡ flatten xss ++ xs
flatten-more [] xs = append-nil xs
flatten-more (ys ∷ xss) xs = rw (flatten-more xss xs, append_assoc)

pub words_append : {A : Type 0} (r : codec.Row A) (l m : List A) → words_of r (l ++ m) ≡ words_of r l ++ words_of r m
unfolding words_of
words_append r [] m = refl
words_append r (x ∷ l) m = rw (words_append r l m, append_assoc)

-- FLATTENED RULES -------------------------------------------------------------------------------------------------------------------
-- 16 counts what is stored
pub stored-count : (fs : List Flattened) → length (stored fs) ≡ steps_in fs
unfolding stored
stored-count [] = refl
stored-count (f ∷ fs) = omega (arith, stored-count fs, length-append (part_of f) (stored fs))

module _ (f : Flattened) where
  taken_more : (fs : List Flattened) → taken_in (fs ++ (f ∷ [])) ≡ taken_in fs + f.taken
  taken_more [] = omega arith
  taken_more (g ∷ fs) = omega (arith, taken_more fs)

  stored_more : (fs : List Flattened) → stored (fs ++ (f ∷ [])) ≡ stored fs ++ part_of f
  unfolding stored
  stored_more fs = ap flatten (map-append part_of fs (f ∷ [])) ∙ flatten-more (map part_of fs) (part_of f)

  rows_more : (k : ℕ) (fs : List Flattened)
      → list_rows k (fs ++ (f ∷ [])) ≡ list_rows k fs ++ ((k + length (stored fs) + length f.bodies, length f.rows) ∷ [])
  unfolding stored
  rows_more k [] = rw (add-zero k)
  rows_more k (g ∷ fs) =
      let own = k + length g.bodies in
      let e : own + length g.rows + length (stored fs) ≡ k + length (stored (g ∷ fs)) =
      omega (arith, length-append (part_of g) (stored fs), length-append g.bodies g.rows) in
      ap (λ (l : List (ℕ × ℕ)). (own, length g.rows) ∷ l) (rows_more (own + length g.rows) fs)
      ∙ ap (λ (n : ℕ). list_rows k (g ∷ fs) ++ ((n + length f.bodies, length f.rows) ∷ [])) e

  part-more : (fs : List Flattened) → list_part (fs ++ (f ∷ [])) ≡ list_part fs ++ ((length (stored fs) + length f.bodies) ∷ length f.rows ∷ [])
  unfolding words_of
  part-more fs =
      ap (words_of list_row) (rows_more 0 fs)
      ∙ words_append list_row (list_rows 0 fs) ((0 + length (stored fs) + length f.bodies, length f.rows) ∷ [])
      ∙ ap (λ (n : ℕ). list_part fs ++ ((n + length f.bodies) ∷ length f.rows ∷ [])) (zero-add (length (stored fs)))

-- over the limits or not
module _ (fs : List Flattened) where
  pub over-taken : 65536 < taken_in fs → too_many_steps fs ≡ true
  unfolding too_many_steps
  over-taken h = rw (lt-ltb 65536 (taken_in fs) h, or-true (ltb 2048 (steps_in fs)))

  over-steps : 2048 < steps_in fs → too_many_steps fs ≡ true
  unfolding too_many_steps
  over-steps h = rw (lt-ltb 2048 (steps_in fs) h)

  within : taken_in fs ≤ 65536 → steps_in fs ≤ 2048 → too_many_steps fs ≡ false
  unfolding too_many_steps
  within h k = rw (le-ltb 2048 (steps_in fs) k, le-ltb 65536 (taken_in fs) h)

  pub loaded-steps : (n : ℕ) → too_many_steps fs ≡ false → n ≡ length (stored fs) → Ok n ≡ loaded fs
  unfolding loaded
  loaded-steps n h e = rw (h, e)

-- ONE RULE --------------------------------------------------------------------------------------------------------------------------
module _ (acts blocks rules : List ℕ) (d limit k left : ℕ) (h : CheckedTables acts blocks rules d limit) where
  pub rule-start : (scratch : ℕ) → 1072 ≤ scratch → left ≤ 65536 → Start scratch d (rule_context limit) 0 0 left
  rule-start scratch s a =
      record {
        depth_le = h.depth_le;
        room = λ e. s;
        limit-lt = h.limit-lt;
        allowed-le = a;
        listed_le = omega arith;
        stored-le = omega arith;
      }

  pub rule-short : length (rule_at acts blocks rules d limit k).steps ≤ 268
  rule-short = omega (arith, list_length acts blocks d (get_or rules (k * 16 + 8) 0) (get_or rules (k * 16 + 9) 0) (rule_context limit) 0, h.depth_le)

-- its bodies were written, and its own list behind them
module _ (f : Flattened) (allowed : ℕ) (same : Bool) (seen own₀ words₀ own words : List ℕ) (n m left : ℕ) (s : Bool)
    (short : length f.steps ≤ 268) (h : Wrote 1 0 f (so_far 0 0 allowed same) seen own₀ words₀ own words (so_far n m left s)) where
  pub rule-room : 1072 ≤ length own → n * 4 ≤ length own
  rule-room r =
      let u : n ≤ 268 = omega (arith, h.counted) in
      omega arith

  pub rule-wrote : (words' : List ℕ) (r : Bool) → 1072 ≤ length own₀ → length words ≡ length words₀ → length words' ≡ length words
      → ((rs : List Row) → take (n * 4) own ≡ layout rs → Behinds words m rs words' (m + length rs) × (r ≡ s && holds_at seen m rs))
      → RuleWrote f allowed same seen words' n m left r
  rule-wrote words' r l e e' g =
      let u : n ≡ length f.rows = omega (arith, h.counted, h.rows) in
      let v : n ≤ 268 = omega (arith, h.counted) in
      let o : take (n * 4) own ≡ layout f.rows = h.listed (omega arith) in
      let b = g f.rows o in
      let z : m ≡ 0 + length f.bodies = h.stored in
      record {
        listed = u;
        short = v;
        stored = omega (arith, z);
        taken = h.taken;
        written = λ k. rw u (b.0 (omega arith)) ∙ ap (λ (x : List ℕ). x ++ layout f.rows) (h.bodied (omega arith)) ∙ sym (layout-append f.bodies f.rows);
        agrees =
            b.1 ∙ ap (λ (x : Bool). x && holds_at seen m f.rows) h.agrees ∙ and_assoc same (holds_at seen 0 f.bodies) (holds_at seen m f.rows)
            ∙ ap (λ (j : ℕ). same && (holds_at seen 0 f.bodies && holds_at seen j f.rows)) z
            ∙ ap (λ (x : Bool). same && x) (sym (same-rows-append seen 0 f.bodies f.rows));
        few = omega (arith, h.few, h.few');
      }

-- where the words that were lent are told by the name of what was lent
pub rule-ends : {G : Type 0} {a b : G} {f : Flattened} {allowed : ℕ} {same : Bool} {seen words ends : List ℕ} {n m left : ℕ} {s : Bool} → a ≡ b → (a ≡ b → ends ≡ words)
    → RuleWrote f allowed same seen words n m left s → RuleWrote f allowed same seen ends n m left s
rule-ends e g h = rw (g e) h

-- the tail behind `size` steps, empty if there are not so many, is compared
pub same-tail : (seen : List ℕ) (k size : ℕ) (w : List ℕ) → Placed size (length seen) k → same_at (tail_of seen k) 0 w ≡ same_at seen (size * 4) w
same-tail seen k size w p =
    ap (λ (l : List ℕ). same_at l 0 w) (tail-drop seen k ∙ drop-placed seen size k p) ∙ same_drop seen (size * 4) 0 w
    ∙ ap (λ (j : ℕ). same_at seen j w) (add-zero (size * 4))

-- THE LOOP OVER THE RULES -----------------------------------------------------------------------------------------------------------
-- the parts of fs stand in front of w, and it is told whether they stand in front of `seen`; their rows stand in front of l
pub record Front (fs : List Flattened) (seen : List ℕ) (room rows-room : ℕ) (w l : List ℕ) (k size left : ℕ) (same : Bool) : Type 0 where
  pub room-is : length w ≡ room
  pub rows-room-is : length l ≡ rows-room
  pub count-is : k ≡ length fs
  pub size_is : size ≡ length (stored fs)
  pub taken_is : left + taken_in fs ≡ 65536
  pub bounded : size + 514 * left ≤ 514 * 65536 + k
  pub written : size * 4 ≤ length w → take (size * 4) w ≡ step_part fs
  pub agrees : same ≡ same_at seen 0 (step_part fs)
  pub listed : k * 2 ≤ length l → take (k * 2) l ≡ list_part fs

pub at-start : (seen w l : List ℕ) → Front [] seen (length w) (length l) w l 0 0 65536 true
unfolding words_of stored
at-start seen w l =
    record {
      room-is = refl;
      rows-room-is = refl;
      count-is = refl;
      size_is = refl;
      taken_is = omega arith;
      bounded = omega arith;
      written = λ h. refl;
      agrees = sym (same_none seen 0);
      listed = λ h. refl;
    }

module _ (fs : List Flattened) (seen : List ℕ) (room rows-room : ℕ) (w l : List ℕ) (k size left : ℕ) (same : Bool)
    (h : Front fs seen room rows-room w l k size left same) where
  -- one more part was written into the tail from i on, and compared with the tail from j on, and its row behind the others
  pub next : (f : Flattened) (v l' : List ℕ) (i j n m left' : ℕ) (s : Bool) → Placed size (length w) i → Placed size (length seen) j
      → length v ≡ length (mid_of i (length w - i) w)
      → RuleWrote f left same (tail_of seen j) v n m left' s
      → length l' ≡ length l → ((k + 1) * 2 ≤ length l → take ((k + 1) * 2) l' ≡ take (k * 2) l ++ ((size + m) ∷ n ∷ []))
      → Front (fs ++ (f ∷ [])) seen room rows-room (put_mid i (length w - i) w v) l' (k + 1) (size + (m + n)) left' s
  next f v l' i j n m left' s at at' kept z same_rows row =
      let sizes : length (part_of f) ≡ m + n = omega (arith, length-append f.bodies f.rows, z.stored, z.listed) in
      let e : 0 + length (stored fs) ≡ size = omega (arith, h.size_is) in
      record {
        room-is = whole_length w v i at.inside kept ∙ h.room-is;
        rows-room-is = same_rows ∙ h.rows-room-is;
        count-is = omega (arith, h.count-is, length-append fs (f ∷ []));
        size_is = omega (arith, h.size_is, sizes, ap length (stored_more f fs), length-append (stored fs) (part_of f));
        taken_is = omega (arith, h.taken_is, z.taken, taken_more f fs);
        bounded = omega (arith, h.bounded, z.few);
        written = λ g.
            let k : length (put_mid i (length w - i) w v) ≡ length w = whole_length w v i at.inside kept in
            let e : size * 4 ≤ length w = omega arith in
            tail-behinds w v i at.inside kept size at.there at.past (m + n) (part_of f) (λ b. z.written (omega (arith, kept))) (omega arith)
            ∙ ap (λ (x : List ℕ). x ++ layout (part_of f)) (h.written e) ∙ sym (layout-append (stored fs) (part_of f))
            ∙ ap layout (sym (stored_more f fs));
        agrees =
            z.agrees ∙ ap (λ (b : Bool). b && same_at (tail_of seen j) 0 (layout (part_of f))) h.agrees
            ∙ ap (λ (b : Bool). same_at seen 0 (step_part fs) && b) (same-tail seen j size (layout (part_of f)) at')
            ∙ ap (λ (y : ℕ). same_at seen 0 (step_part fs) && same_at seen (y * 4) (layout (part_of f))) (sym e)
            ∙ sym (same-rows-append seen 0 (stored fs) (part_of f)) ∙ ap (λ (x : List Row). same_at seen 0 (layout x)) (sym (stored_more f fs));
        listed = λ g.
            rw (part-more f fs, ← h.size_is, ← z.stored, ← z.listed)
            (row (omega arith) ∙ ap (λ (q : List ℕ). q ++ ((size + m) ∷ n ∷ [])) (h.listed (omega arith)));
      }

  too_many : 2048 < size → too_many_steps fs ≡ true
  too_many g = over-steps fs (omega (arith, h.size_is, stored-count fs))

  accepted : size ≤ 2048 → EachWrote fs size same seen w l
  accepted m =
      record {
        few = within fs (omega (arith, h.taken_is)) (omega (arith, h.size_is, stored-count fs));
        count = h.size_is;
        written = h.written;
        listed = rw (← h.count-is) h.listed;
        agrees = h.agrees;
      }

-- the words behind the steps and behind the rows were cleared
pub cleared : (fs : List Flattened) (n : ℕ) (same : Bool) (seen w l final rows : List ℕ) (k e e' : ℕ) → EachWrote fs n same seen w l → k ≡ length fs
    → (n * 4 ≤ length w → e ≡ n * 4) → final ≡ take e w ++ replicate (length w - e) 0 → length final ≡ length w
    → (k * 2 ≤ length l → e' ≡ k * 2) → rows ≡ take e' l ++ replicate (length l - e') 0 → length rows ≡ length l
    → MadeOf fs n same seen final rows
cleared fs n same seen w l final rows k e e' h q cut clear kept cut' clear' kept' =
    record {
      few = h.few;
      count = h.count;
      parts = record {
        steps = λ g.
            let f : e ≡ n * 4 = cut (omega arith) in
            let t = rw f at clear in
            rw kept (t ∙ ap (λ (p : List ℕ). p ++ replicate (length w - n * 4) 0) (h.written (omega arith)));
        rows = λ g.
            let f : e' ≡ length fs * 2 = cut' (omega arith) ∙ ap (λ (j : ℕ). j * 2) q in
            let t = rw f at clear' in
            rw kept' (t ∙ ap (λ (p : List ℕ). p ++ replicate (length l - length fs * 2) 0) (h.listed (omega arith)));
      };
      agrees = h.agrees;
    }

-- the rules of a set, one more at a time
module _ (acts blocks rules : List ℕ) (d limit : ℕ) where
  pub rules-none : rules_up_to acts blocks rules d limit 0 ≡ []
  unfolding rules_up_to
  rules-none = refl

  pub rules-more : (k : ℕ) → rules_up_to acts blocks rules d limit (k + 1) ≡ rules_up_to acts blocks rules d limit k ++ (rule_at acts blocks rules d limit k ∷ [])
  unfolding rules_up_to
  rules-more k =
      ap (λ (n : ℕ). map (rule_at acts blocks rules d limit) (up_from 0 n)) (add-one k)
      ∙ ap (map (rule_at acts blocks rules d limit)) (up_from-last 0 k)
      ∙ map-append (rule_at acts blocks rules d limit) (up_from 0 k) ((0 + k) ∷ []) ∙ ap (λ (n : ℕ). map (rule_at acts blocks rules d limit) (up_from 0 k) ++ (rule_at acts blocks rules d limit n ∷ [])) (zero-add k)

  pub rules-count : length rules / 16 ≡ length (flatten_tables acts blocks rules d limit)
  unfolding rules_up_to
  rules-count = sym (length-map (up_from 0 (length rules / 16)) (rule_at acts blocks rules d limit) ∙ length-up_from 0 (length rules / 16))

  -- more rules, more actions taken
  more-taken : (k j : ℕ) → taken_in (rules_up_to acts blocks rules d limit k) ≤ taken_in (rules_up_to acts blocks rules d limit (k + j))
  more-taken k zero = rw (add-zero k) (omega arith)
  more-taken k (suc j) =
      let e : k + suc j ≡ k + j + 1 = omega arith in
      rw (e, rules-more (k + j)) (omega (arith, more-taken k j, taken_more (rule_at acts blocks rules d limit (k + j)) (rules_up_to acts blocks rules d limit (k + j))))

  -- rule k takes more actions than are left
  pub rule-refused : (k n left : ℕ) → k < n → left + taken_in (rules_up_to acts blocks rules d limit k) ≡ 65536 → left < (rule_at acts blocks rules d limit k).taken
      → too_many_steps (rules_up_to acts blocks rules d limit n) ≡ true
  rule-refused k n left h o g =
      let q : k + 1 + (n - (k + 1)) ≡ n = omega arith in
      let m : taken_in (rules_up_to acts blocks rules d limit (k + 1)) ≤ taken_in (rules_up_to acts blocks rules d limit n) = rw q at (more-taken (k + 1) (n - (k + 1))) in
      let a : taken_in (rules_up_to acts blocks rules d limit (k + 1)) ≡ taken_in (rules_up_to acts blocks rules d limit k) + (rule_at acts blocks rules d limit k).taken =
      ap taken_in (rules-more k) ∙ taken_more (rule_at acts blocks rules d limit k) (rules_up_to acts blocks rules d limit k) in
      over-taken (rules_up_to acts blocks rules d limit n) (omega arith)

  -- after the last turn
  module _ (k : ℕ) (le : k ≤ length rules / 16) (all : length rules / 16 ≤ k) (seen : List ℕ) (room rows-room : ℕ) (w l : List ℕ) (size left : ℕ) (same : Bool)
      (h : Front (rules_up_to acts blocks rules d limit k) seen room rows-room w l k size left same) where
    whole : rules_up_to acts blocks rules d limit k ≡ flatten_tables acts blocks rules d limit
    whole = let e : k ≡ length rules / 16 = omega arith in ap (rules_up_to acts blocks rules d limit) e

    pub all-over : 2048 < size → too_many_steps (flatten_tables acts blocks rules d limit) ≡ true
    all-over g = rw whole at (too_many (rules_up_to acts blocks rules d limit k) seen room rows-room w l k size left same h g)

    pub all-wrote : size ≤ 2048 → EachWrote (flatten_tables acts blocks rules d limit) size same seen w l
    all-wrote g = rw whole at (accepted (rules_up_to acts blocks rules d limit k) seen room rows-room w l k size left same h g)
