-- The table of an accepted line is the line's programme. Assumes nothing.
use mathlib.Core.Path.{◌≡◌, refl, sym, ap, ◌∙◌}
use mathlib.Core.Bool.{Bool, true, false, cond, not, ◌&&◌, ◌||◌, false≢true}
use Rattle.std.specs.Prelude.{Option, None, Some}
use Rattle.std.specs.Option.{is_some}
use mathlib.Core.List.{List, [], ◌∷◌, ◌++◌, map, append_assoc}
use Prim.Native.Nat.{ℕ, zero, suc, ◌+◌, ◌*◌, ◌-◌, ◌/◌, ◌%◌, ◌≤◌, ◌<◌}
use native.Mathlib.Nat.{div-add-mod, mod-lt}
use native.Mathlib.Omega.{arith}
use borrow.Author.Tests.{eq-eqb, lt-ltb, le-leb, leb-true, ltb-false, not-true}
use lib.Dec.{eqb, leb, ltb, lit<}
use lib.ListN.{length, get_or, take, drop, replicate, length-append, get_or-append}
use lib.Seq.{get_or-append-add}
use Rattle.std.proofs.lemmas.Bool.{and_parts, or_parts}
use Rattle.model.specs.Arith.{has_day}
use Rattle.model.specs.Lists.{any, all, every, keep, present, up_from}
use Rattle.model.specs.Rows.{triggers, field_of}
use Rattle.model.specs.Field.{fits}
use Rattle.model.specs.Image.{width_of, word_at, leads, record_passes}
use Rattle.model.specs.declared.Trigger.{Trigger}
use Rattle.model.specs.declared.Trigger.TheVariants.{AtTime}
use Rattle.model.specs.Rules.{trigger_of, record_in}
use Rattle.model.specs.Wheel.{minute_due, due_wall_kind, WallKind, by_time}
use Rattle.model.specs.State.{Env}
use Rattle.model.proofs.Bools.{every-at, not-refused}
use Rattle.model.proofs.SortLaws.{any-map}
use Rattle.std.specs.List.{slice_split, onto_first}
use Rattle.model.specs.Crontab.{until, is_hyphen, is_comma, range_of, element_of, elements_of, holds, is_asterisk, is_pattern, covers, number_of, field_fits, field_covers, field, starts, minutes, day_here, days, of_the_form, refusal, trigger_words, table_words, crontab, answer_of}
use Rattle.model.specs.Asked.{declined}
use Rattle.model.specs.CrontabMeaning.{matches, day_there, triggers_in, minute_before, due_at, earlier, in_order, on_days}
use Rattle.crontab.specs.Programme.{Programme}
use Rattle.crontab.proofs.Calendar.{minutes-due, day-there, days-here, on-day, total-seven}

abbrev pub at_minute : ℕ → ℕ → Trigger
at_minute ds t = AtTime (t / 60) (t % 60) ds

-- THE TABLE READ BACK
record-behind : (xs ys : List ℕ) (n : ℕ) → length xs ≡ 8 * n → record_in (xs ++ ys) n ≡ record_in ys 0
record-behind xs ys n e =
    let z : n * 8 ≡ length xs + 0 = omega arith in
    let a : n * 8 + 1 ≡ length xs + 1 = omega arith in
    let b : n * 8 + 2 ≡ length xs + 2 = omega arith in
    let c : n * 8 + 3 ≡ length xs + 3 = omega arith in
    let d : n * 8 + 4 ≡ length xs + 4 = omega arith in
    let f : n * 8 + 5 ≡ length xs + 5 = omega arith in
    rw (
      a,
      b,
      c,
      d,
      f,
      z,
      get_or-append-add xs ys 0 0,
      get_or-append-add xs ys 1 0,
      get_or-append-add xs ys 2 0,
      get_or-append-add xs ys 3 0,
      get_or-append-add xs ys 4 0,
      get_or-append-add xs ys 5 0,
    )

read_behind : (ds : ℕ) (ts xs rest : List ℕ) (n : ℕ) → length xs ≡ 8 * n
    → map (λ i. trigger_of (record_in (xs ++ (table_words ds ts ++ rest)) i)) (up_from n (length ts)) ≡ map (at_minute ds) ts
unfolding table_words trigger_of
read_behind ds [] xs rest n e = refl
read_behind ds (t ∷ ts) xs rest n e =
    let k : length (xs ++ trigger_words ds t) ≡ 8 * suc n = rw length-append (omega arith) in
    let w : xs ++ ((trigger_words ds t ++ table_words ds ts) ++ rest) ≡ (xs ++ trigger_words ds t) ++ (table_words ds ts ++ rest) =
    rw (append_assoc xs (trigger_words ds t) (table_words ds ts ++ rest)) in
    let h : trigger_of (record_in (xs ++ (table_words ds (t ∷ ts) ++ rest)) n) ≡ at_minute ds t = ap trigger_of (record-behind xs (table_words ds (t ∷ ts) ++ rest) n e) in
    let r = read_behind ds ts (xs ++ trigger_words ds t) rest (suc n) k in
    let q = ap (λ (v : List ℕ). map (λ j. trigger_of (record_in v j)) (up_from (suc n) (length ts))) w ∙ r in
    (λ j. h j ∷ q j)

-- EVERY TRIGGER
any-as : (f g : ℕ → Bool) → ((t : ℕ) → f t ≡ g t) → (ts : List ℕ) → any f ts ≡ any g ts
any-as f g h [] = refl
any-as f g h (t ∷ ts) = rw (h t, any-as f g h ts)

minute-of : (t : ℕ) → t / 60 * 60 + t % 60 ≡ t
minute-of t = omega (arith, div-add-mod t 60)

triggers-due : (line : List ℕ) (sunday w : ℕ) → sunday < 7 → w < 10080 → any (due_at w) (map (at_minute (days line sunday)) (minutes line)) ≡ matches line sunday w
triggers-due line sunday w l h =
    any-map (at_minute (days line sunday)) (due_at w) (minutes line)
    ∙ any-as (λ t. minute_due (minute_before w) 1 (days line sunday) (t / 60 * 60 + t % 60)) (λ t. minute_due (minute_before w) 1 (days line sunday) t)
    (λ t. rw (minute-of t)) (minutes line)
    ∙ minutes-due line sunday w l h

-- the wheel starts a rule of these triggers exactly if one of them is due
wheel-any : (e : Env) (w ds : ℕ) (ts : List ℕ) → present (due_wall_kind e (minute_before w) 1 (map (at_minute ds) ts)).kind ≡ any (due_at w) (map (at_minute ds) ts)
unfolding due_wall_kind
wheel-any e w ds [] = refl
wheel-any e w ds (t ∷ ts) = go (minute_due (minute_before w) 1 ds (t / 60 * 60 + t % 60)) (wheel-any e w ds ts)
  where
    go : (b : Bool) → present (due_wall_kind e (minute_before w) 1 (map (at_minute ds) ts)).kind ≡ any (due_at w) (map (at_minute ds) ts)
        → present (elim b as (λ x. WallKind) [ true ↦ record { kind = Some by_time; unsynced = false } | false ↦ due_wall_kind e (minute_before w) 1 (map (at_minute ds) ts) ]).kind ≡ b || any (due_at w) (map (at_minute ds) ts)
    go true h = refl
    go false h = h

all-on : (ds : ℕ) (ts : List ℕ) → all (on_days ds) (map (at_minute ds) ts) ≡ true
all-on ds [] = refl
all-on ds (t ∷ ts) = rw (eq-eqb ds ds refl, all-on ds ts)

-- ORDER
earlier-is : (ds a b : ℕ) → a < b → earlier (at_minute ds a) (at_minute ds b) ≡ true
earlier-is ds a b h = go (ltb (a / 60) (b / 60)) refl
  where
    go : (t : Bool) → ltb (a / 60) (b / 60) ≡ t → t || (eqb (a / 60) (b / 60) && ltb (a % 60) (b % 60)) ≡ true
    go true e = refl
    go false e =
        let p : a / 60 ≡ b / 60 =
        omega (arith, ltb-false (a / 60) (b / 60) e, div-add-mod a 60, div-add-mod b 60, mod-lt a {m = 60} (lit< tt), mod-lt b {m = 60} (lit< tt)) in
        let q : a % 60 < b % 60 = omega (arith, div-add-mod a 60, div-add-mod b 60) in
        rw (eq-eqb (a / 60) (b / 60) p, lt-ltb (a % 60) (b % 60) q)

order-after : (ds : ℕ) (p : ℕ → Bool) (a i n : ℕ) → a < i → in_order (at_minute ds a ∷ map (at_minute ds) (keep p (up_from i n))) ≡ true
order-after ds p a i zero h = refl
order-after ds p a i (suc n) h = go (p i) (order-after ds p i (suc i) n (omega arith)) (order-after ds p a (suc i) n (omega arith))
  where
    go : (t : Bool) → in_order (at_minute ds i ∷ map (at_minute ds) (keep p (up_from (suc i) n))) ≡ true
        → in_order (at_minute ds a ∷ map (at_minute ds) (keep p (up_from (suc i) n))) ≡ true
        → in_order (at_minute ds a ∷ map (at_minute ds) (cond t (i ∷ keep p (up_from (suc i) n)) (keep p (up_from (suc i) n)))) ≡ true
    go true x y = rw (earlier-is ds a i h) x
    go false x y = y

order : (ds : ℕ) (p : ℕ → Bool) (i n : ℕ) → in_order (map (at_minute ds) (keep p (up_from i n))) ≡ true
order ds p i zero = refl
order ds p i (suc n) = go (p i) (order-after ds p i (suc i) n (omega arith)) (order ds p (suc i) n)
  where
    go : (t : Bool) → in_order (at_minute ds i ∷ map (at_minute ds) (keep p (up_from (suc i) n))) ≡ true → in_order (map (at_minute ds) (keep p (up_from (suc i) n))) ≡ true
        → in_order (map (at_minute ds) (cond t (i ∷ keep p (up_from (suc i) n)) (keep p (up_from (suc i) n)))) ≡ true
    go true x y = x
    go false x y = y

order-minutes : (line : List ℕ) (ds : ℕ) → in_order (map (at_minute ds) (minutes line)) ≡ true
unfolding minutes
order-minutes line ds = order ds (starts line) 0 1440

-- DAYS: a pattern covers a number
range-in : (lo hi : ℕ) (r : ℕ × ℕ) (t : Bool) (p q : ℕ) → (t ≡ leb lo p && (leb p q && leb q hi)) → cond t (Some (p, q)) None ≡ Some r → (r.0 ≤ r.1) × (r.1 ≤ hi)
range-in lo hi r true p q e h =
    let x : p ≡ r.0 = cc in
    let y : q ≡ r.1 = cc in
    let k = and_parts (leb lo p) (leb p q && leb q hi) (sym e) in
    let m = and_parts (leb p q) (leb q hi) k.1 in
    (omega (arith, leb-true p q m.0), omega (arith, leb-true q hi m.1))
range-in lo hi r false p q e h = let z : ◌≡◌ {A = ℕ} 0 1 = cc in absurd (omega arith)

range-bounds : (lo hi : ℕ) (r : ℕ × ℕ) (p q : Option ℕ) → range_of lo hi p q ≡ Some r → (r.0 ≤ r.1) × (r.1 ≤ hi)
unfolding range_of
range-bounds lo hi r None q e = let z : ◌≡◌ {A = ℕ} 0 1 = cc in absurd (omega arith)
range-bounds lo hi r (Some p) None e = let z : ◌≡◌ {A = ℕ} 0 1 = cc in absurd (omega arith)
range-bounds lo hi r (Some p) (Some q) e = range-in lo hi r (leb lo p && (leb p q && leb q hi)) p q refl e

element-bounds : (lo hi : ℕ) (r : ℕ × ℕ) (s : List ℕ) → element_of lo hi s ≡ Some r → (r.0 ≤ r.1) × (r.1 ≤ hi)
unfolding element_of
element-bounds lo hi r s e = go (ltb (until is_hyphen s) (length s)) e
  where
    go : (t : Bool) → cond t (range_of lo hi (number_of (take (until is_hyphen s) s)) (number_of (drop (until is_hyphen s + 1) s))) (range_of lo hi (number_of s) (number_of s)) ≡ Some r → (r.0 ≤ r.1) × (r.1 ≤ hi)
    go true h = range-bounds lo hi r (number_of (take (until is_hyphen s) s)) (number_of (drop (until is_hyphen s + 1) s)) h
    go false h = range-bounds lo hi r (number_of s) (number_of s) h

split-some : (p : ℕ → Bool) (s : List ℕ) → slice_split p s ≡ [] → ⊥
split-some p [] e = let z : ◌≡◌ {A = ℕ} 0 1 = cc in omega arith
split-some p (b ∷ bs) e = go (p b) (slice_split p bs) e
  where
    go : (t : Bool) (ws : List (List ℕ)) → cond t ([] ∷ ws) (onto_first b ws) ≡ [] → ⊥
    go true ws h = let z : ◌≡◌ {A = ℕ} 0 1 = cc in omega arith
    go false [] h = let z : ◌≡◌ {A = ℕ} 0 1 = cc in omega arith
    go false (w ∷ ws) h = let z : ◌≡◌ {A = ℕ} 0 1 = cc in omega arith

first_holds : (lo hi : ℕ) (w : List ℕ) (e : Option (ℕ × ℕ)) → element_of lo hi w ≡ e → is_some e ≡ true → ((v : ℕ) → v ≤ hi → holds v e ≡ false) → ⊥
first_holds lo hi w None q t h = false≢true t
first_holds lo hi w (Some r) q t h =
    let k = element-bounds lo hi r w q in
    let n : leb r.0 r.0 && leb r.0 r.1 ≡ true = rw (le-leb r.0 r.0 (omega arith), le-leb r.0 r.1 k.0) in
    false≢true (sym (h r.0 (omega (arith, k.0, k.1))) ∙ n)

-- where all elements are ranges, one of them covers something
pub covers-some : (lo hi : ℕ) (s : List ℕ) → is_pattern lo hi s ≡ true → ((v : ℕ) → v ≤ hi → covers lo hi s v ≡ false) → ⊥
unfolding is_pattern covers elements_of
covers-some lo hi s e h = go (is_asterisk s) (slice_split is_comma s) (split-some is_comma s) e h
  where
    go : (t : Bool) (ws : List (List ℕ)) → (ws ≡ [] → ⊥) → t || all is_some (map (element_of lo hi) ws) ≡ true
        → ((v : ℕ) → v ≤ hi → t || any (holds v) (map (element_of lo hi) ws) ≡ false) → ⊥
    go true ws n e h = false≢true (sym (h 0 (omega arith)))
    go false [] n e h = n refl
    go false (w ∷ ws) n e h =
        first_holds lo hi w (element_of lo hi w) refl (and_parts (is_some (element_of lo hi w)) (all is_some (map (element_of lo hi) ws)) e).0
        (λ v l. (or_parts (holds v (element_of lo hi w)) (any (holds v) (map (element_of lo hi) ws)) (h v l)).0)

-- no bit of 0
no_bits : every 7 (λ d. not (has_day 0 d)) ≡ true
unfolding every has_day
no_bits = refl

none-covered : (line : List ℕ) (sunday : ℕ) → sunday ≤ 6 → 0 ≡ days line sunday → (v : ℕ) → v ≤ 6 → covers 0 6 (field 4 line) v ≡ false
unfolding field_covers
none-covered line sunday l z v h =
    let d = day_here sunday v in
    let k : d < 7 = mod-lt (sunday + v) {m = 7} (lit< tt) in
    let b : has_day 0 d ≡ false = not-true (has_day 0 d) (every-at (λ d. not (has_day 0 d)) 7 d no_bits k) in
    let t : day_there sunday d ≡ v = (day-there sunday v (omega arith) (omega arith)).0 in
    let c : field_covers line 4 (day_there sunday d) ≡ false = sym (on-day line sunday d (omega arith) k) ∙ rw (← z) b in
    rw t at c

pub days-some : (line : List ℕ) (sunday : ℕ) → sunday ≤ 6 → is_pattern 0 6 (field 4 line) ≡ true → 1 ≤ days line sunday
days-some line sunday l e = go (days line sunday) refl
  where
    go : (ds : ℕ) → ds ≡ days line sunday → 1 ≤ ds
    go zero z = absurd (covers-some 0 6 (field 4 line) e (none-covered line sunday l z))
    go (suc ds) z = omega arith

bit-most : (t : Bool) (n : ℕ) → cond t n 0 ≤ n
bit-most true n = omega arith
bit-most false n = omega arith

pub days-most : (line : List ℕ) (sunday : ℕ) → sunday < 7 → days line sunday ≤ 127
days-most line sunday l =
    let f : ℕ → Bool = λ d. field_covers line 4 (day_there sunday d) in
    rw (days-here line sunday l, total-seven f)
    (omega (arith, bit-most (f 0) 1, bit-most (f 1) 2, bit-most (f 2) 4, bit-most (f 3) 8, bit-most (f 4) 16, bit-most (f 5) 32, bit-most (f 6) 64))

-- THE IMAGE'S CHECK: a record of the trigger table that holds such words passes 13 and 14
module _ (img : List ℕ) (i ds t : ℕ) (w : (j : ℕ) → j < 8 → word_at img triggers i j ≡ get_or (trigger_words ds t) j 0) (h : t < 1440) (d : ds ≤ 127) where
  pub record-passes : (links : Bool) → record_passes img links triggers i ≡ true
  unfolding every width_of field_of fits leads
  record-passes true = rw (w 0 (lit< tt))
  record-passes false =
      let hour : leb (t / 60) 23 ≡ true = le-leb (t / 60) 23 (omega (arith, div-add-mod t 60)) in
      let minute : leb (t % 60) 59 ≡ true = le-leb (t % 60) 59 (omega (arith, mod-lt t {m = 60} (lit< tt))) in
      let day : leb ds 127 ≡ true = le-leb ds 127 d in
      rw (w 0 (lit< tt), w 1 (lit< tt), w 2 (lit< tt), w 3 (lit< tt), w 4 (lit< tt), w 5 (lit< tt), w 6 (lit< tt), w 7 (lit< tt), hour, minute, day)

-- THE PROGRAMME
module _ (line : List ℕ) (sunday room : ℕ) where
  accepted-fits : refusal line sunday room ≡ 0 → (sunday ≤ 6) × (is_pattern 0 6 (field 4 line) ≡ true)
  unfolding refusal of_the_form field_fits
  accepted-fits e =
      let a = (not-refused (leb sunday 6 && every 5 (field_fits line)) 49 _ e).0 in
      let b = and_parts (leb sunday 6) (every 5 (field_fits line)) a in
      (leb-true sunday 6 b.0, every-at (field_fits line) 5 4 b.1 (lit< tt))

  read_back : refusal line sunday room ≡ 0 → triggers_in (crontab line sunday room).lent (length (minutes line)) ≡ map (at_minute (days line sunday)) (minutes line)
  unfolding crontab
  read_back e = rw e (read_behind (days line sunday) (minutes line) [] (replicate (room - length (table_words (days line sunday) (minutes line))) 0) 0 (omega arith))

  programme-of : refusal line sunday room ≡ 0 → Programme line sunday (days line sunday) (length (minutes line)) (crontab line sunday room).lent
  programme-of e =
      let f = accepted-fits e in
      let l : sunday < 7 = omega (arith, f.0) in
      record {
        calendar = λ w h. rw (read_back e) (triggers-due line sunday w l h);
        wheel = λ v w h. rw (read_back e) (wheel-any v w (days line sunday) (minutes line) ∙ triggers-due line sunday w l h);
        ordered = rw (read_back e) (order-minutes line (days line sunday));
        same-days = rw (read_back e) (all-on (days line sunday) (minutes line));
        some-day = days-some line sunday f.0 f.1;
        days-fit = days-most line sunday l;
      }

  -- an accepted line's table is its programme
  pub programme : (n : ℕ) → (crontab line sunday room).values ≡ n ∷ [] → Programme line sunday (days line sunday) n (crontab line sunday room).lent
  unfolding crontab declined
  programme n e = go (refusal line sunday room) refl e
    where
      go : (r : ℕ) → refusal line sunday room ≡ r → (answer_of r (days line sunday) (minutes line) room).values ≡ n ∷ [] → Programme line sunday (days line sunday) n (crontab line sunday room).lent
      go zero q h = let k : length (minutes line) ≡ n = cc in rw (← k) (programme-of q)
      go (suc r) q h = let z : ◌≡◌ {A = ℕ} 0 1 = cc in absurd (omega arith)

-- THE CHECK OF THE ANSWER: word c of record j, and the minutes of a day
word_of : (ds : ℕ) (ts rest : List ℕ) (j c : ℕ) → j < length ts → c < 8 → get_or (table_words ds ts ++ rest) (8 * j + c) 0 ≡ get_or (trigger_words ds (get_or ts j 0)) c 0
unfolding table_words
word_of ds [] rest j c h k = absurd (omega arith)
word_of ds (t ∷ ts) rest zero c h k =
    let z : 8 * 0 + c ≡ c = omega arith in
    rw z (get_or-append (trigger_words ds t) (table_words ds ts ++ rest) 0 c k)
word_of ds (t ∷ ts) rest (suc j) c h k =
    let z : 8 * suc j + c ≡ 8 + (8 * j + c) = omega arith in
    rw z (get_or-append-add (trigger_words ds t) (table_words ds ts ++ rest) (8 * j + c) 0 ∙ word_of ds ts rest j c (omega arith) k)

kept-below : (p : ℕ → Bool) (i n j : ℕ) → j < length (keep p (up_from i n)) → get_or (keep p (up_from i n)) j 0 < i + n
kept-below p i zero j h = absurd (omega arith)
kept-below p i (suc n) j h = go (p i) j h (λ k l. kept-below p (suc i) n k l)
  where
    go : (t : Bool) (j : ℕ) → j < length (cond t (i ∷ keep p (up_from (suc i) n)) (keep p (up_from (suc i) n)))
        → ((k : ℕ) → k < length (keep p (up_from (suc i) n)) → get_or (keep p (up_from (suc i) n)) k 0 < suc i + n)
        → get_or (cond t (i ∷ keep p (up_from (suc i) n)) (keep p (up_from (suc i) n))) j 0 < i + suc n
    go true zero h r = omega arith
    go true (suc j) h r = omega (arith, r j (omega arith))
    go false j h r = omega (arith, r j h)

minute-below : (line : List ℕ) (j : ℕ) → j < length (minutes line) → get_or (minutes line) j 0 < 1440
unfolding minutes
minute-below line j h = kept-below (starts line) 0 1440 j h

-- record i of the trigger table of an image holds record j of an accepted line's table: it passes
module _ (line : List ℕ) (sunday room : ℕ) (img : List ℕ) (i : ℕ) where
  passes_at : refusal line sunday room ≡ 0 → (j : ℕ) → j < length (minutes line)
      → ((c : ℕ) → c < 8 → word_at img triggers i c ≡ get_or (crontab line sunday room).lent (8 * j + c) 0) → (links : Bool) → record_passes img links triggers i ≡ true
  unfolding crontab
  passes_at e j h w links =
      record-passes img i (days line sunday) (get_or (minutes line) j 0)
      (λ c k. w c k ∙ rw e (word_of (days line sunday) (minutes line) (replicate (room - length (table_words (days line sunday) (minutes line))) 0) j c h k))
      (minute-below line j h) (days-most line sunday (omega (arith, (accepted-fits line sunday room e).0))) links

  pub answer-passes : (n : ℕ) → (crontab line sunday room).values ≡ n ∷ [] → (j : ℕ) → j < n
      → ((c : ℕ) → c < 8 → word_at img triggers i c ≡ get_or (crontab line sunday room).lent (8 * j + c) 0) → (links : Bool) → record_passes img links triggers i ≡ true
  unfolding crontab declined
  answer-passes n e j h w links = go (refusal line sunday room) refl e
    where
      go : (r : ℕ) → refusal line sunday room ≡ r → (answer_of r (days line sunday) (minutes line) room).values ≡ n ∷ [] → record_passes img links triggers i ≡ true
      go zero q a = let k : length (minutes line) ≡ n = cc in passes_at q j (omega arith) w links
      go (suc r) q a = let z : ◌≡◌ {A = ℕ} 0 1 = cc in absurd (omega arith)
