-- The fields of a line, its minutes and days, counted and written. Assumes nothing.
use mathlib.Core.Logic.{⊎_elim}
use mathlib.Core.Path.{◌≡◌, refl, sym, ap, subst, ◌∙◌}
use mathlib.Core.Bool.{Bool, true, false, cond, not, ◌&&◌}
use mathlib.Core.List.{List, [], ◌∷◌, ◌++◌, map, append-nil, append_assoc}
use Prim.Native.Nat.{ℕ, zero, suc, ◌+◌, ◌*◌, ◌-◌, ◌/◌, ◌%◌, ◌^◌, ◌≤◌, ◌<◌}
use native.Mathlib.Nat.{zero-add, div-add-mod, mod-lt, eq-or-lt_of_le}
use native.Mathlib.Numerals.{add-one}
use native.Mathlib.Omega.{arith}
use borrow.Author.Tests.{not-true, not-false, le-leb, lt-leb, leb-true}
use lib.Dec.{leb, lit<}
use lib.ListN.{length, get_or, take, drop, replicate, set, length-replicate, length-append, drop_of_length-le}
use lib.Seq.{drop-cons, drop-drop, sets, sets-eq, length-sets}
use Rattle.std.specs.List.{filter, range_with_len, enumerate_from, sum_by}
use Rattle.std.proofs.lemmas.List.FromFn.{length-enumerate_from, get_or-enumerate_from}
use Rattle.model.specs.Lists.{every, keep, up_from}
use Rattle.model.specs.Field.{unless}
use Rattle.fields.proofs.Total.{total-sum}
use Rattle.model.specs.Answers.{lent}
use Rattle.model.specs.Asked.{declined, shown_result}
use denote.Param.Members.{Mut}
use Rattle.std.specs.Fn.{Called}
use Rattle.std.specs.Array.{IsFromFnResult, IsFromFnResultFrom}
use Rattle.std.specs.Prelude.{Ok, Err, Option, None, Some}
use Rattle.std.specs.Iterator.{Yields}
use Rattle.std.proofs.lemmas.Iterator.{YieldsList}
use Rattle.std.proofs.lemmas.Iterator.Consumers.{YieldsList-turn, YieldsList-end}
use Rattle.model.specs.declared.Refusal.{Refusal}
use Rattle.model.specs.declared.Refusal.TheVariants.{TriggerStore}
use Rattle.model.specs.Refusals.{refusal_code}
use Rattle.model.proofs.RefusalLaws.{refusal-code-suc}
use Rattle.model.specs.Crontab.{field_fits, field_covers, field_free, starts, minutes, day_here, day_bit, days, of_the_form, every_date, has_room, refusal, trigger_words, table_words, crontab}
use Rattle.crontab.specs.Scanned.{written, Marked, marked, marked_minutes, form_refusal}

-- THE FORM
pub form-fits : (line : List ℕ) (sunday : ℕ) {b : Bool} → sunday ≤ 6 → b ≡ every 5 (field_fits line) → b ≡ of_the_form line sunday
unfolding of_the_form
form-fits line sunday l e = rw (le-leb sunday 6 l) e

-- a line with a date is refused with 51, but with 50 where it is not of the form
pub dated : (line : List ℕ) (sunday : ℕ) {b : Bool} → b ≡ every_date line → b ≡ false → 51 ≡ unless (of_the_form line sunday) 50 51 → 51 ≡ form_refusal line sunday
unfolding form_refusal
dated line sunday e f h = rw (← e, f) h

-- MARKS
-- what the library makes of calls at the numbers from i on, where each computes h
module _ {F : Type 0} {g : Mut F (ℕ × Unit {0}) Bool} (f : F) (h : ℕ → Bool) (a : List Bool) (computes : (x : ℕ) (b : Bool) (q : F) → Called g f (x, tt) b q → (q ≡ f) × (b ≡ h x)) where
  made-from : (i n : ℕ) → IsFromFnResultFrom g f a i n → (v : ℕ) → i ≤ v → v < i + n → get_or a v false ≡ h v
  made-from i zero r v l u = absurd (omega arith)
  made-from i (suc n) r v l u =
      let c = computes i r.1 r.0 r.3 in
      ⊎_elim (λ k. rw (← k) (r.2.1 false ∙ c.1)) (λ k. made-from (i + 1) n (subst (λ (q : F). IsFromFnResultFrom g q a (i + 1) n) c.0 r.4) v (omega arith) (omega arith)) (eq-or-lt_of_le l)

  pub made : (n : ℕ) → IsFromFnResult g f a n → Marked h n a
  made n r = record { long = r.long; same = λ v l. made-from 0 n r.each v (omega arith) (omega arith) }

-- what a filter over a range keeps
keep-range : (p : ℕ → Bool) (i n : ℕ) → filter p (range_with_len i n) ≡ keep p (up_from i n)
keep-range p i zero = refl
keep-range p i (suc n) = go (p i) (keep-range p (i + 1) n ∙ ap (λ j. keep p (up_from j n)) (add-one i))
  where
    go : (t : Bool) → filter p (range_with_len (i + 1) n) ≡ keep p (up_from (suc i) n)
        → cond t (i ∷ filter p (range_with_len (i + 1) n)) (filter p (range_with_len (i + 1) n)) ≡ cond t (i ∷ keep p (up_from (suc i) n)) (keep p (up_from (suc i) n))
    go true e = rw e
    go false e = e

keep-most : (p : ℕ → Bool) (i n : ℕ) → length (keep p (up_from i n)) ≤ n
keep-most p i zero = omega arith
keep-most p i (suc n) = go (p i) (keep-most p (suc i) n)
  where
    go : (t : Bool) → length (keep p (up_from (suc i) n)) ≤ n → length (cond t (i ∷ keep p (up_from (suc i) n)) (keep p (up_from (suc i) n))) ≤ suc n
    go true h = omega arith
    go false h = omega arith

module _ (hours mins : List Bool) where
  pub marked-of-day : filter (marked hours mins) (range_with_len 0 1440) ≡ marked_minutes hours mins
  unfolding marked_minutes
  marked-of-day = keep-range (marked hours mins) 0 1440

  pub marked-most : length (marked_minutes hours mins) ≤ 1440
  unfolding marked_minutes
  marked-most = keep-most (marked hours mins) 0 1440

keep_same : (f g : ℕ → Bool) (i n : ℕ) → ((x : ℕ) → i ≤ x → x < i + n → f x ≡ g x) → keep f (up_from i n) ≡ keep g (up_from i n)
keep_same f g i zero h = refl
keep_same f g i (suc n) h = rw (h i (omega arith) (omega arith), keep_same f g (suc i) n (λ x a b. h x (omega arith) (omega arith)))

-- the marked minutes are the line's
pub marked-minutes : (l : List ℕ) (hours mins : List Bool) → Marked (field_covers l 1) 24 hours → Marked (field_covers l 0) 60 mins → marked_minutes hours mins ≡ minutes l
unfolding marked_minutes minutes starts
marked-minutes l hours mins a b =
    keep_same (marked hours mins) (starts l) 0 1440
    (λ t p q.
    let h : t / 60 < 24 = omega (arith, div-add-mod t 60) in
    let m : t % 60 < 60 = mod-lt t {m = 60} (lit< tt) in
    rw (a.same (t / 60) h, b.same (t % 60) m))

-- DAYS
-- the shift that the code makes
shift-is : (n : ℕ) → n < 7 → (1 * 2 ^ n % 4294967296 ≡ 2 ^ n) × (1 * 2 ^ n % 4294967296 ≤ 64)
shift-is zero h = (refl, omega arith)
shift-is (suc zero) h = (refl, omega arith)
shift-is (suc (suc zero)) h = (refl, omega arith)
shift-is (suc (suc (suc zero))) h = (refl, omega arith)
shift-is (suc (suc (suc (suc zero)))) h = (refl, omega arith)
shift-is (suc (suc (suc (suc (suc zero))))) h = (refl, omega arith)
shift-is (suc (suc (suc (suc (suc (suc zero)))))) h = (refl, omega arith)
shift-is (suc (suc (suc (suc (suc (suc (suc d))))))) h = absurd (omega arith)

module _ (l : List ℕ) (sunday d : ℕ) (r : Bool) (e : r ≡ field_covers l 4 d) where
  pub bit-off : not r ≡ true → (0 ≡ day_bit l sunday d) × (0 ≤ 64)
  bit-off n = (rw (← e, not-true r n), omega arith)

  pub bit-on : not r ≡ false → (1 * 2 ^ day_here sunday d % 4294967296 ≡ day_bit l sunday d) × (1 * 2 ^ day_here sunday d % 4294967296 ≤ 64)
  bit-on n =
      let k = shift-is (day_here sunday d) (mod-lt (sunday + d) {m = 7} (lit< tt)) in
      (rw (← e, not-false r n) k.0, k.1)

pub days-sum : (l : List ℕ) (sunday : ℕ) → sum_by (λ x. x) (map (day_bit l sunday) (range_with_len 0 7)) ≡ days l sunday
unfolding days
days-sum l sunday = total-sum (day_bit l sunday) 7

-- THE TABLE
-- four words that are copied in
pub four-put : (w : List ℕ) (at a b c d : ℕ) → at + 4 ≤ length w → take at w ++ ((a ∷ b ∷ c ∷ d ∷ []) ++ drop 4 (drop at w)) ≡ sets w at (a ∷ b ∷ c ∷ d ∷ [])
four-put w at a b c d h = rw drop-drop (sym (sets-eq (a ∷ b ∷ c ∷ d ∷ []) w at h ∙ append_assoc (take at w) (a ∷ b ∷ c ∷ d ∷ []) (drop (at + 4) w)))

set-behind : (xs ys : List ℕ) (i n v : ℕ) → length xs ≡ n → set (xs ++ ys) (n + i) v ≡ xs ++ set ys i v
set-behind [] ys i n v e = let z : n + i ≡ i = omega arith in rw z
set-behind (x ∷ xs) ys i zero v e = absurd (omega arith)
set-behind (x ∷ xs) ys i (suc n) v e =
    let k : length xs ≡ n = omega arith in
    let z : suc n + i ≡ suc (n + i) = omega arith in
    rw z (ap (λ (t : List ℕ). x ∷ t) (set-behind xs ys i n v k))

set_there : (xs ys : List ℕ) (i n p v : ℕ) → length xs ≡ n → p ≡ n + i → set (xs ++ ys) p v ≡ xs ++ set ys i v
set_there xs ys i n p v e q = rw q (set-behind xs ys i n v e)

-- a trigger behind those that stand
put-behind : (xs : List ℕ) (n m a b c d : ℕ) → length xs ≡ n
    → sets (xs ++ replicate (8 + m) 0) n (a ∷ b ∷ c ∷ d ∷ []) ≡ (xs ++ (a ∷ b ∷ c ∷ d ∷ 0 ∷ 0 ∷ 0 ∷ 0 ∷ [])) ++ replicate m 0
put-behind xs n m a b c d e =
    let k : 8 + m ≡ suc (suc (suc (suc (suc (suc (suc (suc m))))))) = omega arith in
    let z : List ℕ = replicate m 0 in
    rw (
      k,
      set_there xs (0 ∷ 0 ∷ 0 ∷ 0 ∷ 0 ∷ 0 ∷ 0 ∷ 0 ∷ z) 0 n n a e (omega arith),
      set_there xs (a ∷ 0 ∷ 0 ∷ 0 ∷ 0 ∷ 0 ∷ 0 ∷ 0 ∷ z) 1 n (suc n) b e (omega arith),
      set_there xs (a ∷ b ∷ 0 ∷ 0 ∷ 0 ∷ 0 ∷ 0 ∷ 0 ∷ z) 2 n (suc (suc n)) c e (omega arith),
      set_there xs (a ∷ b ∷ c ∷ 0 ∷ 0 ∷ 0 ∷ 0 ∷ 0 ∷ z) 3 n (suc (suc (suc n))) d e (omega arith),
      append_assoc,
    )

length-table : (ds : ℕ) (ts : List ℕ) → length (table_words ds ts) ≡ 8 * length ts
unfolding table_words
length-table ds [] = refl
length-table ds (t ∷ ts) = omega (arith, length-table ds ts)

-- triggers behind those that stand, and zeros behind them
written_behind : (ds : ℕ) (ts xs : List ℕ) (n m : ℕ) → length xs ≡ 8 * n
    → written ds (xs ++ replicate (8 * length ts + m) 0) n ts ≡ (xs ++ table_words ds ts) ++ replicate m 0
unfolding table_words
written_behind ds [] xs n m e = let z : 8 * 0 + m ≡ m = omega arith in rw (z, append-nil)
written_behind ds (t ∷ ts) xs n m e =
    let z : 8 * suc (length ts) + m ≡ 8 + (8 * length ts + m) = omega arith in
    let k : length (xs ++ trigger_words ds t) ≡ 8 * (n + 1) = rw length-append (omega arith) in
    rw (z, put-behind xs (8 * n) (8 * length ts + m) 2 (t / 60) (t % 60) ds e)
    (written_behind ds ts (xs ++ trigger_words ds t) (n + 1) m k ∙ rw (append_assoc xs (trigger_words ds t) (table_words ds ts)))

pub written-zeros : (ds : ℕ) (ts : List ℕ) (room : ℕ) → 8 * length ts ≤ room
    → written ds (replicate room 0) 0 ts ≡ table_words ds ts ++ replicate (room - 8 * length ts) 0
written-zeros ds ts room h =
    let z : room ≡ 8 * length ts + (room - 8 * length ts) = omega arith in
    ap (λ (r : ℕ). written ds (replicate r 0) 0 ts) z ∙ written_behind ds ts [] 0 (room - 8 * length ts) (omega arith)

pub put-length : (store x vs : List ℕ) (n : ℕ) → x ≡ sets store n vs → length x ≡ length store
put-length store x vs n e = ap length e ∙ length-sets store n vs

pub written_as : (ds n : ℕ) (w : List ℕ) {x ts us : List ℕ} → ts ≡ us → x ≡ written ds w n ts → x ≡ written ds w n us
written_as ds n w e h = rw e at h

-- a `for` over a chain: what it has yielded comes first here, so that the chain's proof is looked for at what is known
module _ {S A B : Type 0} {steps : S → Option A → S → Type 0} {v : A → B} {s : S} (xs : List A) (t u : S) {r : Option A} (y : Yields steps s xs t) where
  pub turn-by : {x : A} → r ≡ Some x → steps t r u → {all : List B} → YieldsList steps v s all → (length xs < length all) × (v x ≡ get_or all (length xs) (v x))
  turn-by {x = x} is step e = YieldsList-turn e xs t y r u x is step

  pub end_by : r ≡ None → steps t r u → {all : List B} → YieldsList steps v s all → length xs ≡ length all
  end_by is step e = (YieldsList-end e xs t y r u is step).1

-- the first k of the minutes ts have their triggers in a table that was w
module _ (ds : ℕ) (ts w : List ℕ) where
  pub record Wrote (k : ℕ) (store : List ℕ) : Type 0 where
    pub long : length store ≡ length w
    pub ahead : written ds store k (drop k ts) ≡ written ds w 0 ts

  -- minute t is the next, in place n
  pub record Next (k n t : ℕ) : Type 0 where
    pub within : k < length ts
    pub place : n ≡ k
    pub minute : t ≡ get_or ts k t

  pub next-of : (k n t : ℕ) → k < length (enumerate_from 0 ts) → (n, t) ≡ get_or (enumerate_from 0 ts) k (n, t) → Next k n t
  next-of k n t h e =
      let l : k < length ts = rw (length-enumerate_from 0 ts) at h in
      let q : (n, t) ≡ (0 + k, get_or ts k t) = e ∙ get_or-enumerate_from 0 ts k (n, t) l in
      let p : n ≡ 0 + k = ap (λ (x : ℕ × ℕ). x.0) q in
      record { within = l; place = p ∙ zero-add k; minute = ap (λ (x : ℕ × ℕ). x.1) q }

  pub room-for : {k n t : ℕ} {store : List ℕ} → 8 * length ts ≤ length w → Wrote k store → Next k n t → 8 * n + 8 ≤ length store
  room-for h o x = omega (arith, o.long, x.within, x.place)

  pub one-wrote :
      {k n t : ℕ} {store x : List ℕ} → Wrote k store → Next k n t → x ≡ sets store (8 * n) (2 ∷ t / 60 ∷ t % 60 ∷ ds ∷ []) → Wrote (k + 1) x
  one-wrote {k} {n} {t} {store} {x} o m e =
      let here : drop k ts ≡ t ∷ drop (k + 1) ts = rw (m.minute, add-one k) (drop-cons ts k t m.within) in
      record {
        long = ap length e ∙ length-sets store (8 * n) (2 ∷ t / 60 ∷ t % 60 ∷ ds ∷ []) ∙ o.long;
        ahead = rw (e, m.place) (rw here at o.ahead);
      }

  pub all-wrote : {k : ℕ} {store : List ℕ} → k ≡ length ts → Wrote k store → store ≡ written ds w 0 ts
  all-wrote {k} e o = let l : length ts ≤ k = omega arith in rw (drop_of_length-le ts {i = k} l) at o.ahead

-- REFUSALS
module _ (l : List ℕ) where
  pub sunday-high : (sunday : ℕ) → 6 < sunday → false ≡ of_the_form l sunday
  unfolding of_the_form
  sunday-high sunday h = rw (lt-leb sunday 6 h)

  pub fields-decide : (sunday : ℕ) {r : Bool} → sunday ≤ 6 → r ≡ every 5 (field_fits l) → r ≡ of_the_form l sunday
  unfolding of_the_form
  fields-decide sunday h e = rw (le-leb sunday 6 h) e

  pub day-of-month : {p : Bool} → p ≡ field_free l 2 → not p ≡ true → false ≡ every_date l
  unfolding every_date
  day-of-month {p} e n = rw (← e, not-true p n)

  pub month-decides : {p r : Bool} → p ≡ field_free l 2 → not p ≡ false → r ≡ field_free l 3 → r ≡ every_date l
  unfolding every_date
  month-decides {p} e n q = rw (← e, not-false p n) q

-- THE ANSWER
pub sunday-low : (l : List ℕ) (sunday : ℕ) → 0 ≡ form_refusal l sunday → sunday ≤ 6
unfolding form_refusal of_the_form
sunday-low l sunday e = go (leb sunday 6) refl e
  where
    go : (a : Bool) → leb sunday 6 ≡ a → 0 ≡ unless (a && every 5 (field_fits l)) 50 (unless (every_date l) 51 0) → sunday ≤ 6
    go true q h = leb-true sunday 6 q
    go false q h = absurd (omega arith)

-- the answer of an accepted line: how many triggers it has
abbrev pub count_words : ℕ → List ℕ
count_words n = n ∷ []

-- what 50 and 51 say is not changed by 52, and where they say nothing 52 decides
still : (a b : Bool) (n x : ℕ) → suc n ≡ unless a 50 (unless b 51 0) → unless a 50 (unless b 51 x) ≡ suc n
still true true n x e = absurd (omega arith)
still true false n x e = sym e
still false b n x e = sym e

decides : (a b : Bool) (x : ℕ) → 0 ≡ unless a 50 (unless b 51 0) → unless a 50 (unless b 51 x) ≡ x
decides true true x e = refl
decides true false x e = absurd (omega arith)
decides false b x e = absurd (omega arith)

module _ (l : List ℕ) (sunday room : ℕ) where
  refusal-form : (n : ℕ) → suc n ≡ form_refusal l sunday → refusal l sunday room ≡ suc n
  unfolding form_refusal refusal
  refusal-form n e = still (of_the_form l sunday) (every_date l) n _ e

  refusal-room : 0 ≡ form_refusal l sunday → refusal l sunday room ≡ unless (leb (length (minutes l)) (room / 8)) 52 0
  unfolding form_refusal refusal has_room
  refusal-room e = decides (of_the_form l sunday) (every_date l) _ e

  pub refused-form : (r : Refusal) {table : List ℕ} → refusal_code r ≡ form_refusal l sunday → table ≡ replicate room 0 → shown_result count_words (Err r) table ≡ crontab l sunday room
  unfolding crontab shown_result declined
  refused-form r e s =
      let k = refusal-code-suc r in
      rw (refusal-form (refusal_code r - 1) (sym k ∙ e), ← k, s)

  module _ (e : 0 ≡ form_refusal l sunday) (n : ℕ) (c : n ≡ length (minutes l)) {table : List ℕ} where
    pub refused-room : length table / 8 < n → table ≡ replicate room 0 → shown_result count_words (Err TriggerStore) table ≡ crontab l sunday room
    unfolding crontab shown_result declined
    refused-room h s =
        let k : length table ≡ room = ap length s ∙ length-replicate room 0 in
        let h : room / 8 < n = rw k at h in
        let r : refusal l sunday room ≡ 52 = refusal-room e ∙ rw (← c, lt-leb n (room / 8) h) in
        rw (r, s)

    pub accepted-is : (ds : ℕ) (z : List ℕ) → n ≤ length z / 8 → ds ≡ days l sunday → z ≡ replicate room 0 → table ≡ written ds z 0 (minutes l)
        → shown_result count_words (Ok n) table ≡ crontab l sunday room
    unfolding crontab shown_result
    accepted-is ds z h d q s =
        let k : length z ≡ room = ap length q ∙ length-replicate room 0 in
        let h : n ≤ room / 8 = rw k at h in
        let r : refusal l sunday room ≡ 0 = refusal-room e ∙ rw (← c, le-leb n (room / 8) h) in
        let f : 8 * length (minutes l) ≤ room = omega (arith, div-add-mod room 8) in
        let w : table ≡ lent room (table_words (days l sunday) (minutes l)) =
        s ∙ rw (q, d, length-table (days l sunday) (minutes l)) (written-zeros (days l sunday) (minutes l) room f) in
        rw (r, w, c)
