-- The calendar: the triggers of a line are due at the minutes of the week that the line means. Assumes nothing.
use mathlib.Core.Path.{◌≡◌, refl, sym, ap, ◌∙◌}
use mathlib.Core.Logic.{⊎_elim}
use mathlib.Core.Bool.{Bool, true, false, cond, not, ◌&&◌, ◌||◌, and-false, and-true, and_assoc}
use mathlib.Core.List.{List, [], ◌∷◌}
use Prim.Native.Nat.{ℕ, zero, suc, ◌+◌, ◌*◌, ◌-◌, ◌/◌, ◌%◌, ◌^◌, ◌≤◌, ◌<◌}
use native.Mathlib.Nat.{div-add-mod, mod-lt, eq-or-lt_of_le}
use native.Mathlib.Omega.{arith}
use borrow.Author.Tests.{eq-eqb, ne_eqb, eqb-true, eqb-false, not-true, lt-leb}
use lib.Dec.{eqb, leb, lit<}
use lib.ListN.{get_or}
use Rattle.std.proofs.lemmas.Bool.{and_parts}
use Rattle.model.specs.Arith.{has_day}
use Rattle.model.specs.Lists.{any, every, up_from, total}
use Rattle.model.specs.Wheel.{cyclic_dist, in_window, minute_due}
use Rattle.model.proofs.Bools.{every-at, or-false}
use Rattle.model.proofs.SortLaws.{any-keep}
use Rattle.model.specs.Crontab.{field_covers, starts, minutes, day_here, days}
use Rattle.model.specs.CrontabMeaning.{matches, day_there, minute_before}

-- LISTS OF NUMBERS
pub any_same : (f g : ℕ → Bool) (i n : ℕ) → ((x : ℕ) → i ≤ x → x < i + n → f x ≡ g x) → any f (up_from i n) ≡ any g (up_from i n)
any_same f g i zero h = refl
any_same f g i (suc n) h = rw (h i (omega arith) (omega arith), any_same f g (suc i) n (λ x a b. h x (omega arith) (omega arith)))

le-ne : (i q : ℕ) → i ≤ q → (i ≡ q → ⊥) → suc i ≤ q
le-ne i q a k = ⊎_elim (λ e. absurd (k e)) (λ l. l) (eq-or-lt_of_le a)

-- of a run of numbers only q can equal q
pub none_equal : (f : ℕ → Bool) (q i n : ℕ) → q < i → any (λ d. f d && eqb d q) (up_from i n) ≡ false
none_equal f q i zero h = refl
none_equal f q i (suc n) h =
    let k : i ≡ q → ⊥ = λ e. omega arith in
    let l : q < suc i = omega arith in
    rw (ne_eqb i q k, and-false, none_equal f q (suc i) n l)

pub one-equal : (f : ℕ → Bool) (q i n : ℕ) → i ≤ q → q < i + n → any (λ d. f d && eqb d q) (up_from i n) ≡ f q
one-equal f q i zero a b = absurd (omega arith)
one-equal f q i (suc n) a b = go (eqb i q) refl (λ k. one-equal f q (suc i) n (omega arith) (omega arith))
  where
    go : (t : Bool) → eqb i q ≡ t → (suc i ≤ q → any (λ d. f d && eqb d q) (up_from (suc i) n) ≡ f q) → (f i && t) || any (λ d. f d && eqb d q) (up_from (suc i) n) ≡ f q
    go true e z =
        let k : i ≡ q = eqb-true i q e in
        let l : q < suc i = omega arith in
        rw (and-true, none_equal f q (suc i) n l, or-false) (ap f k)
    go false e z =
        let k : i ≡ q → ⊥ = eqb-false i q e in
        let l : suc i ≤ q = le-ne i q a k in
        rw and-false (z l)

-- THE WINDOW of one minute that ends at w
module _ (w x : ℕ) (h : w < 10080) (k : x < 10080) where
  distance : cyclic_dist (minute_before w) x ≡ 1 → x ≡ w
  unfolding cyclic_dist
  distance e =
      let b = minute_before w in
      omega (arith, div-add-mod (w + 10080 - 1) 10080, mod-lt (w + 10080 - 1) {m = 10080} (lit< tt), div-add-mod (x + 10080 - minute_before w) 10080, mod-lt (x + 10080 - minute_before w) {m = 10080} (lit< tt))

distance-same : (w : ℕ) → w < 10080 → cyclic_dist (minute_before w) w ≡ 1
unfolding cyclic_dist
distance-same w h = omega (arith, div-add-mod (w + 10080 - 1) 10080, mod-lt (w + 10080 - 1) {m = 10080} (lit< tt), div-add-mod (w + 10080 - minute_before w) 10080, mod-lt (w + 10080 - minute_before w) {m = 10080} (lit< tt))

one-exactly : (n : ℕ) (t : Bool) → (t ≡ true → n ≡ 1) → (n ≡ 1 → t ≡ true) → leb 1 n && leb n 1 ≡ t
one-exactly zero t a b = go t a
  where
    go : (t : Bool) → (t ≡ true → ◌≡◌ {A = ℕ} 0 1) → false ≡ t
    go true a = absurd (omega (arith, a refl))
    go false a = refl
one-exactly (suc zero) t a b = sym (b refl)
one-exactly (suc (suc n)) t a b = let k : 1 < suc (suc n) = omega arith in rw (lt-leb (suc (suc n)) 1 k, and-false) (go t a)
  where
    go : (t : Bool) → (t ≡ true → suc (suc n) ≡ 1) → false ≡ t
    go true a = absurd (omega (arith, a refl))
    go false a = refl

pub window : (w x : ℕ) → w < 10080 → x < 10080 → in_window (minute_before w) 1 x ≡ eqb x w
unfolding in_window
window w x h k =
    one-exactly (cyclic_dist (minute_before w) x) (eqb x w)
    (λ e. let q : x ≡ w = eqb-true x w e in rw q (distance-same w h))
    (λ e. eq-eqb x w (distance w x h k e))

-- A TRIGGER at minute t of the days ds is due at w
same_place : (w t d : ℕ) → t < 1440 → eqb (d * 1440 + t) w ≡ eqb d (w / 1440) && eqb t (w % 1440)
same_place w t d h = go (eqb d (w / 1440)) (eqb t (w % 1440)) refl refl
  where
    go : (a b : Bool) → eqb d (w / 1440) ≡ a → eqb t (w % 1440) ≡ b → eqb (d * 1440 + t) w ≡ a && b
    go true true p q = eq-eqb (d * 1440 + t) w (omega (arith, eqb-true d (w / 1440) p, eqb-true t (w % 1440) q, div-add-mod w 1440))
    go true false p q = ne_eqb (d * 1440 + t) w (λ e. eqb-false t (w % 1440) q (omega (arith, eqb-true d (w / 1440) p, div-add-mod w 1440)))
    go false b p q = ne_eqb (d * 1440 + t) w (λ e. eqb-false d (w / 1440) p (omega (arith, div-add-mod w 1440, mod-lt w {m = 1440} (lit< tt))))

regroup : (a b c : Bool) → a && (b && c) ≡ (a && c) && b
regroup true true true = refl
regroup true true false = refl
regroup true false true = refl
regroup true false false = refl
regroup false b c = refl

pub trigger-due : (w ds t : ℕ) → w < 10080 → t < 1440 → minute_due (minute_before w) 1 ds t ≡ has_day ds (w / 1440) && eqb t (w % 1440)
unfolding minute_due
trigger-due w ds t h k =
    any_same (λ d. has_day ds d && in_window (minute_before w) 1 (d * 1440 + t)) (λ d. (has_day ds d && eqb t (w % 1440)) && eqb d (w / 1440)) 0 7
    (λ d a b.
    let f : d * 1440 + t < 10080 = omega arith in
    rw (window w (d * 1440 + t) h f, same_place w t d k) (regroup (has_day ds d) (eqb d (w / 1440)) (eqb t (w % 1440))))
    ∙ one-equal (λ d. has_day ds d && eqb t (w % 1440)) (w / 1440) 0 7 (omega arith) (omega (arith, div-add-mod w 1440))

-- THE DAYS
-- a test of seven Booleans that antt computes for all of them
abbrev all_bools : (Bool → Bool) → Bool
all_bools f = f true && f false

of-all : (f : Bool → Bool) → all_bools f ≡ true → (b : Bool) → f b ≡ true
of-all f e true = (and_parts (f true) (f false) e).0
of-all f e false = (and_parts (f true) (f false) e).1

abbrev same_bool : Bool → Bool → Bool
same_bool true b = b
same_bool false b = not b

same-is : (a b : Bool) → same_bool a b ≡ true → a ≡ b
same-is true b e = sym e
same-is false b e = sym (not-true b e)

abbrev pub seven_bits : Bool → Bool → Bool → Bool → Bool → Bool → Bool → ℕ
seven_bits a b c d e f g = 0 + cond a 1 0 + cond b 2 0 + cond c 4 0 + cond d 8 0 + cond e 16 0 + cond f 32 0 + cond g 64 0

abbrev bits_right : Bool → Bool → Bool → Bool → Bool → Bool → Bool → Bool
bits_right a b c d e f g = every 7 (λ i. same_bool (has_day (seven_bits a b c d e f g) i) (get_or (a ∷ b ∷ c ∷ d ∷ e ∷ f ∷ g ∷ []) i false))

all_right : all_bools (λ a. all_bools (λ b. all_bools (λ c. all_bools (λ d. all_bools (λ e. all_bools (λ f. all_bools (λ g. bits_right a b c d e f g))))))) ≡ true
unfolding has_day every
all_right = refl

bits-right : (a b c d e f g : Bool) → bits_right a b c d e f g ≡ true
bits-right a b c d e f g =
    of-all (λ g. bits_right a b c d e f g)
    (of-all (λ f. all_bools (λ g. bits_right a b c d e f g))
    (of-all (λ e. all_bools (λ f. all_bools (λ g. bits_right a b c d e f g)))
    (of-all (λ d. all_bools (λ e. all_bools (λ f. all_bools (λ g. bits_right a b c d e f g))))
    (of-all (λ c. all_bools (λ d. all_bools (λ e. all_bools (λ f. all_bools (λ g. bits_right a b c d e f g)))))
    (of-all (λ b. all_bools (λ c. all_bools (λ d. all_bools (λ e. all_bools (λ f. all_bools (λ g. bits_right a b c d e f g))))))
    (of-all (λ a. all_bools (λ b. all_bools (λ c. all_bools (λ d. all_bools (λ e. all_bools (λ f. all_bools (λ g. bits_right a b c d e f g))))))) all_right a) b) c) d) e) f) g

seven : (f : ℕ → Bool) (i : ℕ) → i < 7 → get_or (f 0 ∷ f 1 ∷ f 2 ∷ f 3 ∷ f 4 ∷ f 5 ∷ f 6 ∷ []) i false ≡ f i
seven f zero h = refl
seven f (suc zero) h = refl
seven f (suc (suc zero)) h = refl
seven f (suc (suc (suc zero))) h = refl
seven f (suc (suc (suc (suc zero)))) h = refl
seven f (suc (suc (suc (suc (suc zero))))) h = refl
seven f (suc (suc (suc (suc (suc (suc zero)))))) h = refl
seven f (suc (suc (suc (suc (suc (suc (suc i))))))) h = absurd (omega arith)

pub total-seven : (f : ℕ → Bool) → total 7 (λ d. cond (f d) (2 ^ d) 0) ≡ seven_bits (f 0) (f 1) (f 2) (f 3) (f 4) (f 5) (f 6)
unfolding total
total-seven f = refl

pub has-bit : (f : ℕ → Bool) (i : ℕ) → i < 7 → has_day (total 7 (λ d. cond (f d) (2 ^ d) 0)) i ≡ f i
has-bit f i h =
    let t = every-at (λ i. same_bool (has_day (seven_bits (f 0) (f 1) (f 2) (f 3) (f 4) (f 5) (f 6)) i) (get_or (f 0 ∷ f 1 ∷ f 2 ∷ f 3 ∷ f 4 ∷ f 5 ∷ f 6 ∷ []) i false)) 7 i (bits-right (f 0) (f 1) (f 2) (f 3) (f 4) (f 5) (f 6)) h in
    rw (total-seven f) (same-is _ _ t ∙ seven f i h)

-- the day there of a weekday here, and back
abbrev days_turn : ℕ → ℕ → Bool
days_turn s d = eqb (day_there s (day_here s d)) d && eqb (day_here s (day_there s d)) d

days-turn : every 7 (λ s. every 7 (days_turn s)) ≡ true
unfolding every
days-turn = refl

pub day-there : (sunday d : ℕ) → sunday < 7 → d < 7 → (day_there sunday (day_here sunday d) ≡ d) × (day_here sunday (day_there sunday d) ≡ d)
day-there s d h k =
    let t = and_parts _ _ (every-at (days_turn s) 7 d (every-at (λ s. every 7 (days_turn s)) 7 s days-turn h) k) in
    (eqb-true _ _ t.0, eqb-true _ _ t.1)

-- the bits of the days there, by weekdays here
pub turned : (f : ℕ → Bool) (s : ℕ) → s < 7 → total 7 (λ d. cond (f d) (2 ^ day_here s d) 0) ≡ total 7 (λ d. cond (f (day_there s d)) (2 ^ d) 0)
unfolding total
turned f zero h = refl
turned f (suc zero) h = omega arith
turned f (suc (suc zero)) h = omega arith
turned f (suc (suc (suc zero))) h = omega arith
turned f (suc (suc (suc (suc zero)))) h = omega arith
turned f (suc (suc (suc (suc (suc zero))))) h = omega arith
turned f (suc (suc (suc (suc (suc (suc zero)))))) h = omega arith
turned f (suc (suc (suc (suc (suc (suc (suc s))))))) h = absurd (omega arith)

pub days-here : (line : List ℕ) (sunday : ℕ) → sunday < 7 → days line sunday ≡ total 7 (λ d. cond (field_covers line 4 (day_there sunday d)) (2 ^ d) 0)
unfolding days
days-here line sunday l = turned (field_covers line 4) sunday l

pub on-day : (line : List ℕ) (sunday d : ℕ) → sunday < 7 → d < 7 → has_day (days line sunday) d ≡ field_covers line 4 (day_there sunday d)
on-day line sunday d l h = rw (days-here line sunday l) (has-bit (λ e. field_covers line 4 (day_there sunday e)) d h)

-- THE CALENDAR, on the minutes of a day and the days
rearranged : (a b c : Bool) → (a && b) && c ≡ b && (a && c)
rearranged true true c = refl
rearranged true false c = refl
rearranged false true c = refl
rearranged false false c = refl

same-minute : (w : ℕ) → w % 1440 % 60 ≡ w % 60
same-minute w =
    omega (
      arith,
      div-add-mod w 1440,
      div-add-mod (w % 1440) 60,
      mod-lt (w % 1440) {m = 60} (lit< tt),
      div-add-mod w 60,
      mod-lt w {m = 60} (lit< tt),
    )

meant : (line : List ℕ) (sunday w : ℕ) → sunday < 7 → w / 1440 < 7 → starts line (w % 1440) && has_day (days line sunday) (w / 1440) ≡ matches line sunday w
unfolding starts matches
meant line sunday w l q =
    rw (on-day line sunday (w / 1440) l q, same-minute w)
    (rearranged (field_covers line 1 (w % 1440 / 60)) (field_covers line 0 (w % 60)) (field_covers line 4 (day_there sunday (w / 1440))))

pub minutes-due : (line : List ℕ) (sunday w : ℕ) → sunday < 7 → w < 10080
    → any (λ t. minute_due (minute_before w) 1 (days line sunday) t) (minutes line) ≡ matches line sunday w
unfolding minutes
minutes-due line sunday w l h =
    let ds = days line sunday in
    let q : w / 1440 < 7 = omega (arith, div-add-mod w 1440) in
    let r : w % 1440 < 1440 = mod-lt w {m = 1440} (lit< tt) in
    any-keep (λ t. minute_due (minute_before w) 1 ds t) (starts line) (up_from 0 1440)
    ∙ any_same (λ t. starts line t && minute_due (minute_before w) 1 ds t) (λ t. (starts line t && has_day ds (w / 1440)) && eqb t (w % 1440)) 0 1440
    (λ t a b. rw (trigger-due w ds t h (omega arith)) (sym (and_assoc (starts line t) (has_day ds (w / 1440)) (eqb t (w % 1440)))))
    ∙ one-equal (λ t. starts line t && has_day ds (w / 1440)) (w % 1440) 0 1440 (omega arith) (omega arith)
    ∙ meant line sunday w l q
