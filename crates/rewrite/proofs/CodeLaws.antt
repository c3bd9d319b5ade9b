-- What the small functions of the walk answer, as laws of numbers and lists. Assumes nothing.
use mathlib.Core.Path.{◌≡◌, refl, sym, ap, ap₂, ◌∙◌, subst}
use mathlib.Core.Logic.{◌⊎◌, inl, inr}
use mathlib.Core.Bool.{cond}
use mathlib.Core.List.{List, []}
use Prim.Native.Nat.{ℕ, zero, suc, ◌+◌, ◌-◌, ◌*◌, ◌<◌, ◌≤◌}
use native.Mathlib.Nat.{le_refl, le_trans, eq-or-lt_of_le}
use native.Mathlib.Numerals.{add-one}
use native.Mathlib.Omega.{arith}
use lib.ListN.{length, get_or, set, replicate, length-set}
use lib.Seq.{get_or-set_same, get_or-set_other}
use borrow.Author.Tests.{eq-eqb, ne_eqb, lt-ltb, le-ltb}
use Rattle.std.specs.Prelude.{None, Some}
use Rattle.model.specs.Lists.{total}
use Rattle.model.specs.Image.{width_of, trailer, size_of, word_at}
use Rattle.image.specs.Accepted.{Accepted}
use Rattle.image.proofs.Accepted as accepted-image
use Rattle.rewrite.specs.Mention.{Mention, list_at, steps_of, last_word}
use Rattle.model.specs.Tree.{Records, records_of, record_count}
use Rattle.rewrite.specs.Walk.{Store, count_of, append, size_for, word_place, put, put_words, put_mention, walk_list, walk_table, walk_tables, Walked, Placed, trailer_of, put_trailer}
use Rattle.rewrite.specs.Frames.{Frame, entered, passed, Within, Leads}
use Rattle.rewrite.proofs.Turns.{walk_frame, walk_rest, table-entered}
use Rattle.rewrite.proofs.Grown.{width-bounds, few-words, count-least, size-grown, size-grows, append-grows, records-grow}
use Rattle.rewrite.proofs.Walking.{store, Walking}

pub entered-by : (counts : List ℕ) (m : Mention) (row : ℕ) → row ≡ get_or counts m.table 0
    → record { table = m.table; word = 0; from = m.first; left = m.count; row = row } ≡ entered counts m
entered-by counts m row e = rw e refl

-- BEHIND A MENTION ----------------------------------------------------------------------------------------------------------------------------
module _ (f : Frame) (m : Mention) (s w : ℕ) (steps : s ≡ steps_of m) (width : w ≡ width_of f.table) where
  pub pass-next : f.word + s ≡ w → record { table = f.table; word = 0; from = f.from + 1; left = f.left - 1; row = f.row + 1 } ≡ passed f m
  unfolding passed
  pass-next e = rw (eq-eqb (f.word + steps_of m) (width_of f.table) (ap (λ x. f.word + x) (sym steps) ∙ e ∙ width)) refl

  pub pass-within : (f.word + s ≡ w → ⊥) → record { table = f.table; word = f.word + s; from = f.from; left = f.left; row = f.row } ≡ passed f m
  unfolding passed
  pass-within n =
      rw (ne_eqb (f.word + steps_of m) (width_of f.table) (λ e. n (ap (λ x. f.word + x) steps ∙ e ∙ sym width)), steps) refl

-- THE WORDS OF A MENTION ----------------------------------------------------------------------------------------------------------------------
module _ (firsts counts words : List ℕ) (m : Mention) (t p j at last : ℕ) (place : at ≡ word_place firsts t p j) (is : last ≡ last_word m (get_or counts m.table 0)) where
  pub put-one : (written : List ℕ) → m.tag ≡ None → written ≡ set words at last → store counts written ≡ put_mention firsts m t p j (store counts words)
  unfolding put_mention put
  put-one written e h =
      ap (store counts) (h ∙ ap₂ (set words) place is) ∙ sym (ap (λ o. put_words firsts o (last_word m (get_or counts m.table 0)) t p j (store counts words)) e)

  pub put-two : (tag : ℕ) (tagged written : List ℕ) → m.tag ≡ Some tag → tagged ≡ set words at tag → written ≡ set tagged (at + 1) last
      → store counts written ≡ put_mention firsts m t p j (store counts words)
  unfolding put_mention put
  put-two tag tagged written e g h =
      let next : at + 1 ≡ word_place firsts t p (suc j) = omega (arith, place) in
      ap (store counts) (h ∙ ap (λ (l : List ℕ). set l (at + 1) last) (g ∙ ap (λ x. set words x tag) place) ∙ ap₂ (set (set words (word_place firsts t p j) tag)) next is)
      ∙ sym (ap (λ o. put_words firsts o (last_word m (get_or counts m.table 0)) t p j (store counts words)) e)

-- THE BEGINNING -------------------------------------------------------------------------------------------------------------------------------
module _ (img counts : List ℕ) (ok : Accepted img) (eight : length counts ≡ 8) (behind table n : ℕ) (sized : behind ≡ size_for counts) (few : behind ≤ 4096) (top : table < 2)
    (all : n ≡ size_of img table) (m : Mention) (is : m ≡ list_at table 0 n) where
  pub top-leads : Leads img m
  top-leads =
      rw is (record {
        table = omega arith;
        held = omega (arith, all);
        near = omega (arith, all, accepted-image.any-size img ok.passes table (omega arith));
      })

  pub top-counts : get_or counts m.table 0 ≤ 4096
  top-counts = omega (arith, count-least counts m.table top-leads.table, sized)

  pub top-many : m.count ≤ 4096
  top-many = omega (arith, top-leads.near)

  abbrev more : List ℕ
  more = set counts m.table (get_or counts m.table 0 + m.count)

  -- where the loop begins
  module _ (firsts words after : List ℕ) (here : Frame) (added : ℕ) (enters : here ≡ entered counts m) (appends : after ≡ more)
      (adds : added ≡ width_of m.table * m.count) where
    table-whole : walk_frame img firsts 0 here (store after words) ≡ walk_table firsts img table (store counts words)
    unfolding append
    table-whole =
        ap (λ (f : Frame). walk_frame img firsts 0 f (store after words)) enters
        ∙ ap (λ (l : List ℕ). walk_frame img firsts 0 (entered counts m) (store l words)) appends
        ∙ ap (λ (x : Mention). walk_frame img firsts 0 (entered counts x) (append x.table x.count (store counts words))) (is ∙ ap (list_at table 0) all)
        ∙ sym (table-entered img firsts table (store counts words))

    pub started : (frames : List Frame) (size : ℕ) → frames ≡ [] → size ≡ behind + added → Walking img firsts (walk_frame img firsts 0 here (store after words)) (length words) words after here size frames
    unfolding walk_rest
    started frames size empty total =
        let l = top-leads in
        let grown = size-grown counts m.table m.count eight l.table in
        let w : Within img (entered counts m) = record { table = l.table; word = (width-bounds m.table).0; held = l.held; near = l.near; rows = omega (arith, top-counts, l.near) } in
        rw empty (record {
          left = refl;
          sized = rw appends (omega (arith, grown, sized, adds, total));
          eight = ap length appends ∙ length-set counts m.table _ ∙ eight;
          long = refl;
          within = rw enters w;
          waiting = λ k h. absurd (omega arith);
          deep = omega (arith, count-least counts 0 (omega arith), sized, total);
          most = omega (arith, few, adds, total, few-words m.table m.count top-many);
        })

    pub table-walked : (size : ℕ) (counts' words' : List ℕ) → Walked (walk_frame img firsts 0 here (store after words)) (length words) size counts' words'
        → Walked (walk_table firsts img table (store counts words)) (length words) size counts' words'
    table-walked size counts' words' w = subst (λ (s : Store). Walked s (length words) size counts' words') table-whole w

pub empty-size : (counts : List ℕ) → counts ≡ replicate 8 0 → 13 ≡ size_for counts
unfolding size_for total width_of
empty-size counts e = rw e refl

-- BOTH TABLES -----------------------------------------------------------------------------------------------------------------------------------
module _ (img firsts counts words counts' words' : List ℕ) (size : ℕ) where
  abbrev first-whole : Store
  first-whole = walk_table firsts img 0 (store counts words)

  -- the blocks are not walked any more: the counts only grow
  pub first-over : Walked first-whole (length words) size counts' words' → 4096 < size → Walked (walk_tables firsts img (store counts words)) (length words) size counts' words'
  unfolding walk_tables walk_table walk_list
  first-over w h =
      let rs : Records = records_of (word_at img) 600 1 0 (size_of img 1) in
      let a = size-grows first-whole (walk_table firsts img 1 first-whole)
      (λ u. le_trans (append-grows 1 (record_count rs) first-whole u) (records-grow firsts rs 1 (count_of first-whole 1) (append 1 (record_count rs) first-whole) u)) in
      record {
        within = λ g. absurd (omega arith);
        over = λ g. omega (arith, a, w.over h);
        sized = w.sized;
        eight = w.eight;
        long = w.long;
      }

  pub both-walked : (counts'' words'' : List ℕ) (size' : ℕ) → Walked first-whole (length words) size counts' words' → size ≤ 4096
      → Walked (walk_table firsts img 1 (store counts' words')) (length words') size' counts'' words''
      → Walked (walk_tables firsts img (store counts words)) (length words) size' counts'' words''
  unfolding walk_tables
  both-walked counts'' words'' size' w h v =
      let e : store counts' words' ≡ first-whole = w.within h in
      rw (← w.long) (subst (λ (s : Store). Walked (walk_table firsts img 1 s) (length words') size' counts'' words'') e v)

-- THE PLACES OF THE TABLES ------------------------------------------------------------------------------------------------------------------------
pub record Placing (counts firsts : List ℕ) (at t : ℕ) : Type 0 where
  pub few : t ≤ 8
  pub eight : length firsts ≡ 8
  pub sum : at ≡ total t (λ u. width_of u * get_or counts u 0)
  pub done : (k : ℕ) → k < t → get_or firsts k 0 ≡ total k (λ u. width_of u * get_or counts u 0)

pub placing-begins : (counts firsts : List ℕ) → length firsts ≡ 8 → Placing counts firsts 0 0
unfolding total
placing-begins counts firsts e = record { few = omega arith; eight = e; sum = refl; done = λ k h. absurd (omega arith) }

total-case : (f : ℕ → ℕ) (n t : ℕ) → (t ≡ n) ⊎ (t < n) → (t < n → total (suc t) f ≤ total n f) → total (suc t) f ≤ total (suc n) f
unfolding total
total-case f n t (inl e) h = rw e (le_refl _)
total-case f n t (inr l) h = omega (arith, h l)

total-most : (f : ℕ → ℕ) (n t : ℕ) → t < n → total (suc t) f ≤ total n f
total-most f zero t h = absurd (omega arith)
total-most f (suc n) t h = let m : t ≤ n = omega arith in total-case f n t (eq-or-lt_of_le m) (λ l. total-most f n t l)

module _ (counts firsts : List ℕ) (at t w : ℕ) (p : Placing counts firsts at t) (h : t < 8) (width : w ≡ width_of t) where
  next-sum : at + w * get_or counts t 0 ≡ total (suc t) (λ u. width_of u * get_or counts u 0)
  unfolding total
  next-sum = ap₂ (λ a b. a + b * get_or counts t 0) p.sum width

  pub placing-fits : size_for counts ≤ 4096 → at + w * get_or counts t 0 ≤ 4096
  unfolding size_for
  placing-fits few = omega (arith, next-sum, total-most (λ u. width_of u * get_or counts u 0) 8 t h)

  done-case : (k : ℕ) → (k ≡ t) ⊎ (k < t) → get_or (set firsts t at) k 0 ≡ total k (λ u. width_of u * get_or counts u 0)
  done-case k (inl e) = rw e (get_or-set_same firsts t at 0 (omega (arith, p.eight)) ∙ p.sum)
  done-case k (inr l) = get_or-set_other firsts t k at 0 (λ e. omega (arith, e)) ∙ p.done k l

  pub placing-turn : Placing counts (set firsts t at) (at + w * get_or counts t 0) (t + 1)
  placing-turn =
      record {
        few = omega arith;
        eight = length-set firsts t at ∙ p.eight;
        sum = next-sum ∙ ap (λ n. total n (λ u. width_of u * get_or counts u 0)) (sym (add-one t));
        done = λ k l. let o : k ≤ t = omega (arith, l) in done-case k (eq-or-lt_of_le o);
      }

pub placing-ends : (counts firsts : List ℕ) (at t : ℕ) → Placing counts firsts at t → 8 ≤ t → Placed counts firsts at
placing-ends counts firsts at t p h =
    let e : t ≡ 8 = omega (arith, p.few) in
    record { eight = p.eight; firsts-at = λ k l. p.done k (omega arith); end-at = p.sum ∙ ap (λ n. total n (λ u. width_of u * get_or counts u 0)) e }

pub end-few : (counts firsts : List ℕ) (end : ℕ) → Placed counts firsts end → size_for counts ≤ 4096 → end ≤ 4096
unfolding size_for
end-few counts firsts end p h = omega (arith, p.end-at)

-- THE TRAILER -----------------------------------------------------------------------------------------------------------------------------------------
module _ (img firsts : List ℕ) (k r : ℕ) where
  pub trailer-limit : k < 5 → r ≡ trailer img k → r ≡ trailer_of img firsts k
  unfolding trailer_of
  trailer-limit h e = e ∙ sym (ap (λ b. cond b (trailer img k) (get_or firsts (k - 5) 0)) (lt-ltb k 5 h))

  pub trailer-first : 5 ≤ k → r ≡ get_or firsts (k - 5) 0 → r ≡ trailer_of img firsts k
  unfolding trailer_of
  trailer-first h e = e ∙ sym (ap (λ b. cond b (trailer img k) (get_or firsts (k - 5) 0)) (le-ltb k 5 h))

pub trailer-begins : (img firsts words : List ℕ) (at : ℕ) → words ≡ put_trailer img firsts at 0 words
unfolding put_trailer
trailer-begins img firsts words at = refl

pub trailer-turn : (img firsts start words written : List ℕ) (at k w : ℕ) → words ≡ put_trailer img firsts at k start → w ≡ trailer_of img firsts k → written ≡ set words (at + k) w
    → written ≡ put_trailer img firsts at (k + 1) start
unfolding put_trailer
trailer-turn img firsts start words written at k w e f g = rw (add-one k) (g ∙ ap₂ (λ (l : List ℕ) (x : ℕ). set l (at + k) x) e f)

trailer-length : (img firsts start : List ℕ) (at k : ℕ) → length (put_trailer img firsts at k start) ≡ length start
unfolding put_trailer
trailer-length img firsts start at zero = refl
trailer-length img firsts start at (suc k) = length-set (put_trailer img firsts at k start) (at + k) (trailer_of img firsts k) ∙ trailer-length img firsts start at k

pub trailer-long : (img firsts start words : List ℕ) (at k : ℕ) → words ≡ put_trailer img firsts at k start → length words ≡ length start
trailer-long img firsts start words at k e = ap length e ∙ trailer-length img firsts start at k

pub trailer-ends : (img firsts start words : List ℕ) (at k : ℕ) → words ≡ put_trailer img firsts at k start → k ≤ 13 → 13 ≤ k → words ≡ put_trailer img firsts at 13 start
trailer-ends img firsts start words at k e a b = let f : k ≡ 13 = omega arith in e ∙ ap (λ n. put_trailer img firsts at n start) f
