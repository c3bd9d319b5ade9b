-- The falling number of each function of the cycle: the remaining call depth, then the records left in the table, then the
-- function's rank. An empty list has no record left, wherever it starts. Assumes nothing.
use Rattle.std.proofs.Common.{◌≡◌, refl, ℕ, zero, suc, ◌+◌, ◌*◌, ◌-◌, ◌/◌, ◌<◌, ◌≤◌, length, arith}
use Rattle.flat.specs.Outcome.{Behind}
use Rattle.flat.proofs.Lists.{Passing}
use Rattle.flat.proofs.cycle.+flattening.Given as goal

unfoldable pub left-of : ℕ → ℕ → ℕ
left-of zero m = 0
left-of (suc k) m = m

pub left_le : (k m : ℕ) → left-of k m ≤ m
unfolding left-of
left_le zero m = omega arith
left_le (suc k) m = omega arith

pub left_is : (k m : ℕ) → (k ≡ 0 → ⊥) → left-of k m ≡ m
unfolding left-of
left_is zero m h = absurd (h refl)
left_is (suc k) m h = refl

pub left_behind : (n i f k : ℕ) → Behind n i f k → i < n → left-of k (n - f) < n - i
unfolding left-of
left_behind n i f zero b h = omega arith
left_behind n i f (suc k) b h = let l = b.behind (omega arith) in omega (arith, b.inside)

abbrev pub level : ℕ → ℕ → ℕ → ℕ
level depth left rank = depth * 1048576 + left * 4 + rank

abbrev pub decreases-flatten_action : goal.decreases-flatten_action
decreases-flatten_action l = level l.at.depth (length l.t.now.acts.now / 8 - l.i) 1

abbrev pub decreases-flatten_after : goal.decreases-flatten_after
decreases-flatten_after l = level l.at.depth (length l.t.now.acts.now / 8 - l.i) 0

abbrev pub decreases-flatten_branch : goal.decreases-flatten_branch
decreases-flatten_branch l = level l.at.depth (length l.t.now.acts.now / 8 - l.i) 0

abbrev pub decreases-flatten_call : goal.decreases-flatten_call
decreases-flatten_call l = level l.at.depth 0 0

abbrev pub decreases-flatten_list : goal.decreases-flatten_list
decreases-flatten_list l = level l.at.depth (left-of l.count (length l.t.now.acts.now / 8 - l.first)) 2

abbrev pub decreases-flatten_repeat : goal.decreases-flatten_repeat
decreases-flatten_repeat l = level l.at.depth (length l.t.now.acts.now / 8 - l.i) 0

-- after each turn, whatever the records from i on answer, the whole answers
abbrev pub invariant-flatten_list-loop-i : goal.invariant-flatten_list-loop-i
invariant-flatten_list-loop-i l =
    Passing
    (record {
      acts = l.t.acts.now;
      blocks = l.t.blocks.now;
      depth = l.at.depth;
      first = l.first;
      count = l.count;
      ctx = l.at.ctx;
      n = l.initial.q.n;
      m = l.initial.bodies.count;
      left = l.initial.q.left;
      same = l.initial.bodies.same;
      seen = l.initial.bodies.seen.now;
      list = l.initial.list;
      bodies = l.initial.bodies.words.now;
    }) l.i l.q.n l.bodies.count l.q.left l.bodies.same l.list l.bodies.words.now
    × (length l.body ≡ length l.initial.body) × (l.bodies.words.ghost_name ≡ l.initial.bodies.words.ghost_name) × (l.bodies.seen.now ≡ l.initial.bodies.seen.now)
