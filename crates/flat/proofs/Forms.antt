-- The answers of the forms, from those of their lists.
use mathlib.Core.Path.{◌≡◌, refl, sym, ap, ◌∙◌, subst}
use mathlib.Core.Bool.{Bool, true, false, ◌&&◌}
use mathlib.Core.List.{List, [], ◌∷◌, ◌++◌, append-nil}
use Prim.Native.Nat.{ℕ, suc, ◌+◌, ◌*◌, ◌-◌, ◌/◌, ◌≤◌, ◌<◌}
use native.Mathlib.Omega.{arith}
use lib.ListN.{length, take}
use borrow.Rule.Slice.PartMut.{mid_of, put_mid}
use Rattle.model.specs.declared.FlattenCtx.{FlattenCtx}
use Rattle.model.specs.declared.FlowAction.TheVariants.{After, Repeat, Conditional}
use Rattle.model.specs.declared.Step.TheVariants as step
use Rattle.model.specs.Flat.{Row, row_of, Flattened, one_step, append, within_after, within_repeat, within_conditional, repeat_fails}
use Rattle.flat.specs.Words.{layout}
use Rattle.flat.specs.Outcome.{so_far, Put, Behinds, holds_at, Copied, Behind, Wrote, list_at, form_at}
use Rattle.flat.proofs.Starts.{Begun}
use Rattle.flat.proofs.Definition.{copies-stop, after-no, after-yes, branch_no, branch_yes, repeat-no, repeat-yes, repeats-some}
use Rattle.flat.proofs.Lengths.{list_length, none_within}
use Rattle.flat.proofs.Rows.{behinds-from, put-behinds, put-before, whole_length, front_kept, tail-behinds}
use Rattle.flat.proofs.Outcomes.{agrees-none, wrote_one, wrote-seq}
use Rattle.flat.proofs.Copies.{copies-bodies}

-- the bodies so far, where none were added
no_more : (seen : List ℕ) (m : ℕ) (s s1 r : Bool) (rows rs : List Row) → rows ≡ [] → s1 ≡ s && holds_at seen m rows → r ≡ s1 && holds_at seen m rs → r ≡ s && holds_at seen m rs
no_more seen m s s1 r rows rs e h k =
    k
    ∙ ap (λ (b : Bool). b && holds_at seen m rs) (h ∙ ap (λ (x : List Row). s && holds_at seen m x) e ∙ sym (agrees-none seen m s))

module _ {acts blocks calls : List ℕ} {scratch d : ℕ} {c : FlattenCtx} {n m a : ℕ} (start : Begun acts blocks calls scratch d c n m a) where
  failed : {f : Flattened} {same : Bool} {seen list bodies l : List ℕ} → f ≡ one_step step.Fail → Put list n (4 ∷ 0 ∷ 0 ∷ 0 ∷ []) l
      → Wrote 257 257 f (so_far n m a same) seen list bodies l bodies (so_far (n + 1) m a same)
  failed e p = rw e (wrote_one step.Fail (omega arith) p)

  -- AN AFTER --------------------------------------------------------------------------------------------------------------------------
  module _ (ms : ℕ) {i first count : ℕ} (g : Behind (length acts / 8) i first count) where
    abbrev after : Flattened
    after = form_at acts blocks d i (After ms first count) c n m

    abbrev body : Flattened
    body = list_at acts blocks d first count (within_after c) 0 m

    pub after-fails : {same : Bool} {seen list bodies l : List ℕ} → c.in_after ≡ true → Put list n (4 ∷ 0 ∷ 0 ∷ 0 ∷ []) l
        → Wrote 257 257 after (so_far n m a same) seen list bodies l bodies (so_far (n + 1) m a same)
    after-fails h p = failed (after-no acts blocks d i c n m ms first count h) p

    module _ (h : c.in_after ≡ false) where
      pub after-refused : a < body.taken → a < after.taken
      after-refused k = rw (after-yes acts blocks d i c n m ms first count h g) k

      module _ {same same1 : Bool} {seen x bodies x1 b1 : List ℕ} {size m1 left : ℕ} (w : Wrote 1 0 body (so_far 0 m a same) seen x bodies x1 b1 (so_far size m1 left same1)) where
        -- no body is longer than the scratch
        pub body-fits : size * 4 ≤ scratch
        body-fits = omega (arith, w.counted, list_length acts blocks d first count (within_after c) m, start.depth_le, start.room h)

        pub after-wrote : {r : Bool} {list b2 l : List ℕ} → length x ≡ scratch → length b1 ≡ length bodies → Put list n (3 ∷ ms ∷ m ∷ size ∷ []) l
            → ((rs : List Row) → take (size * 4) x1 ≡ layout rs → Behinds b1 m rs b2 (m + length rs) × (r ≡ same1 && holds_at seen m rs))
            → take (m * 4) b2 ≡ take (m * 4) b1 → Wrote 257 257 after (so_far n m a same) seen list bodies l b2 (so_far (n + 1) (m + size) left r)
        after-wrote {r} {list} {b2} {l} ex eb p append kept =
            let q : size ≡ length body.rows = omega (arith, w.counted, w.rows) in
            let fits = body-fits in
            let appended = append body.rows (w.listed (omega arith)) in
            rw (after-yes acts blocks d i c n m ms first count h g)
            (record {
              counted = omega arith;
              rows = refl;
              stored = omega arith;
              taken = w.taken;
              listed = put-behinds list l n (row_of (step.After ms) m (length body.rows)) (rw (← q) p);
              bodied = behinds-from bodies b1 b2 m (m + size) body.rows eb w.kept (subst (λ j. Behinds b1 m body.rows b2 (m + j)) (sym q) appended.0);
              kept = kept ∙ w.kept;
              agrees = no_more seen m same same1 r body.bodies body.rows (none_within acts blocks d first count c 0 m) w.agrees appended.1;
              few = omega (arith, w.taken);
              few' = omega (arith, w.few);
            })

        -- an after in an after adds no bodies
        pub none-more : m1 ≡ m
        none-more = omega (arith, w.stored, ap (λ (rs : List Row). length rs) (none_within acts blocks d first count c 0 m))

        pub after-there : {r : Bool} {list b2 l : List ℕ} → length x ≡ scratch → length b1 ≡ length bodies → Put list n (3 ∷ ms ∷ m1 ∷ size ∷ []) l
            → ((rs : List Row) → take (size * 4) x1 ≡ layout rs → Behinds b1 m1 rs b2 (m1 + length rs) × (r ≡ same1 && holds_at seen m1 rs))
            → take (m1 * 4) b2 ≡ take (m1 * 4) b1 → Wrote 257 257 after (so_far n m a same) seen list bodies l b2 (so_far (n + 1) (m1 + size) left r)
        after-there ex eb p append kept = rw none-more (after-wrote ex eb (rw none-more at p) (rw none-more at append) (rw none-more at kept))

  -- A REPEAT --------------------------------------------------------------------------------------------------------------------------
  module _ (times : ℕ) {i first count : ℕ} (g : Behind (length acts / 8) i first count) where
    abbrev repeated : Flattened
    repeated = form_at acts blocks d i (Repeat times first count) c n m

    abbrev once : Flattened
    once = list_at acts blocks d first count (within_repeat c) 0 m

    pub repeat-fails : {same : Bool} {seen list bodies l : List ℕ} → repeat_fails c times ≡ true → Put list n (4 ∷ 0 ∷ 0 ∷ 0 ∷ []) l
        → Wrote 257 257 repeated (so_far n m a same) seen list bodies l bodies (so_far (n + 1) m a same)
    repeat-fails h p = failed (repeat-no acts blocks d i c n m times first count h) p

    module _ (h : repeat_fails c times ≡ false) where
      pub repeat-refused : a < once.taken → a < repeated.taken
      repeat-refused k = rw (repeat-yes acts blocks d i c n m times first count h g) k

      -- its body was written into the tail from `at` on
      module _ (list v : List ℕ) (at : ℕ) {same same1 : Bool} {seen bodies b1 : List ℕ} {size m1 left : ℕ} (inside : at ≤ length list) (cut : n * 4 ≤ length list → at ≡ n * 4)
          (end : length list < n * 4 → at ≡ length list) (kept : length v ≡ length (mid_of at (length list - at) list))
          (w : Wrote 1 0 once (so_far 0 m a same) seen (mid_of at (length list - at) list) bodies v b1 (so_far size m1 left same1)) where
        abbrev list1 : List ℕ
        list1 = put_mid at (length list - at) list v

        -- no copy fits, and the bodies are not kept
        pub repeat-over : {l : List ℕ} → 256 < n + size → Put list1 n (4 ∷ 0 ∷ 0 ∷ 0 ∷ []) l → Wrote 257 257 repeated (so_far n m a same) seen list bodies l b1 (so_far (n + 1) m left same)
        repeat-over {l} over p =
            let e = copies-stop once n times (repeats-some c times h) (omega (arith, w.counted)) in
            rw (repeat-yes acts blocks d i c n m times first count h g)
            (record {
              counted = rw e (omega arith);
              rows = rw e refl;
              stored = rw e (omega arith);
              taken = w.taken;
              listed =
                  rw e
                  (behinds-from list list1 l n (n + 1) ((4, (0, (0, 0))) ∷ []) (whole_length list v at inside kept) (front_kept list v at inside kept n cut end)
                  (put-behinds list1 l n (4, (0, (0, 0))) p));
              bodied = rw e (λ k. w.kept ∙ sym (append-nil (take (m * 4) bodies)));
              kept = w.kept;
              agrees = rw e (agrees-none seen m same);
              few = omega (arith, w.taken);
              few' = omega (arith, w.taken);
            })

        pub repeat-wrote : {l : List ℕ} {n1 : ℕ} → n < 256 → n + size ≤ 256
            → (size ≡ length once.rows → length once.rows ≡ length once.steps → Copied once times n list1 l n1)
            → Wrote 257 257 repeated (so_far n m a same) seen list bodies l b1 (so_far n1 m1 left same1)
        repeat-wrote {l} {n1} small fit copied =
            let q : size ≡ length once.rows = omega (arith, w.counted, w.rows) in
            let k = copied q w.rows in
            let e = copies-bodies times once n (repeats-some c times h) (omega (arith, w.counted)) in
            let first-copy : Behinds list n once.rows list1 (n + length once.rows) = rw (← q) (tail-behinds list v at inside kept n cut end size once.rows w.listed) in
            rw (repeat-yes acts blocks d i c n m times first count h g)
            (record {
              counted = k.counted;
              rows = k.rows;
              stored = rw e w.stored;
              taken = w.taken;
              listed = k.written list (sym (whole_length list v at inside kept)) first-copy;
              bodied = rw e w.bodied;
              kept = w.kept;
              agrees = rw e w.agrees;
              few = omega (arith, k.few, w.taken);
              few' = omega (arith, w.few');
            })

  -- A CONDITIONAL ---------------------------------------------------------------------------------------------------------------------
  module _ (q : ℕ) {i yf yk ef ek : ℕ} (g : Behind (length acts / 8) i yf yk) (g' : Behind (length acts / 8) i ef ek) where
    abbrev branch : Flattened
    branch = form_at acts blocks d i (Conditional q yf yk ef ek) c n m

    abbrev then-part : Flattened
    then-part = list_at acts blocks d yf yk (within_conditional c) (n + 1) m

    pub branch-fails : {same : Bool} {seen list bodies l : List ℕ} → c.in_conditional ≡ true → Put list n (4 ∷ 0 ∷ 0 ∷ 0 ∷ []) l
        → Wrote 257 257 branch (so_far n m a same) seen list bodies l bodies (so_far (n + 1) m a same)
    branch-fails h p = failed (branch_no acts blocks d i c n m q yf yk ef ek h) p

    module _ (h : c.in_conditional ≡ false) where
      pub branch-refused : a < then-part.taken → a < branch.taken
      branch-refused k = rw (branch_yes acts blocks d i c n m q yf yk ef ek h g g') (omega arith)

      module _ {same s1 : Bool} {seen list bodies l1 b1 : List ℕ} {n1 m1 a1 : ℕ} (w : Wrote 1 0 then-part (so_far (n + 1) m a same) seen list bodies l1 b1 (so_far n1 m1 a1 s1)) where
        abbrev else-part : Flattened
        else-part = list_at acts blocks d ef ek (within_conditional c) n1 m1

        pub else-refused : a1 < else-part.taken → a < branch.taken
        else-refused k = rw (branch_yes acts blocks d i c n m q yf yk ef ek h g g', ← w.counted, ← w.stored) (omega (arith, w.taken))

        pub branch-wrote : {s2 : Bool} {l2 b2 l3 : List ℕ} {n2 m2 a2 : ℕ} → length l1 ≡ length list → length b1 ≡ length bodies → length l2 ≡ length l1
            → Wrote 1 0 else-part (so_far n1 m1 a1 s1) seen l1 b1 l2 b2 (so_far n2 m2 a2 s2) → Put l2 n (2 ∷ q ∷ (n1 - n - 1) ∷ (n2 - n1) ∷ []) l3
            → Wrote 257 257 branch (so_far n m a same) seen list bodies l3 b2 (so_far n2 m2 a2 s2)
        branch-wrote {s2} {l2} {b2} {l3} {n2} {m2} {a2} el eb el2 w2 p =
            let y = then-part in
            let e = else-part in
            let x = wrote-seq 2 0 y.taken (omega arith) (omega arith) el eb w w2 (omega (arith, w.taken, w2.taken)) in
            let yl : n1 - n - 1 ≡ length y.steps = omega (arith, w.counted) in
            let el' : n2 - n1 ≡ length e.steps = omega (arith, w2.counted) in
            rw (branch_yes acts blocks d i c n m q yf yk ef ek h g g', ← w.counted, ← w.stored)
            (record {
              counted = omega (arith, x.counted);
              rows = ap suc x.rows;
              stored = x.stored;
              taken = x.taken;
              listed =
                  put-before list l2 l3 n n2 (row_of (step.Branch q (length y.steps) (length e.steps)) 0 0) (y.rows ++ e.rows) (el2 ∙ el)
                  (omega (arith, x.counted, x.rows)) x.listed (rw (← yl, ← el') p);
              bodied = x.bodied;
              kept = x.kept;
              agrees = x.agrees;
              few = omega (arith, x.few);
              few' = omega (arith, x.few');
            })
