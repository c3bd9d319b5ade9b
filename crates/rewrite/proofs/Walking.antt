-- The loop of the walk: what holds at each turn, and what the turns leave. Assumes nothing.
use mathlib.Core.Path.{◌≡◌, refl, sym, ap, ap₂, ◌∙◌}
use mathlib.Core.Logic.{◌⊎◌, inl, inr}
use mathlib.Core.Bool.{Bool, true, false, cond}
use mathlib.Core.List.{List, [], ◌∷◌, ◌++◌}
use Prim.Native.Nat.{ℕ, zero, suc, ◌+◌, ◌-◌, ◌*◌, ◌<◌, ◌≤◌}
use native.Mathlib.Nat.{le_refl, le_trans, eq-or-lt_of_le}
use native.Mathlib.Numerals.{add-one}
use native.Mathlib.Omega.{arith}
use lib.Dec.{eqb}
use lib.ListN.{length, get_or, set, length-set, length-append, get_or-append}
use borrow.Author.Tests.{eqb-false, ne_eqb}
use Rattle.std.specs.Prelude.{Option, None, Some, is_some}
use Rattle.model.specs.Lists.{total}
use Rattle.model.specs.Rows.{pool}
use Rattle.model.specs.Image.{width_of, word_at}
use Rattle.image.specs.Accepted.{Accepted}
use Rattle.model.specs.Tree.{Reader, list_of}
use Rattle.rewrite.specs.Mention.{Mention, mention_at, steps_of, last_word}
use Rattle.rewrite.specs.Walk.{Store, count_of, append, size_for, put, put_words, put_mention, Walked}
use Rattle.rewrite.specs.Frames.{Frame, no_frame, entered, passed, Within, Leads}
use Rattle.rewrite.proofs.Mentioned.{steps-fit}
use Rattle.rewrite.proofs.Turns.{walk_left, walk_frame, walk_rest, frame-done, plain-met, list-met, last-frame, rest-pushed}
use Rattle.rewrite.proofs.Grown.{width-bounds, slack, eight-or-slack, some-words, few-words, count-least, size-grown, Grows, records-grow, cells-grow, size-grows}
use Rattle.rewrite.proofs.Leading.{mention-leads, pool-plain}

-- A FRAME -----------------------------------------------------------------------------------------------------------------------------------
steps-some : (b : Bool) → 1 ≤ cond b 2 1
steps-some true = omega arith
steps-some false = omega arith

-- the turns that a frame may take
abbrev work : Frame → ℕ
work f = f.left * 18 + (16 - f.word)

module _ (img : List ℕ) (f : Frame) (m : Mention) (some : 1 ≤ f.left) (w : Within img f) (fits : f.word + steps_of m ≤ width_of f.table) where
  passed-case : (b : Bool) → eqb (f.word + steps_of m) (width_of f.table) ≡ b → ((passed f m).table ≡ f.table) × Within img (passed f m) × (work (passed f m) < work f)
  unfolding passed
  passed-case true e =
      rw e (
        refl,
        record { table = w.table; word = (width-bounds f.table).0; held = omega (arith, w.held); near = omega (arith, w.near); rows = omega (arith, w.rows) },
        omega (arith, w.word, width-bounds f.table),
      )
  passed-case false e =
      let n : f.word + steps_of m ≡ width_of f.table → ⊥ = eqb-false _ _ e in
      rw e (
        refl,
        record { table = w.table; word = omega (arith, n, fits); held = w.held; near = w.near; rows = w.rows },
        omega (arith, w.word, width-bounds f.table, fits, steps-some (is_some m.tag)),
      )

  pub passed-on : ((passed f m).table ≡ f.table) × Within img (passed f m) × (work (passed f m) < work f)
  passed-on = passed-case (eqb (f.word + steps_of m) (width_of f.table)) refl

-- GROWTH --------------------------------------------------------------------------------------------------------------------------------------
module _ (img firsts : List ℕ) where
  left-grows : (deeper : Reader) (t i left j p : ℕ) (s : Store) → Grows s (walk_left img firsts deeper t i left j p s)
  unfolding walk_left
  left-grows deeper t i zero j p s u = le_refl _
  left-grows deeper t i (suc left) j p s u = le_trans (cells-grow firsts _ t p j s u) (records-grow firsts (list_of (word_at img) deeper t (suc i) left) t (suc p) _ u)

  frame-grows : (k : ℕ) (f : Frame) (s : Store) → Grows s (walk_frame img firsts k f s)
  unfolding walk_frame
  frame-grows k f s u = left-grows _ f.table f.from f.left f.word f.row s u

  pub rest-grows : (fs : List Frame) (k : ℕ) (s : Store) → Grows s (walk_rest img firsts fs k s)
  unfolding walk_rest
  rest-grows fs zero s u = le_refl _
  rest-grows fs (suc k) s u = le_trans (frame-grows k (get_or fs k no_frame) s u) (rest-grows fs k (walk_frame img firsts k (get_or fs k no_frame) s) u)

-- THE LOOP ------------------------------------------------------------------------------------------------------------------------------------
abbrev pub store : List ℕ → List ℕ → Store
store counts words = record { counts = counts; words = words }

-- a frame that waits: no pool words, since they mention nothing
pub record Waiting (img : List ℕ) (f : Frame) : Type 0 where
  pub within : Within img f
  pub lists : f.table ≡ pool → ⊥

pub record Walking (img firsts : List ℕ) (whole : Store) (room : ℕ) (words counts : List ℕ) (here : Frame) (size : ℕ) (frames : List Frame) : Type 0 where
  pub left : walk_rest img firsts frames (length frames) (walk_frame img firsts (length frames) here (store counts words)) ≡ whole
  pub sized : size ≡ size_for counts
  pub eight : length counts ≡ 8
  pub long : length words ≡ room
  pub within : Within img here
  pub waiting : (k : ℕ) → k < length frames → Waiting img (get_or frames k no_frame)
  pub deep : 8 * length frames + 13 ≤ size + slack here.table
  pub most : size ≤ 70000

slack-most : (t : ℕ) → slack t ≤ 8
slack-most t = go (eqb t pool)
  where
    go : (b : Bool) → cond b 8 0 ≤ 8
    go true = omega arith
    go false = omega arith

slack-none : (t : ℕ) → (t ≡ pool → ⊥) → slack t ≡ 0
slack-none t n = ap (λ b. cond b 8 0) (ne_eqb t pool n)

-- what the turns left may take
pub waits : List Frame → ℕ → ℕ
waits fs k = total k (λ i. work (get_or fs i no_frame))

pub turns_left : Frame → ℕ → List Frame → ℕ
turns_left here size frames = 40 * (80000 - size) + work here + waits frames (length frames) + length frames

waits-below : (fs gs : List Frame) (k : ℕ) → k ≤ length fs → waits (fs ++ gs) k ≡ waits fs k
unfolding waits total
waits-below fs gs zero h = refl
waits-below fs gs (suc k) h =
    ap (λ f. waits (fs ++ gs) k + work f) (get_or-append fs gs no_frame k (omega arith)) ∙ ap (λ x. x + work (get_or fs k no_frame)) (waits-below fs gs k (omega arith))

waits-pushed : (fs : List Frame) (f : Frame) → waits (fs ++ f ∷ []) (suc (length fs)) ≡ waits fs (length fs) + work f
unfolding waits total
waits-pushed fs f =
    ap (λ g. waits (fs ++ f ∷ []) (length fs) + work g) (last-frame fs f) ∙ ap (λ x. x + work f) (waits-below fs (f ∷ []) (length fs) (le_refl _))

pushed-length : (fs : List Frame) (f : Frame) → length (fs ++ f ∷ []) ≡ suc (length fs)
pushed-length fs f = length-append fs (f ∷ []) ∙ add-one (length fs)

waiting-case : (img : List ℕ) (fs : List Frame) (f : Frame) → Waiting img f → ((k : ℕ) → k < length fs → Waiting img (get_or fs k no_frame))
    → (k : ℕ) → (k ≡ length fs) ⊎ (k < length fs) → Waiting img (get_or (fs ++ f ∷ []) k no_frame)
waiting-case img fs f w all k (inl e) = rw (e, last-frame fs f) w
waiting-case img fs f w all k (inr l) = rw (get_or-append fs (f ∷ []) no_frame k l) (all k l)

-- a mention is written into the words that are there
put-long : (firsts : List ℕ) (m : Mention) (t p j : ℕ) (s : Store) → length (put_mention firsts m t p j s).words ≡ length s.words
unfolding put_mention put
put-long firsts m t p j s = go m.tag
  where
    last : ℕ
    last = last_word m (count_of s m.table)

    go : (o : Option ℕ) → length (put_words firsts o last t p j s).words ≡ length s.words
    go None = simp length-set
    go (Some tag) = simp length-set

module _ {img firsts : List ℕ} {whole : Store} {room : ℕ} {words counts : List ℕ} {here : Frame} {size : ℕ} {frames : List Frame}
    (w : Walking img firsts whole room words counts here size frames) where
  abbrev depth : ℕ
  depth = length frames

  -- a list that is done: on with the one below
  module _ (done : here.left ≡ 0) (fs : List Frame) (f : Frame) (split : frames ≡ fs ++ f ∷ []) where
    one-more : depth ≡ suc (length fs)
    one-more = ap length split ∙ pushed-length fs f

    lower : walk_rest img firsts fs (length fs) (walk_frame img firsts (length fs) f (store counts words)) ≡ whole
    lower =
        let s : Store = store counts words in
        sym (rest-pushed img firsts fs f s)
        ∙ ap (λ (l : List Frame). walk_rest img firsts l (suc (length fs)) s) (sym split)
        ∙ ap (λ n. walk_rest img firsts frames n s) (sym one-more)
        ∙ ap (walk_rest img firsts frames depth) (sym (frame-done img firsts depth here s done))
        ∙ w.left

    waited : (k : ℕ) → k ≤ length fs → Waiting img (get_or (fs ++ f ∷ []) k no_frame)
    waited k h = rw split at (w.waiting k (omega (arith, h, one-more)))

    pub popped : Walking img firsts whole room words counts f size fs
    popped =
        let last : Waiting img f = rw (last-frame fs f) at (waited (length fs) (le_refl _)) in
        record {
          left = lower;
          sized = w.sized;
          eight = w.eight;
          long = w.long;
          within = last.within;
          waiting = λ k l. rw (get_or-append fs (f ∷ []) no_frame k l) at (waited k (omega (arith, l)));
          deep = omega (arith, w.deep, slack-most here.table, one-more);
          most = w.most;
        }

    pub popped-less : turns_left f size fs < turns_left here size frames
    unfolding turns_left
    popped-less =
        let a : waits frames depth ≡ waits fs (length fs) + work f = ap₂ waits split one-more ∙ waits-pushed fs f in
        omega (arith, a, one-more)

  pub depth-least : size ≤ 4096 → depth < 512
  depth-least h = omega (arith, w.deep, slack-most here.table)

  module _ (ok : Accepted img) (few : size ≤ 4096) (some : here.left ≡ 0 → ⊥) where
    abbrev met : Mention
    met = mention_at img here.table here.from here.word

    least : 1 ≤ here.left
    least = omega (arith, some)

    fits : here.word + steps_of met ≤ width_of here.table
    fits = steps-fit img here.table here.from here.word w.within.word

    pub met-leads : Leads img met
    met-leads = mention-leads img ok here.table here.from here.word w.within.table (omega (arith, w.within.held, least)) w.within.word

    on : ((passed here met).table ≡ here.table) × Within img (passed here met) × (work (passed here met) < work here)
    on = passed-on img here met least w.within fits

    deeper : depth < 599
    deeper = omega (arith, depth-least few)

    abbrev after : Store
    after = put_mention firsts met here.table here.row here.word (store counts words)

    pub pass-fits : (here.table < 8) × (here.word < 16) × (1 ≤ here.left) × (here.from ≤ 4096) × (here.row ≤ 8192)
    pass-fits =
        let v = w.within in
        (v.table, omega (arith, v.word, width-bounds here.table), least, omega (arith, v.near), omega (arith, v.rows))

    pub met-enters : (m : Mention) → m ≡ met → (m.table < 8) × (m.first + m.count ≤ 4096) × (get_or counts m.table 0 ≤ 4096)
    met-enters m is = let l : Leads img m = rw is met-leads in (l.table, l.near, omega (arith, count-least counts m.table l.table, w.sized))

    pub met-appends : (m : Mention) → m ≡ met → (length counts ≡ 8) × (m.table < 8) × (m.count ≤ 4096) × (get_or counts m.table 0 ≤ 4096)
    met-appends m is = let e = met-enters m is in (w.eight, e.0, omega (arith, e.1), e.2)

    pub met-size : (m : Mention) → m ≡ met → (added : ℕ) → added ≡ width_of m.table * m.count → size + added ≤ 70000
    met-size m is added e = omega (arith, few, e, few-words m.table m.count (met-appends m is).2)

    -- a word that mentions nothing
    module _ (m : Mention) (is : m ≡ met) (written : List ℕ) (put-so : store counts written ≡ put_mention firsts m here.table here.row here.word (store counts words))
        (next : Frame) (moved : next ≡ passed here m) where
      puts : store counts written ≡ after
      puts = put-so ∙ ap (λ (x : Mention). put_mention firsts x here.table here.row here.word (store counts words)) is

      long : length written ≡ length words
      long = ap (λ (s : Store). length s.words) put-so ∙ put-long firsts m here.table here.row here.word (store counts words)

      next-is : next ≡ passed here met
      next-is = moved ∙ ap (passed here) is

      pub plain-on : m.count ≡ 0 → Walking img firsts whole room written counts next size frames
      plain-on z =
          record {
            left = ap (walk_rest img firsts frames depth)
                (ap (λ (f : Frame). walk_frame img firsts depth f (store counts written)) next-is
                ∙ ap (walk_frame img firsts depth (passed here met)) puts
                ∙ sym (plain-met img firsts depth here (store counts words) deeper least w.within.word (ap (λ (x : Mention). x.count) (sym is) ∙ z)))
                ∙ w.left;
            sized = w.sized;
            eight = w.eight;
            long = long ∙ w.long;
            within = rw next-is on.1;
            waiting = w.waiting;
            deep = rw (next-is, on.0) w.deep;
            most = w.most;
          }

      pub plain-less : turns_left next size frames < turns_left here size frames
      unfolding turns_left
      plain-less = rw next-is (omega (arith, on.2))

      -- a word that mentions a list
      module _ (listed : m.count ≡ 0 → ⊥) where
        no-pool : here.table ≡ pool → ⊥
        no-pool e =
            let z : met.count ≡ 0 = ap (λ t. (mention_at img t here.from here.word).count) e ∙ pool-plain img here.from here.word in
            listed (ap (λ (x : Mention). x.count) is ∙ z)

        one : 1 ≤ m.count
        one = omega (arith, listed)

        leading : Leads img m
        leading = rw is met-leads

        counts-fit : get_or counts m.table 0 ≤ 4096
        counts-fit = (met-enters m is).2

        abbrev more : List ℕ
        more = set counts m.table (get_or counts m.table 0 + m.count)

        grown : size_for more ≡ size + width_of m.table * m.count
        grown = size-grown counts m.table m.count w.eight leading.table ∙ ap (λ x. x + width_of m.table * m.count) (sym w.sized)

        appended : append m.table m.count (store counts written) ≡ store more written
        unfolding append
        appended = refl

        list-left : walk_rest img firsts (frames ++ next ∷ []) (suc depth) (walk_frame img firsts (suc depth) (entered counts m) (store more written)) ≡ whole
        list-left =
            rest-pushed img firsts frames next _
            ∙ ap (walk_rest img firsts frames depth)
            (ap (λ (f : Frame). walk_frame img firsts depth f (walk_frame img firsts (suc depth) (entered counts m) (store more written))) next-is
            ∙ ap (λ (s : Store). walk_frame img firsts depth (passed here met) (walk_frame img firsts (suc depth) (entered counts m) s)) (sym appended)
            ∙ ap (λ (x : Mention). walk_frame img firsts depth (passed here met) (walk_frame img firsts (suc depth) (entered counts x) (append x.table x.count (store counts written)))) is
            ∙ ap (λ (s : Store). walk_frame img firsts depth (passed here met) (walk_frame img firsts (suc depth) (entered s.counts met) (append met.table met.count s))) puts
            ∙ sym (list-met img firsts depth here (store counts words) deeper least w.within.word (λ z. listed (ap (λ (x : Mention). x.count) is ∙ z))))
            ∙ w.left

        list-on : Walking img firsts whole room written more (entered counts m) (size + width_of m.table * m.count) (frames ++ next ∷ [])
        list-on =
            let e = pushed-length frames next in
            let n : 1 ≤ m.count = one in
            let l = leading in
            let wait : Waiting img next = rw next-is (record { within = on.1; lists = λ e. no-pool (sym on.0 ∙ e) }) in
            record {
              left = ap (λ d. walk_rest img firsts (frames ++ next ∷ []) d (walk_frame img firsts d (entered counts m) (store more written))) e ∙ list-left;
              sized = sym grown;
              eight = length-set counts m.table _ ∙ w.eight;
              long = long ∙ w.long;
              within = record { table = l.table; word = (width-bounds m.table).0; held = l.held; near = l.near; rows = omega (arith, counts-fit, l.near) };
              waiting = λ k g. let o : k ≤ depth = omega (arith, g, e) in waiting-case img frames next wait w.waiting k (eq-or-lt_of_le o);
              deep = omega (arith, w.deep, slack-none here.table no-pool, eight-or-slack m.table m.count n, e);
              most = omega (arith, few, few-words m.table m.count (omega (arith, l.near)));
            }

        list-less : turns_left (entered counts m) (size + width_of m.table * m.count) (frames ++ next ∷ []) < turns_left here size frames
        unfolding turns_left
        list-less =
            let h = pushed-length frames next in
            let a : work next < work here = rw next-is on.2 in
            let b : waits (frames ++ next ∷ []) (length (frames ++ next ∷ [])) ≡ waits frames depth + work next = ap (waits (frames ++ next ∷ [])) h ∙ waits-pushed frames next in
            let d = some-words m.table m.count in
            let e = few-words m.table m.count (omega (arith, leading.near)) in
            omega (arith, a, b, d, e, h, few, one)

        module _ (inner : Frame) (counts' : List ℕ) (added : ℕ) (enters : inner ≡ entered counts m) (appends : counts' ≡ more) (adds : added ≡ width_of m.table * m.count) where
          pub list-entered : Walking img firsts whole room written counts' inner (size + added) (frames ++ next ∷ [])
          list-entered = rw (enters, appends, adds) list-on

          pub list-entered-less : turns_left inner (size + added) (frames ++ next ∷ []) < turns_left here size frames
          list-entered-less = rw (enters, adds) list-less

  -- THE END -------------------------------------------------------------------------------------------------------------------------------
  pub all-walked : size ≤ 4096 → here.left ≡ 0 → depth ≡ 0 → Walked whole room size counts words
  unfolding walk_rest
  all-walked few done bottom =
      record {
        within = λ h.
            sym (frame-done img firsts depth here (store counts words) done)
            ∙ ap (λ n. walk_rest img firsts frames n (walk_frame img firsts depth here (store counts words))) (sym bottom)
            ∙ w.left;
        over = λ h. absurd (omega arith);
        sized = w.sized;
        eight = w.eight;
        long = w.long;
      }

  -- the walk was stopped
  pub all-over : 4096 < size → Walked whole room size counts words
  all-over h =
      let s = store counts words in
      let a = size-grows s (walk_rest img firsts frames depth (walk_frame img firsts depth here s))
      (λ u. le_trans (frame-grows img firsts depth here s u) (rest-grows img firsts frames depth (walk_frame img firsts depth here s) u)) in
      record {
        within = λ g. absurd (omega arith);
        over = λ g. rw (← w.left) (omega (arith, a, w.sized));
        sized = w.sized;
        eight = w.eight;
        long = w.long;
      }
