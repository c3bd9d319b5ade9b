-- Where a script stands, and how it comes on. Assumes nothing.
use Rattle.std.proofs.Common.{◌≡◌, ℕ, ◌+◌, ◌≤◌, ◌<◌, Bool, true, false, List, [], ◌∷◌, ◌++◌, length, take, min, get_or, nat_lt, Result, Ok, Err, refl, sym, ap, ◌∙◌, arith, append_assoc, add-one}
use mathlib.Core.Path.{subst}
use mathlib.Core.List.{append-nil}
use lib.ListN.{length-take, length-append}
use lib.Seq.{take-suc, take_all, take-append-le}
use borrow.Author.Tests.{eq-eqb, ne_eqb, lt-ltb, ltb-true, ltb-false}
use Rattle.arrayvec.specs.ArrayVec.{ArrayVec}
use Rattle.words.specs.Saturating.{saturating_add, max64}
use Rattle.std.specs.Prelude.{◌↔◌, IsOk, OnOk, OnErr}
use Rattle.play.specs.declared.output.Output.{Output}
use Rattle.play.specs.declared.player.Player.{Player}
use Rattle.play.specs.Playing.{Play, Room, obeyed, settings_after, said, line_ends, byte_comes, bytes_come}
use Rattle.play.specs.Example.{room}
use Rattle.play.specs.Played.{Stands, Obeys, Follows, Reads}

-- THE LINE THAT IS BEING READ --------------------------------------------------------------------------------------------------------
-- a byte more is kept, where there is room for it
cut-more : (n b : ℕ) (bytes xs : List ℕ) → xs ≡ take n bytes → length xs < n → xs ++ b ∷ [] ≡ take n (bytes ++ b ∷ [])
cut-more n b bytes xs e h =
    let l : length xs ≡ min n (length bytes) = ap length e ∙ length-take n bytes in
    let short : length bytes ≤ n = omega arith in
    let all : length (bytes ++ b ∷ []) ≤ n = omega (arith, length-append bytes (b ∷ [])) in
    rw (take_all n (bytes ++ b ∷ []) all) (ap (λ (z : List ℕ). z ++ b ∷ []) (e ∙ take_all n bytes short))

cut-full : (n b : ℕ) (bytes xs : List ℕ) → xs ≡ take n bytes → length xs ≡ n → xs ≡ take n (bytes ++ b ∷ [])
cut-full n b bytes xs e h =
    let l : length xs ≡ min n (length bytes) = ap length e ∙ length-take n bytes in
    let long : n ≤ length bytes = omega arith in
    e ∙ sym (take-append-le n bytes (b ∷ []) long)

pub pushed : {E : Type 0} (r : Result (Unit {0}) E) (n b : ℕ) (bytes : List ℕ) (old new : ArrayVec ℕ) → old.items ≡ take n bytes → (IsOk r ↔ (length old.items < n))
    → OnOk r (new.items ≡ old.items ++ b ∷ []) → OnErr r (new ≡ old) → OnErr r (length old.items ≡ n) → new.items ≡ take n (bytes ++ b ∷ [])
pushed (Ok tt) n b bytes old new e short o u f = o ∙ cut-more n b bytes old.items e (short.0 refl)
pushed (Err x) n b bytes old new e short o u f = ap (λ v. v.items) u ∙ cut-full n b bytes old.items e f

-- a line says what its bytes say that are kept
said-cut : (bytes : List ℕ) → said room (take 262145 bytes) ≡ said room bytes
unfolding said room
said-cut bytes = go (nat_lt 262144 (length bytes)) refl
  where
    go : (b : Bool) → nat_lt 262144 (length bytes) ≡ b → said room (take 262145 bytes) ≡ said room bytes
    go true e =
        let h = ltb-true 262144 (length bytes) e in
        let k : 262144 < length (take 262145 bytes) = omega (arith, length-take 262145 bytes) in
        rw (e, lt-ltb 262144 (length (take 262145 bytes)) k) refl
    go false e = let h = ltb-false 262144 (length bytes) e in ap (said room) (take_all 262145 bytes (omega arith))

-- A LINE ENDS ------------------------------------------------------------------------------------------------------------------------

pub line-ended : (s r : Player) (k : ℕ) (empty : ArrayVec ℕ) (p : Play) → Stands s p → k ≡ min (s.number + 1) max64 → empty.items ≡ []
    → Obeys (said room s.line.items) (record { number = k; line = s.line; list = s.list; lent = s.lent; output = s.output }) r
    → Stands (record { number = r.number; line = empty; list = r.list; lent = r.lent; output = r.output }) (line_ends room p)
unfolding line_ends room saturating_add
line-ended s r k empty p h n e o =
    let q = said room p.text in
    let f : said room s.line.items ≡ q = ap (said room) h.text ∙ said-cut p.text in
    let i : k ≡ min (p.number + 1) max64 = n ∙ ap (λ (z : ℕ). min (z + 1) max64) h.number in
    let x = rw f at o in
    let here = obeyed 24576 327680 k q.line q.list q.text s.lent.settings s.lent.store in
    let same : here ≡ obeyed 24576 327680 (min (p.number + 1) max64) q.line q.list q.text p.settings p.store =
    ap (λ z. obeyed 24576 327680 z q.line q.list q.text s.lent.settings s.lent.store) i
    ∙ ap (λ z. obeyed 24576 327680 (min (p.number + 1) max64) q.line q.list q.text z s.lent.store) h.settings
    ∙ ap (λ z. obeyed 24576 327680 (min (p.number + 1) max64) q.line q.list q.text p.settings z) h.store
    in
    let g = x.does.lines in
    record {
      number = x.number ∙ i;
      text = e;
      settings = x.settings ∙ ap (settings_after q.line) h.settings;
      store = x.does.store ∙ ap (λ z. z.store) same;
      gone = h.gone ++ g.gone;
      printed =
          append_assoc h.gone g.gone r.output.bytes.items ∙ ap (λ z. h.gone ++ z) g.bytes-stand
          ∙ sym (append_assoc h.gone s.output.bytes.items here.lines)
          ∙ ap (λ z. z ++ here.lines) h.printed
          ∙ ap (λ z. p.printed ++ z.lines) same;
    }

-- BYTES COME ----------------------------------------------------------------------------------------------------------------------------
pub line_feed : (m : Room) (b : ℕ) (p : Play) → b ≡ 10 → line_ends m p ≡ byte_comes m b p
unfolding byte_comes
line_feed m b p e = rw (eq-eqb b 10 e) refl

pub byte-added : (s : Player) (b : ℕ) (line : ArrayVec ℕ) → (b ≡ 10 → ⊥) → ((p : Play) → Stands s p → line.items ≡ take 262145 (p.text ++ b ∷ []))
    → Follows (byte_comes room b) s (record { number = s.number; line = line; list = s.list; lent = s.lent; output = s.output })
unfolding byte_comes
byte-added s b line e f =
    λ p h.
    rw (ne_eqb b 10 e)
    (record {
      number = h.number;
      text = f p h;
      settings = h.settings;
      store = h.store;
      gone = h.gone;
      printed = h.printed;
    })

one-comes : (m : Room) (b : ℕ) (p : Play) → byte_comes m b p ≡ bytes_come m (b ∷ []) p
unfolding bytes_come
one-comes m b p = refl

-- one part of a script behind the other
pub bytes-come-then : (m : Room) (xs ys : List ℕ) (p : Play) → bytes_come m (xs ++ ys) p ≡ bytes_come m ys (bytes_come m xs p)
unfolding bytes_come
bytes-come-then m [] ys p = refl
bytes-come-then m (x ∷ xs) ys p = bytes-come-then m xs ys (byte_comes m x p)

pub follows_none : (s : Player) → Follows (bytes_come room []) s s
unfolding bytes_come
follows_none s = λ p h. h

-- byte i of the input
pub follows_more : (s t r : Player) (input : List ℕ) (i : ℕ) → i < length input → Follows (bytes_come room (take i input)) s t
    → Follows (byte_comes room (get_or input i 0)) t r → Follows (bytes_come room (take (i + 1) input)) s r
follows_more s t r input i l f g =
    λ p h.
    let b = get_or input i 0 in
    let q = bytes_come room (take i input) p in
    let x : byte_comes room b q ≡ bytes_come room (take (i + 1) input) p =
    rw (add-one, take-suc input i 0 l, bytes-come-then room (take i input) (b ∷ []) p) (one-comes room b q)
    in
    subst (Stands r) x (g q (f p h))

pub follows_all : (s r : Player) (input : List ℕ) (i : ℕ) → length input ≤ i → Follows (bytes_come room (take i input)) s r → Follows (bytes_come room input) s r
follows_all s r input i l f = λ p h. subst (λ (xs : List ℕ). Stands r (bytes_come room xs p)) (take_all i input l) (f p h)

-- READING ----------------------------------------------------------------------------------------------------------------------------
-- what stands in the buffer goes out
pub goes_out : (s : Player) (o : Output) (p : Play) → o.bytes.items ≡ [] → Stands s p
    → Stands (record { number = s.number; line = s.line; list = s.list; lent = s.lent; output = o }) p
goes_out s o p e h =
    record {
      number = h.number;
      text = h.text;
      settings = h.settings;
      store = h.store;
      gone = p.printed;
      printed = rw e (append-nil p.printed);
    }

module _ (s t : Player) (o : Output) (e : o.bytes.items ≡ []) where
  abbrev flushed : Player
  flushed = record { number = t.number; line = t.line; list = t.list; lent = t.lent; output = o }

  -- the end of the input ends its last line
  pub reads_end : Follows (line_ends room) s t → Reads s flushed
  unfolding bytes_come byte_comes
  reads_end f = record { script = 10 ∷ []; follows = λ p h. goes_out t o (line_ends room p) e (f p h) }

  pub reads_bytes : (input : List ℕ) → Follows (bytes_come room input) s t → Reads s flushed
  reads_bytes input f = record { script = input; follows = λ p h. goes_out t o (bytes_come room input p) e (f p h) }

pub reads_none : (s : Player) → Reads s s
reads_none s = record { script = []; follows = follows_none s }

pub reads_then : (s t r : Player) → Reads s t → Reads t r → Reads s r
reads_then s t r f g =
    record {
      script = f.script ++ g.script;
      follows =
          λ p h. subst (Stands r) (sym (bytes-come-then room f.script g.script p)) (g.follows (bytes_come room f.script p) (f.follows p h));
    }
