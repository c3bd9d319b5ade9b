-- Lines gathered in a buffer. Assumes nothing.
use Rattle.std.proofs.Common.{◌≡◌, ℕ, ◌+◌, get_or, add-one, List, [], ◌∷◌, ◌++◌, refl, sym, ap, ◌∙◌, append_assoc, Option, None, Some, IfSome}
use mathlib.Core.Path.{subst}
use mathlib.Core.List.{append-nil}
use Rattle.std.specs.Fmt.{WritesInCalls}
use Rattle.std.specs.List.{FoldsTo, concat}
use Rattle.script.specs.Print.{numbers}
use Rattle.play.specs.declared.output.Output.{Output}
use Rattle.play.specs.Printed.{words_at}
use Rattle.play.specs.Gathered.{Gathers}

pub gathers_none : (o : Output) → Gathers o [] o
gathers_none o = record { gone = []; bytes-stand = sym (append-nil o.bytes.items) }

-- what stands behind the same bytes
pub gathers_by : {o r : Output} {xs ys : List ℕ} → Gathers o xs r → xs ≡ ys → Gathers o ys r
gathers_by {o} {r} {xs} {ys} g e = record { gone = g.gone; bytes-stand = g.bytes-stand ∙ ap (λ (l : List ℕ). o.bytes.items ++ l) e }

pub gathers_then : {o p r : Output} {xs ys : List ℕ} → Gathers o xs p → Gathers p ys r → Gathers o (xs ++ ys) r
gathers_then {o} {p} {r} {xs} {ys} f g =
    record {
      gone = f.gone ++ g.gone;
      bytes-stand =
          append_assoc f.gone g.gone r.bytes.items ∙ ap (λ (l : List ℕ). f.gone ++ l) g.bytes-stand
          ∙ sym (append_assoc f.gone p.bytes.items ys)
          ∙ ap (λ (l : List ℕ). l ++ ys) f.bytes-stand
          ∙ append_assoc o.bytes.items xs ys;
    }

-- two pieces that make these lines
pub gathers_lines : {o p r : Output} {xs ys lines : List ℕ} → Gathers o xs p → Gathers p ys r → xs ++ ys ≡ lines → Gathers o lines r
gathers_lines f g e = gathers_by (gathers_then f g) e

-- three pieces
pub gathers_three : {o p q r : Output} {xs ys zs lines : List ℕ} → Gathers o xs p → Gathers p ys q → Gathers q zs r → xs ++ (ys ++ zs) ≡ lines → Gathers o lines r
gathers_three {xs = xs} {ys = ys} {zs = zs} f g h e = gathers_by (gathers_then (gathers_then f g) h) (append_assoc xs ys zs ∙ e)

-- all of it has gone out
pub gathers_gone : (o r : Output) (text : List ℕ) → r.bytes.items ≡ [] → Gathers o text r
gathers_gone o r text e = record { gone = o.bytes.items ++ text; bytes-stand = ap (λ (l : List ℕ). (o.bytes.items ++ text) ++ l) e ∙ append-nil (o.bytes.items ++ text) }

-- and the calls that a value's `fmt` makes
pub gathers_calls : (o r : Output) (text : List ℕ) → WritesInCalls Gathers o text r → Gathers o text r
gathers_calls o r text w = gathers_by (go o w.parts w.calls) w.whole
  where
    go : (o : Output) (parts : List (List ℕ)) → FoldsTo Gathers o parts r → Gathers o (concat parts) r
    go o [] f = subst (Gathers o []) f (gathers_none o)
    go o (x ∷ xs) f = gathers_then f.1 (go f.0 xs f.2)

-- what a value writes, if it says what
pub gathers_text : (o r : Output) (text : Option (List ℕ)) → IfSome text (λ bs. WritesInCalls Gathers o bs r) → IfSome text (λ bs. Gathers o bs r)
gathers_text o r None w = tt
gathers_text o r (Some bs) w = gathers_calls o r bs w

pub gone_text : (o r : Output) (text : Option (List ℕ)) → r.bytes.items ≡ [] → IfSome text (λ bs. Gathers o bs r)
gone_text o r None e = tt
gone_text o r (Some bs) e = gathers_gone o r bs e

-- WORDS, each behind a space -------------------------------------------------------------------------------------------------------
numbers-append : (xs ys : List ℕ) → numbers (xs ++ ys) ≡ numbers xs ++ numbers ys
numbers-append [] ys = refl
numbers-append (x ∷ xs) ys = rw (numbers-append xs ys, append_assoc)

pub words_more : (ws : List ℕ) (at i v : ℕ) → v ≡ get_or ws (at + i) 0 → numbers (words_at ws at i) ++ numbers (v ∷ []) ≡ numbers (words_at ws at (i + 1))
unfolding words_at
words_more ws at i v e = rw (add-one, ← e, numbers-append (words_at ws at i) (v ∷ [])) refl
