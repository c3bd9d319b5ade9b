-- Lines for bad text, as their pieces. Assumes nothing.
use mathlib.Core.Path.{◌≡◌, refl, ap, ◌∙◌}
use mathlib.Core.List.{List, [], ◌∷◌, ◌++◌, append_assoc}
use Prim.Native.Nat.{ℕ}
use borrow.Author.Tests.{ne_eqb}
use Rattle.words.specs.Saturating.{max32, max64}
use Rattle.model.specs.Text.{bytes_of}
use Rattle.script.specs.Table.{Call}
use Rattle.script.specs.Script.{Wrong}
use Rattle.script.specs.Print.{numbers, call_name, of_call, over_text, wrong_text, wrong_line}

pub of-call : (call : Call) (n l : List ℕ) → n ≡ call_name call → (n ++ bytes_of ": ") ++ l ≡ of_call call l
of-call call n l e = rw e (append_assoc (call_name call) (bytes_of ": ") l)

pub of-call-more : (call : Call) (p l m : List ℕ) → p ≡ l → of_call call p ++ m ≡ of_call call (l ++ m)
of-call-more call p l m e = rw e (append_assoc (call_name call) (bytes_of ": " ++ l) m ∙ ap (λ xs. call_name call ++ xs) (append_assoc (bytes_of ": ") l m))

pub of-call-over : (call : Call) (p l : List ℕ) (n most : ℕ) → p ≡ l → n ≡ most → of_call call p ++ over_text n ≡ of_call call (l ++ over_text most)
of-call-over call p l n most e f = rw f (of-call-more call p l (over_text most) e)

pub of-call-twice : (call : Call) (l m n : List ℕ) → (of_call call l ++ m) ++ n ≡ of_call call (l ++ (m ++ n))
of-call-twice call l m n = append_assoc (of_call call l) m n ∙ of-call-more call l l (m ++ n) refl

pub over-other : (most : ℕ) → (most ≡ max64 → ⊥) → (most ≡ max32 → ⊥) → (most ≡ 1 → ⊥) → bytes_of " is over" ++ numbers (most ∷ []) ≡ over_text most
over-other most a b c = rw (ne_eqb most max64 a, ne_eqb most max32 b, ne_eqb most 1 c)

pub wrong-line : (number : ℕ) (w : Wrong)
    → (((bytes_of "line" ++ numbers (number ∷ [])) ++ bytes_of ": ") ++ wrong_text w) ++ bytes_of "\n" ≡ wrong_line number w
wrong-line number w =
    let n = numbers (number ∷ []) in
    ap (λ l. l ++ bytes_of "\n")
    (append_assoc (bytes_of "line" ++ n) (bytes_of ": ") (wrong_text w) ∙ append_assoc (bytes_of "line") n (bytes_of ": " ++ wrong_text w))
    ∙ append_assoc (bytes_of "line") (n ++ (bytes_of ": " ++ wrong_text w)) (bytes_of "\n")
