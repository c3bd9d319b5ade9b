-- The relation of the claim determines the flat form: a rule's list has one at most. By induction on the calls left, and below that on the records
-- left in the table: what an action holds stands behind it.
use mathlib.Core.Path.{◌≡◌, refl, sym, ◌∙◌, ap, ap₂, subst}
use Prim.Native.Nat.{ℕ, zero, suc, ◌+◌, ◌-◌}
use native.Mathlib.Omega.{arith}
use mathlib.Core.Bool.{Bool, true, false, false≢true}
use mathlib.Core.List.{List, [], ◌∷◌, ◌++◌, map}
use Rattle.std.specs.Prelude.{Option, None, Some}
use lib.ListN.{length, take, drop}
use Rattle.model.specs.Lists.{up_from}
use Rattle.model.specs.Rows.{rules, actions, blocks}
use Rattle.model.specs.Image.{word_at, table_of, call_depth}
use Rattle.model.specs.declared.Record.{Record}
use Rattle.model.specs.declared.FlowAction.{FlowAction}
use Rattle.model.specs.declared.FlowAction.TheVariants.{Wait as WaitAction, After as AfterAction, Call, Repeat, Conditional, Plain}
use Rattle.model.specs.declared.Step.{Step}
use Rattle.model.specs.declared.Step.TheVariants.{Primitive, Wait, Branch, After, Fail}
use Rattle.model.specs.Steps.{FlatStep, plain, steps_of}
use Rattle.model.specs.Flat.{block_named}
use Rattle.ledger.specs.FlatForm.{flow_at, records, listed, nested, Context, outermost, inside_after, inside_repeat, inside_conditional, inside_call, refuses_repeat, Copies, no_copy, copy, too_long, ListForm, at-end, action, cut_off, ActionForm, is_plain, is-wait, is-after, after-in-after, is_call, call-past-limit, call-unknown, is-repeat, repeat-refused, is-branch, branch-in-branch, RuleForm}
use Rattle.ledger.proofs.Consequences.{steps-plain}

copies-once : {xs ys zs : List FlatStep} {t n : ℕ} → Copies xs t n ys → Copies xs t n zs → ys ≡ zs
copies-once no_copy no_copy = refl
copies-once {xs = xs} (copy e c) (copy f d) = ap (λ (ws : List FlatStep). xs ++ ws) (copies-once c d)
copies-once (copy e c) (too_long f) = absurd (false≢true (sym f ∙ e))
copies-once (too_long e) (copy f d) = absurd (false≢true (sym e ∙ f))
copies-once (too_long e) (too_long f) = refl

-- a body is read off its steps
plain-once : (xs ys : List Step) → map plain xs ≡ map plain ys → xs ≡ ys
plain-once xs ys e = sym (steps-plain xs) ∙ ap steps_of e ∙ steps-plain ys

module _ (img : List ℕ) where
  -- the one form that an action can have, read off the action and its context
  module _ (p : Context) (n i : ℕ) where
    abbrev AfterForm : ℕ → ℕ → ℕ → Bool → List FlatStep → Type 0
    AfterForm ms f k true ys = plain Fail ∷ [] ≡ ys
    AfterForm ms f k false ys =
        (xs : List Step) × ListForm img (inside_after p) 0 (nested img i f k) (map plain xs) × record { step = After ms; body = xs } ∷ [] ≡ ys

    abbrev CallForm : ℕ → Option Record → List FlatStep → Type 0
    CallForm zero o ys = plain Fail ∷ [] ≡ ys
    CallForm (suc d) None ys = plain Fail ∷ [] ≡ ys
    CallForm (suc d) (Some r) ys = ListForm img (inside_call d p) n (listed img r.a r.b) ys

    abbrev RepeatForm : ℕ → ℕ → ℕ → Bool → List FlatStep → Type 0
    RepeatForm t f k true ys = plain Fail ∷ [] ≡ ys
    RepeatForm t f k false ys = (xs : List FlatStep) × ListForm img (inside_repeat p) 0 (nested img i f k) xs × Copies xs t n ys

    abbrev BranchForm : ℕ → ℕ → ℕ → ℕ → ℕ → Bool → List FlatStep → Type 0
    BranchForm q yf yk ef ek true ys = plain Fail ∷ [] ≡ ys
    BranchForm q yf yk ef ek false ys =
        (xs : List FlatStep) × (es : List FlatStep) × ListForm img (inside_conditional p) (suc n) (nested img i yf yk) xs
        × ListForm img (inside_conditional p) (suc n + length xs) (nested img i ef ek) es × plain (Branch q (length xs) (length es)) ∷ (xs ++ es) ≡ ys

    abbrev OneForm : FlowAction → List FlatStep → Type 0
    OneForm Plain ys = plain (Primitive i) ∷ [] ≡ ys
    OneForm (WaitAction ms) ys = plain (Wait ms) ∷ [] ≡ ys
    OneForm (AfterAction ms f k) ys = AfterForm ms f k p.in_after ys
    OneForm (Call b) ys = CallForm p.calls (block_named (table_of img actions) (table_of img blocks) b) ys
    OneForm (Repeat t f k) ys = RepeatForm t f k (refuses_repeat img p t) ys
    OneForm (Conditional q yf yk ef ek) ys = BranchForm q yf yk ef ek p.in_conditional ys

  abbrev named : ℕ → Option Record
  named b = block_named (table_of img actions) (table_of img blocks) b

  one_form : {p : Context} {n i : ℕ} {ys : List FlatStep} → ActionForm img p n i ys → OneForm p n i (flow_at img i) ys
  one_form {p} {n} {i} {ys} (is_plain e) = subst (λ a. OneForm p n i a ys) (sym e) refl
  one_form {p} {n} {i} {ys} (is-wait e) = subst (λ a. OneForm p n i a ys) (sym e) refl
  one_form {p} {n} {i} {ys} (is-after {ms = ms} {f = f} {k = k} {xs = xs} e q h) =
      subst (λ a. OneForm p n i a ys) (sym e) (subst (λ b. AfterForm p n i ms f k b ys) (sym q) (xs, h, refl))
  one_form {p} {n} {i} {ys} (after-in-after {ms = ms} {f = f} {k = k} e q) =
      subst (λ a. OneForm p n i a ys) (sym e) (subst (λ b. AfterForm p n i ms f k b ys) (sym q) refl)
  one_form {p} {n} {i} {ys} (is_call {b = b} {d = d} e q g h) =
      subst (λ a. OneForm p n i a ys) (sym e) (subst (λ d. CallForm p n i d (named b) ys) (sym q) (subst (λ o. CallForm p n i (suc d) o ys) (sym g) h))
  one_form {p} {n} {i} {ys} (call-past-limit {b = b} e q) =
      subst (λ a. OneForm p n i a ys) (sym e) (subst (λ d. CallForm p n i d (named b) ys) (sym q) refl)
  one_form {p} {n} {i} {ys} (call-unknown {b = b} {d = d} e q g) =
      subst (λ a. OneForm p n i a ys) (sym e) (subst (λ d. CallForm p n i d (named b) ys) (sym q) (subst (λ o. CallForm p n i (suc d) o ys) (sym g) refl))
  one_form {p} {n} {i} {ys} (is-repeat {t = t} {f = f} {k = k} {xs = xs} e q h c) =
      subst (λ a. OneForm p n i a ys) (sym e) (subst (λ b. RepeatForm p n i t f k b ys) (sym q) (xs, h, c))
  one_form {p} {n} {i} {ys} (repeat-refused {t = t} {f = f} {k = k} e q) =
      subst (λ a. OneForm p n i a ys) (sym e) (subst (λ b. RepeatForm p n i t f k b ys) (sym q) refl)
  one_form {p} {n} {i} {ys} (is-branch {q = w} {yf = yf} {yk = yk} {ef = ef} {ek = ek} {ys = xs} {es = es} e q h g) =
      subst (λ a. OneForm p n i a ys) (sym e) (subst (λ b. BranchForm p n i w yf yk ef ek b ys) (sym q) (xs, es, h, g, refl))
  one_form {p} {n} {i} {ys} (branch-in-branch {q = w} {yf = yf} {yk = yk} {ef = ef} {ek = ek} e q) =
      subst (λ a. OneForm p n i a ys) (sym e) (subst (λ b. BranchForm p n i w yf yk ef ek b ys) (sym q) refl)

  -- with d calls left, each of these has one form at most
  abbrev AllOnce : ℕ → List ℕ → Type 0
  AllOnce d [] = Unit {0}
  AllOnce d (i ∷ is) =
      ((p : Context) (n : ℕ) → p.calls ≡ d → (xs ys : List FlatStep) → ActionForm img p n i xs → ActionForm img p n i ys → xs ≡ ys) × AllOnce d is

  once-take : (d k : ℕ) (is : List ℕ) → AllOnce d is → AllOnce d (take k is)
  once-take d zero is h = tt
  once-take d (suc k) [] h = tt
  once-take d (suc k) (i ∷ is) h = (h.0, once-take d k is h.1)

  once-drop : (d k : ℕ) (is : List ℕ) → AllOnce d is → AllOnce d (drop k is)
  once-drop d zero is h = h
  once-drop d (suc k) [] h = tt
  once-drop d (suc k) (i ∷ is) h = once-drop d k is h.1

  list-once : (d : ℕ) (is : List ℕ) → AllOnce d is → (p : Context) (n : ℕ) → p.calls ≡ d → (xs ys : List FlatStep) → ListForm img p n is xs → ListForm img p n is ys → xs ≡ ys
  list-once d [] h p n e xs ys at-end at-end = refl
  list-once d (i ∷ is) h p n e xs ys (cut_off u) (cut_off v) = refl
  list-once d (i ∷ is) h p n e xs ys (cut_off u) (action v b g) = absurd (false≢true (sym v ∙ u))
  list-once d (i ∷ is) h p n e xs ys (action u a f) (cut_off v) = absurd (false≢true (sym u ∙ v))
  list-once d (i ∷ is) h p n e xs ys (action u a f) (action {ys = zs} v b g) =
      let s = h.0 p n e _ _ a b in
      let r = list-once d is h.1 p _ e _ zs f (subst (λ (q : List FlatStep). ListForm img p (n + length q) is zs) (sym s) g) in
      ap₂ (λ (x y : List FlatStep). x ++ y) s r

  -- what a call can reach, with d calls left
  abbrev CallsOnce : ℕ → Type 0
  CallsOnce zero = Unit {0}
  CallsOnce (suc d) = AllOnce d (up_from 0 (records img))

  part-once : (d f k : ℕ) (is : List ℕ) → AllOnce d is → (p : Context) (n : ℕ) → p.calls ≡ d → (xs ys : List FlatStep)
      → ListForm img p n (take k (drop f is)) xs → ListForm img p n (take k (drop f is)) ys → xs ≡ ys
  part-once d f k is h = list-once d (take k (drop f is)) (once-take d k (drop f is) (once-drop d f is h))

  module _ (d i : ℕ) (behind : AllOnce d (up_from (suc i) (records img - suc i))) (calls : CallsOnce d) where
    inner : (f k : ℕ) (p : Context) (n : ℕ) → p.calls ≡ d → (xs ys : List FlatStep) → ListForm img p n (nested img i f k) xs → ListForm img p n (nested img i f k) ys → xs ≡ ys
    inner f k = part-once d (f - suc i) k (up_from (suc i) (records img - suc i)) behind

    the_form : (p : Context) (n : ℕ) (xs ys : List FlatStep) → p.calls ≡ d → ActionForm img p n i xs → OneForm p n i (flow_at img i) ys → xs ≡ ys
    the_form p n xs ys c (is_plain e) o = subst (λ a. OneForm p n i a ys) e o
    the_form p n xs ys c (is-wait e) o = subst (λ a. OneForm p n i a ys) e o
    the_form p n xs ys c (is-after {ms = ms} {f = f} {k = j} {xs = zs} e q h) o =
        let w = subst (λ b. AfterForm p n i ms f j b ys) q (subst (λ a. OneForm p n i a ys) e o) in
        let s = plain-once zs w.0 (inner f j (inside_after p) 0 c _ _ h w.1) in
        ap (λ (x : List Step). record { step = After ms; body = x } ∷ []) s ∙ w.2
    the_form p n xs ys c (after-in-after {ms = ms} {f = f} {k = j} e q) o = subst (λ b. AfterForm p n i ms f j b ys) q (subst (λ a. OneForm p n i a ys) e o)
    the_form p n xs ys c (is_call {b = b} {d = r} {r = block} e q g h) o =
        part-once r block.a block.b (up_from 0 (records img)) (subst CallsOnce (sym c ∙ q) calls) (inside_call r p) n refl _ ys h
        (subst (λ m. CallForm p n i (suc r) m ys) g (subst (λ m. CallForm p n i m (named b) ys) q (subst (λ a. OneForm p n i a ys) e o)))
    the_form p n xs ys c (call-past-limit {b = b} e q) o = subst (λ m. CallForm p n i m (named b) ys) q (subst (λ a. OneForm p n i a ys) e o)
    the_form p n xs ys c (call-unknown {b = b} {d = r} e q g) o =
        subst (λ m. CallForm p n i (suc r) m ys) g (subst (λ m. CallForm p n i m (named b) ys) q (subst (λ a. OneForm p n i a ys) e o))
    the_form p n xs ys c (is-repeat {t = t} {f = f} {k = j} e q h w) o =
        let v = subst (λ b. RepeatForm p n i t f j b ys) q (subst (λ a. OneForm p n i a ys) e o) in
        copies-once w (subst (λ (x : List FlatStep). Copies x t n ys) (sym (inner f j (inside_repeat p) 0 c _ v.0 h v.1)) v.2)
    the_form p n xs ys c (repeat-refused {t = t} {f = f} {k = j} e q) o = subst (λ b. RepeatForm p n i t f j b ys) q (subst (λ a. OneForm p n i a ys) e o)
    the_form p n xs ys c (is-branch {q = w} {yf = yf} {yk = yk} {ef = ef} {ek = ek} e q h g) o =
        let v = subst (λ b. BranchForm p n i w yf yk ef ek b ys) q (subst (λ a. OneForm p n i a ys) e o) in
        let s = inner yf yk (inside_conditional p) (suc n) c _ v.0 h v.2 in
        let behindThen = subst (λ (x : List FlatStep). ListForm img (inside_conditional p) (suc n + length x) (nested img i ef ek) v.1) (sym s) v.3 in
        let r = inner ef ek (inside_conditional p) _ c _ v.1 g behindThen in
        ap₂ (λ (x y : List FlatStep). plain (Branch w (length x) (length y)) ∷ (x ++ y)) s r ∙ v.4
    the_form p n xs ys c (branch-in-branch {q = w} {yf = yf} {yk = yk} {ef = ef} {ek = ek} e q) o =
        subst (λ b. BranchForm p n i w yf yk ef ek b ys) q (subst (λ a. OneForm p n i a ys) e o)

  once-from : (d : ℕ) → CallsOnce d → (k i : ℕ) → i + k ≡ records img → AllOnce d (up_from i k)
  once-from d calls zero i e = tt
  once-from d calls (suc k) i e =
      let rest = once-from d calls k (suc i) (omega arith) in
      let n : k ≡ records img - suc i = omega arith in
      (λ p m c xs ys a b. the_form d i (subst (λ q. AllOnce d (up_from (suc i) q)) n rest) calls p m xs ys c a (one_form b), rest)

  calls-once : (d : ℕ) → CallsOnce d
  calls-once zero = tt
  calls-once (suc d) = once-from d (calls-once d) (records img) 0 (omega arith)

  -- rule i has one flat form at most
  pub rule-once : (i : ℕ) {xs ys : List FlatStep} → RuleForm img i xs → RuleForm img i ys → xs ≡ ys
  rule-once i {xs} {ys} h g =
      part-once (call_depth img) (word_at img rules i 8) (word_at img rules i 9) (up_from 0 (records img)) (calls-once (suc (call_depth img))) (outermost img) 0 refl xs ys h g
