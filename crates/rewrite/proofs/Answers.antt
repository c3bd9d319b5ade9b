-- What `rewrite` answers, from what its calls answer. Assumes nothing.
use mathlib.Core.Path.{◌≡◌, sym, ap, ◌∙◌}
use mathlib.Core.List.{List, [], ◌∷◌}
use Prim.Native.Nat.{ℕ, suc, ◌-◌, ◌<◌, ◌≤◌}
use native.Mathlib.Omega.{arith}
use lib.Dec.{leb}
use lib.ListN.{length, replicate, length-replicate}
use borrow.Author.Tests.{le-leb, lt-leb}
use Rattle.std.specs.Prelude.{Result, Ok, Err}
use Rattle.model.specs.declared.Refusal.{Refusal}
use Rattle.model.specs.declared.Refusal.TheVariants.{WrittenLength, ImageStore}
use Rattle.model.specs.Refusals.{refusal_code}
use Rattle.model.specs.Field.{unless}
use Rattle.model.specs.Answers.{lent}
use Rattle.model.specs.Flat.{flatten_rules}
use Rattle.model.specs.Load.{image_refusal}
use Rattle.model.specs.Asked.{shown_result, declined}
use Rattle.model.specs.Tree.{tree_of, tree_size, words_of}
use Rattle.model.specs.Rewrite.{room_refusal, first_refusal, rewrite_refusal, written, rewritten}
use Rattle.model.proofs.RefusalLaws.{refusal-code-suc}
use Rattle.image.specs.Accepted.{Accepted}
use Rattle.image.proofs.Accepted as accepted-image
use Rattle.rewrite.specs.Walk.{Counted}

pub load-accepts : (img : List ℕ) → image_refusal img ≡ 0 → Accepted img
unfolding image_refusal
load-accepts img e = accepted-image.accepted img (accepted-image.tables-accepted img (flatten_rules img) e)

module _ (img : List ℕ) (room : ℕ) where
  abbrev size : ℕ
  size = tree_size (tree_of img)

  -- with this answer and these lent words
  abbrev Says : Result ℕ Refusal → List ℕ → Type 0
  Says r words = shown_result (λ n. n ∷ []) r words ≡ rewritten img room

  refuses : (r : Refusal) (words : List ℕ) → rewrite_refusal img room ≡ refusal_code r → words ≡ replicate room 0 → Says (Err r) words
  unfolding rewritten shown_result declined
  refuses r words e z =
      let s : rewrite_refusal img room ≡ suc (refusal_code r - 1) = e ∙ refusal-code-suc r in
      let a : shown_result (λ (n : ℕ). n ∷ []) (Err r) words ≡ declined room (suc (refusal_code r - 1)) =
      (λ i. record { number = refusal-code-suc r i; values = []; lent = z i }) in
      a ∙ sym (ap (λ n. written n img room) s)

  -- 10 to 17
  pub load-refuses : (r : Refusal) (words : List ℕ) → refusal_code r ≡ image_refusal img → words ≡ replicate room 0 → Says (Err r) words
  unfolding rewrite_refusal
  load-refuses r words e z =
      let s : image_refusal img ≡ suc (refusal_code r - 1) = sym e ∙ refusal-code-suc r in
      refuses r words (ap (λ n. first_refusal n (room_refusal img room)) s ∙ sym (refusal-code-suc r)) z

  room-number : image_refusal img ≡ 0 → rewrite_refusal img room ≡ room_refusal img room
  unfolding rewrite_refusal
  room-number e = ap (λ n. first_refusal n (room_refusal img room)) e

  module _ (accepted : image_refusal img ≡ 0) (n : ℕ) (counts words : List ℕ) (c : Counted img n counts) where
    pub refuses-40 : 4096 < n → words ≡ replicate room 0 → Says (Err WrittenLength) words
    unfolding room_refusal
    refuses-40 h z =
        refuses WrittenLength words (room-number accepted ∙ ap (λ b. unless b 40 (unless (leb size room) 41 0)) (lt-leb size 4096 (c.over h))) z

    small : n ≤ 4096 → room_refusal img room ≡ unless (leb size room) 41 0
    unfolding room_refusal
    small h = ap (λ b. unless b 40 (unless (leb size room) 41 0)) (le-leb size 4096 (omega (arith, h, (c.within h).0)))

    pub refuses-41 : n ≤ 4096 → room < n → words ≡ replicate room 0 → Says (Err ImageStore) words
    refuses-41 h l z =
        refuses ImageStore words (room-number accepted ∙ small h ∙ ap (λ b. unless b 41 0) (lt-leb size room (omega (arith, l, (c.within h).0)))) z

    pub writes : n ≤ 4096 → n ≤ room → words ≡ lent room (words_of (tree_of img)) → Says (Ok n) words
    unfolding rewritten shown_result
    writes h l z =
        let r : rewrite_refusal img room ≡ 0 = room-number accepted ∙ small h ∙ ap (λ b. unless b 41 0) (le-leb size room (omega (arith, l, (c.within h).0))) in
        let a : shown_result (λ (k : ℕ). k ∷ []) (Ok n) words ≡ written 0 img room =
        (λ i. record { number = 0; values = (c.within h).0 i ∷ []; lent = z i }) in
        a ∙ sym (ap (λ k. written k img room) r)

  -- what the second pass asks
  pub room-there : (n : ℕ) (counts cleared : List ℕ) → cleared ≡ replicate room 0 → Counted img n counts → n ≤ 4096 → n ≤ length cleared
      → (size ≤ 4096) × (size ≤ length cleared) × (cleared ≡ replicate (length cleared) 0)
  room-there n counts cleared clears c h l = (
    omega (arith, h, (c.within h).0),
    omega (arith, l, (c.within h).0),
    clears ∙ ap (λ k. replicate k 0) (sym (ap length clears ∙ length-replicate room 0)),
  )

  -- the lent words that are cleared
  pub lends : (cleared words ws : List ℕ) → cleared ≡ replicate room 0 → words ≡ lent (length cleared) ws → words ≡ lent room ws
  lends cleared words ws clears e = e ∙ ap (λ k. lent k ws) (ap length clears ∙ length-replicate room 0)

  pub cleared-long : (cleared : List ℕ) → cleared ≡ replicate room 0 → length cleared ≡ room
  cleared-long cleared clears = ap length clears ∙ length-replicate room 0
