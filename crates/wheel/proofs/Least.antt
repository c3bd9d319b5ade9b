-- The least of some times, and of several lists of them. Assumes nothing.
use mathlib.Core.Path.{◌≡◌, refl, sym, ap, ◌∙◌}
use mathlib.Core.Bool.{Bool, true, false, cond}
use mathlib.Core.List.{List, [], ◌∷◌, ◌++◌, map, append_assoc, append-nil}
use Rattle.std.specs.Prelude.{Option, None, Some}
use Rattle.std.specs.Bool.{then_some}
use Rattle.std.specs.List.{reduce, fold, flat_map}
use Rattle.std.specs.Option.{option_to_list}
use Prim.Native.Nat.{ℕ, min}
use native.Mathlib.Omega.{arith}
use Rattle.model.specs.Steps.{FlatStep}
use Rattle.model.specs.Wheel.{least, least_of, wall_poll, next_deadline}
use Rattle.model.specs.declared.EverySlot.{EverySlot}
use Rattle.model.specs.declared.NamedTimer.{NamedTimer}
use Rattle.model.specs.declared.Pending.{Pending}
use Rattle.state.specs.Meaning.{meaning}
use Rattle.state.specs.Pending.{due_times}
use Rattle.wheel.specs.Deadline.{store_of, Poll}

-- THE LEAST ------------------------------------------------------------------------------------------------------------------------------
two : (x y : ℕ) (o : Option ℕ) → least_of x (least_of y o) ≡ least_of (min x y) o
two x y None = refl
two x y (Some z) = let e : min x (min y z) ≡ min (min x y) z = omega arith in ap Some e

folded : (x : ℕ) (xs : List ℕ) → Some (fold min x xs) ≡ least (x ∷ xs)
folded x [] = refl
folded x (y ∷ xs) = folded (min x y) xs ∙ sym (two x y (least xs))

pub reduced : (xs : List ℕ) → reduce min xs ≡ least xs
reduced [] = refl
reduced (x ∷ xs) = folded x xs

-- a second from the last call where there is a wall schedule
pub polled : (b : Bool) (x : ℕ) → then_some b x ≡ least (cond b (x ∷ []) [])
polled true x = refl
polled false x = refl

-- a list behind one whose least is known
behind : (zs xs ys : List ℕ) → least xs ≡ least ys → least (zs ++ xs) ≡ least (zs ++ ys)
behind [] xs ys e = e
behind (z ∷ zs) xs ys e = ap (least_of z) (behind zs xs ys e)

in_front : (x : ℕ) (o : Option ℕ) (ys : List ℕ) → least (option_to_list (least_of x o) ++ ys) ≡ least_of x (least (option_to_list o ++ ys))
in_front x None ys = refl
in_front x (Some y) ys = sym (two x y (least ys))

known : (xs ys : List ℕ) → least (option_to_list (least xs) ++ ys) ≡ least (xs ++ ys)
known [] ys = refl
known (x ∷ xs) ys = in_front x (least xs) ys ∙ ap (least_of x) (known xs ys)

-- the least of four lists, by that of each
pub of-four : (a b c d : List ℕ) → reduce min (flat_map option_to_list (least a ∷ least b ∷ least c ∷ least d ∷ [])) ≡ least (((a ++ b) ++ c) ++ d)
of-four a b c d =
    let o = option_to_list (least d) ++ [] in
    let e : least o ≡ least d = known d [] ∙ ap least (append-nil d) in
    let f : least (option_to_list (least c) ++ o) ≡ least (c ++ d) = known c o ∙ behind c _ _ e in
    let g : least (option_to_list (least b) ++ (option_to_list (least c) ++ o)) ≡ least (b ++ (c ++ d)) = known b (option_to_list (least c) ++ o) ∙ behind b _ _ f in
    reduced (flat_map option_to_list (least a ∷ least b ∷ least c ∷ least d ∷ []))
    ∙ known a (option_to_list (least b) ++ (option_to_list (least c) ++ o)) ∙ behind a _ _ g
    ∙ ap least (sym (append_assoc (a ++ b) c d ∙ append_assoc a b (c ++ d)))

module _ (w : List ℕ) where
  pub next-is :
      (image : Option (List ℕ)) (last : ℕ) (poll slot timer pending : Option ℕ) → Poll image w last poll → slot ≡ reduce min (map (λ (x : EverySlot). x.due) (meaning w).rest.every)
      → timer ≡ reduce min (map (λ (x : NamedTimer). x.due) (meaning w).rest.timers) → pending ≡ reduce min (due_times (meaning w).pending)
      → (flat : List (List FlatStep)) → reduce min (flat_map option_to_list (pending ∷ timer ∷ slot ∷ poll ∷ [])) ≡ next_deadline (store_of image flat w last)
  unfolding next_deadline
  next-is image last poll slot timer pending a b c d flat =
      let store = store_of image flat w last in
      let ps = map (λ (x : Pending). x.due) (meaning w).pending in
      let ts = map (λ (x : NamedTimer). x.due) (meaning w).rest.timers in
      let xs = map (λ (x : EverySlot). x.due) (meaning w).rest.every in
      let p = wall_poll store store.loaded in
      let b' : slot ≡ least xs = b ∙ reduced xs in
      let c' : timer ≡ least ts = c ∙ reduced ts in
      let d' : pending ≡ least ps = d ∙ reduced ps in
      rw (b', c', d', a flat) (of-four ps ts xs p)
