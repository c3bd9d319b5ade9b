-- The loaded set of a store that reads, as the code finds it: by the loaded word and the words of the image. Assumes nothing.
use mathlib.Core.Path.{◌≡◌, refl, sym, ap, ◌∙◌, subst}
use mathlib.Core.List.{List}
use Rattle.std.specs.Prelude.{Option, None, Some}
use Rattle.std.specs.Prelude.{option_map}
use Rattle.std.proofs.lemmas.Option.{none-some, same_Some}
use Prim.Native.Nat.{ℕ, ◌<◌}
use lib.ListN.{get_or, take}
use lib.Seq.{get_or-take}
use Rattle.model.specs.Rules.{rule_named}
use Rattle.model.specs.Flat.{flatten_rules, set_of}
use Rattle.model.specs.Load.{image_refusal}
use Rattle.model.specs.State.{RuleSet, Volatile, Store}
use Rattle.model.specs.Store.{read, rule_count}
use Rattle.model.specs.Calls.{kept_at, kept, rule_in}
use Rattle.image.proofs.Rules.{named_rule}
use Rattle.store.specs.Set.{loaded_in}
use Rattle.store.specs.FlatPart.{Kept}
use Rattle.store.specs.Volatile.{Readable, changing_in}
use Rattle.store.proofs.Stored.{from-read, volatile-read}
use Rattle.store.proofs.LoadedSet.{image-read, accepted-read, form-read, kept_read}
use Rattle.store.proofs.RecordRules.{found_at}

-- the set, by the words of its image
pub record LoadedImage (w img : List ℕ) (s : Store) : Type 0 where
  pub set : RuleSet
  pub is : s.loaded ≡ Some set
  pub image : set.image ≡ img
  pub passes : image_refusal img ≡ 0
  pub form : set ≡ set_of img (flatten_rules img)
  pub kept : Kept w img set

module _ (w img : List ℕ) (s : Store) (e : read w ≡ Some s) where
  abbrev loaded-by : (set : RuleSet) → s.loaded ≡ Some set → set.image ≡ img → LoadedImage w img s
  loaded-by set l q =
      let r = from-read w s e in
      record {
        set = set;
        is = l;
        image = q;
        passes = subst (λ (x : List ℕ). image_refusal x ≡ 0) q (accepted-read w s r set l);
        form = subst (λ (x : List ℕ). set ≡ set_of x (flatten_rules x)) q (form-read w s r set l);
        kept = subst (λ (x : List ℕ). Kept w x set) q (kept_read w s r set l);
      }

  -- by what a store says of its image
  pub image-given : Some img ≡ option_map (λ (set : RuleSet). set.image) s.loaded → LoadedImage w img s
  image-given h = go s.loaded refl h
    where
      go : (o : Option RuleSet) → s.loaded ≡ o → Some img ≡ option_map (λ (set : RuleSet). set.image) o → LoadedImage w img s
      go None l h = absurd (none-some img (sym h))
      go (Some set) l h = loaded-by set l (sym (same_Some img set.image h))

pub none-given : (o : Option RuleSet) → None ≡ option_map (λ (set : RuleSet). set.image) o → o ≡ None
none-given None h = refl
none-given (Some set) h = absurd (none-some set.image h)

module _ (w img : List ℕ) (s : Store) (e : read w ≡ Some s) (i : Readable w → img ≡ (loaded_in w).image) where
  abbrev pub image-of : (set : RuleSet) → s.loaded ≡ Some set → LoadedImage w img s
  image-of set l =
      let r = from-read w s e in
      loaded-by w img s e set l (sym (i r.readable ∙ image-read w s r set l))

module _ (w img : List ℕ) (s : Store) (l : LoadedImage w img s) where
  pub named-loaded : (name : ℕ) → rule_in s.loaded name ≡ rule_named img name
  named-loaded name = ap (λ (o : Option RuleSet). rule_in o name) l.is ∙ ap (λ (x : List ℕ). rule_named x name) l.image

-- WHAT A STORE KEEPS FOR A NAME -------------------------------------------------------------------------------------------------------------
kept-place : (o : Option RuleSet) (xs : List (Option ℕ)) (name : ℕ) → kept_at (rule_in o name) xs ≡ kept o xs name
kept-place None xs name = refl
kept-place (Some set) xs name = refl

inside : (o : Option RuleSet) (name i : ℕ) → rule_in o name ≡ Some i → i < rule_count o
inside None name i e = absurd (none-some i e)
inside (Some set) name i e = (named_rule set.image name i e).0

module _ (w : List ℕ) (s : Store) (e : read w ≡ Some s) (name : ℕ) (r : Option ℕ) (q : r ≡ rule_in s.loaded name) where
  module _ (i : ℕ) (n : r ≡ Some i) (x : Option ℕ) where
    kept_there : (xs : List (Option ℕ)) → get_or xs i None ≡ kept s.loaded (take (rule_count s.loaded) xs) name
    kept_there xs =
        let f = found_at (rule_in s.loaded name) r i q n in
        sym (get_or-take (rule_count s.loaded) xs i None (inside s.loaded name i f))
        ∙ sym (ap (λ (o : Option ℕ). kept_at o (take (rule_count s.loaded) xs)) f)
        ∙ kept-place s.loaded (take (rule_count s.loaded) xs) name

    pub activation-kept : x ≡ get_or (changing_in w).activations i None → x ≡ kept s.loaded s.vol.rest.last_activation name
    activation-kept a = a ∙ kept_there (changing_in w).activations ∙ ap (λ (v : Volatile). kept s.loaded v.rest.last_activation name) (volatile-read w s (from-read w s e))

    pub position-kept : x ≡ get_or (changing_in w).positions i None → x ≡ kept s.loaded s.vol.rest.cycle_pos name
    position-kept a = a ∙ kept_there (changing_in w).positions ∙ ap (λ (v : Volatile). kept s.loaded v.rest.cycle_pos name) (volatile-read w s (from-read w s e))

-- where a rule is found a set is loaded
pub set-of : (o : Option RuleSet) (rule i : ℕ) → rule_in o rule ≡ Some i → (set : RuleSet) × (o ≡ Some set)
set-of None rule i e = absurd (none-some i e)
set-of (Some set) rule i e = (set, refl)
