-- Demand 3 holds of the specification: of every store that keeps the store rules, and every list of calls.
use mathlib.Core.Path.{◌≡◌, sym, ◌∙◌, subst}
use mathlib.Core.Bool.{true, false}
use mathlib.Core.List.{List, [], ◌∷◌, ◌++◌}
use Rattle.std.specs.Prelude.{Option, None, Some}
use Rattle.std.proofs.lemmas.Option.{none-some, same_Some}
use Rattle.model.specs.Lists.{all}
use Rattle.model.specs.State.{Store, RuleSet}
use Rattle.model.specs.Outcome.{defers, paid}
use Rattle.model.specs.Calls.{Call, call}
use Rattle.model.specs.Store.{FlatFormOf, Keeps}
use Rattle.ledger.specs.Ledger.{start_ledger, notices, final_store}
use Rattle.ledger.specs.Trace.{Conforms}
use Rattle.ledger.specs.Sets.{set_after}
use Rattle.ledger.specs.FlatForm.{FlatForm}
use Rattle.ledger.specs.Demand3.{in_words, Demand3}
use Rattle.ledger.proofs.ListLaws.{and_l, and_r}
use Rattle.ledger.proofs.History.{ledger-follows, tells-dropped, numbers-alike, numbers-shown}
use Rattle.ledger.proofs.EffectBound.{effects-bounded}
use Rattle.ledger.proofs.Resumptions.{dropped, accepted, resumes-once, start-once, all-leave}
use Rattle.ledger.proofs.CallTrace.{call-conforms}
use Rattle.ledger.proofs.Shown.{shown-bounded}
use Rattle.ledger.proofs.Sets.{set_after_lem}
use Rattle.ledger.proofs.FlatForms.{flat-form}
use Rattle.ledger.proofs.Room.{all-front}
use Rattle.ledger.proofs.DryRuns.{dry-run}
use Rattle.ledger.proofs.KeepsParts.{of-keeps}
use Rattle.ledger.proofs.CallRules.{sound, call-keeps}

-- the store rules hold after every call
pub keeps-after : (s : Store) → Keeps s → (cs : List Call) → all in_words cs ≡ true → Keeps (final_store s cs)
unfolding final_store
keeps-after s k [] w = k
keeps-after s k (c ∷ cs) w = keeps-after (call c s).store (call-keeps c s (and_l (in_words c) _ w) k) cs (and_r (in_words c) _ w)

-- a set that the calls leave is in its flat form
form_of : (o : Option RuleSet) (set : RuleSet) → FlatFormOf o → o ≡ Some set → FlatForm set
form_of None set h e = absurd (none-some set e)
form_of (Some s) set h e = subst FlatForm (same_Some s set e) (subst FlatForm (sym h) (flat-form s.image))

set-flat : (s : Store) → Keeps s → (xs ys : List Call) (set : RuleSet) → all in_words (xs ++ ys) ≡ true → set_after s.loaded (notices s xs) ≡ Some set → FlatForm set
set-flat s k xs ys set w e = form_of (final_store s xs).loaded set (keeps-after s k xs (all-front in_words xs ys w)).flat (set_after_lem s xs ∙ e)

pub demand3 : (s : Store) → Keeps s → (cs : List Call) → all in_words cs ≡ true → Demand3 s cs
demand3 s k cs w =
    let g = sound s (of-keeps s k) in
    record {
      resumed = (ledger-follows s g cs).0;
      pending = (ledger-follows s g cs).1;
      bounded = effects-bounded s g cs;
      shown-bounded = shown-bounded s g cs;
      drops = λ before behind x d ms sp effect here. tells-dropped s g cs before behind (paid x (defers d ms sp) effect) here;
      dropped = λ before behind x ms sp effect here.
          dropped s g cs before behind x true ms sp effect here (sym (tells-dropped s g cs before behind (paid x (defers true ms sp) effect) here));
      accepted = λ before behind x ms sp effect here.
          accepted s g cs before behind x false ms sp effect here (sym (tells-dropped s g cs before behind (paid x (defers false ms sp) effect) here));
      once = λ before behind x ms sp effect here.
          resumes-once s g cs before behind x false ms sp effect here (sym (tells-dropped s g cs before behind (paid x (defers false ms sp) effect) here));
      once-from-start = λ xs c ys e. start-once s g cs xs c ys e;
      all-leaving = all-leave (notices s cs) (start_ledger s);
      conforms = λ xs ys c e. subst (λ o. Conforms c o (call c (final_store s xs))) (set_after_lem s xs) (call-conforms c (final_store s xs));
      flat = λ xs ys set e f. set-flat s k xs ys set (subst (λ ds. all in_words ds ≡ true) e w) f;
      dry = λ xs ys r snap os es e. dry-run r snap os es (final_store s xs);
      numbered = λ xs ys c e n. numbers-alike s g xs c n;
      numbers = λ xs ys c e. numbers-shown s g xs c;
      loaded = set_after_lem s cs;
      keeps = keeps-after s k cs w;
    }
