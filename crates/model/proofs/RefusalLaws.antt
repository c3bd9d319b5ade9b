-- The number of a refusal is not 0, the number of none. Assumes nothing.
use mathlib.Core.Path.{◌≡◌, refl}
use mathlib.Core.Bool.{true, false}
use Rattle.std.specs.Prelude.{Result, Ok, Err}
use Rattle.std.specs.Result.{is_err}
use Prim.Native.Nat.{suc, ◌-◌}
use native.Mathlib.Omega.{arith}
use Rattle.model.specs.declared.Refusal.{Refusal}
use Rattle.model.specs.declared.Refusal.TheVariants.{StoreLength, StoreRule, ImageLength, LimitRange, TablePlace, FieldRange, ListRange, RuleName, FlatSteps, TooMany, SnapshotLength, SnapshotRange, RowAddress, LentStores, SequenceNumber, ActivationNumber, WrittenLength, ImageStore, LineForm, DayOrMonth, TriggerStore, EffectWords, TelegramStore, ActionWords, ActionRecord, ListNumber}
use Rattle.model.specs.Refusals.{refusal_code, refusal_number}

pub refusal-code-suc : (r : Refusal) → refusal_code r ≡ suc (refusal_code r - 1)
refusal-code-suc StoreLength = refl
refusal-code-suc StoreRule = refl
refusal-code-suc ImageLength = refl
refusal-code-suc LimitRange = refl
refusal-code-suc TablePlace = refl
refusal-code-suc FieldRange = refl
refusal-code-suc ListRange = refl
refusal-code-suc RuleName = refl
refusal-code-suc FlatSteps = refl
refusal-code-suc TooMany = refl
refusal-code-suc SnapshotLength = refl
refusal-code-suc SnapshotRange = refl
refusal-code-suc RowAddress = refl
refusal-code-suc LentStores = refl
refusal-code-suc SequenceNumber = refl
refusal-code-suc ActivationNumber = refl
refusal-code-suc WrittenLength = refl
refusal-code-suc ImageStore = refl
refusal-code-suc LineForm = refl
refusal-code-suc DayOrMonth = refl
refusal-code-suc TriggerStore = refl
refusal-code-suc EffectWords = refl
refusal-code-suc TelegramStore = refl
refusal-code-suc ActionWords = refl
refusal-code-suc ActionRecord = refl
refusal-code-suc ListNumber = refl

pub refusal-some : (r : Refusal) → refusal_code r ≡ 0 → ⊥
refusal-some r e = omega (arith, refusal-code-suc r)

-- an answer that is no error has number 0, one that is has another
pub zero-of : {A : Type 0} (r : Result A Refusal) → is_err r ≡ false → refusal_number r ≡ 0
zero-of (Ok a) e = refl
zero-of (Err refusal) e = cc

pub above-zero : {A : Type 0} (r : Result A Refusal) → is_err r ≡ true → refusal_number r ≡ 0 → ⊥
above-zero (Ok a) e z = cc
above-zero (Err refusal) e z = refusal-some refusal z
