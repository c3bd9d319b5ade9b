-- The numbers of refusals: document 01, "Who can cause a refusal", and the change requests 2, 10, 11 and 13. 0 is none.
use Rattle.std.specs.Prelude.{ℕ, Result, Ok, Err}
pub use Rattle.model.specs.declared.Refusal.{Refusal}
pub use Rattle.model.specs.declared.Refusal.TheVariants.{StoreLength, StoreRule, ImageLength, LimitRange, TablePlace, FieldRange, ListRange, RuleName, FlatSteps, TooMany, SnapshotLength, SnapshotRange, RowAddress, LentStores, SequenceNumber, ActivationNumber, WrittenLength, ImageStore, LineForm, DayOrMonth, TriggerStore, EffectWords, TelegramStore, ActionWords, ActionRecord, ListNumber}

abbrev pub refusal_code : Refusal → ℕ
refusal_code StoreLength = 1
refusal_code StoreRule = 2
refusal_code ImageLength = 10
refusal_code LimitRange = 11
refusal_code TablePlace = 12
refusal_code FieldRange = 13
refusal_code ListRange = 14
refusal_code RuleName = 15
refusal_code FlatSteps = 16
refusal_code TooMany = 17
refusal_code SnapshotLength = 20
refusal_code SnapshotRange = 21
refusal_code RowAddress = 22
refusal_code LentStores = 30
refusal_code SequenceNumber = 31
refusal_code ActivationNumber = 32
refusal_code WrittenLength = 40
refusal_code ImageStore = 41
refusal_code LineForm = 50
refusal_code DayOrMonth = 51
refusal_code TriggerStore = 52
refusal_code EffectWords = 60
refusal_code TelegramStore = 61
refusal_code ActionWords = 70
refusal_code ActionRecord = 71
refusal_code ListNumber = 72

-- the number that a call answers: 0 where it is not refused
abbrev pub refusal_number : {A : Type 0} → Result A Refusal → ℕ
refusal_number (Ok a) = 0
refusal_number (Err r) = refusal_code r
