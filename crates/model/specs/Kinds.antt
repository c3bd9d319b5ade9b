-- The numbers of the kinds of effects and of triggers: document 01, "Outcomes and effects".
use Rattle.std.specs.Prelude.{ℕ}
use Rattle.model.specs.declared.EffectKind.{EffectKind}
use Rattle.model.specs.declared.EffectKind.TheVariants.{Light, SceneRecall, SceneApply, HclResume, HclHold, HclSchedule, InputFeedback, PanelSelect, CancelHold, CatchMovement, MqttPublish, Log, Level}
use Rattle.model.specs.declared.TriggerKind.{TriggerKind}
use Rattle.model.specs.declared.TriggerKind.TheVariants.{HttpTrigger, TimerFires, Every, AtTime, AtSolar}

abbrev pub kind_number : EffectKind → ℕ
kind_number Light = 0
kind_number SceneRecall = 1
kind_number SceneApply = 2
kind_number HclResume = 3
kind_number HclHold = 4
kind_number HclSchedule = 5
kind_number InputFeedback = 6
kind_number PanelSelect = 7
kind_number CancelHold = 8
kind_number CatchMovement = 9
kind_number MqttPublish = 10
kind_number Log = 11
kind_number Level = 12

abbrev pub trigger_number : TriggerKind → ℕ
trigger_number HttpTrigger = 0
trigger_number TimerFires = 1
trigger_number Every = 2
trigger_number AtTime = 3
trigger_number AtSolar = 4
