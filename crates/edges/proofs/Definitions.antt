-- One name that opens every definition of the specification: `unfolding definitions` in a check by `refl`.
use Prim.Native.Nat.{ℕ}
use Rattle.words.specs.Saturating as saturating
use Rattle.words.specs.Pairs as pairs
use Rattle.words.specs.Signed as signed
use Rattle.words.specs.Solar as solar
use Rattle.curve.specs.Curve as curve
use Rattle.model.specs.Lists as lists
use Rattle.model.specs.Arith as arith
use Rattle.model.specs.Field as field
use Rattle.model.specs.Rows as rows
use Rattle.model.specs.Image as image
use Rattle.model.specs.Rules as rules
use Rattle.model.specs.Steps as steps
use Rattle.model.specs.World as world
use Rattle.model.specs.Snapshot as snapshot
use Rattle.model.specs.State as state
use Rattle.model.specs.Flat as flat
use Rattle.model.specs.Load as load
use Rattle.model.specs.Slots as slots
use Rattle.model.specs.Layout as layout
use Rattle.model.specs.Codec as codec
use Rattle.model.specs.Parts as parts
use Rattle.model.specs.Store as store
use Rattle.model.specs.Eval as eval
use Rattle.model.specs.Actions as actions
use Rattle.model.specs.Exec as exec
use Rattle.model.specs.Dry as dry
use Rattle.model.specs.Activate as activate
use Rattle.model.specs.Wheel as wheel
use Rattle.model.specs.Calls as calls
use Rattle.model.specs.Answers as answers
use Rattle.model.specs.OnWords as onWords

unfoldable pub definitions : ℕ
unfolding saturating.saturating_add saturating.saturating_sub pairs.joined pairs.low_of pairs.high_of signed.clamped solar.solar_time curve.curve curve.distances curve.nearest curve.level_of lists.every lists.total arith.compare_i64 arith.has_day field.fits rows.field_of image.width_of image.image_sized image.trailer image.limits_fit image.first_of image.places_fit image.size_of image.table_of image.word_at image.leads image.tables_pass image.names_differ image.few_enough rules.action_of rules.flow_of rules.condition_of rules.reading_of rules.value_of rules.bound_of rules.trigger_of rules.triggers_of rules.conditions_of_rule rules.rule_named rules.name_order steps.arrive world.now_of world.world_of world.lamp world.group world.device world.input world.hcl_target snapshot.start_of snapshot.snapshot_sized snapshot.header_fits snapshot.cell_at snapshot.snapshot_refusal state.bump_by state.is_enabled state.last_activation_at state.cycle_pos_at state.timer_named state.cancel_timer state.var_named state.is_full state.strike flat.block_named flat.flatten_call flat.flattenings flat.flatten_rule flat.flatten_rules flat.too_many_steps flat.set_of flat.list_in flat.step_at load.tables_refusal load.image_refusal_with load.image_refusal slots.slots_from slots.rebuild_every layout.zeros layout.row_fits layout.rows_fit layout.sizes layout.parts_fit codec.rows_at codec.words_of codec.all_good codec.decode parts.loaded_part parts.changing_part parts.layout store.point_fits store.pending_fits store.rules_hold store.parts_of store.store_in store.words_hold store.parts_fit store.read store.write eval.solar_time_of eval.solar_of eval.minute_in_range eval.compare_text eval.sun_is_up eval.eval_reading eval.eval_value eval.resolve_time_bound eval.last_fired_older eval.eval_condition eval.conditions_hold actions.fails actions.prim_light actions.prim_recall actions.prim_apply actions.cycle_effect actions.prim_cycle actions.arm_timer actions.var_set actions.prim_var_set actions.run_prim exec.dropped exec.accepted exec.schedule exec.after_prim exec.run_branch exec.exec exec.continue_run exec.with_step exec.run_steps dry.next_step dry.dry_branch dry.dry_step dry.dry_turn dry.run_steps_dry activate.outcome activate.job_of activate.numbered activate.in_cooldown activate.decide activate.finish_wet activate.execute_wet activate.execute_dry activate.activate activate.resume wheel.due_now wheel.not_due wheel.resume_all wheel.fire_continuations wheel.activate_if_enabled wheel.activate_each wheel.due_timers wheel.rules_on_timer wheel.timers_due wheel.every_due wheel.week_minute wheel.cyclic_dist wheel.in_window wheel.minute_due wheel.solar_due wheel.due_wall_kind wheel.fire_due_wall_rules wheel.has_wall_triggers wheel.fire_window wheel.make_up wheel.is_set_back wheel.fire_wall_schedules wheel.fire_timers wheel.fire_every wheel.service_tick wheel.next_deadline calls.fresh calls.blank calls.rest_with calls.rest_without calls.call_load calls.call_unload calls.call_enable calls.overflow calls.committed calls.tick_with calls.run_with calls.counters_of calls.call calls.answers answers.outcome_words answers.words_of_effects answers.effect_words answers.outcome_store answers.effect_store answers.number_of answers.values_of onWords.result onWords.store_refusal onWords.new_on onWords.call_on
definitions = 0
