-- `world::check::table_fits` meets its contract. Assumes nothing.
use mathlib.Core.Path.{◌∙◌}
use Rattle.std.proofs.Common.{rules}
use Rattle.std.proofs.lemmas.Iterator.{YieldsList-from_slice}
use Rattle.fields.proofs.Chains.{computes-all}
use Rattle.world.specs.Fields.{words_fit}
use Rattle.world.specs.declared.table.Table.TheVariants.{Lamps, Groups, Devices, Inputs, HclTargets}
use Rattle.world.proofs.Cells.{table-tested}
use Rattle.world.proofs.check.table_fits.Goals as goal

pub returns-in-Lamps : goal.returns-in-Lamps
returns-in-Lamps c =
    let words = rw c.in-Lamps.is at c.words-rows.ensures in
    rw c.in-Lamps.is
    (computes-all c.all.new.self _ (λ w. words_fit w 0) c.all.result c.all.ensures.ran (YieldsList-from_slice _ (c.iter.ensures.rest ∙ c.as_chunks.ensures.front)) (λ x b q u. search rules)
    ∙ table-tested c.args.s.now Lamps c.requires c.words-rows.result.now words)

pub returns-in-Groups : goal.returns-in-Groups
returns-in-Groups c =
    let words = rw c.in-Groups.is at c.words-rows.ensures in
    rw c.in-Groups.is
    (computes-all c.all-in-Groups.new.self _ (λ w. words_fit w 1) c.all-in-Groups.result c.all-in-Groups.ensures.ran (YieldsList-from_slice _ (c.iter-in-Groups.ensures.rest ∙ c.as_chunks-in-Groups.ensures.front)) (λ x b q u. search rules)
    ∙ table-tested c.args.s.now Groups c.requires c.words-rows.result.now words)

pub returns-in-Devices : goal.returns-in-Devices
returns-in-Devices c =
    let words = rw c.in-Devices.is at c.words-rows.ensures in
    rw c.in-Devices.is
    (computes-all c.all-in-Devices.new.self _ (λ w. words_fit w 2) c.all-in-Devices.result c.all-in-Devices.ensures.ran (YieldsList-from_slice _ (c.iter-in-Devices.ensures.rest ∙ c.as_chunks-in-Devices.ensures.front)) (λ x b q u. search rules)
    ∙ table-tested c.args.s.now Devices c.requires c.words-rows.result.now words)

pub returns-in-Inputs : goal.returns-in-Inputs
returns-in-Inputs c =
    let words = rw c.in-Inputs.is at c.words-rows.ensures in
    rw c.in-Inputs.is
    (computes-all c.all-in-Inputs.new.self _ (λ w. words_fit w 3) c.all-in-Inputs.result c.all-in-Inputs.ensures.ran (YieldsList-from_slice _ (c.iter-in-Inputs.ensures.rest ∙ c.as_chunks-in-Inputs.ensures.front)) (λ x b q u. search rules)
    ∙ table-tested c.args.s.now Inputs c.requires c.words-rows.result.now words)

pub returns-in-HclTargets : goal.returns-in-HclTargets
returns-in-HclTargets c =
    let words = rw c.in-HclTargets.is at c.words-rows.ensures in
    rw c.in-HclTargets.is
    (computes-all c.all-in-HclTargets.new.self _ (λ w. words_fit w 4) c.all-in-HclTargets.result c.all-in-HclTargets.ensures.ran (YieldsList-from_slice _ (c.iter-in-HclTargets.ensures.rest ∙ c.as_chunks-in-HclTargets.ensures.front)) (λ x b q u. search rules)
    ∙ table-tested c.args.s.now HclTargets c.requires c.words-rows.result.now words)
