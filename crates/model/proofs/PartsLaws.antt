-- The store's layout has the two laws: put together as the layout is.
use mathlib.Core.Path.{◌≡◌, refl}
use Rattle.model.specs.Layout.{sizes}
use Rattle.model.specs.Parts.{any, list_row, step_row, variable_row, timer_is, timer_row, slot_is, slot_row, jump_is, jump_row, pending_is, pending_row, loaded_is, loaded_part, changing_is, changing_part, parts_is, layout}
use Rattle.model.proofs.RowLaws.{RowLaws, word_laws, wide_laws, ⊗-laws, as_row_laws, maybe-laws, pad-laws, word_blank, wide-blank, ⊗-blank, as_row_blank}
use Rattle.model.proofs.CodecLaws.{CodecLaws, one_laws, all_laws, most-laws, unused-laws, then-laws, as-parts-laws}

pub any_laws : RowLaws any
any_laws = word_laws 4294967295

pub list-laws : RowLaws list_row
list-laws = ⊗-laws any_laws any_laws

pub step-laws : RowLaws step_row
step-laws = ⊗-laws any_laws (⊗-laws any_laws (⊗-laws any_laws any_laws))

pub variable-laws : RowLaws variable_row
variable-laws = ⊗-laws any_laws (⊗-laws (word_laws 1) wide_laws)

pub timer-laws : RowLaws timer_row
timer-laws = as_row_laws timer_is (⊗-laws any_laws wide_laws)

pub slot_laws : RowLaws slot_row
slot_laws = as_row_laws slot_is (⊗-laws any_laws (⊗-laws any_laws (⊗-laws any_laws wide_laws)))

pub jump-laws : RowLaws jump_row
jump-laws = maybe-laws (as_row_laws jump_is (⊗-laws any_laws any_laws)) (as_row_blank jump_is (⊗-blank (word_blank 4294967295) (word_blank 4294967295)))

pub pending-laws : RowLaws pending_row
pending-laws =
    as_row_laws pending_is
    (⊗-laws wide_laws (⊗-laws wide_laws (⊗-laws any_laws (⊗-laws any_laws (⊗-laws any_laws (⊗-laws jump-laws (⊗-laws any_laws (⊗-laws (word_laws 4) (⊗-laws wide_laws (pad-laws 1))))))))))

pub loaded-laws : CodecLaws loaded_part
unfolding loaded_part
loaded-laws =
    as-parts-laws loaded_is
    (then-laws (one_laws (word_laws 1)) (then-laws (most-laws 4096 any_laws) (then-laws (all_laws 64 list-laws) (most-laws 2048 step-laws))))

pub changing-laws : CodecLaws changing_part
unfolding changing_part
changing-laws =
    as-parts-laws changing_is
    (then-laws (all_laws 64 (word_laws 1))
    (then-laws (all_laws 64 (maybe-laws wide_laws wide-blank))
    (then-laws (all_laws 64 (maybe-laws (word_laws 15) (word_blank 15)))
    (then-laws (most-laws 16 variable-laws)
    (then-laws (most-laws 16 timer-laws)
    (then-laws (most-laws 64 slot_laws)
    (then-laws (most-laws 32 pending-laws)
    (then-laws (one_laws (maybe-laws (word_laws 10079) (word_blank 10079)))
    (then-laws (one_laws wide_laws)
    (then-laws (one_laws wide_laws) (all_laws 12 any_laws)))))))))))

pub layout-laws : CodecLaws layout
unfolding layout
layout-laws = as-parts-laws parts_is (then-laws (one_laws wide_laws) (then-laws loaded-laws (then-laws changing-laws (unused-laws 2645))))

-- 16,384 words
pub size : sizes layout.parts ≡ 16384
unfolding sizes layout loaded_part changing_part
size = refl
