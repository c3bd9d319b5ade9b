-- Lines of a crontab, worked (document 02, request 2): what is of the form and what is not, the lowest refusal, days, minutes, and one answer whole.
use Prim.Native.Nat.{ℕ}
use Prim.Native.String.{String}
use mathlib.Core.Path.{◌≡◌, refl}
use mathlib.Core.Bool.{Bool, true, false}
use mathlib.Core.List.{[], ◌∷◌, map}
use lib.ListN.{replicate}
use Rattle.model.specs.Text.{bytes_of}
use Rattle.model.specs.Lists as lists
use Rattle.model.specs.Digits as digits
use Rattle.model.specs.Asked as asked
use Rattle.model.specs.Crontab as crontab

-- one name that opens the definitions
unfoldable opened : ℕ
unfolding lists.every lists.total digits.is_digit digits.value_from asked.declined crontab.until crontab.skip crontab.behind_first crontab.field crontab.number_of crontab.range_of crontab.element_of crontab.elements_of crontab.is_pattern crontab.covers crontab.field_fits crontab.field_covers crontab.field_free crontab.starts crontab.minutes crontab.every_date crontab.has_room crontab.days crontab.of_the_form crontab.refusal crontab.table_words crontab.crontab
opened = 0

-- with Sunday 6
formed : String → Bool
formed s = crontab.of_the_form (bytes_of s) 6

patterns :
    map formed
    (
    "5 4 * * *"
    ∷ "007 4 * * *"
    ∷ "0-59,5 23 31 12 0-6"
    ∷ "* * * * 0,6"
    ∷ []
    )
    ≡ replicate 4 true
unfolding opened formed
patterns = refl

no-patterns :
    map formed
    (
    "5 4 * * 7"
    ∷ "*/5 4 * * *"
    ∷ "*,5 4 * * *"
    ∷ "5 4 * * mon"
    ∷ "1, 4 * * *"
    ∷ "5-4 4 * * *"
    ∷ "1-2-3 4 * * *"
    ∷ "+5 4 * * *"
    ∷ "4294967301 4 * * *"
    ∷ "60 4 * * *"
    ∷ "5 24 * * *"
    ∷ "5 4 32 * *"
    ∷ "5 4 0 * *"
    ∷ "5 4 * 13 *"
    ∷ "5 4 * 0 *"
    ∷ []
    )
    ≡ replicate 15 false
unfolding opened formed
no-patterns = refl

-- blanks part the fields; what follows the fifth behind a blank is not read
blanks :
    map formed ("5\t4  * * *" ∷ "5 4 * * * \r" ∷ "5 4 * * *\tfeed # 7" ∷ "5 4 * * * " ∷ [])
    ≡ replicate 4 true
unfolding opened formed
blanks = refl

no_lines :
    map formed ("" ∷ "# 4 * * *" ∷ " 5 4 * * *" ∷ "\t5 4 * * *" ∷ "5 4 * *" ∷ "5 4 * * " ∷ "5 4 * * *\r" ∷ "5 4 * * *#" ∷ [])
    ≡ replicate 8 false
unfolding opened formed
no_lines = refl

dates : map (λ (s : String). crontab.every_date (bytes_of s)) ("5 4 * * *" ∷ "5 4 1-31 * *" ∷ "5 4 * 1-12 *" ∷ []) ≡ true ∷ false ∷ false ∷ []
unfolding opened
dates = refl

-- the lowest refusal
refusals :
    crontab.refusal (bytes_of "5 4 * * *") 7 8
    ∷ crontab.refusal (bytes_of "5 4 1 * 7") 6 8
    ∷ crontab.refusal (bytes_of "5,6 4 1 * *") 6 8
    ∷ crontab.refusal (bytes_of "5,6 4 * * *") 6 15
    ∷ crontab.refusal (bytes_of "5,6 4 * * *") 6 16
    ∷ []
    ≡ 50 ∷ 50 ∷ 51 ∷ 52 ∷ 0 ∷ []
unfolding opened
refusals = refl

-- with Sunday 6 the week begins on Monday
week : map (λ (s : String). crontab.days (bytes_of s) 6) ("0 0 * * 0" ∷ "0 0 * * 1" ∷ "0 0 * * 1-5" ∷ "0 0 * * *" ∷ []) ≡ 64 ∷ 1 ∷ 31 ∷ 127 ∷ []
unfolding opened
week = refl

-- 4:03 to 4:06
each-once : crontab.minutes (bytes_of "5,5,3-6 4 * * *") ≡ 243 ∷ 244 ∷ 245 ∷ 246 ∷ []
unfolding opened
each-once = refl

answered :
    crontab.crontab (bytes_of "30 5,22 * * 1-5 lights") 6 18
    ≡ record { number = 0; values = 2 ∷ []; lent = 2 ∷ 5 ∷ 30 ∷ 31 ∷ 0 ∷ 0 ∷ 0 ∷ 0 ∷ 2 ∷ 22 ∷ 30 ∷ 31 ∷ 0 ∷ 0 ∷ 0 ∷ 0 ∷ 0 ∷ 0 ∷ [] }
unfolding opened
answered = refl
