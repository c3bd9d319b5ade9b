-- What the code answers, as words.
use Rattle.std.specs.Prelude.{ℕ, List, ◌∷◌}
use Rattle.short_lists.specs.declared.ShortList.{ShortList}

-- the length and the three places
abbrev pub list_words : ShortList → List ℕ
list_words l = l.length ∷ l.places
