-- The words of a line, one by one, as far as some form has so many.
use Rattle.std.specs.Prelude.{◌≡◌, ◌<◌, ℕ, List, [], ◌∷◌, length}
use Rattle.sw_script.specs.declared.words.Words.{Words}
use Rattle.sw_script.specs.declared.words.Words.TheVariants.{One, Two, Three, Four, More}

-- these are the words, or there are more than any form has
abbrev pub AreWords : List (List ℕ) → Words → Type 0
AreWords words (One a) = words ≡ a.now ∷ []
AreWords words (Two a b) = words ≡ a.now ∷ b.now ∷ []
AreWords words (Three a b c) = words ≡ a.now ∷ b.now ∷ c.now ∷ []
AreWords words (Four a b c d) = words ≡ a.now ∷ b.now ∷ c.now ∷ d.now ∷ []
AreWords words More = 4 < length words
