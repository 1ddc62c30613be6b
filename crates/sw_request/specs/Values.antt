-- The values of a name, as far as it matters whether there is one.
use Rattle.std.specs.Prelude.{◌≡◌, ◌<◌, ℕ, List, [], ◌∷◌, length}
use Rattle.sw_request.specs.declared.fields.Values.{Values}
use Rattle.sw_request.specs.declared.fields.Values.TheVariants as values

abbrev pub AreValues : List (List ℕ) → Values → Type 0
AreValues texts values.None = texts ≡ []
AreValues texts (values.One text) = texts ≡ text.now ∷ []
AreValues texts values.Several = 1 < length texts
