-- The words of the command line, after the program's name.
use Rattle.std.specs.Prelude.{ℕ, codes, List, [], ◌∷◌}
use Rattle.std.specs.Fmt.{decimal}
use Rattle.measuring.specs.declared.command.Command.{Command}
use Rattle.measuring.specs.declared.command.Command.TheVariants.{Try, Measure}

abbrev pub measure_words : ℕ → List (List ℕ)
measure_words seconds = codes "measure" ∷ decimal seconds ∷ []

-- the words that ask for a command
abbrev pub words_of : Command → List (List ℕ)
words_of Try = []
words_of (Measure seconds) = measure_words seconds
