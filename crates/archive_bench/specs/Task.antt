-- The words of the command line, after the program's name.
use Rattle.std.specs.Prelude.{ℕ, codes, List, [], ◌∷◌, ◌≤◌}
use Rattle.std.specs.Fmt.{decimal}
use Rattle.sw_types.specs.Object.{greatest_body}
use Rattle.measuring.specs.Command.{words_of}
use Rattle.archive_bench.specs.declared.task.Task.{Task}
use Rattle.archive_bench.specs.declared.task.Task.TheVariants.{Shared, Put}

abbrev pub put_words : ℕ → List (List ℕ)
put_words length = codes "put" ∷ decimal length ∷ []

-- the words that ask for a task
abbrev pub task_words : Task → List (List ℕ)
task_words (Shared command) = words_of command
task_words (Put length) = put_words length

-- a body that is put is not too long
abbrev pub IsWithin : Task → Type 0
IsWithin (Shared command) = Unit
IsWithin (Put length) = length ≤ greatest_body
