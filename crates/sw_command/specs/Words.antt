-- The command that the words of a command line ask for: the program's name, the command's, and what is to match that command. Each is one
-- of clap's simple commands, without a help flag, whose arguments are required positionals, taken as text.
use Rattle.std.specs.Prelude.{◌≤◌, ⊤, ℕ, nat_eq, nat_lt, Bool, true, false, not, ◌&&◌, if◌then◌else◌, codes, List, [], ◌∷◌, Option, Some, None}
use Rattle.std.specs.Cmp.Lexicographic.{pointwise}
use Rattle.std.specs.Fmt.{decimal}
use Rattle.std.specs.Str.Parse.{digits_value}
use Rattle.clap.specs.Words.{App, Kinds, Rule, Text, fault_of, first_of, matches_of, new_app, new_rule, with_rule}
use Rattle.sw_command.specs.declared.command.Command.{Command}
use Rattle.sw_command.specs.declared.command.Command.TheVariants.{Load, Play, Serve}

abbrev pub is_text : Text → Text → Bool
is_text text other = pointwise nat_eq text other

-- ---- the commands, as clap has them

abbrev pub without_help : (name : Text) → App
without_help name = record (new_app name) { top = record (new_app name).top { disable_help_flag = true } }

abbrev pub positional : (name : Text) → Rule
positional name = record (new_rule name) { required = true }

abbrev pub play_app : App
play_app = without_help (codes "play")

abbrev pub serve_app : App
serve_app = with_rule (with_rule (without_help (codes "serve")) (positional (codes "PORT"))) (positional (codes "WORKERS"))

abbrev pub load_app : App
load_app = with_rule (without_help (codes "load")) (positional (codes "N"))

abbrev pub is_none : Kinds → Bool
is_none [] = true
is_none (kind ∷ kinds) = false

-- words, the command's name first, are matches of the command: clap finds no fault
abbrev pub are_matches : App → List Text → Bool
are_matches app words = is_none (fault_of app words)

-- ---- numbers

-- the number from 1 up to the greatest one whose decimal a text is: digits with no sign and no leading zero
abbrev pub number_of : (most : ℕ) → Text → Option ℕ
number_of most text =
    if is_text text (decimal (digits_value 10 text)) && (nat_lt 0 (digits_value 10 text) && not (nat_lt most (digits_value 10 text)))
    then Some (digits_value 10 text) else None

abbrev pub number_in : (most : ℕ) → Option Text → Option ℕ
number_in most None = None
number_in most (Some text) = number_of most text

-- ---- what is asked for

-- the greatest number of workers
abbrev pub most_workers : ℕ
most_workers = 16

abbrev pub greatest_port : ℕ
greatest_port = 65535

-- the greatest number of steps of a workload
abbrev pub most_steps : ℕ
most_steps = 100000

-- a port that there is, and as many workers or steps as there may be
abbrev pub IsInRange : Command → Type 0
IsInRange Play = ⊤
IsInRange (Serve port workers) = (1 ≤ port) × (port ≤ greatest_port) × (1 ≤ workers) × (workers ≤ most_workers)
IsInRange (Load steps) = (1 ≤ steps) × (steps ≤ most_steps)

abbrev pub serve_of : Option ℕ → Option ℕ → Option Command
serve_of (Some port) (Some workers) = Some (Serve port workers)
serve_of other another = None

abbrev pub load_of : Option ℕ → Option Command
load_of (Some steps) = Some (Load steps)
load_of None = None

abbrev pub play_in : List Text → Option Command
play_in words = if are_matches play_app words then Some Play else None

abbrev pub serve_in : List Text → Option Command
serve_in words =
    if are_matches serve_app words
    then serve_of (number_in greatest_port (first_of (codes "PORT") (matches_of serve_app words))) (number_in most_workers (first_of (codes "WORKERS") (matches_of serve_app words)))
    else None

abbrev pub load_in : List Text → Option Command
load_in words =
    if are_matches load_app words then load_of (number_in most_steps (first_of (codes "N") (matches_of load_app words))) else None

-- by the command's name, and the words from it on
abbrev pub named_in : Text → List Text → Option Command
named_in name words =
    if is_text name (codes "play") then play_in words
    else if is_text name (codes "serve") then serve_in words
    else if is_text name (codes "load") then load_in words
    else None

abbrev pub command_in : List Text → Option Command
command_in (program ∷ name ∷ words) = named_in name (name ∷ words)
command_in other = None
