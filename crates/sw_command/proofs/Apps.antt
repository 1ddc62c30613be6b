-- The commands as they are built, and what their matches say.
use Rattle.std.proofs.Common.{◌≡◌, true, false, List, Option, None, refl, sym, ap, ap₂, subst, ◌∙◌, codes}
use Rattle.clap.specs.Simple.{HasMatchesOf}
use Rattle.clap.specs.Words.{AddsArg, App, Rule, Text, app_of, first_of, first_value, found_of, is_simple, is_simple_and_free, matches_of, new_rule, rows_of, rule_of, with_rule}
use Rattle.clap.specs.declared.builder.arg.Arg.{Arg}
use Rattle.clap.specs.declared.builder.command.Command.{Command}
use Rattle.clap.specs.declared.parser.matches.ArgMatches.{ArgMatches}
use Rattle.clap.proofs.OnLiterals.{clap_on_literals}
use Rattle.clap.proofs.WalkLemmas.{first_value-rows}
use Rattle.sw_command.specs.Words.{are_matches, greatest_port, load_app, load_in, load_of, most_steps, most_workers, number_in, positional, serve_app, serve_in, serve_of, without_help}

-- an argument that was made required
abbrev when_required : Rule → Rule
when_required rule = record rule { required = true }

pub record IsPositional (name : Text) (arg : Arg) : Type 0 where
  pub rule_is : rule_of arg ≡ positional name
  pub is_local : arg.global ≡ false

pub made_required : (first arg : Arg) (name : Text) → rule_of first ≡ new_rule name → first.global ≡ false → arg ≡ record first { required = true } → IsPositional name arg
made_required first arg name new local is = record {
  rule_is = ap rule_of is ∙ ap when_required new;
  is_local = ap (λ (a : Arg). a.global) is ∙ local;
}

pub made_serve : (flagged one two : Command) (port workers : Arg) → app_of flagged ≡ without_help (codes "serve") → AddsArg flagged port one → AddsArg one workers two
    → IsPositional (codes "PORT") port → IsPositional (codes "WORKERS") workers → app_of two ≡ serve_app
made_serve flagged one two port workers flag adds adds_again is_port is_workers =
    adds_again.shape is_workers.is_local ∙ ap₂ with_rule (adds.shape is_port.is_local ∙ ap₂ with_rule flag is_port.rule_is) is_workers.rule_is

pub made_load : (flagged one : Command) (number : Arg) → app_of flagged ≡ without_help (codes "load") → AddsArg flagged number one → IsPositional (codes "N") number → app_of one ≡ load_app
made_load flagged one number flag adds is_number = adds.shape is_number.is_local ∙ ap₂ with_rule flag is_number.rule_is

pub is_free : is_simple_and_free serve_app ≡ true
unfolding clap_on_literals
is_free = refl

pub load-is_free : is_simple_and_free load_app ≡ true
unfolding clap_on_literals
load-is_free = refl

load-is_plain : is_simple load_app ≡ true
unfolding clap_on_literals
load-is_plain = refl

is_plain : is_simple serve_app ≡ true
unfolding clap_on_literals
is_plain = refl

-- ---- what words ask for

pub none_asked : (app : App) (words : List Text) → app ≡ serve_app → false ≡ are_matches app words → None ≡ serve_in words
none_asked app words is none = let no : are_matches serve_app words ≡ false = ap (λ (a : App). are_matches a words) (sym is) ∙ sym none in rw no refl

pub asked : (app : App) (words : List Text) (matches : ArgMatches) (port workers : Option Text) → app ≡ serve_app → true ≡ are_matches app words → HasMatchesOf app words matches → port ≡ first_value (found_of matches) (codes "PORT")
    → workers ≡ first_value (found_of matches) (codes "WORKERS") → serve_of (number_in greatest_port port) (number_in most_workers workers) ≡ serve_in words
asked app words matches port workers is some has port_is workers_is =
    let yes : are_matches serve_app words ≡ true = ap (λ (a : App). are_matches a words) (sym is) ∙ sym some in
    let rows : rows_of (found_of matches) ≡ matches_of serve_app words = (subst (λ (a : App). HasMatchesOf a words matches) is has is_plain).0 in
    let first : port ≡ first_of (codes "PORT") (matches_of serve_app words) = port_is ∙ first_value-rows (found_of matches) (codes "PORT") ∙ ap (first_of (codes "PORT")) rows in
    let second : workers ≡ first_of (codes "WORKERS") (matches_of serve_app words) = workers_is ∙ first_value-rows (found_of matches) (codes "WORKERS") ∙ ap (first_of (codes "WORKERS")) rows in
    rw yes (ap₂ (λ (p w : Option Text). serve_of (number_in greatest_port p) (number_in most_workers w)) first second)

pub none-loaded : (app : App) (words : List Text) → app ≡ load_app → false ≡ are_matches app words → None ≡ load_in words
none-loaded app words is none = let no : are_matches load_app words ≡ false = ap (λ (a : App). are_matches a words) (sym is) ∙ sym none in rw no refl

pub loaded : (app : App) (words : List Text) (matches : ArgMatches) (number : Option Text) → app ≡ load_app → true ≡ are_matches app words → HasMatchesOf app words matches → number ≡ first_value (found_of matches) (codes "N")
    → load_of (number_in most_steps number) ≡ load_in words
loaded app words matches number is some has number_is =
    let yes : are_matches load_app words ≡ true = ap (λ (a : App). are_matches a words) (sym is) ∙ sym some in
    let rows : rows_of (found_of matches) ≡ matches_of load_app words = (subst (λ (a : App). HasMatchesOf a words matches) is has load-is_plain).0 in
    let first : number ≡ first_of (codes "N") (matches_of load_app words) = number_is ∙ first_value-rows (found_of matches) (codes "N") ∙ ap (first_of (codes "N")) rows in
    rw yes (ap (λ (n : Option Text). load_of (number_in most_steps n)) first)
