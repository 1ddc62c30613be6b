use Rattle.std.proofs.Common.{rules, ◌≡◌, Option, ap, subst, sym, codes, map, is_some, IfSome, ◌∙◌}
use Rattle.std.specs.Prelude.{string_bytes}
use Rattle.clap.specs.Simple.{HasMatchesOf}
use Rattle.clap.specs.Words.{app_of, is_simple_and_free}
use Rattle.clap.specs.declared.parser.matches.ArgMatches.{ArgMatches}
use Rattle.sw_command.specs.Words.{IsInRange, without_help}
use Rattle.sw_command.specs.declared.command.Command.{Command}
use Rattle.sw_command.proofs.Apps.{load-is_free, loaded, made_load, made_required, none-loaded}
use Rattle.sw_command.proofs.Numbers.{load-in_range}
use Rattle.sw_command.proofs.reading.read_load.Goals as goal

pub matches_in-requires : goal.matches_in-requires
matches_in-requires c =
    let flag : app_of c.disable_help_flag.result ≡ without_help (codes "load") = search rules in
    let number = made_required c.new.result c.required-number.result (codes "N") c.new.ensures.rule c.new.ensures.optional.1 c.required-number.ensures in
    ap is_simple_and_free (made_load c.disable_help_flag.result c.in_ok-command.command c.required-number.result flag c.in_ok-command.ensures number) ∙ load-is_free

pub returns-in_default-clause-command : goal.returns-in_default-clause-command
returns-in_default-clause-command c =
    let flag : app_of c.disable_help_flag.result ≡ without_help (codes "load") = search rules in
    let number = made_required c.new.result c.required-number.result (codes "N") c.new.ensures.rule c.new.ensures.optional.1 c.required-number.ensures in
    let made = made_load c.disable_help_flag.result c.in_ok-command.command c.required-number.result flag c.in_ok-command.ensures number in
    none-loaded _ (map (λ word. string_bytes word) c.args.words.now) made (sym (ap (λ (found : Option ArgMatches). is_some found) c.in_default.is) ∙ c.in_ok-matches.ensures.are)

pub returns-clause-command : goal.returns-clause-command
returns-clause-command c =
    let flag : app_of c.disable_help_flag.result ≡ without_help (codes "load") = search rules in
    let number = made_required c.new.result c.required-number.result (codes "N") c.new.ensures.rule c.new.ensures.optional.1 c.required-number.ensures in
    let made = made_load c.disable_help_flag.result c.in_ok-command.command c.required-number.result flag c.in_ok-command.ensures number in
    let words = map (λ word. string_bytes word) c.args.words.now in
    let some = sym (ap (λ (found : Option ArgMatches). is_some found) c.in-Some.is) ∙ c.in_ok-matches.ensures.are in
    let has = subst (λ (found : Option ArgMatches). IfSome found (HasMatchesOf (app_of c.in_ok-command.command) words)) c.in-Some.is c.in_ok-matches.ensures.matches in
    c.load_of.ensures ∙ rw c.number_in.ensures.number (loaded (app_of c.in_ok-command.command) words c.in-Some.matches _ made some has c.get_str.ensures)

pub returns-clause-range : goal.returns-clause-range
returns-clause-range c = subst (λ (command : Option Command). IfSome command IsInRange) (sym c.load_of.ensures) (load-in_range c.number_in.result c.number_in.ensures.range)
