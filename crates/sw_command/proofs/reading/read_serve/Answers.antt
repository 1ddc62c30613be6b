use Rattle.std.proofs.Common.{rules, ◌≡◌, Option, ap, subst, sym, codes, map, is_some, IfSome, ◌∙◌}
use Rattle.std.specs.Prelude.{string_bytes}
use Rattle.clap.specs.Simple.{HasMatchesOf}
use Rattle.clap.specs.Words.{app_of, is_simple_and_free}
use Rattle.clap.specs.declared.parser.matches.ArgMatches.{ArgMatches}
use Rattle.sw_command.specs.Words.{IsInRange, without_help}
use Rattle.sw_command.specs.declared.command.Command.{Command}
use Rattle.sw_command.proofs.Apps.{asked, is_free, made_required, made_serve, none_asked}
use Rattle.sw_command.proofs.Numbers.{in_range}
use Rattle.sw_command.proofs.reading.read_serve.Goals as goal

pub matches_in-requires : goal.matches_in-requires
matches_in-requires c =
    let flag : app_of c.disable_help_flag.result ≡ without_help (codes "serve") = search rules in
    let port = made_required c.new.result c.required-port.result (codes "PORT") c.new.ensures.rule c.new.ensures.optional.1 c.required-port.ensures in
    let workers = made_required c.new-2.result c.required-workers.result (codes "WORKERS") c.new-2.ensures.rule c.new-2.ensures.optional.1 c.required-workers.ensures in
    ap is_simple_and_free (made_serve c.disable_help_flag.result c.in_ok-arg.field-0 c.in_ok-command.command c.required-port.result c.required-workers.result flag c.in_ok-arg.ensures c.in_ok-command.ensures port workers) ∙ is_free

pub returns-in_default-clause-command : goal.returns-in_default-clause-command
returns-in_default-clause-command c =
    let flag : app_of c.disable_help_flag.result ≡ without_help (codes "serve") = search rules in
    let port = made_required c.new.result c.required-port.result (codes "PORT") c.new.ensures.rule c.new.ensures.optional.1 c.required-port.ensures in
    let workers = made_required c.new-2.result c.required-workers.result (codes "WORKERS") c.new-2.ensures.rule c.new-2.ensures.optional.1 c.required-workers.ensures in
    let made = made_serve c.disable_help_flag.result c.in_ok-arg.field-0 c.in_ok-command.command c.required-port.result c.required-workers.result flag c.in_ok-arg.ensures c.in_ok-command.ensures port workers in
    none_asked _ (map (λ word. string_bytes word) c.args.words.now) made (sym (ap (λ (found : Option ArgMatches). is_some found) c.in_default.is) ∙ c.in_ok-matches.ensures.are)

pub returns-clause-command : goal.returns-clause-command
returns-clause-command c =
    let flag : app_of c.disable_help_flag.result ≡ without_help (codes "serve") = search rules in
    let port = made_required c.new.result c.required-port.result (codes "PORT") c.new.ensures.rule c.new.ensures.optional.1 c.required-port.ensures in
    let workers = made_required c.new-2.result c.required-workers.result (codes "WORKERS") c.new-2.ensures.rule c.new-2.ensures.optional.1 c.required-workers.ensures in
    let made = made_serve c.disable_help_flag.result c.in_ok-arg.field-0 c.in_ok-command.command c.required-port.result c.required-workers.result flag c.in_ok-arg.ensures c.in_ok-command.ensures port workers in
    let words = map (λ word. string_bytes word) c.args.words.now in
    let some = sym (ap (λ (found : Option ArgMatches). is_some found) c.in-Some.is) ∙ c.in_ok-matches.ensures.are in
    let has = subst (λ (found : Option ArgMatches). IfSome found (HasMatchesOf (app_of c.in_ok-command.command) words)) c.in-Some.is c.in_ok-matches.ensures.matches in
    c.serve_of.ensures ∙ rw (c.number_in-port.ensures.number, c.number_in-workers.ensures.number) (asked (app_of c.in_ok-command.command) words c.in-Some.matches _ _ made some has c.get_str.ensures c.get_str-2.ensures)

pub returns-clause-range : goal.returns-clause-range
returns-clause-range c = subst (λ (command : Option Command). IfSome command IsInRange) (sym c.serve_of.ensures) (in_range c.number_in-port.result c.number_in-workers.result c.number_in-port.ensures.range c.number_in-workers.ensures.range)
