use Rattle.std.proofs.Common.{◌==◌, ℕ, Option, length, ap, ◌∙◌, rules, tests}
use Rattle.std.specs.Option.{unwrap_or}
use Rattle.std.proofs.lemmas.Iterator.{YieldsList-from_slice}
use Rattle.std.proofs.lemmas.Iterator.Search.{position_from_yields_List}
use Rattle.sw_request.proofs.Targets.{first_place}
use Rattle.sw_request.proofs.target.place_of.Goals as goal

pub returns-clause-value : goal.returns-clause-value
returns-clause-value c =
    c.unwrap_or.ensures
    ∙ ap (λ (place : Option ℕ). unwrap_or place (length c.args.text.now)) (position_from_yields_List (λ byte. byte == c.args.wanted) _ _ c.position.result c.position.ensures.ran (YieldsList-from_slice c.args.text.now cc) (λ x b q k. search (rules, tests)))
    ∙ first_place (λ byte. byte == c.args.wanted) c.args.text.now
