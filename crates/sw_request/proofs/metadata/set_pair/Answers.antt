use Rattle.std.proofs.Common.{◌≡◌, ◌∷◌, ◌++◌, [], None, Some, arith, ap, position, set, sym, ◌∙◌}
use Rattle.std.proofs.lemmas.Grind.{common_steps}
use Rattle.sw_request.proofs.Pairs.{has_name, set_at_place, set_behind}
use Rattle.sw_request.specs.Metadata.{set_pair}
use Rattle.sw_request.proofs.metadata.set_pair.Goals as goal

pub returns-in-Some : goal.returns-in-Some
returns-in-Some c =
    let old = c.args.pairs.now.items in
    let at : position (has_name c.args.pair.0) old ≡ Some c.in-Some.place = sym (c.place_of.ensures ∙ ap (position (has_name c.args.pair.0)) c.as_slice.ensures.value) ∙ (cc) in
    let e : set_pair old c.args.pair ≡ set old c.in-Some.place c.args.pair = set_at_place old c.args.pair c.in-Some.place at in
    grind (arith, common_steps, e)

pub returns-in_ok-push-in-None : goal.returns-in_ok-push-in-None
returns-in_ok-push-in-None c =
    let old = c.args.pairs.now.items in
    let at : position (has_name c.args.pair.0) old ≡ None = sym (c.place_of.ensures ∙ ap (position (has_name c.args.pair.0)) c.as_slice.ensures.value) ∙ (cc) in
    let e : set_pair old c.args.pair ≡ old ++ c.args.pair ∷ [] = set_behind old c.args.pair at in
    grind (arith, common_steps, e)
