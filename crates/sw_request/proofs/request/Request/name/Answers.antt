use Rattle.std.proofs.Common.{◌≡◌, ℕ, List, None, ap, sym, ◌∙◌, rules}
use Rattle.percent_encoding.specs.Percent.{percent_decode}
use Rattle.sw_request.proofs.Refusals.{name_there}
use Rattle.sw_request.specs.Parts.{found_parts}
use Rattle.sw_request.specs.Refusal.{name_in}
use Rattle.sw_request.specs.Target.{parts_in, path_in}
use Rattle.sw_request.proofs.request.Request.name.Goals as goal

pub unreachable-requires : goal.unreachable-requires
unreachable-requires c =
    let target : c.target.result.now ≡ c.args.self.now.head.target = search rules in
    let path = c.as_slice.ensures ∙ c.in_ok-path.ensures ∙ ap (λ (text : List ℕ). percent_decode text) (c.path_in.ensures ∙ ap path_in target) in
    let name : name_in c.args.self.now.head ≡ None = sym (ap parts_in path) ∙ sym c.parts_in.ensures ∙ ap found_parts c.in-None.is in
    name_there c.args.self.now.head c.requires.head name
