use Rattle.std.proofs.Common.{◌≡◌, ap, ◌∙◌, rules}
use Rattle.sw_request.proofs.Refusals.{head_keeps_as}
use Rattle.sw_request.specs.Metadata.{content_type_in, pairs_in}
use Rattle.sw_request.proofs.request.Request.object.Goals as goal

pub from_parts-head-requires : goal.from_parts-head-requires
from_parts-head-requires c =
    let fields : c.fields-fields.result.now ≡ c.args.self.now.head.fields = search rules in
    head_keeps_as c.args.self.now.head c.in_ok-content_type.content_type c.in_ok-pairs_in.field-0.items c.requires.sound.head c.requires.put
    (c.in_ok-content_type.ensures ∙ c.content_type_in.ensures ∙ ap content_type_in fields) (c.in_ok-pairs_in.ensures ∙ ap pairs_in fields)
