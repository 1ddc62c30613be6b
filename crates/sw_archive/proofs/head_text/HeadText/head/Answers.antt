use Rattle.std.proofs.Common.{◌∙◌, ap}
use Rattle.sw_types.specs.Head.{head_fault}
use Rattle.sw_archive.proofs.PairTexts.{head_kept, pairs_there, same_head}
use Rattle.sw_archive.proofs.head_text.HeadText.head.Goals as goal

pub unreachable-requires : goal.unreachable-requires
unreachable-requires c =
    let none = rw c.in_default.is at c.in_ok-pairs.ensures in
    pairs_there c.self.inside.content_type.now c.self.inside.count c.self.inside.pairs.now c.self.invariant none

pub from_parts-requires : goal.from_parts-requires
from_parts-requires c =
    let read = rw c.in-Some.is at c.in_ok-pairs.ensures in
    let same = same_head c.self.inside.content_type.now c.self.inside.count c.self.inside.pairs.now c.in_ok-content_type.content_type c.in-Some.pairs.items c.in-Some.field-0-1.now c.in_ok-content_type.ensures read.0 read.1 read.2 in
    ap head_fault same ∙ head_kept c.self.inside.content_type.now c.self.inside.count c.self.inside.pairs.now c.self.invariant

pub returns : goal.returns
returns c =
    let read = rw c.in-Some.is at c.in_ok-pairs.ensures in
    let same = same_head c.self.inside.content_type.now c.self.inside.count c.self.inside.pairs.now c.in_ok-content_type.content_type c.in-Some.pairs.items c.in-Some.field-0-1.now c.in_ok-content_type.ensures read.0 read.1 read.2 in
    c.from_parts.ensures ∙ same ∙ c.self.view_is
