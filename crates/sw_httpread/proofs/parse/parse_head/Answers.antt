use Rattle.std.proofs.Common.{arith, ◌∙◌, ap, List, map, take}
use Rattle.std.proofs.lemmas.List.{take_at}
use Rattle.httparse.specs.declared.spans.HeaderSpan.{HeaderSpan}
use Rattle.httparse.specs.Spans.{header_bytes}
use Rattle.sw_httpread.proofs.Parses.{is_head}
use Rattle.sw_httpread.proofs.parse.parse_head.Goals as goal

pub returns : goal.returns
returns c =
    let e = c.in_ok-fields_of.ensures in
    let m = c.in_ok-from_slice.ensures in
    let o = c.of.ensures in
    let d = c.deref.ensures in
    is_head c.args.bytes.now c.parse_whole.new.spans c.in-Some.head c.in-Some.ensures c.in_ok-from_slice.field-0 c.in_ok-from_slice-2.field-0 c.in_ok-fields_of.field-0.items (m ∙ o) (c.in_ok-from_slice-2.ensures ∙ c.of-2.ensures)
    (e ∙ ap (λ (xs : List HeaderSpan). map (header_bytes c.args.bytes.now) (take c.in-Some.head.headers xs)) (d.value ∙ take_at c.parse_whole.new.spans _ c.in_ok-spans.spans.len (omega (arith, c.parse_whole.auto.spans, c.deref_mut.ensures.len))))
