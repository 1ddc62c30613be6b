use Rattle.sw_httpread.proofs.Sections.{section_start, section_more, section_end, no_section}
use Rattle.sw_httpread.proofs.lines.SectionFormForm.length.Goals as goal

pub loop-line-init : goal.loop-line-init
loop-line-init c = section_start c.args.bytes.now

pub returns-then-is_empty_line : goal.returns-then-is_empty_line
returns-then-is_empty_line c =
    section_end c.args.bytes.now c.loop-line.rest.now c.in-Some.line.now c.in-Some.tail.now c.loop-line.invariant c.in-Some.ensures.0 (c.is_empty_line.ensures.yes c.if-is_empty_line.true)

pub loop-line-preserved : goal.loop-line-preserved
loop-line-preserved c =
    section_more c.args.bytes.now c.loop-line.rest.now c.in-Some.line.now c.in-Some.tail.now c.loop-line.invariant c.in-Some.ensures.0 c.in-Some.ensures.1 (c.is_empty_line.ensures.no c.if-is_empty_line.false)

pub returns : goal.returns
returns c = no_section c.args.bytes.now c.loop-line.rest.now c.loop-line.invariant c.in_default.ensures
