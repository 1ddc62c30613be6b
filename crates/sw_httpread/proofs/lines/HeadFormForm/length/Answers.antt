use Rattle.std.proofs.Common.{arith, sym, subst, Bool}
use Rattle.sw_httpread.proofs.Heads.{IsScanned, scan_start, scan_full, scan_blank, scan_end, no_end}
use Rattle.sw_httpread.proofs.lines.HeadFormForm.length.Goals as goal

pub loop-line-init : goal.loop-line-init
loop-line-init c = scan_start c.args.bytes.now

pub returns-then-seen : goal.returns-then-seen
returns-then-seen c = (
  omega arith,
  scan_end c.args.bytes.now c.loop-line.rest.now c.in-Some.line.now c.in-Some.tail.now
      (subst (λ (b : Bool). IsScanned c.args.bytes.now c.loop-line.rest.now b) c.if-seen.true c.loop-line.invariant) c.in-Some.ensures.0 (c.is_empty_line.ensures.yes c.if-not-is_empty_line.false),
)

pub loop-line-preserved-then-not-is_empty_line : goal.loop-line-preserved-then-not-is_empty_line
loop-line-preserved-then-not-is_empty_line c =
    scan_full c.args.bytes.now c.loop-line.rest.now c.loop-line.seen c.in-Some.line.now c.in-Some.tail.now c.loop-line.invariant c.in-Some.ensures.0 c.in-Some.ensures.1
    (c.is_empty_line.ensures.no c.if-not-is_empty_line.true)

pub loop-line-preserved : goal.loop-line-preserved
loop-line-preserved c =
    subst (λ (b : Bool). IsScanned c.args.bytes.now c.in-Some.tail.now b) (sym c.if-seen.false)
    (scan_blank c.args.bytes.now c.loop-line.rest.now c.in-Some.line.now c.in-Some.tail.now
    (subst (λ (b : Bool). IsScanned c.args.bytes.now c.loop-line.rest.now b) c.if-seen.false c.loop-line.invariant) c.in-Some.ensures.0 (c.is_empty_line.ensures.yes c.if-not-is_empty_line.false))

pub returns : goal.returns
returns c = no_end c.args.bytes.now c.loop-line.rest.now c.loop-line.seen c.loop-line.invariant c.in_default.ensures
