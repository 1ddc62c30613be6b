use Rattle.std.proofs.Common.{◌≡◌, ◌∙◌, ◌+◌, ◌-◌, length, take, drop, length-append, refl, ap, arith, rules}
use Rattle.sw_httpread.proofs.Takes.{took_start, took_bound, took_next, took_chunk, stands_at, chunk_some}
use Rattle.sw_httpread.proofs.body.take_chunks.Goals as goal

pub chunks-init : goal.chunks-init
chunks-init g c = record {
  took = rw c.requires.empty (took_start _ _);
  written = refl;
  closed = refl;
  quiet = refl;
}

pub next_step-requires-clause-within : goal.next_step-requires-clause-within
next_step-requires-clause-within g c = omega (arith, c.len.ensures, took_bound _ _ _ _ _ c.chunks.invariant.took)

pub returns-in_err-start-clause-took : goal.returns-in_err-start-clause-took
returns-in_err-start-clause-took g c = took_next _ _ _ _ _ _ _ _ c.len.ensures c.chunks.invariant.took c.in_err-start.ensures.grew

pub returns-in_err-start-clause-failed : goal.returns-in_err-start-clause-failed
returns-in_err-start-clause-failed g c = rw (← c.len.ensures) (search rules)

pub returns-in_err-extend_from_slice-in-Chunk-clause-took : goal.returns-in_err-extend_from_slice-in-Chunk-clause-took
returns-in_err-extend_from_slice-in-Chunk-clause-took g c =
    rw c.in_err-extend_from_slice-in-Chunk.ensures.err (took_next _ _ _ _ _ _ _ _ c.len.ensures c.chunks.invariant.took c.in_ok-start.ensures.grew)

pub returns-in-Over-clause-took : goal.returns-in-Over-clause-took
returns-in-Over-clause-took g c = took_next _ _ _ _ _ _ _ _ c.len.ensures c.chunks.invariant.took c.in_ok-start.ensures.grew

pub chunks-preserved : goal.chunks-preserved
chunks-preserved g c =
    let size_is : (c.in-Chunk.start + c.in-Chunk.size) - c.in-Chunk.start ≡ c.in-Chunk.size = omega arith in
    let body_is = rw (size_is, c.as_slice.ensures) at c.in_ok-extend_from_slice-in-Chunk.ensures.ok in
    let found = rw c.in-Chunk.is at c.in_ok-start.ensures.found in
    let before = took_next _ _ _ _ _ _ _ _ c.len.ensures c.chunks.invariant.took c.in_ok-start.ensures.grew in
    record {
      took = rw (body_is, c.use_front.ensures) (took_chunk _ _ _ _ _ _ _ before (stands_at _ _ _ _ c.len.ensures found.1));
      written = c.in_ok-start.ensures.written ∙ c.chunks.invariant.written;
      closed = c.in_ok-start.ensures.closed ∙ c.chunks.invariant.closed;
      quiet = omega (arith, c.in_ok-start.ensures.counts.quiet (λ failed. cc));
    }

pub chunks-smaller : goal.chunks-smaller
chunks-smaller g c =
    let size_is : (c.in-Chunk.start + c.in-Chunk.size) - c.in-Chunk.start ≡ c.in-Chunk.size = omega arith in
    let body_is = rw (size_is, c.as_slice.ensures) at c.in_ok-extend_from_slice-in-Chunk.ensures.ok in
    let found = rw c.in-Chunk.is at c.in_ok-start.ensures.found in
    let before = took_next _ _ _ _ _ _ _ _ c.len.ensures c.chunks.invariant.took c.in_ok-start.ensures.grew in
    let after = took_chunk _ _ _ _ _ _ _ before (stands_at _ _ _ _ c.len.ensures found.1) in
    omega (arith, ap length body_is, length-append c.chunks.body (take c.in-Chunk.size (drop c.in-Chunk.start c.next_step.new.carry)), chunk_some _ _ _ _ found.1, took_bound _ _ _ _ _ after)
