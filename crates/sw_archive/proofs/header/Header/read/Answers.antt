use Rattle.std.proofs.Common.{rules, sym}
use Rattle.sw_archive.proofs.Openings.{four_cells, opening_taken}
use Rattle.sw_archive.proofs.header.Header.read.Goals as goal

pub returns-clause-opens : goal.returns-clause-opens
returns-clause-opens c = record {
  fits = record {
    magic = search rules;
    segment = search rules;
    stamp = search rules;
    body_length = search rules;
    body_md5 = search rules;
    path_length = search rules;
    head_length = search rules;
    payload_length = search rules;
  };
  spelled = opening_taken _ c.args.bytes.now c.front_of.result.0.now c.front_of.result.1.now c.front_of-2.result.0.now c.front_of-2.result.1.now
      c.u32_at-segment.result.1.now c.u64_at-stamp.result.1.now c.u64_at-body_length.result.1.now c.front_of-3.result.0.now c.front_of-3.result.1.now
      c.u16_at-path_length.result.1.now c.u16_at-head_length.result.1.now c.u32_at-payload_length.result.1.now
      c.front_of.ensures.split (sym c.four.ensures) c.front_of-2.ensures.split (four_cells c.front_of-2.result.0.now c.front_of-2.ensures.front)
      c.u32_at-segment.ensures.split c.u64_at-stamp.ensures.split c.u64_at-body_length.ensures.split c.front_of-3.ensures.split (sym c.sixteen.ensures)
      c.u16_at-path_length.ensures.split c.u16_at-head_length.ensures.split c.u32_at-payload_length.ensures.split;
}
