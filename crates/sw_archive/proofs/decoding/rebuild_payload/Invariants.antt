use Rattle.std.proofs.Common.{◌-◌}
use Rattle.sw_archive.specs.Decoding.{HasCode}
use Rattle.sw_archive.proofs.Decodings.{ArePartRebuilt}
use Rattle.sw_archive.proofs.decoding.rebuild_payload.Given as goal

abbrev pub invariant-segments : goal.invariant-segments
invariant-segments l = record {
  code : HasCode l.layout l.gather;
  part : ArePartRebuilt l.layout l.archives l.index l.done l.offset l.fn.out.items l.out.items;
}

abbrev pub decreases-segments : goal.decreases-segments
decreases-segments l = l.layout.total - l.done
