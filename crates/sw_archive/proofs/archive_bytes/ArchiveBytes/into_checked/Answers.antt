use Rattle.std.proofs.Common.{subst, sym}
use Rattle.sw_archive.specs.Fault.{IsSealed}
use Rattle.sw_archive.proofs.Readings.{sealed_archive}
use Rattle.sw_archive.proofs.archive_bytes.ArchiveBytes.into_checked.Goals as goal

pub sealed-requires : goal.sealed-requires
sealed-requires c = subst IsSealed (sym c.self.view_is) (sealed_archive _ c.requires.0 c.requires.1)
