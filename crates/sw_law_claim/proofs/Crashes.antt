-- Folders of one normal form bear the same.
use Rattle.std.proofs.Common.{Bool, List}
use Rattle.sw_disk.specs.Folder.{File}
use Rattle.sw_diskfile.specs.Normal.{HaveOneNormalForm}
use Rattle.sw_diskfile.proofs.NormalForms.{normal_form}
use Rattle.sw_law_claim.specs.Claim.{Claim, IsBorneBy}
use Rattle.sw_law_claim.proofs.Normal.{normal_bears}

-- what the one bears the other does
pub crash_bears : (primary : Bool) (files others : List File) (claim : Claim) → HaveOneNormalForm primary files others → IsBorneBy primary claim files → IsBorneBy primary claim others
crash_bears primary files others claim one borne =
    let form = normal_form primary files in
    (normal_bears primary others form.0 ((one form.0).0 form.1) claim).1 ((normal_bears primary files form.0 form.1 claim).0 borne)
