-- What a link over nodes behind locks tells is sound, by the test that it went through.
use Rattle.std.specs.Prelude.{Bool, true, false, Some}
use Rattle.sw_ring.specs.Cluster.{ClusterModel}
use Rattle.sw_message.specs.Running.{TellsSoundly}
use Rattle.sw_message.proofs.Soundly.{told-sound}
use Rattle.sw_pass.specs.declared.known.Known.{Known}
use Rattle.sw_local.specs.Link.{learnt_of, told_by}

pub told_by_test : (cluster : ClusterModel) (tells : Bool) (known : Known) → TellsSoundly (Some cluster) (told_by cluster tells known)
told_by_test cluster false known = tt
told_by_test cluster true known = told-sound cluster (learnt_of cluster known)
