use Rattle.sw_law_determined.proofs.Clusters.{one_cluster}
use Rattle.sw_law_determined.proofs.laws.cluster_law.Goals as goal

pub returns : goal.returns
returns c = one_cluster
