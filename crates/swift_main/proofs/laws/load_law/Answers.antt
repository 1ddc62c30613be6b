use Rattle.swift_main.proofs.Loaded.{SummaryLaw, one_text}
use Rattle.swift_main.proofs.Alike.{ClusterLaw}
use Rattle.swift_main.proofs.laws.load_law.Goals as goal

pub returns : goal.returns
returns c =
    let clusters : ClusterLaw = c.cluster_law.ensures in
    let summaries : SummaryLaw = c.summary_law.ensures in
    one_text clusters summaries
