use Rattle.swift_main.proofs.Alike.{ClusterLaw, TextLaw, alike}
use Rattle.swift_main.proofs.laws.answer_law.Goals as goal

pub returns : goal.returns
returns c =
    let clusters : ClusterLaw = c.cluster_law.ensures in
    let texts : TextLaw = c.text_law.ensures.same in
    alike clusters texts
