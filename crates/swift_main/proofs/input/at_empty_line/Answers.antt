use Rattle.swift_main.proofs.EmptyLines.{cut_at_feeds, no_feeds}
use Rattle.swift_main.proofs.input.at_empty_line.Goals as goal

pub returns-in-Some-find : goal.returns-in-Some-find
returns-in-Some-find c =
    let cut = cut_at_feeds _ _ c.in_default.ensures.cases c.in-Some-find.ensures.0.before c.in-Some-find.ensures.1 in
    record { before = cut.0; after = cut.1 }

pub returns-in-None : goal.returns-in-None
returns-in-None c =
    let cut = no_feeds _ c.in_default.ensures.cases c.in-None.ensures in
    record { before = cut.0; after = cut.1 }
