-- Bytes that were read mean an archive, or that the source is lost.
use Rattle.std.proofs.Common.{◌≡◌, ◌++◌, sym, subst}
use Rattle.std.specs.Prelude.{IfOk}
use Rattle.sw_types.specs.Policy.{PolicyModel}
use Rattle.sw_archive.specs.Archive.{ArchiveModel}
use Rattle.sw_message.specs.Spoil.{IsSpoil}
use Rattle.sw_message.specs.declared.miss.Miss.TheVariants as miss
use Rattle.sw_sync.specs.Parts.{Repair}
use Rattle.sw_sync.specs.Sync.{IsJoined, IsRead, IsWanted, Meaning, due_fetched, fetched}
use Rattle.sw_sync.proofs.Replies.{read_joined, read_spoil, told, weaker}
use Rattle.sw_sync.proofs.repair.Repair.read.Goals as goal

pub returns-in_ok-archive-in-Ok-clause-ok : goal.returns-in_ok-archive-in-Ok-clause-ok
returns-in_ok-archive-in-Ok-clause-ok c =
    let cluster = c.args.cluster.now in
    let place = c.args.place.now in
    let repair = c.args.self.now in
    let index = c.args.source.index in
    let archive = c.in_ok-archive-in-Ok.archive in
    let due = c.args.due.now.items in
    let brought = subst (λ (policy : PolicyModel). IfOk c.bring.result (λ _. (meaning : Meaning) × IsJoined policy repair archive meaning × (c.bring.new.self ≡ fetched repair c.args.source meaning)
    × (c.bring.new.due.items ≡ due ++ due_fetched policy.k repair c.args.source meaning))) c.policy.ensures c.bring.ensures.ok in
    let wanted = subst (λ (repair : Repair). IsWanted cluster place repair.stamp index c.args.bytes.now c.in-Ok.spelled) c.self.view_is c.in-Ok.ensures.found in
    weaker c.bring.result (IsJoined cluster.policy repair archive) (IsRead cluster place repair index c.args.bytes.now) cluster.policy.k repair c.bring.new.self c.args.source due c.bring.new.due.items
    (read_joined cluster place repair index c.args.bytes.now archive (subst (λ (a : ArchiveModel). IsWanted cluster place repair.stamp index c.args.bytes.now a) (sym c.in_ok-archive-in-Ok.ensures) wanted))
    brought

pub returns-in-Err-clause-ok : goal.returns-in-Err-clause-ok
returns-in-Err-clause-ok c =
    let cluster = c.args.cluster.now in
    let place = c.args.place.now in
    let repair = c.args.self.now in
    let index = c.args.source.index in
    let spoil = c.in-Err.spoil in
    let bytes = c.args.bytes.now in
    let here = subst (λ (repair : Repair). IsSpoil cluster place repair.stamp index bytes spoil) c.self.view_is c.in-Err.ensures.refused in
    told c.lose.result (IsRead cluster place repair index bytes) cluster.policy.k repair c.lose.new.self c.args.source c.args.due.now.items c.lose.new.due.items (miss.Spoiled spoil)
    (read_spoil cluster place repair index bytes spoil here)
    c.lose.ensures.ok
