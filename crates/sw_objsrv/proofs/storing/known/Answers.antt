use Rattle.std.proofs.Common.{◌≡◌, true, false, true≢false, Option, None, Some, refl, sym, inr}
use Rattle.std.specs.Prelude.{MatchOption, is_some}
use Rattle.sw_hashdir.specs.declared.entry.Entry.{Entry}
use Rattle.sw_message.specs.Spoil.{IsArchiveOf}
use Rattle.sw_objsrv.proofs.Found.{entry_at}
use Rattle.sw_objsrv.proofs.storing.known.Goals as goal

-- ---- whether an entry is there

entry_some : (entry : Option Entry) (Lacks : Type 0) (Has : Entry → Type 0) → is_some entry ≡ true → MatchOption entry Lacks Has → (there : Entry) × Has there
entry_some None Lacks Has some is = absurd (true≢false (sym some))
entry_some (Some there) Lacks Has some is = (there, is)

entry_none : (entry : Option Entry) (Lacks : Type 0) (Has : Entry → Type 0) → is_some entry ≡ false → MatchOption entry Lacks Has → Lacks
entry_none None Lacks Has none is = is
entry_none (Some there) Lacks Has none is = absurd (true≢false none)

-- ---- the archive is the one that was asked for, and nothing supersedes it

pub returns-then-is_some : goal.returns-then-is_some
returns-then-is_some c =
    let asked : IsArchiveOf c.args.cluster.now c.args.place.now c.args.stamp c.args.index c.args.bytes.now = record { archive = c.in_default.field-0; spelled = c.in_default.ensures.found.0; asked = c.in_default.ensures.found.1 } in
    let found = entry_some c.entry.result _ _ (sym c.if-is_some.ensures) c.entry.ensures in
    inr (asked, inr (c.in_default-covering.ensures, found.0.durable, entry_at c.args.dir.now found.0 c.args.stamp c.args.index found.1, refl))

pub returns : goal.returns
returns c =
    let asked : IsArchiveOf c.args.cluster.now c.args.place.now c.args.stamp c.args.index c.args.bytes.now = record { archive = c.in_default.field-0; spelled = c.in_default.ensures.found.0; asked = c.in_default.ensures.found.1 } in
    (asked, c.in_default-covering.ensures, entry_none c.entry.result _ _ (sym c.if-is_some.ensures) c.entry.ensures)
