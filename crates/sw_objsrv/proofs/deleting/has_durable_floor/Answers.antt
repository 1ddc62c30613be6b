use Rattle.std.proofs.Common.{◌≡◌, ◌↔◌, true, true≢false, rules, sym}
use Rattle.sw_hashdir.specs.declared.floor.FloorKind.TheVariants.{Durable}
use Rattle.sw_objsrv.proofs.Floors.{floor_durable, none_durable}
use Rattle.sw_objsrv.proofs.deleting.has_durable_floor.Goals as goal

pub returns-in-Some : goal.returns-in-Some
returns-in-Some c =
    let both : (c.eq.result ≡ true) ↔ (c.in-Some.floor.kind ≡ Durable) = search rules in (
      λ yes. (c.in-Some.floor, c.in-Some.ensures, both.0 yes),
      λ has. both.1 (floor_durable c.args.dir.now c.in-Some.floor c.in-Some.ensures has),
    )

pub returns-in-None : goal.returns-in-None
returns-in-None c = (λ yes. absurd (true≢false (sym yes)), λ has. absurd (none_durable c.args.dir.now c.in-None.ensures has))
