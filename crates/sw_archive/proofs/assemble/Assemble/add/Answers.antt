use Rattle.std.proofs.Common.{◌≡◌, ◌≤◌, ◌++◌, ◌∷◌, [], true, refl, sym, ap, ◌∙◌, subst, arith}
use Rattle.sw_archive.specs.Alike.{is_next}
use Rattle.sw_archive.specs.Assemble.{AssembleModel, IsNext, k_of}
use Rattle.sw_archive.proofs.Gatherings.{AreTogether-push, room_for_next}
use Rattle.sw_archive.proofs.Decisions.{Decides-next}
use Rattle.sw_archive.proofs.assemble.Assemble.add.Goals as goal
use Rattle.sw_archive.proofs.assemble.Assemble.add.Goals.{After-is_next}

-- what is tested is whether the archive can stand beside those that are there
tested : (c : After-is_next) → c.is_next.result ≡ is_next c.self.inside.archives.items c.args.archive
tested c = c.is_next.ensures.test ∙ ap (λ archives. is_next archives c.args.archive) c.deref.ensures.value

next : (c : After-is_next) → c.is_next.result ≡ true → IsNext c.self.inside.archives.items c.args.archive
next c passes = (Decides-next c.self.inside.archives.items c.args.archive).0 (sym (tested c) ∙ passes)

pub returns-then-not-is_next-clause-added : goal.returns-then-not-is_next-clause-added
returns-then-not-is_next-clause-added c =
    let test = tested (goal.at.returns-then-not-is_next-clause-added c).After-is_next in (
      λ stands.
          let inside = subst (λ (a : AssembleModel). IsNext a.archives c.args.archive) (sym c.self.view_is) stands in
          let yes = (Decides-next c.self.inside.archives.items c.args.archive).1 inside in absurd (cc),
      refl,
      refl,
    )

pub push_reserved-requires : goal.push_reserved-requires
push_reserved-requires c =
    let stands = next (goal.at.push_reserved-requires c).After-is_next c.if-not-is_next.false in
    let room = subst (λ (a : AssembleModel). k_of a.archives c.args.archive ≤ a.room) (sym c.self.view_is) c.requires.room in
    let space = room_for_next c.self.inside.archives.items c.args.archive _ stands room in
    omega (arith, space, c.self.inside.archives.ok.0)

pub invariant_of-self : goal.invariant_of-self
invariant_of-self c =
    let stands = next (goal.at.invariant_of-self c).After-is_next c.if-not-is_next.false in
    rw c.push_reserved.ensures.items (AreTogether-push c.self.inside.archives.items c.args.archive c.self.invariant c.is_next.ensures.sound stands)

pub returns-clause-added : goal.returns-clause-added
returns-clause-added c =
    let stands = next (goal.at.returns-clause-added c).After-is_next c.if-not-is_next.false in (
      subst (λ (a : AssembleModel). IsNext a.archives c.args.archive) c.self.view_is stands,
      c.push_reserved.ensures.items ∙ ap (λ (a : AssembleModel). a.archives ++ c.args.archive ∷ []) c.self.view_is,
    )
