-- An archive that stands beside those before it is brought by its source.
use Rattle.std.proofs.Common.{◌++◌, ◌∷◌, [], List, ap, subst, ◌∙◌}
use Rattle.sw_message.specs.declared.target.Target.{Target}
use Rattle.sw_gather.specs.Gathered.{Joins}
use Rattle.sw_get.specs.Inside.{round_seen}
use Rattle.sw_get.specs.Meaning.{Brings, IsJoined, with_fetched}
use Rattle.sw_get.specs.Round.{RoundModel}
use Rattle.sw_get.proofs.Joins.{as_long, brought, taken_where, with_brought}
use Rattle.sw_get.proofs.round.Round.take_archive.Goals as goal

pub returns-then-joined-clause-taken : goal.returns-then-joined-clause-taken
returns-then-joined-clause-taken c =
    let archive = c.args.archive in
    let inside = c.self.inside in
    let beside = subst (λ joined. Joins c.args.policy.now inside.gathered archive joined c.join.new.self) c.if-joined.true c.in_ok-joined.ensures.joined in
    let sources = c.push_reserved.ensures.items ∙ ap (λ (sources : List Target). sources ++ c.args.source ∷ []) c.in_ok-reserve.ensures.items in
    taken_where c.args.policy.now c.args.self.now _ c.args.source archive c.in_ok-joined.joined c.if-joined.true (
      subst (λ others. IsJoined c.args.policy.now others archive (Brings archive)) (ap (λ (round : RoundModel). round.facts.archives) c.self.view_is) (brought c.args.policy.now inside.gathered c.join.new.self archive beside),
      with_brought (round_seen inside).facts c.args.source archive c.push_reserved.new.self.items c.join.new.self.archives sources beside.archives
          ∙ ap (λ (round : RoundModel). with_fetched round.facts c.args.source (Brings archive)) c.self.view_is,
      λ is. beside.object (as_long inside.sources.items c.push_reserved.new.self.items inside.gathered.archives c.join.new.self.archives c.args.source archive c.self.invariant.0 sources beside.archives ∙ is),
    )
