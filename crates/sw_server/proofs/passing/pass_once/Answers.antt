use Rattle.std.proofs.Common.{◌≡◌, Bool, true, false, is_ok, refl, rules, subst}
use Rattle.std.specs.Prelude.{Result, Ok, Err, OnOk}
use Rattle.sw_pass.specs.declared.known.Known.{Known}
use Rattle.sw_server.specs.Closing.{RunOnce}
use Rattle.sw_server.proofs.Lasting.{goes_once, ran_once}
use Rattle.sw_server.proofs.passing.pass_once.Goals as goal

-- what is said of a success, by the test of it
on_success : {T E P : Type 0} (result : Result T E) → (is_ok result ≡ true → P) → OnOk result P
on_success (Ok value) holds = holds refl
on_success (Err error) holds = tt

pub returns-then-wants-clause-ran : goal.returns-then-wants-clause-ran
returns-then-wants-clause-ran g c = (
  is_ok c.pass_over_all-passed.result,
  c.pass_over_all-passed.new.link.wants,
  ran_once g.C.OfCluster.cluster g.D.Disk.tells g.T.Clock.shows c.args.clock.now c.args.known.known c.new-link.result c.pass_over_all-passed.new.link c.finish-pass.result.known c.new-link.ensures.learnt c.new.result.items c.new-link.ensures.rest c.new.ensures.items c.finish-pass.ensures.known
      c.cluster.result.now c.cluster.ensures (is_ok c.pass_over_all-passed.result) c.pass_over_all-passed.ensures.passes,
)

pub returns-then-wants-clause-goes_on : goal.returns-then-wants-clause-goes_on
returns-then-wants-clause-goes_on g c =
    goes_once g.C.OfCluster.cluster g.D.Disk.tells g.T.Clock.shows c.args.clock.now c.args.known.known c.new-link.result c.pass_over_all-passed.new.link c.finish-pass.result.known c.new-link.ensures.learnt c.new.result.items c.new-link.ensures.rest c.new.ensures.items c.finish-pass.ensures.known
    c.cluster.result.now c.cluster.ensures (is_ok c.pass_over_all-passed.result) c.pass_over_all-passed.ensures.passes

pub returns-clause-ran : goal.returns-clause-ran
returns-clause-ran g c = (
  is_ok c.pass_over_all-passed.result,
  c.pass_over_all-passed.new.link.wants,
  ran_once g.C.OfCluster.cluster g.D.Disk.tells g.T.Clock.shows c.args.clock.now c.args.known.known c.new-link.result c.pass_over_all-passed.new.link c.finish-pass.result.known c.new-link.ensures.learnt c.new.result.items c.new-link.ensures.rest c.new.ensures.items c.finish-pass.ensures.known
      c.cluster.result.now c.cluster.ensures (is_ok c.pass_over_all-passed.result) c.pass_over_all-passed.ensures.passes,
)

pub returns-clause-whole : goal.returns-clause-whole
returns-clause-whole g c = on_success c.pass_over_all-passed.result (λ is.
    let none : c.pass_over_all-passed.new.link.wants ≡ false = search rules in
    let before : Known = c.args.known.known in
    let after : Known = c.finish-pass.result.known in
    let it = ran_once g.C.OfCluster.cluster g.D.Disk.tells g.T.Clock.shows c.args.clock.now before c.new-link.result c.pass_over_all-passed.new.link after c.new-link.ensures.learnt c.new.result.items c.new-link.ensures.rest c.new.ensures.items c.finish-pass.ensures.known
    c.cluster.result.now c.cluster.ensures (is_ok c.pass_over_all-passed.result) c.pass_over_all-passed.ensures.passes in
    subst (λ (wants : Bool). RunOnce g.C.OfCluster.cluster g.D.Disk.tells g.T.Clock.shows c.args.clock.now true wants before after) none
    (subst (λ (is_whole : Bool). RunOnce g.C.OfCluster.cluster g.D.Disk.tells g.T.Clock.shows c.args.clock.now is_whole c.pass_over_all-passed.new.link.wants before after) is it))

pub returns-clause-goes_on : goal.returns-clause-goes_on
returns-clause-goes_on g c =
    goes_once g.C.OfCluster.cluster g.D.Disk.tells g.T.Clock.shows c.args.clock.now c.args.known.known c.new-link.result c.pass_over_all-passed.new.link c.finish-pass.result.known c.new-link.ensures.learnt c.new.result.items c.new-link.ensures.rest c.new.ensures.items c.finish-pass.ensures.known
    c.cluster.result.now c.cluster.ensures (is_ok c.pass_over_all-passed.result) c.pass_over_all-passed.ensures.passes
