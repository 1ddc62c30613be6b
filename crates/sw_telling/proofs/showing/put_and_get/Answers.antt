use Rattle.std.proofs.Common.{◌≡◌, ◌∙◌, false, sym}
use Rattle.sw_telling.specs.Shown.{PutAndGot}
use Rattle.sw_telling.proofs.Shows.{shows_it}
use Rattle.sw_telling.proofs.showing.put_and_get.Goals as goal

pub returns-clause-found : goal.returns-clause-found
returns-clause-found c =
    let speaks : c.get.new.link.is_silent ≡ false = sym c.is_silent.ensures.silent ∙ c.if-is_silent.false in
    let ran : PutAndGot c.args.cluster.now c.args.clock c.args.name.now c.args.object.now c.in_ok-created.created c.in_ok-found.found = record {
      first = c.in_ok-link.link;
      between = c.put.new.link;
      last = c.get.new.link;
      is_new = c.in_ok-link.ensures;
      puts = c.in_ok-created.ensures.puts;
      gets = c.in_ok-found.ensures.gets;
      speaks = speaks;
      goes_on = c.is_silent.ensures.goes_on speaks;
      tells = c.is_silent.ensures.tells speaks;
    } in
    shows_it c.args.cluster.now c.args.clock c.args.name.now c.args.object.now c.in_ok-created.created c.in_ok-found.found ran
