use Rattle.std.proofs.Common.{◌≡◌, [], rules, refl}
use Rattle.std.proofs.KnownBytes.{Appends-nil}
use Rattle.sw_server.specs.Closing.{closed_text}
use Rattle.sw_server.proofs.Lasting.{proper}
use Rattle.sw_server.proofs.Opened.{of_success}
use Rattle.sw_server.proofs.serving.close.Goals as goal

pub returns-then-is_err-clause-closes : goal.returns-then-is_err-clause-closes
returns-then-is_err-clause-closes g c = let ran = c.pass_once-pass.ensures.ran in ([], Appends-nil (g.O.Sink.written c.args.output.now), (refl, ran.0, ran.1, ran.2))

pub returns-in_default-clause-closes : goal.returns-in_default-clause-closes
returns-in_default-clause-closes g c = let ran = c.pass_once-pass.ensures.ran in ([], Appends-nil (g.O.Sink.written c.args.output.now), (refl, ran.0, ran.1, ran.2))

pub returns-in-Ok-write_all-clause-closes : goal.returns-in-Ok-write_all-clause-closes
returns-in-Ok-write_all-clause-closes g c =
    let text : c.as_bytes.result.now ≡ closed_text c.args.count = search rules in
    (c.as_bytes.result.now, c.in-Ok-write_all.ensures.whole, (of_success c.pass_once-pass.result.1 (search rules) c.pass_once-pass.ensures.whole, refl, text))

pub returns-clause-closes : goal.returns-clause-closes
returns-clause-closes g c =
    let text : c.as_bytes.result.now ≡ closed_text c.args.count = search rules in
    let front = c.in-Err.ensures.front in
    (_, front.1, (of_success c.pass_once-pass.result.1 (search rules) c.pass_once-pass.ensures.whole, proper front.0 c.as_bytes.result.now (closed_text c.args.count) text front.2))
