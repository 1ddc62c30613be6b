-- What comes next is what the machine of the get does.
use Rattle.std.proofs.Common.{inr, refl, sym, ◌∙◌}
use Rattle.sw_message.specs.Transcript.{Wait}
use Rattle.sw_get.specs.declared.round_end.Going.TheVariants as going
use Rattle.sw_get.proofs.Changes.{is_next, waits}
use Rattle.sw_get.proofs.get.GetOp.step.Goals as goal

pub returns-in_ok-ask-in-Ask-clause-hands : goal.returns-in_ok-ask-in-Ask-clause-hands
returns-in_ok-ask-in-Ask-clause-hands c = λ begun past stands. (c.in_ok-ask-in-Ask.ensures.hands begun past stands, c.ask.ensures.end ∙ c.requires.goes_on)

pub returns-in_ok-fetch-in-Fetch-clause-hands : goal.returns-in_ok-fetch-in-Fetch-clause-hands
returns-in_ok-fetch-in-Fetch-clause-hands c = λ begun past stands. (c.in_ok-fetch-in-Fetch.ensures.hands begun past stands, c.fetch.ensures.end ∙ c.requires.goes_on)

pub returns-in-Wait-clause-hands : goal.returns-in-Wait-clause-hands
returns-in-Wait-clause-hands c = λ begun past stands.
    let goes = sym c.in_ok-device.ensures ∙ c.in-Wait.is in
    inr (is_next c.args.self.now begun past stands c.requires Wait going.Wait goes refl, waits c.args.self.now begun past stands c.requires goes, c.requires.goes_on)
