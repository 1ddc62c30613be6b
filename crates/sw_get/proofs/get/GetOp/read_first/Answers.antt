-- The first answer is read by its errand.
use Rattle.std.proofs.Common.{◌∷◌, sym, ap, ◌∙◌}
use Rattle.sw_get.specs.Standing.{GetModel}
use Rattle.sw_get.specs.declared.errand.Errand.{Errand}
use Rattle.sw_get.proofs.get.GetOp.read_first.Goals as goal

pub read_asked-requires : goal.read_asked-requires
read_asked-requires c = (
  c.in-Some.field-0.now.1,
  c.in-Some.ensures.0,
  ap (λ (get : GetModel). get.mailbox.unread) (sym c.self.view_is) ∙ c.in-Some.ensures.1 ∙ ap (λ (errand : Errand). (errand, c.in-Some.field-0.now.1) ∷ c.in-Some.ensures.0) c.in-Ask.is,
)

pub read_fetched-requires : goal.read_fetched-requires
read_fetched-requires c = (
  c.in-Some.field-0.now.1,
  c.in-Some.ensures.0,
  ap (λ (get : GetModel). get.mailbox.unread) (sym c.self.view_is) ∙ c.in-Some.ensures.1 ∙ ap (λ (errand : Errand). (errand, c.in-Some.field-0.now.1) ∷ c.in-Some.ensures.0) c.in-Fetch.is,
)
