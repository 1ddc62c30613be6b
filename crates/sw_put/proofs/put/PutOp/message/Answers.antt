-- The message of a fragment has the archive of its index.
use Rattle.std.proofs.Common.{◌≡◌, Some, sym, ap, subst, ◌∙◌}
use Rattle.std.proofs.lemmas.Result.{IfOk-weaker}
use Rattle.sw_put.specs.Plans.{device_in}
use Rattle.sw_put.specs.Put.{put_message}
use Rattle.sw_put.specs.declared.errand.Errand.{Errand}
use Rattle.sw_put.proofs.Changes.{fragment_is, index_below}
use Rattle.sw_put.proofs.Homes.{fits}
use Rattle.sw_put.proofs.put.PutOp.message.Goals as goal

pub fragment-requires : goal.fragment-requires
fragment-requires c =
    let is = c.requires in
    index_below c.args.self.now is.0 is.1 is.3 c.in-StoreAt.target (fits is.0 is.3.valid is.1 is.2 _ is.3.run (is.4 ∙ ap Some c.in-StoreAt.is)).below

pub returns-in-StoreAt : goal.returns-in-StoreAt
returns-in-StoreAt c = λ begun past number stands is.
    IfOk-weaker c.fragment.result _ _ (λ msg same ticket. subst (λ (errand : Errand). put_message begun ticket errand ≡ record { ticket = ticket; device = device_in errand; msg = msg }) (sym c.in-StoreAt.is)
    (fragment_is c.args.self.now begun past stands c.in-StoreAt.target msg same ticket))
    c.fragment.ensures
