-- A round is kept as an event, and another one begins, or the get ends.
use Rattle.std.proofs.Common.{◌≡◌, inl, ◌≤◌, ◌++◌, List, [], ◌∷◌, length, refl, sym, ap, subst, ◌∙◌, arith}
use Rattle.sw_get.specs.Get.{most_kept}
use Rattle.sw_get.specs.GetInside.{get_seen}
use Rattle.sw_get.specs.Standing.{GetModel, IsReady, Stands, going_of}
use Rattle.sw_get.specs.declared.round_end.Going.TheVariants as going
use Rattle.sw_get.specs.declared.round_end.KeptEvent.{KeptEvent}
use Rattle.sw_get.proofs.Endings.{is_overtaken, stands_overtaken}
use Rattle.sw_get.proofs.get.GetOp.keep.Goals as goal

pub returns-then-len-lt-MOST_KEPT-clause-hands : goal.returns-then-len-lt-MOST_KEPT-clause-hands
returns-then-len-lt-MOST_KEPT-clause-hands c = λ begun past stands. (c.in_ok-begin_round.ensures.hands begun past stands, c.begin_round.ensures.end ∙ c.requires.ready.goes_on)

-- what is required, by the fields
record Required (c : goal.Joined-self) : Type 0 where
  ready : IsReady (get_seen c.self.inside)
  goes : going_of (get_seen c.self.inside) ≡ going.Keep c.args.event
  many : most_kept ≤ length c.self.inside.events.items
  kept : c.from.result ≡ c.self.inside.events.items ++ c.args.event ∷ []

required : (c : goal.Joined-self) → Required c
required c = record {
  ready = subst IsReady (sym c.self.view_is) c.requires.ready;
  goes = ap going_of c.self.view_is ∙ c.requires.goes;
  many = omega (arith, c.if-len-lt-MOST_KEPT.false, c.len.ensures, c.self.inside.events.ok);
  kept = c.from.ensures ∙ c.in_ok-push.ensures.items ∙ ap (λ (these : List KeptEvent). these ++ c.args.event ∷ []) (c.in_ok-events.ensures.items ∙ c.deref.ensures.value);
}

pub invariant_of-self : goal.invariant_of-self
invariant_of-self c =
    let known = c.self.invariant in
    let needs = required c in
    (known.0, known.1, stands_overtaken (get_seen c.self.inside) known.0 known.1 known.2 needs.ready c.args.event needs.goes needs.many c.from.result needs.kept)

pub returns-clause-hands : goal.returns-clause-hands
returns-clause-hands c = λ begun past stands.
    let needs = required c in
    inl (is_overtaken (get_seen c.self.inside) begun past (subst (λ (get : GetModel). Stands get begun past) (sym c.self.view_is) stands) needs.ready c.args.event needs.goes needs.many, refl)

pub returns-clause-goes_on : goal.returns-clause-goes_on
returns-clause-goes_on c = λ begun past stands.
    let needs = required c in
    stands_overtaken (get_seen c.self.inside) begun past (subst (λ (get : GetModel). Stands get begun past) (sym c.self.view_is) stands) needs.ready c.args.event needs.goes needs.many c.from.result needs.kept
