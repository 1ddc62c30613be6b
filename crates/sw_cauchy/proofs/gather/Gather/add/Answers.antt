use Rattle.std.proofs.Common.{◌≢◌, ◌+◌, ◌<◌, ℕ, List, [], ◌∷◌, length, refl, sym, ap, subst, ◌∙◌, arith}
use Rattle.std.specs.List.{All, AllPairs}
use Rattle.std.proofs.lemmas.Slice.{pushed}
use Rattle.sw_cauchy.specs.declared.gather.Gather.TheInside.{Inside}
use Rattle.sw_cauchy.proofs.Shares.{may_add, room_for_bytes, added_below, added_distinct, IsGather-added, gather_model-added}
use Rattle.sw_cauchy.proofs.gather.Gather.add.Goals as goal

pub unwrap-requires : goal.unwrap-requires
unwrap-requires c =
    let before = c.self.inside in
    let may = may_add before c.args.self.now c.args.index c.args.fragment.now c.self.view_is c.self.invariant c.requires.below c.requires.new c.requires.width c.requires.room in
    c.push.ensures.succeeds (omega (arith, may.room, before.indices.ok.0, c.self.invariant.index_room))

pub unwrap-requires-2 : goal.unwrap-requires-2
unwrap-requires-2 c =
    let before = c.self.inside in
    let may = may_add before c.args.self.now c.args.index c.args.fragment.now c.self.view_is c.self.invariant c.requires.below c.requires.new c.requires.width c.requires.room in
    c.extend_from_slice.ensures.succeeds (omega (arith, room_for_bytes before c.args.index c.args.fragment.now may, before.bytes.ok.0))

pub follow-requires-clause-below : goal.follow-requires-clause-below
follow-requires-clause-below c =
    let before = c.self.inside in
    let may = may_add before c.args.self.now c.args.index c.args.fragment.now c.self.view_is c.self.invariant c.requires.below c.requires.new c.requires.width c.requires.room in
    subst (λ (xs : List ℕ). All (λ i. i < before.code.k + before.code.m) xs)
    (sym (c.deref.ensures.value ∙ pushed (c.args.index ∷ []) refl c.unwrap.ensures c.push.ensures.items)) (added_below before c.args.index c.args.fragment.now may)

pub follow-requires-clause-distinct : goal.follow-requires-clause-distinct
follow-requires-clause-distinct c =
    let before = c.self.inside in
    let may = may_add before c.args.self.now c.args.index c.args.fragment.now c.self.view_is c.self.invariant c.requires.below c.requires.new c.requires.width c.requires.room in
    subst (λ (xs : List ℕ). AllPairs (λ s t. s ≢ t) xs)
    (sym (c.deref.ensures.value ∙ pushed (c.args.index ∷ []) refl c.unwrap.ensures c.push.ensures.items)) (added_distinct before c.args.index c.args.fragment.now may)

pub invariant_of-self : goal.invariant_of-self
invariant_of-self c =
    let before = c.self.inside in
    let after : Inside = record { code = before.code; width = before.width; indices = c.push.new.self; bytes = c.extend_from_slice.new.self; decoder = c.follow.new.self } in
    let may = may_add before c.args.self.now c.args.index c.args.fragment.now c.self.view_is c.self.invariant c.requires.below c.requires.new c.requires.width c.requires.room in
    IsGather-added before after c.args.index c.args.fragment.now may
    (record {
      code = refl;
      width = refl;
      indices = pushed (c.args.index ∷ []) refl c.unwrap.ensures c.push.ensures.items;
      bytes = pushed c.args.fragment.now refl c.unwrap-2.ensures c.extend_from_slice.ensures.items;
      index_room = c.push.ensures.capacity;
      byte_room = c.extend_from_slice.ensures.capacity;
      decodes = c.follow.ensures.decodes;
      follows = λ full. c.follow.ensures.follows (ap length c.deref.ensures.value ∙ full) ∙ c.deref.ensures.value;
    })

pub returns : goal.returns
returns c =
    let before = c.self.inside in
    let after : Inside = record { code = before.code; width = before.width; indices = c.push.new.self; bytes = c.extend_from_slice.new.self; decoder = c.follow.new.self } in
    let may = may_add before c.args.self.now c.args.index c.args.fragment.now c.self.view_is c.self.invariant c.requires.below c.requires.new c.requires.width c.requires.room in
    gather_model-added before after c.args.self.now c.args.index c.args.fragment.now c.self.view_is may
    (record {
      code = refl;
      width = refl;
      indices = pushed (c.args.index ∷ []) refl c.unwrap.ensures c.push.ensures.items;
      bytes = pushed c.args.fragment.now refl c.unwrap-2.ensures c.extend_from_slice.ensures.items;
      index_room = c.push.ensures.capacity;
      byte_room = c.extend_from_slice.ensures.capacity;
      decodes = c.follow.ensures.decodes;
      follows = λ full. c.follow.ensures.follows (ap length c.deref.ensures.value ∙ full) ∙ c.deref.ensures.value;
    })
