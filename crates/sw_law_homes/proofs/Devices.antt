-- The devices of a place: each index has one primary, which is a device of the cluster, and no device is the primary of two.
use Rattle.std.proofs.Common.{◌≡◌, inl, inr, ⊎_elim, ℕ, ◌+◌, ◌^◌, ◌<◌, false, true≢false, get_or, sym, subst, ◌∙◌, arith}
use Rattle.std.proofs.lemmas.Bool.{cases_eq, cases_lt}
use Rattle.std.proofs.lemmas.Option.{get_or_from_slice_get, same_Some, slice_get-get_or, slice_get_within}
use Rattle.sw_hashpath.proofs.Laws.{part_below}
use Rattle.sw_hashpath.specs.Place.{IsPlace, PlaceModel}
use Rattle.sw_ring.specs.Cluster.{ClusterModel, KeepsRules, column_of}
use Rattle.sw_ring.proofs.Roles.{column_length}
use Rattle.sw_message.specs.Message.{IsMember, is_primary}
use Rattle.sw_message.specs.Warrant.{IsHome, IsPrimaryOf}
use Rattle.sw_message.specs.declared.target.Target.{Target}
use Rattle.sw_law_owed.proofs.Primaries.{at_primary}

module _ (cluster : ClusterModel) (place : PlaceModel) where
  -- an index has one primary
  pub one_device : (index device other : ℕ) → IsPrimaryOf cluster place index device → IsPrimaryOf cluster place index other → device ≡ other
  one_device index device other is also = same_Some device other (sym is ∙ also)

  -- it isn't a handoff
  pub no_handoff : (index device : ℕ) → is_primary cluster device place ≡ false → IsPrimaryOf cluster place index device → ⊥
  no_handoff index device handoff is = true≢false (sym (at_primary cluster place index device is) ∙ handoff)

  module _ (rules : KeepsRules cluster) (is_place : IsPlace cluster.part_power place) where
    -- its partition is one of the cluster
    part_small : place.part < 2 ^ cluster.part_power
    part_small = subst (λ part. part < 2 ^ cluster.part_power) (sym is_place.part) (part_below place.hash cluster.part_power is_place.hash)

    -- a primary is a device of the cluster
    pub primary_known : (index device : ℕ) → IsPrimaryOf cluster place index device → IsMember cluster device
    primary_known index device is =
        let column = column_of cluster place.part in
        subst (IsMember cluster) (get_or_from_slice_get column index device device is) (rules.known place.part part_small index device (slice_get_within column index device is))

    -- no device is the primary of a later index too
    never_later : (index other device : ℕ) → index < other → IsPrimaryOf cluster place index device → IsPrimaryOf cluster place other device → ⊥
    never_later index other device less is also =
        let column = column_of cluster place.part in
        rules.apart place.part part_small index other device less (slice_get_within column other device also)
        (get_or_from_slice_get column index device device is ∙ sym (get_or_from_slice_get column other device device also))

    -- so it is that of one
    pub one_index : (index other device : ℕ) → IsPrimaryOf cluster place index device → IsPrimaryOf cluster place other device → index ≡ other
    one_index index other device is also = ⊎_elim
        (λ same. same)
        (λ differ. absurd (⊎_elim
        (λ less. never_later index other device less is also)
        (λ least. never_later other index device (omega (arith, least, differ)) also is)
        (cases_lt index other)))
        (cases_eq index other)

    -- each index has a primary
    pub primary_at : (index : ℕ) → index < cluster.policy.k + cluster.policy.m → (device : ℕ) × IsPrimaryOf cluster place index device
    primary_at index below =
        let column = column_of cluster place.part in
        (get_or column index 0, slice_get-get_or column index 0 (omega (arith, below, column_length cluster place.part rules)))

    -- a home of an index that is the primary of an index is that of its own
    pub home_index : (target : Target) (index : ℕ) → IsHome cluster place target → IsPrimaryOf cluster place index target.device → target.index ≡ index
    home_index target index (inl primary) is = one_index target.index index target.device primary is
    home_index target index (inr (member, handoff, below)) is = absurd (no_handoff index target.device handoff is)
