-- The devices that a get asks, and those from which it fetches, are of its cluster.
use Rattle.std.proofs.Common.{◌≡◌, ℕ, ◌+◌, ◌<◌, ◌≤◌, Bool, true, false, List, [], ◌∷◌, length, nat_lt, Some, subst, arith}
use Rattle.std.specs.Prelude.{if◌then◌else◌, slice_index}
use Rattle.std.specs.List.{All, find, slice_get}
use Rattle.std.proofs.lemmas.List.{length-append, length-map}
use Rattle.std.proofs.lemmas.List.Elements.{All-append, All-get_or, All-head, All-tail, All-weaker}
use Rattle.std.proofs.lemmas.Option.{get_or_from_slice_get, none-some, same_Some, slice_get_within}
use Rattle.sw_types.specs.Policy.{PolicyModel}
use Rattle.sw_types.proofs.Policies.{bounds}
use Rattle.sw_hashdir.specs.Listing.{ListingModel}
use Rattle.sw_message.specs.Message.{IsMember}
use Rattle.sw_message.specs.declared.target.Target.{Target}
use Rattle.sw_quorum.proofs.Places.{handoffs_few, handoffs_known, part_small, primaries_few}
use Rattle.sw_get.specs.Get.{Begun, IsBegun, devices, place_of}
use Rattle.sw_get.specs.Round.{Facts, all_devices, candidates, is_free, next_source}
use Rattle.sw_gather.proofs.Sources.{OfEntries, choices-of, firsts-kept}
use Rattle.sw_gather.specs.Choices.{firsts}

-- ---- lists of targets

module _ (P : Target → Type 0) where
  found-kept : (test : Target → Bool) (targets : List Target) (target : Target) → find test targets ≡ Some target → All P targets → P target
  found-kept test [] target is all = absurd (none-some target is)
  found-kept test (first ∷ targets) target is all = by_test (test first) is (λ later. found-kept test targets target later (All-tail P first targets all))
    where
      by_test : (b : Bool) → (if b then Some first else find test targets) ≡ Some target → (find test targets ≡ Some target → P target) → P target
      by_test true same later = subst P (same_Some first target same) (All-head P first targets all)
      by_test false found later = later found

  at-kept : (targets : List Target) (number : ℕ) (target : Target) → slice_get targets number ≡ Some target → All P targets → P target
  at-kept targets number target is all = subst P (get_or_from_slice_get targets number target target is) (All-get_or P targets number target (slice_get_within targets number target is) all)

  pub source-kept : (policy : PolicyModel) (choices : List Target) (facts : Facts) (source : Target) → next_source policy choices facts ≡ Some source → All P choices → P source
  source-kept policy choices facts source is all = by_few (nat_lt (length facts.tried) policy.k) is
    where
      by_few : (b : Bool) → (if b then slice_get (firsts choices) (length facts.tried) else find (is_free facts) choices) ≡ Some source → P source
      by_few true at = at-kept (firsts choices) (length facts.tried) source at (firsts-kept P choices all)
      by_few false found = found-kept (is_free facts) choices source found all

-- candidates are what listings show
pub candidates-of : (Q : Target → Type 0) (policy : PolicyModel) (stamp : ℕ) (facts : Facts) → All (OfEntries Q (policy.k + policy.m) stamp) facts.lists → All Q (candidates policy stamp facts)
candidates-of Q policy stamp facts all = choices-of Q (policy.k + policy.m) stamp facts.lists all

-- ---- the devices of the place

module _ (begun : Begun) where
  devices_known : IsBegun begun → All (IsMember begun.cluster) (all_devices (devices begun))
  devices_known valid = All-append (IsMember begun.cluster) (devices begun).handoffs (devices begun).primaries (handoffs_known begun.cluster (place_of begun).part)
      (valid.rules.known (place_of begun).part (part_small begun.cluster begun.name))

  -- there are some primaries, and few devices
  pub primaries_some : IsBegun begun → 0 < length (devices begun).primaries
  primaries_some valid =
      omega (arith, length-map begun.cluster.rows (λ (row : List ℕ). slice_index row (place_of begun).part), valid.rules.rows, (bounds begun.cluster.policy valid.rules.policy).some_data)

  pub devices_few : IsBegun begun → length (all_devices (devices begun)) ≤ 96
  devices_few valid =
      let part = (place_of begun).part in
      omega (arith, length-append (devices begun).handoffs (devices begun).primaries, handoffs_few begun.cluster part valid.rules, primaries_few begun.cluster part valid.rules)

  pub asked_known : IsBegun begun → (number device : ℕ) → slice_get (all_devices (devices begun)) number ≡ Some device → IsMember begun.cluster device
  asked_known valid number device is =
      subst (IsMember begun.cluster) (get_or_from_slice_get (all_devices (devices begun)) number device device is)
      (All-get_or (IsMember begun.cluster) (all_devices (devices begun)) number device (slice_get_within (all_devices (devices begun)) number device is) (devices_known valid))

  pub source_known : (stamp : ℕ) (facts : Facts) (source : Target) → next_source begun.cluster.policy (candidates begun.cluster.policy stamp facts) facts ≡ Some source
      → All (λ (one : ℕ × ListingModel). IsMember begun.cluster one.0) facts.lists → IsMember begun.cluster source.device
  source_known stamp facts source is all =
      let AtMember : Target → Type 0 = λ target. IsMember begun.cluster target.device in
      source-kept AtMember begun.cluster.policy (candidates begun.cluster.policy stamp facts) facts source is
      (candidates-of AtMember begun.cluster.policy stamp facts
      (All-weaker (λ (one : ℕ × ListingModel). IsMember begun.cluster one.0) (OfEntries AtMember (begun.cluster.policy.k + begun.cluster.policy.m) stamp) (λ one member entry among listed. member) facts.lists all))
