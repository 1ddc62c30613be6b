-- What holds of a round of a get in which no fetch has failed, as it hands out a message or hears an answer.
use Rattle.std.proofs.Common.{◌≡◌, ℕ, ◌+◌, ◌==◌, ◌≤◌, ◌++◌, List, [], ◌∷◌, length, length-append, take, Option, Some, refl, sym, ap, subst, ◌∙◌, arith}
use Rattle.std.specs.Prelude.{⊤, if◌then◌else◌}
use Rattle.std.specs.List.{All, AllPairs, filter, find, slice_get}
use Rattle.std.proofs.lemmas.Bool.{lt-ltb}
use Rattle.std.proofs.lemmas.List.{nil_from_length, take_more}
use Rattle.std.proofs.lemmas.List.Elements.{All-cons, All-filter, All-nil}
use Rattle.std.proofs.lemmas.Option.{get_or_from_slice_get, same_Some, slice_get_within}
use Rattle.sw_types.specs.Policy.{PolicyModel}
use Rattle.sw_hashpath.specs.Place.{PlaceModel}
use Rattle.sw_hashdir.specs.Listing.{ListingModel}
use Rattle.sw_hashdir.specs.declared.floor.Floor.{Floor}
use Rattle.sw_archive.specs.Archive.{ArchiveModel}
use Rattle.sw_message.specs.Transcript.{is_not}
use Rattle.sw_message.specs.declared.message.Msg.{Msg}
use Rattle.sw_message.specs.declared.message.Msg.TheVariants as message
use Rattle.sw_message.specs.declared.sent.Sent.{Sent}
use Rattle.sw_message.specs.declared.target.Target.{Target}
use Rattle.sw_quorum.specs.Transcripts.{HasOther, has_ticket}
use Rattle.sw_gather.specs.Choices.{firsts}
use Rattle.sw_gather.proofs.Sources.{firsts_apart}
use Rattle.sw_get.specs.Get.{Begun, ask_message, fetch_message}
use Rattle.sw_get.specs.Meaning.{Brings, Lists, with_asked, with_fetched}
use Rattle.sw_get.specs.Round.{Facts, candidates, is_free, lost, no_facts, target_of}
use Rattle.sw_get.specs.Standing.{count_fetch, count_opens}
use Rattle.sw_get.proofs.Counts.{one_less}
use Rattle.sw_get.proofs.Goings.{IsNextFetch}
use Rattle.sw_law_complete.proofs.GetIndices.{count-append, count-take, index_count, none_counted, once, one_if, one_if_same}

-- a message fetches at the stamp of the target
abbrev pub IsAtTarget : Option Floor → Facts → Msg → Type 0
IsAtTarget from facts (message.Fetch place stamp index) = (to : Floor) × (target_of from facts ≡ Some to) × (stamp ≡ to.stamp)
IsAtTarget from facts other = ⊤

-- whether a message fetches an archive of an index
abbrev pub fetches_at : ℕ → Msg → ℕ
fetches_at n (message.Fetch place stamp index) = one_if (index == n)
fetches_at n other = 0

-- The sources that were tried are the first candidates of the least indices; each of them has brought its archive, or is open still; and
-- none has failed.
pub record IsClean (policy : PolicyModel) (from : Option Floor) (facts : Facts) (opened : List Sent) : Type 0 where
  pub at_target : All (λ (sent : Sent). IsAtTarget from facts sent.msg) opened
  pub first_ones : (to : Floor) → target_of from facts ≡ Some to → facts.tried ≡ take (length facts.tried) (firsts (candidates policy to.stamp facts))
  pub counts : (n : ℕ) → index_count n facts.sources + count_opens (fetches_at n) opened ≡ index_count n facts.tried
  pub none_failed : facts.failed ≡ []

-- ---- sources in order

one_taken : {A : Type 0} (xs : List A) (n : ℕ) (x : A) → slice_get xs n ≡ Some x → take (n + 1) xs ≡ take n xs ++ x ∷ []
one_taken xs n x at = take_more xs n x (slice_get_within xs n x at) ∙ ap (λ y. take n xs ++ y ∷ []) (get_or_from_slice_get xs n x x at)

-- a message that is no fetch
ask_only : (from : Option Floor) (facts : Facts) (msg : Msg) → count_fetch msg ≡ 0 → IsAtTarget from facts msg
ask_only from facts (message.Fetch place stamp index) none = absurd (omega (arith, none))
ask_only from facts other none = tt

asks_only : (sents : List Sent) → count_opens count_fetch sents ≡ 0 → All (λ (sent : Sent). count_fetch sent.msg ≡ 0) sents
asks_only [] none = All-nil (λ (sent : Sent). count_fetch sent.msg ≡ 0)
asks_only (sent ∷ sents) none = All-cons (λ (one : Sent). count_fetch one.msg ≡ 0) sent sents (omega (arith, none)) (asks_only sents (omega (arith, none)))

-- a round that has asked one device
pub clean-first : (policy : PolicyModel) (from : Option Floor) (begun : Begun) (ticket device asked : ℕ) → IsClean policy from (record no_facts { asked = asked }) (ask_message begun ticket device ∷ [])
clean-first policy from begun ticket device asked = record {
  at_target = All-cons (λ (sent : Sent). IsAtTarget from (record no_facts { asked = asked }) sent.msg) (ask_message begun ticket device) [] tt (All-nil (λ (sent : Sent). IsAtTarget from (record no_facts { asked = asked }) sent.msg));
  first_ones = λ to is. refl;
  counts = λ n. omega arith;
  none_failed = refl;
}

module _ (policy : PolicyModel) (from : Option Floor) (facts : Facts) (opened : List Sent) (clean : IsClean policy from facts opened) where
  -- a device is asked
  pub clean-ask : (begun : Begun) (ticket device : ℕ) → IsClean policy from (record facts { asked = facts.asked + 1 }) (ask_message begun ticket device ∷ opened)
  clean-ask begun ticket device = record {
    at_target = All-cons (λ (sent : Sent). IsAtTarget from facts sent.msg) (ask_message begun ticket device) opened tt clean.at_target;
    first_ones = clean.first_ones;
    counts = λ n. omega (arith, clean.counts n);
    none_failed = clean.none_failed;
  }

  -- an archive is fetched
  pub clean-fetch : (begun : Begun) (ticket stamp : ℕ) (source : Target) → facts.gone ≡ [] → IsNextFetch policy from facts stamp source
      → IsClean policy from (record facts { tried = facts.tried ++ source ∷ [] }) (fetch_message begun ticket stamp source ∷ opened)
  clean-fetch begun ticket stamp source none_gone next = record {
    at_target = All-cons (λ (sent : Sent). IsAtTarget from facts sent.msg) (fetch_message begun ticket stamp source) opened (next.to, next.chosen.target, next.stamp_is) clean.at_target;
    first_ones = λ to is.
        let same : to ≡ next.to = same_Some to next.to (sym is ∙ next.chosen.target) in
        let more : length (facts.tried ++ source ∷ []) ≡ length facts.tried + 1 = length-append facts.tried (source ∷ []) in
        subst (λ (floor : Floor). facts.tried ++ source ∷ [] ≡ take (length (facts.tried ++ source ∷ [])) (firsts (candidates policy floor.stamp facts))) (sym same)
        (ap (λ these. these ++ source ∷ []) (clean.first_ones next.to next.chosen.target) ∙ sym (one_taken (firsts (candidates policy next.to.stamp facts)) (length facts.tried) source at)
        ∙ ap (λ n. take n (firsts (candidates policy next.to.stamp facts))) (sym more));
    counts = λ n. omega (arith, clean.counts n, count-append n facts.tried (source ∷ []));
    none_failed = clean.none_failed;
  }
    where
      none_lost : lost facts ≡ 0
      none_lost = omega (arith, ap length none_gone, ap length clean.none_failed)

      at : slice_get (firsts (candidates policy next.to.stamp facts)) (length facts.tried) ≡ Some source
      at =
          let choices = candidates policy next.to.stamp facts in
          sym (ap (λ b. if b then slice_get (firsts choices) (length facts.tried) else find (is_free facts) choices) (lt-ltb (length facts.tried) policy.k (omega (arith, next.few, none_lost)))) ∙ next.source_is

  -- an answer comes
  module _ (sent : Sent) (is : find (has_ticket sent.ticket) opened ≡ Some sent) (apart : AllPairs HasOther opened) where
    abbrev left : List Sent
    left = filter (is_not sent.ticket) opened

    less : (n : ℕ) → count_opens (fetches_at n) left + fetches_at n sent.msg ≡ count_opens (fetches_at n) opened
    less n = one_less (fetches_at n) sent.ticket opened sent is apart

    -- a device lists
    pub clean-listed : (place : PlaceModel) → sent.msg ≡ message.Ask place → (device : ℕ) (listing : ListingModel) → length facts.tried ≡ 0 → count_opens count_fetch opened ≡ 0
        → IsClean policy from (with_asked facts device (Lists listing)) left
    clean-listed place asks device listing untried none = record {
      at_target = All-filter (is_not sent.ticket) (λ (one : Sent). IsAtTarget from (with_asked facts device (Lists listing)) one.msg) opened (λ i d within. ask_only from (with_asked facts device (Lists listing)) _ (asks_only opened none i d within));
      first_ones = λ to target. subst (λ these. these ≡ take (length these) (firsts (candidates policy to.stamp (with_asked facts device (Lists listing))))) (sym (nil_from_length facts.tried untried)) refl;
      counts = λ n. omega (arith, clean.counts n, less n, ap (fetches_at n) asks);
      none_failed = clean.none_failed;
    }

    module _ (place : PlaceModel) (stamp : ℕ) (source : Target) (fetches : sent.msg ≡ message.Fetch place stamp source.index) where
      -- a source brings its archive
      pub clean-brought : (archive : ArchiveModel) → IsClean policy from (with_fetched facts source (Brings archive)) left
      clean-brought archive = record {
        at_target = All-filter (is_not sent.ticket) (λ (one : Sent). IsAtTarget from facts one.msg) opened clean.at_target;
        first_ones = clean.first_ones;
        counts = λ n. omega (arith, clean.counts n, less n, ap (fetches_at n) fetches, count-append n facts.sources (source ∷ []));
        none_failed = clean.none_failed;
      }

      -- before that none of its index has brought one
      pub none_before : (to : Floor) → target_of from facts ≡ Some to → All (λ (other : Target). (other.index ≡ source.index) → ⊥) facts.sources
      none_before to target =
          let n = source.index in
          let choices = firsts (candidates policy to.stamp facts) in
          let tried : index_count n facts.tried ≤ 1 =
          omega (arith, ap (index_count n) (clean.first_ones to target), count-take n (length facts.tried) choices, once n choices (firsts_apart (candidates policy to.stamp facts))) in
          none_counted n facts.sources (omega (arith, tried, clean.counts n, less n, ap (fetches_at n) fetches, one_if_same n n refl))
