-- After a put was acknowledged a later get shows it or something newer, or is overtaken, with few devices out.
use Rattle.std.proofs.Common.{◌≡◌, ◌⊎◌, inl, inr, ⊎_elim, ℕ, ◌+◌, ◌<◌, ◌≤◌, Contains, List, length, Some, refl, sym, subst, ◌∙◌, arith}
use Rattle.std.proofs.lemmas.Bool.{cases_eq}
use Rattle.sw_diskfile.proofs.Lists.{Contains-none}
use Rattle.sw_ring.specs.Cluster.{ClusterModel}
use Rattle.sw_get.specs.Causes.{AreWanting, IsBuried, IsLevel, LastRound, LeavesUnanswered}
use Rattle.sw_get.specs.Get as gets
use Rattle.sw_get.specs.declared.end.GetEnd.{GetEnd}
use Rattle.sw_get.specs.declared.end.GetEnd.TheVariants.{Absent, Buried, Found, Overtaken, TooFew, Unanswered}
use Rattle.sw_get.proofs.Ends.{ends_buried, ends_overtaken, ends_too_few, ends_unanswered}
use Rattle.sw_get.proofs.Shown.{shown_among}
use Rattle.sw_law_scene.specs.Scene.{StartedPut}
use Rattle.sw_law_rounds.specs.Ends.{IsNotOlder, IsOvertaken, Shows}
use Rattle.sw_law_headline.specs.Headline.{IsAfterPut, ShowsOrOvertaken}
use Rattle.sw_law_headline.proofs.After.{all_events, got, is_place, new_sound, promises, stamps, whole_run}
use Rattle.sw_law_headline.proofs.Gets.{IsGot}
use Rattle.sw_law_headline.proofs.Level.{not-wanting}
use Rattle.sw_law_headline.proofs.NeverOlder.{never_older, put-reached}
use Rattle.sw_law_rounds.proofs.Reached.{IsReached, target-reached}
use Rattle.sw_law_rounds.proofs.Handed.{told-here}
use Rattle.sw_law_rounds.proofs.Listed.{has_listing, tombstone_there}
use Rattle.sw_law_headline.proofs.Stamps.{listing_by, no_delete, starts_later}

module _ (cluster : ClusterModel) (stamp commits : ℕ) (out : List ℕ) (end : GetEnd) (is : IsAfterPut cluster stamp commits out end) (fewer : length out < commits) (room : length out + cluster.policy.k ≤ cluster.policy.q) where
  abbrev begun : gets.Begun
  begun = is.ends.begun

  get : IsGot is.new.scene is.ends.there.number is.ends.operation begun
  get = got cluster is.old is.new is.leads is.begun.name is.put.start out end is.ends

  reached : (last : LastRound begun is.ends.operation.past) → IsReached begun is.ends.operation.past last.turns stamp
  reached = put-reached cluster stamp commits out end is fewer

  -- a put of a stamp that is not less started no earlier
  not_earlier : (other : ℕ) → stamp ≤ other → (put : StartedPut) → Contains is.new.scene.book put → put.booked.stamp ≡ other → is.put.start ≤ put.start
  not_earlier other below put has same = starts_later is.new.scene (stamps cluster is.old is.new is.leads) is.put is.started put has (omega (arith, below, same, is.put_is))

  -- the archives of a target that had been shown before are not wanting
  never-wanting : (last : LastRound begun is.ends.operation.past) (other : ℕ) → IsLevel begun last.turns other → AreWanting begun last.turns other → ⊥
  never-wanting last other level =
      not-wanting cluster (all_events cluster is.old is.new is.leads) is.new (whole_run cluster is.old is.new is.leads) (promises cluster is.old is.new is.leads) (stamps cluster is.old is.new is.leads) is.ends.there.number
      is.ends.operation begun get (is_place cluster is.old is.new is.leads is.begun.name is.put.start out end is.ends) last.turns last.are last.all_answered is.put.start out is.ends.are_out other level
      (not_earlier other (target-reached begun is.ends.operation.past last.turns stamp other (reached last) level.target))
      (subst (λ (one : ClusterModel). length out + one.policy.k ≤ one.policy.q) (sym (get.cluster ∙ (new_sound cluster is.old is.new is.leads).same_cluster)) room)

  -- so no end is for want of them
  never-unanswered : (last : LastRound begun is.ends.operation.past) → LeavesUnanswered begun last.turns → ⊥
  never-unanswered last (inl (none_shown, many)) =
      let high = reached last in
      Contains-none high.floor (subst (λ floors. Contains floors high.floor) none_shown
      (shown_among begun is.ends.operation.past last.turns last.are high.listing high.shown.sent high.shown.given high.shown.told high.shown.shows high.floor high.there))
  never-unanswered last (inr (other, level, wanting)) = never-wanting last other level wanting

  -- a tombstone that is shown is not of the put's stamp
  other-stamp : IsBuried begun is.ends.operation.past stamp → ⊥
  other-stamp buried =
      let shown = buried.shown.shown in
      let listing = buried.shown.listing in
      let made = get.stands.told shown.sent shown.given shown.told in
      let by = listing_by is.new.scene (stamps cluster is.old is.new is.leads) (gets.place_of begun) listing (record { at = made.0; device = shown.sent.device; msg = shown.sent.msg; reply = shown.given })
      (is.ends.there.number, shown.sent, made.2, refl, refl) (told-here begun is.ends.operation.past get.run shown.sent (Some shown.given) shown.told) (has_listing shown.sent.msg shown.given listing shown.shows) in
      let deleted = by.tombstones stamp (tombstone_there listing stamp buried.shown.greatest.0) in
      no_delete is.new.scene (stamps cluster is.old is.new is.leads) is.put is.started (gets.place_of begun) made.0
      (deleted.0, deleted.1, deleted.2 ∙ sym is.put_is, deleted.3, deleted.4)

  by-end : (how : GetEnd) → gets.IsEnd begun is.ends.operation.past how → IsNotOlder stamp how → Shows stamp how ⊎ IsOvertaken how
  by-end Absent ended older = absurd older
  by-end (Found other object sources) ended older = inl older
  by-end (Buried other) ended older = inl (⊎_elim
      (λ same. absurd (other-stamp (subst (IsBuried begun is.ends.operation.past) (sym same) (ends_buried begun is.ends.operation.past get.valid get.run other ended))))
      (λ differ. omega (arith, older, differ))
      (cases_eq stamp other))
  by-end (Unanswered misses) ended older = let cause = ends_unanswered begun is.ends.operation.past get.valid get.run misses ended in absurd (never-unanswered cause.last cause.why)
  by-end (TooFew other have) ended older = let cause = ends_too_few begun is.ends.operation.past get.valid get.run other have ended in absurd (never-wanting cause.last other cause.level (inl cause.short))
  by-end (Overtaken events) ended older = inr (ends_overtaken begun is.ends.operation.past get.valid get.run events ended).count

-- with fewer devices out than commits, and at most q - k
pub shows : (cluster : ClusterModel) → ShowsOrOvertaken cluster
shows cluster stamp commits out end is fewer room = by-end cluster stamp commits out end is fewer room end is.ends.ended (never_older cluster stamp commits out end is fewer)
