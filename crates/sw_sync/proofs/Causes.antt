-- Why a sync ended as it did.
use Rattle.std.proofs.Common.{◌≡◌, ◌⊎◌, inl, inr, Bool, true, false, List, [], Option, Some, None, refl, sym, subst, ◌∙◌}
use Rattle.std.specs.Prelude.{if◌then◌else◌}
use Rattle.std.proofs.lemmas.Option.{none-some}
use Rattle.sw_hashdir.specs.Listing.{ListingModel}
use Rattle.sw_ring.proofs.Among.{Contains-from_among}
use Rattle.sw_message.specs.Floors.{IsHighest, floors_in}
use Rattle.sw_message.specs.Miss.{miss_of}
use Rattle.sw_message.specs.Transcript.{IsRun, Step, opens}
use Rattle.sw_message.specs.declared.message.Msg.TheVariants as message
use Rattle.sw_message.specs.declared.miss.Miss.{Miss}
use Rattle.sw_message.specs.declared.miss.Miss.TheVariants as miss
use Rattle.sw_message.specs.declared.reply.Reply.{Reply}
use Rattle.sw_message.specs.declared.reply.Reply.TheVariants as reply
use Rattle.sw_message.proofs.Highest.{is_highest}
use Rattle.sw_sync.specs.Answers.{AllAnswered, IsMissedAsk, WasTold}
use Rattle.sw_sync.specs.Causes.{HadNothing, IsDone, IsNewer, IsTooFew, IsUnanswered}
use Rattle.sw_sync.specs.Parts.{Heard, Repair}
use Rattle.sw_sync.specs.Sync.{Begun, IsBegun, IsEnd, IsNext, have, is_repaired, listing_of, primaries, repair_end}
use Rattle.sw_sync.specs.declared.stage.Stage.{Stage}
use Rattle.sw_sync.specs.declared.sync_end.SyncEnd.{SyncEnd}
use Rattle.sw_sync.specs.declared.sync_end.SyncEnd.TheVariants.{Done, Newer, TooFew, Unanswered}
use Rattle.sw_sync.proofs.Asking.{Surveyed, primary-member}
use Rattle.sw_sync.proofs.Burying.{was-buried}
use Rattle.sw_sync.proofs.Known.{EndsBy, IsShort, Knows, known}
use Rattle.sw_sync.proofs.Messages.{none-open}
use Rattle.sw_sync.proofs.Plans.{HasNoFloor}
use Rattle.sw_sync.proofs.Repaired.{too-few, was-repaired}
use Rattle.sw_sync.proofs.Repairing.{Repairing}
use Rattle.sw_sync.proofs.Shows.{is-newer, was-listed}

-- an answer to a question has a listing, or is a miss
held-or-missed : (answer : Option Reply) → ((listing : ListingModel) × (answer ≡ Some (reply.Held listing))) ⊎ ((how : Miss) × IsMissedAsk answer how)
held-or-missed None = inr (miss.NoReply, refl)
held-or-missed (Some (reply.Held listing)) = inl (listing, refl)
held-or-missed (Some other) = inr (miss_of other, refl)

-- each end has its cause
abbrev pub HasCause : Begun → List Step → SyncEnd → Type 0
HasCause begun past (Done commits rebuilt tombstones failed) = IsDone begun past commits rebuilt tombstones failed
HasCause begun past (Unanswered device) = IsUnanswered begun past device
HasCause begun past (Newer floor) = IsNewer begun past floor
HasCause begun past (TooFew stamp have misses) = IsTooFew begun past stamp have misses

module _ (begun : Begun) (valid : IsBegun begun) (past : List Step) (run : IsRun (IsNext begun) past) (none : opens past ≡ []) where
  unanswered : (heard : Heard) → Surveyed begun past heard → listing_of heard.lists begun.device ≡ None → IsUnanswered begun past begun.device
  unanswered heard surveyed missing =
      let told = surveyed.answered begun.device (primary-member begun valid begun.device (Contains-from_among (primaries begun) begun.device valid.primary)) in
      elim (held-or-missed told.0) [
        | inl held ↦
            let was = subst (λ (answer : Option Reply). WasTold past begun.device (message.Ask begun.place) answer) held.1 told.1 in
            absurd (none-some held.0 (sym missing ∙ surveyed.once begun.device held.0 (surveyed.survey.all_lists begun.device held.0 was)))
        | inr missed ↦ record { own = refl; how = missed.0; missed = record { answer = told.0; told = told.1; missed = missed.1 } }
      ]

  nothing : (heard : Heard) → Surveyed begun past heard → HasNoFloor begun heard → HadNothing begun past 0 0 0 []
  nothing heard surveyed has = record {
    listing = has.listing;
    own = was-listed begun past heard surveyed begun.device has.listing has.own;
    no_floor = subst (IsHighest (floors_in has.listing)) has.none (is_highest (floors_in has.listing));
    counts = (refl, refl, refl, refl);
  }

  short-cause : (heard : Heard) → Surveyed begun past heard → (end : SyncEnd) → IsShort begun heard end → HasCause begun past end
  short-cause heard surveyed end (inl one) = subst (HasCause begun past) (sym one.1) (unanswered heard surveyed one.0)
  short-cause heard surveyed end (inr (inl one)) = subst (HasCause begun past) (sym one.1) (inl (nothing heard surveyed one.0))
  short-cause heard surveyed end (inr (inr one)) = subst (HasCause begun past) (sym one.2) (is-newer begun past heard surveyed one.0 one.1)

  repair-cause : (repair : Repair) (repairing : Repairing begun past repair []) → HasCause begun past (repair_end begun.cluster.policy.k repair)
  repair-cause repair repairing = by_test (is_repaired begun.cluster.policy.k repair) refl
    where
      by_test : (b : Bool) → is_repaired begun.cluster.policy.k repair ≡ b
          → HasCause begun past (if b then Done repair.commits repair.rebuilt 0 repair.failed else TooFew repair.stamp (have begun.cluster.policy.k repair) repair.misses)
      by_test true done = inr (inr (was-repaired begun past run none repair repairing done))
      by_test false not_done = too-few begun past run none repair repairing not_done

  end-cause : (end : SyncEnd) → EndsBy begun past end → HasCause begun past end
  end-cause end (inl (heard, surveyed, short)) = short-cause heard surveyed end short
  end-cause end (inr (inl (burial, burying, is))) = subst (HasCause begun past) (sym is) (inr (inl (was-buried begun past burial run none burying)))
  end-cause end (inr (inr (repair, repairing, is))) = subst (HasCause begun past) (sym is) (repair-cause repair repairing)

-- once it is over, each device of the cluster has answered or was given up
answered-by : (begun : Begun) (past : List Step) (end : SyncEnd) → EndsBy begun past end → AllAnswered begun past
answered-by begun past end (inl (heard, surveyed, short)) = surveyed.answered
answered-by begun past end (inr (inl (burial, burying, is))) = burying.surveyed.answered
answered-by begun past end (inr (inr (repair, repairing, is))) = repairing.surveyed.answered

module _ (begun : Begun) (past : List Step) (end : SyncEnd) (valid : IsBegun begun) (run : IsRun (IsNext begun) past) (is : IsEnd begun past end) where
  ends-by : EndsBy begun past end
  ends-by = subst (λ (stage : Stage). Knows begun past stage is.1.due) is.3 (known begun valid past run is.1 is.2)

  pub has-cause : HasCause begun past end
  has-cause = end-cause begun valid past run (none-open past is.0) end ends-by

  pub all-answered : AllAnswered begun past
  all-answered = answered-by begun past end ends-by
