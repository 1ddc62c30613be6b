-- After a transcript one thing comes next, and there is one end.
use Rattle.std.proofs.Common.{◌≡◌, ℕ, ◌+◌, ◌==◌, Bool, true, false, List, [], ◌∷◌, length, nat_lt, slice_get, Option, Some, None, refl, sym, ap, subst, ◌∙◌, arith}
use Rattle.std.specs.Prelude.{if◌then◌else◌, not, ◌&&◌, ⊤}
use Rattle.std.proofs.lemmas.Bool.{eqb-true}
use Rattle.sw_types.specs.Object.{ObjectModel}
use Rattle.sw_types.specs.Policy.{PolicyModel}
use Rattle.sw_types.proofs.Policies.{bounds}
use Rattle.sw_hashdir.specs.declared.floor.Floor.{Floor}
use Rattle.sw_hashdir.specs.declared.floor.FloorKind.{FloorKind}
use Rattle.sw_hashdir.specs.declared.floor.FloorKind.TheVariants.{Durable, Tombstone}
use Rattle.sw_archive.specs.Assemble.{AreEnough}
use Rattle.sw_archive.proofs.Objects.{one_object}
use Rattle.sw_message.specs.Targets.{ascending}
use Rattle.sw_message.specs.Transcript.{Next, Step}
use Rattle.sw_message.specs.declared.target.Target.{Target}
use Rattle.sw_gather.specs.Choices.{firsts}
use Rattle.sw_gather.proofs.Joins.{enough_coded}
use Rattle.sw_get.specs.Get.{AreTurns, Begun, EndsAfter, EndsBy, IsBegun, IsEnd, IsNext, Turn, devices, facts_in, from_in, going_in, next_after}
use Rattle.sw_get.specs.Round.{Devices, Facts, all_devices, ask_or, asked_going, candidates, choices_going, closed, fetch_going, fetch_or, few_going, is_empty, lost, next_source, ran_out, risen_or, rises, round_going, target_going, target_of}
use Rattle.sw_get.specs.declared.end.GetEnd.{GetEnd}
use Rattle.sw_get.specs.declared.end.GetEnd.TheVariants as gets
use Rattle.sw_get.specs.declared.round_end.Going.{Going}
use Rattle.sw_get.specs.declared.round_end.Going.TheVariants as going
use Rattle.sw_get.specs.declared.round_end.KeptEvent.TheVariants.{Rose}
use Rattle.sw_get.specs.declared.round_end.RoundEnd.{RoundEnd}
use Rattle.sw_get.specs.declared.round_end.RoundEnd.TheVariants as round
use Rattle.sw_get.proofs.Sameness.{BroughtIn, one_turns, turns_brought}

pub one_next : (begun : Begun) (past : List Step) (one other : Next) → IsNext begun past one → IsNext begun past other → one ≡ other
one_next begun past one other (turns, are, next) (same, so, also) = sym next ∙ ap (λ these. next_after begun these (going_in begun these)) (one_turns begun past turns same are so) ∙ also

-- ---- an object is found only where k sources brought archives

module _ (policy : PolicyModel) (facts : Facts) where
  abbrev HasEnough : Going → Type 0
  HasEnough (going.End (round.Found stamp)) = length facts.sources ≡ policy.k
  HasEnough other = ⊤

  chosen : (b : Bool) (one other : Going) → HasEnough one → HasEnough other → HasEnough (if b then one else other)
  chosen true one other first second = first
  chosen false one other first second = second

  module _ (from : Option Floor) where
    ran : (to : Floor) (gone : List Target) → HasEnough (ran_out from to gone)
    ran to [] = chosen (rises from to) (going.Keep (Rose from to)) (going.End round.Unanswered) tt tt
    ran to (source ∷ others) = tt

    fetch : (to : Floor) (source : Option Target) → HasEnough (fetch_or from to facts source)
    fetch to (Some source) = tt
    fetch to None = chosen (nat_lt (length (closed facts)) (length facts.tried)) going.Wait (ran_out from to facts.gone) tt (ran to facts.gone)

    fetched : (to : Floor) (choices : List Target) → HasEnough (fetch_going policy from to choices facts)
    fetched to choices = by_count (length facts.sources == policy.k) refl
      where
        by_count : (b : Bool) → (length facts.sources == policy.k) ≡ b
            → HasEnough (if b then going.End (round.Found to.stamp) else if nat_lt (length facts.tried) (policy.k + lost facts) then fetch_or from to facts (next_source policy choices facts) else going.Wait)
        by_count true is = eqb-true (length facts.sources) policy.k is
        by_count false is =
            chosen (nat_lt (length facts.tried) (policy.k + lost facts)) (fetch_or from to facts (next_source policy choices facts)) going.Wait (fetch to (next_source policy choices facts)) tt

    few : (to : Floor) (have : ℕ) → HasEnough (few_going from to have facts)
    few to have = by_misses (is_empty facts.misses)
      where
        by_misses : (b : Bool) → HasEnough (risen_or from to (if b then round.TooFew to.stamp have else round.Unanswered))
        by_misses true = chosen (rises from to) (going.Keep (Rose from to)) (going.End (round.TooFew to.stamp have)) tt tt
        by_misses false = chosen (rises from to) (going.Keep (Rose from to)) (going.End round.Unanswered) tt tt

    targeted : (to : Floor) (kind : FloorKind) → HasEnough (target_going policy from to kind facts)
    targeted to Tombstone = tt
    targeted to Durable =
        let choices = candidates policy to.stamp facts in
        chosen (nat_lt (length (firsts choices)) policy.k) (few_going from to (length (firsts choices)) facts) (fetch_going policy from to choices facts) (few to (length (firsts choices))) (fetched to choices)

    asked : (target : Option Floor) → HasEnough (asked_going policy from target facts)
    asked None = by_misses (nat_lt (length facts.misses) policy.c)
      where
        by_misses : (b : Bool) → HasEnough (going.End (if b then round.Absent else round.Unanswered))
        by_misses true = tt
        by_misses false = tt
    asked (Some to) = targeted to to.kind

    handed : (devices : Devices) (device : Option ℕ) → HasEnough (ask_or policy devices from facts device)
    handed devices (Some device) = chosen (not (nat_lt facts.asked (length devices.handoffs)) && nat_lt facts.answered (length devices.handoffs)) going.Wait (going.Ask device) tt tt
    handed devices None = chosen (nat_lt facts.answered facts.asked) going.Wait (asked_going policy from (target_of from facts) facts) tt (asked (target_of from facts))

    has_enough : (devices : Devices) → HasEnough (round_going policy devices from facts)
    has_enough devices = handed devices (slice_get (all_devices devices) facts.asked)

-- ---- one end

module _ (begun : Begun) (valid : IsBegun begun) (turns : List Turn) (brought : BroughtIn begun turns) where
  abbrev facts : Facts
  facts = facts_in begun turns

  enough-found : (stamp : ℕ) → going_in begun turns ≡ going.End (round.Found stamp) → AreEnough facts.archives
  enough-found stamp is =
      let count = subst (HasEnough begun.cluster.policy facts) is (has_enough begun.cluster.policy facts (from_in begun turns) (devices begun)) in
      enough_coded begun.cluster.policy facts.archives brought.coded (bounds begun.cluster.policy valid.rules.policy).some_data (brought.count ∙ count)

  end-by : (ending : RoundEnd) → going_in begun turns ≡ going.End ending → (one other : GetEnd) → EndsBy facts ending one → EndsBy facts ending other → one ≡ other
  end-by (round.Found stamp) is one other x y =
      x.2 ∙ ap (λ (object : ObjectModel). gets.Found stamp object (ascending facts.sources)) (one_object facts.archives x.0 y.0 (enough-found stamp is) brought.together x.1.1 y.1.1) ∙ sym y.2
  end-by round.Absent is one other x y = x ∙ sym y
  end-by (round.Buried stamp) is one other x y = x ∙ sym y
  end-by round.Unanswered is one other x y = x ∙ sym y
  end-by (round.TooFew stamp have) is one other x y = x ∙ sym y

  end-after : (next : Going) → going_in begun turns ≡ next → (one other : GetEnd) → EndsAfter begun turns next one → EndsAfter begun turns next other → one ≡ other
  end-after (going.End ending) is one other x y = end-by ending is one other x y
  end-after (going.Keep event) is one other x y = x.1 ∙ sym y.1
  end-after (going.Ask device) is one other x y = absurd x
  end-after (going.Fetch stamp source) is one other x y = absurd x
  end-after going.Wait is one other x y = absurd x

pub one_end : (begun : Begun) → IsBegun begun → (past : List Step) (one other : GetEnd) → IsEnd begun past one → IsEnd begun past other → one ≡ other
one_end begun valid past one other (turns, are, ends) (same, so, also) =
    end-after begun valid turns (turns_brought begun past turns are) (going_in begun turns) refl one other ends
    (subst (λ these. EndsAfter begun these (going_in begun these) other) (one_turns begun past same turns so are) also)
