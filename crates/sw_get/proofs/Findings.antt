-- What a get has found, as it reads an answer, hands out a message, or begins another round.
use Rattle.std.proofs.Common.{◌≡◌, inl, inr, ℕ, ◌+◌, ◌<◌, ◌≤◌, ◌++◌, List, [], ◌∷◌, length, length-append, Option, sym, ap, subst, ◌∙◌, arith}
use Rattle.std.proofs.lemmas.List.Elements.{All-append, All-cons, All-nil}
use Rattle.sw_hashdir.specs.Listing.{ListingModel}
use Rattle.sw_hashdir.specs.declared.floor.Floor.{Floor}
use Rattle.sw_message.specs.Floors.{highest_from}
use Rattle.sw_message.specs.Message.{IsMember}
use Rattle.sw_message.specs.declared.reply.Reply.{Reply}
use Rattle.sw_message.specs.declared.target.Target.{Target}
use Rattle.sw_get.specs.Get.{Begun, Hears, Sends, Turn, ask_message, devices, events, event_of, fetch_message, going_in, round_in, shown_by}
use Rattle.sw_get.specs.Meaning.{Brings, Lacks, Lists, Meaning, Misses, asked_meaning, with_asked, with_fetched}
use Rattle.sw_get.specs.Round.{Facts, all_devices, no_facts}
use Rattle.sw_get.specs.Standing.{AreFindings, Findings, IsWithin}
use Rattle.sw_get.specs.declared.round_end.Going.TheVariants.{Keep}
use Rattle.sw_get.specs.declared.round_end.KeptEvent.{KeptEvent}
use Rattle.sw_get.proofs.Goings.{IsNextFetch}
use Rattle.sw_get.proofs.Meanings.{asked_cases}
use Rattle.sw_get.proofs.Turns.{ask_goes_on, begins, facts-answered, facts-asked, facts-brought, facts-fetched, fetch_goes_on, target-heard}

abbrev AtMember : Begun → ℕ × ListingModel → Type 0
AtMember begun one = IsMember begun.cluster one.0

-- ---- what holds of a round at every time

module _ (begun : Begun) (from : Option Floor) (facts : Facts) (within : IsWithin begun from facts) where
  -- while a device is still to answer, nothing is fetched
  none_tried : facts.answered < length (all_devices (devices begun)) → 0 < length facts.tried → ⊥
  none_tried less some = let fetching = within.fetching some in absurd (omega (arith, less, fetching.all_answered))

  pub within-answered : (device : ℕ) (answer : Option Reply) → IsMember begun.cluster device → facts.answered < facts.asked → IsWithin begun from (with_asked facts device (asked_meaning answer))
  within-answered device answer member less =
      let Within : Meaning → Type 0 = λ meaning. IsWithin begun from (with_asked facts device meaning) in
      let early : facts.answered < length (all_devices (devices begun)) = omega (arith, less, within.asked_few) in
      elim (asked_cases answer) [
        | inl lists ↦ subst Within (sym lists.1) (record {
          asked_few = within.asked_few;
          tried_few = within.tried_few;
          listed = All-append (AtMember begun) facts.lists ((device, lists.0) ∷ []) within.listed (All-cons (AtMember begun) (device, lists.0) [] member (All-nil (AtMember begun)));
          fetching = λ some. absurd (none_tried early some);
        })
        | inr misses ↦ subst Within (sym misses.1) (record {
          asked_few = within.asked_few;
          tried_few = within.tried_few;
          listed = within.listed;
          fetching = λ some. absurd (none_tried early some);
        })
      ]

  pub within-fetched : (source : Target) (meaning : Meaning) → IsWithin begun from (with_fetched facts source meaning)
  within-fetched source (Lists listing) = within
  within-fetched source (Brings archive) = record {
    asked_few = within.asked_few;
    tried_few = within.tried_few;
    listed = within.listed;
    fetching = λ some. let f = within.fetching some in record { all_answered = f.all_answered; to = f.to; target = f.target; durable = f.durable; choices = f.choices };
  }
  within-fetched source (Lacks listing) = record {
    asked_few = within.asked_few;
    tried_few = omega (arith, within.tried_few, length-append facts.gone (source ∷ []));
    listed = within.listed;
    fetching = λ some. let f = within.fetching some in record { all_answered = f.all_answered; to = f.to; target = f.target; durable = f.durable; choices = f.choices };
  }
  within-fetched source (Misses miss) = record {
    asked_few = within.asked_few;
    tried_few = omega (arith, within.tried_few, length-append facts.failed (source ∷ []));
    listed = within.listed;
    fetching = λ some. let f = within.fetching some in record { all_answered = f.all_answered; to = f.to; target = f.target; durable = f.durable; choices = f.choices };
  }

  pub within-ask : facts.answered ≤ facts.asked → facts.asked < length (all_devices (devices begun)) → IsWithin begun from (record facts { asked = facts.asked + 1 })
  within-ask heard less = record {
    asked_few = omega (arith, less);
    tried_few = within.tried_few;
    listed = within.listed;
    fetching = λ some. absurd (none_tried (omega (arith, heard, less)) some);
  }

  pub within-fetch : (stamp : ℕ) (source : Target) → facts.answered ≤ facts.asked → length (all_devices (devices begun)) ≤ facts.answered → IsNextFetch begun.cluster.policy from facts stamp source
      → IsWithin begun from (record facts { tried = facts.tried ++ source ∷ [] })
  within-fetch stamp source heard all next = record {
    asked_few = within.asked_few;
    tried_few = omega (arith, next.few, length-append facts.tried (source ∷ []));
    listed = within.listed;
    fetching = λ some. record { all_answered = omega (arith, heard, all, within.asked_few); to = next.to; target = next.chosen.target; durable = next.chosen.durable; choices = next.chosen.choices };
  }

-- a round that has asked one device
pub within-first : (begun : Begun) (from : Option Floor) → 0 < length (all_devices (devices begun)) → IsWithin begun from (record no_facts { asked = 1 })
within-first begun from some = record {
  asked_few = omega (arith, some);
  tried_few = omega arith;
  listed = All-nil (AtMember begun);
  fetching = λ tried. absurd (omega (arith, tried));
}

-- ---- what is found

module _ (begun : Begun) (turns : List Turn) (findings : Findings) (finds : AreFindings findings begun turns) where
  -- a device's answer is read
  pub finds-answered : (target : Option Floor) (ticket device : ℕ) (answer : Option Reply) → IsMember begun.cluster device → findings.facts.answered < findings.facts.asked
      → target ≡ highest_from findings.target (shown_by (asked_meaning answer))
      → AreFindings (record findings { target = target; facts = with_asked findings.facts device (asked_meaning answer) }) begun (Hears (ask_message begun ticket device) (asked_meaning answer) ∷ turns)
  finds-answered target ticket device answer member less is = record {
    target_is = is ∙ ap (λ best. highest_from best (shown_by (asked_meaning answer))) finds.target_is ∙ sym (target-heard turns (ask_message begun ticket device) (asked_meaning answer));
    from_is = finds.from_is;
    events_are = finds.events_are;
    facts_are = ap (λ facts. with_asked facts device (asked_meaning answer)) finds.facts_are ∙ sym (facts-answered (round_in begun turns).turns ticket device begun answer);
    within = within-answered begun findings.from findings.facts finds.within device answer member less;
  }

  -- a source's answer is read
  pub finds-fetched : (target : Option Floor) (ticket stamp : ℕ) (source : Target) (meaning : Meaning) → target ≡ highest_from findings.target (shown_by meaning)
      → AreFindings (record findings { target = target; facts = with_fetched findings.facts source meaning }) begun (Hears (fetch_message begun ticket stamp source) meaning ∷ turns)
  finds-fetched target ticket stamp source meaning is = record {
    target_is = is ∙ ap (λ best. highest_from best (shown_by meaning)) finds.target_is ∙ sym (target-heard turns (fetch_message begun ticket stamp source) meaning);
    from_is = finds.from_is;
    events_are = finds.events_are;
    facts_are = ap (λ facts. with_fetched facts source meaning) finds.facts_are ∙ sym (facts-brought (round_in begun turns).turns ticket stamp source begun meaning);
    within = within-fetched begun findings.from findings.facts finds.within source meaning;
  }

  -- a device is asked
  pub finds-ask : (ticket device : ℕ) → findings.facts.answered ≤ findings.facts.asked → findings.facts.asked < length (all_devices (devices begun))
      → AreFindings (record findings { facts = record findings.facts { asked = findings.facts.asked + 1 } }) begun (Sends (ask_message begun ticket device) ∷ turns)
  finds-ask ticket device heard less =
      let on = ask_goes_on begun turns ticket device (subst (λ (facts : Facts). facts.asked < length (all_devices (devices begun))) finds.facts_are less) in
      record {
        target_is = finds.target_is;
        from_is = finds.from_is ∙ sym on.from;
        events_are = finds.events_are ∙ sym on.events;
        facts_are = ap (λ (facts : Facts). record facts { asked = facts.asked + 1 }) finds.facts_are ∙ sym (facts-asked (round_in begun turns).turns ticket device begun) ∙ sym on.facts;
        within = within-ask begun findings.from findings.facts finds.within heard less;
      }

  -- an archive is fetched
  pub finds-fetch : (ticket stamp : ℕ) (source : Target) → findings.facts.answered ≤ findings.facts.asked → length (all_devices (devices begun)) ≤ findings.facts.answered
      → IsNextFetch begun.cluster.policy findings.from findings.facts stamp source
      → AreFindings (record findings { facts = record findings.facts { tried = findings.facts.tried ++ source ∷ [] } }) begun (Sends (fetch_message begun ticket stamp source) ∷ turns)
  finds-fetch ticket stamp source heard all next =
      let on = fetch_goes_on begun turns ticket stamp source in
      record {
        target_is = finds.target_is;
        from_is = finds.from_is ∙ sym on.from;
        events_are = finds.events_are ∙ sym on.events;
        facts_are = ap (λ (facts : Facts). record facts { tried = facts.tried ++ source ∷ [] }) finds.facts_are ∙ sym (facts-fetched (round_in begun turns).turns ticket stamp source begun) ∙ sym on.facts;
        within = within-fetch begun findings.from findings.facts finds.within stamp source heard all next;
      }

  -- the round is kept as an event, and another one begins
  pub finds-kept : (ticket device : ℕ) (event : KeptEvent) → length (all_devices (devices begun)) ≤ findings.facts.asked → 0 < length (all_devices (devices begun)) → going_in begun turns ≡ Keep event
      → AreFindings (record { target = findings.target; from = findings.target; events = findings.events ++ event ∷ []; facts = record no_facts { asked = 1 } }) begun (Sends (ask_message begun ticket device) ∷ turns)
  finds-kept ticket device event all some keeps =
      let another = begins begun turns ticket device (subst (λ (facts : Facts). length (all_devices (devices begun)) ≤ facts.asked) finds.facts_are all) in
      record {
        target_is = finds.target_is;
        from_is = finds.target_is ∙ sym another.from;
        events_are = ap (λ these. these ++ event ∷ []) finds.events_are ∙ sym (ap (λ going. events begun turns ++ event_of going) keeps) ∙ sym another.events;
        facts_are = sym (facts-asked [] ticket device begun) ∙ sym another.facts;
        within = within-first begun findings.target some;
      }
