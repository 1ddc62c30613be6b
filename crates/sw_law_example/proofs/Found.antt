-- The whole run: a put is acknowledged, a disk is lost, and a get finds the object.
use Rattle.std.proofs.Common.{⊎_elim, ℕ, ◌≤◌, true, Contains, List, [], ◌∷◌, ◌++◌, length, map, refl, subst, arith}
use Rattle.std.specs.Prelude.{⊤}
use Rattle.std.specs.List.{All}
use Rattle.std.proofs.lemmas.List.Elements.{All-cons, All-nil}
use Rattle.sw_types.specs.Name.{NameModel}
use Rattle.sw_types.specs.Object.{ObjectModel}
use Rattle.sw_diskfile.proofs.Lists.{Contains-cases, Contains-first, Contains-none}
use Rattle.sw_archive.specs.Put.{IsPut}
use Rattle.sw_message.specs.declared.miss.Miss.{Miss}
use Rattle.sw_message.specs.declared.sent.Sent.{Sent}
use Rattle.sw_get.specs.Get.{Hears, Turn}
use Rattle.sw_get.specs.Meaning.{Misses}
use Rattle.sw_get.proofs.Sameness.{one_turns}
use Rattle.sw_get.specs.declared.end.GetEnd.TheVariants.{Found}
use Rattle.sw_law_scene.specs.Devices.{capacity_of, no_folders}
use Rattle.sw_law_scene.specs.Scene.{IsLostSince, Loss, empty_scene}
use Rattle.sw_core.specs.Event.{Deliver, Get, IsRun, Lead, Lose, Put, Start}
use Rattle.sw_core.specs.World.{empty_world, first_clock}
use Rattle.sw_law_alone.proofs.Ends.{all_lead}
use Rattle.sw_law_complete.specs.Complete.{HaveRoom, IsDelivery, RunsAlone}
use Rattle.sw_core.proofs.Leads.{leads-append}
use Rattle.sw_law_headline.specs.Headline.{EndsLater, IsAfterPut}
use Rattle.sw_law_rounds.specs.Missed.{HasMissed}
use Rattle.sw_law_example.specs.Loss.{FindsAfterLoss}
use Rattle.sw_law_example.specs.Pair.{pair}
use Rattle.sw_law_example.proofs.Getting.{brought, brought_are, brought_turns, get_begun, is_found, source}
use Rattle.sw_law_example.proofs.Pairs.{pair_rules}
use Rattle.sw_law_example.proofs.Putting.{committed_both, is_created, put_begun}
use Rattle.sw_law_example.proofs.Reading.{get_at, get_started, get_starts, leads_to_read, left, loses, own_place, read, read_by, ready, ready_first}
use Rattle.sw_law_example.proofs.Serving.{only}
use Rattle.sw_law_example.proofs.Storing.{all_free}
use Rattle.sw_law_example.proofs.Writing.{archive_at, leads_to_written, put_at, started, starts, written, written_by}

-- messages are delivered, and nothing else happens
delivered : (messages : List ℕ) → All IsDelivery (map Deliver messages)
delivered [] = All-nil IsDelivery
delivered (message ∷ messages) = All-cons IsDelivery (Deliver message) (map Deliver messages) tt (delivered messages)

-- a turn is no miss
abbrev IsNoMiss : Turn → Type 0
IsNoMiss (Hears sent (Misses miss)) = ⊥
IsNoMiss other = ⊤

abbrev AreNoMisses : List Turn → Type 0
AreNoMisses [] = ⊤
AreNoMisses (turn ∷ turns) = IsNoMiss turn × AreNoMisses turns

never_missed : (turns : List Turn) → AreNoMisses turns → (sent : Sent) (miss : Miss) → Contains turns (Hears sent (Misses miss)) → ⊥
never_missed [] are sent miss has = absurd (Contains-none (Hears sent (Misses miss)) has)
never_missed (turn ∷ turns) are sent miss has = ⊎_elim (λ same. subst IsNoMiss same are.0) (λ later. never_missed turns are.1 sent miss later) (Contains-cases turn turns (Hears sent (Misses miss)) has)

module _ (name : NameModel) (object : ObjectModel) (put : IsPut pair.policy first_clock name object) (room : HaveRoom (empty_scene pair) first_clock name object) where
  first : length (archive_at name object 0) ≤ capacity_of pair 0
  first = room 0 no_folders (capacity_of pair 0) 0 refl refl (all_free (capacity_of pair 0)) (omega arith)

  second : length (archive_at name object 1) ≤ capacity_of pair 1
  second = room 1 no_folders (capacity_of pair 1) 1 refl refl (all_free (capacity_of pair 1)) (omega arith)

  -- ---- the run

  lead_to_written : Lead (started name object) written_by (written name object)
  lead_to_written = all_lead 1 (started name object) written_by (written name object) (leads_to_written name object put first second)

  run_to_written : IsRun pair (Start (Put name object) ∷ written_by) (written name object)
  run_to_written = record { rules = pair_rules; lead = (started name object, starts name object put, lead_to_written) }

  run_to_left : IsRun pair (Start (Put name object) ∷ written_by ++ Lose 1 ∷ []) (left name object)
  run_to_left = record {
    rules = pair_rules;
    lead = (
      started name object,
      starts name object put,
      leads-append (started name object) written_by (written name object) (Lose 1 ∷ []) (left name object) lead_to_written (left name object, loses name object, refl),
    );
  }

  lead_to_read : Lead (written name object) (Lose 1 ∷ Start (Get name) ∷ read_by) (read name object)
  lead_to_read = (
    left name object,
    loses name object,
    (get_started name object, get_starts name object, all_lead 2 (get_started name object) read_by (read name object) (leads_to_read name object put)),
  )

  writes : RunsAlone pair (empty_world pair) (Put name object) (written name object) (put_at name object (committed_both name object) true)
  writes = record {
    earlier = [];
    run = record { rules = pair_rules; lead = refl };
    started = started name object;
    starts = starts name object put;
    own = written_by;
    leads = leads_to_written name object put first second;
    delivers = delivered (1 ∷ 2 ∷ 3 ∷ 4 ∷ 5 ∷ 6 ∷ 7 ∷ 8 ∷ []);
    there = refl;
    over = refl;
  }

  reads : RunsAlone pair (left name object) (Get name) (read name object) (get_at name object (brought name object) true)
  reads = record {
    earlier = Start (Put name object) ∷ written_by ++ Lose 1 ∷ [];
    run = run_to_left;
    started = get_started name object;
    starts = get_starts name object;
    own = read_by;
    leads = leads_to_read name object put;
    delivers = delivered (9 ∷ 10 ∷ 11 ∷ 12 ∷ 13 ∷ 14 ∷ []);
    there = refl;
    over = refl;
  }

  -- ---- who is out

  abbrev the_loss : Loss
  the_loss = record { device = 1; step = 9 }

  lost_alone : (device : ℕ) → IsLostSince (read name object).scene device 0 → Contains (1 ∷ []) device
  lost_alone device is = subst (Contains (1 ∷ [])) is.2 (subst (λ (loss : Loss). Contains (1 ∷ []) loss.device) (only the_loss is.0 is.1) (Contains-first 1 []))

  none_missed : (device : ℕ) → HasMissed (get_begun name object) (brought name object) device → ⊥
  none_missed device is =
      let same = one_turns (get_begun name object) (brought name object) is.0 (brought_turns name object) is.1 (brought_are name object put) in
      let missed = is.3 in
      never_missed (brought_turns name object) (tt, (tt, (tt, (tt, (tt, (tt, tt)))))) missed.0 is.2 (subst (λ (turns : List Turn). Contains turns (Hears missed.0 (Misses is.2))) same missed.1)

  -- ---- what is promised of it

  abbrev ends : EndsLater (written name object) (read name object) name 0 (1 ∷ []) (Found first_clock object (source name object ∷ []))
  ends = record {
    operation = get_at name object (brought name object) true;
    there = record { number = 2; there = refl };
    begun = get_begun name object;
    begun_is = refl;
    same_name = refl;
    later = omega arith;
    ended = is_found name object put;
    are_out = record { lost = lost_alone; missed = λ device is. absurd (none_missed device is) };
  }

  abbrev after : IsAfterPut pair first_clock 2 (1 ∷ []) (Found first_clock object (source name object ∷ []))
  after = record {
    old = written name object;
    new = read name object;
    leads = record { earlier = Start (Put name object) ∷ written_by; run = run_to_written; later = Lose 1 ∷ Start (Get name) ∷ read_by; lead = lead_to_read };
    begun = put_begun name object;
    created = record { operation = put_at name object (committed_both name object) true; there = record { number = 1; there = refl }; begun_is = refl; ended = is_created name object };
    stamp_is = refl;
    put = record { booked = record { stamp = first_clock; name = name; object = object }; start = 0 };
    started = Contains-first _ [];
    put_is = refl;
    ends = ends;
  }

  pub finds : FindsAfterLoss pair name object 1
  finds = record {
    ready_first = ready_first;
    written = written name object;
    put = put_at name object (committed_both name object) true;
    writes = writes;
    left = left name object;
    loses = loses name object;
    ready = ready name object;
    own_place = own_place name object;
    read = read name object;
    get = get_at name object (brought name object) true;
    reads = reads;
    stamp = first_clock;
    commits = 2;
    sources = source name object ∷ [];
    after = after;
    from = refl;
    to = refl;
    begun = refl;
    of_put = refl;
    of_get = refl;
    lost = (the_loss, Contains-first the_loss [], refl, omega arith);
    few = omega arith;
    enough = omega arith;
  }
