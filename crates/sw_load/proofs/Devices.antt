-- The events of a workload name devices of its cluster, and draw at most as many stamps as it has steps.
use Rattle.std.proofs.Common.{◌≡◌, ◌<◌, ◌≤◌, ◌+◌, ℕ, zero, suc, Bool, true, false, List, [], ◌∷◌, ◌++◌, All, get_or, length, refl, subst, arith}
use Rattle.std.specs.Prelude.{⊤, ◌/◌, ◌%◌, ◌==◌, ◌&&◌, nat_lt, if◌then◌else◌}
use Rattle.std.proofs.lemmas.List.Elements.{All-append, All-cons, All-map, All-nil, Contains-get_or}
use Rattle.std.proofs.lemmas.Nat.{mod_below}
use Rattle.sw_ring.specs.Ring.{is_among}
use Rattle.sw_ring.proofs.Among.{among-from_Contains}
use Rattle.sw_script.specs.declared.event.Event.{Event}
use Rattle.sw_script.specs.declared.event.Event.TheVariants as event
use Rattle.sw_script.specs.declared.event.Job.{Job}
use Rattle.sw_script.specs.declared.event.Job.TheVariants as job
use Rattle.sw_sim_world.specs.Doing.{is_drawing}
use Rattle.sw_lab.specs.Workload.{device_of, draw_behind, job_of, name_of, outage_of, put_object, repairs_of, step_of, steps_from, workload_of}
use Rattle.sw_load.proofs.Stamps.{count_of}

-- how many stamps events draw
abbrev pub draws_in : List Event → ℕ
draws_in [] = 0
draws_in (one ∷ events) = count_of (is_drawing one) + draws_in events

-- it names a device among these, or none
abbrev NamesJob : List ℕ → Job → Type 0
NamesJob ids (job.Recon device name) = is_among ids device ≡ true
NamesJob ids other = ⊤

abbrev pub Names : List ℕ → Event → Type 0
Names ids (event.Run one) = NamesJob ids one
Names ids (event.Stop device) = is_among ids device ≡ true
Names ids (event.Restart device) = is_among ids device ≡ true
Names ids other = ⊥

-- ---- lists of events behind one another

draws-behind : (events others : List Event) → draws_in (events ++ others) ≡ draws_in events + draws_in others
draws-behind [] others = omega arith
draws-behind (one ∷ events) others = omega (arith, draws-behind events others)

-- they name devices among these, and draw so many stamps at most
record AreFine (ids : List ℕ) (most : ℕ) (events : List Event) : Type 0 where
  names : All (Names ids) events
  draws : draws_in events ≤ most

fine-behind : (ids : List ℕ) (most more : ℕ) (events others : List Event) → AreFine ids most events → AreFine ids more others → AreFine ids (most + more) (events ++ others)
fine-behind ids most more events others one other = record {
  names = All-append (Names ids) events others one.names other.names;
  draws = omega (arith, draws-behind events others, one.draws, other.draws);
}

fine-one : (ids : List ℕ) (one : Event) → Names ids one → AreFine ids (count_of (is_drawing one)) (one ∷ [])
fine-one ids one names = record { names = All-cons (Names ids) one [] names (All-nil (Names ids)); draws = omega arith }

fine-none : (ids : List ℕ) → AreFine ids 0 []
fine-none ids = record { names = All-nil (Names ids); draws = omega arith }

-- ---- steps

module _ (ids : List ℕ) (some : 0 < length ids) where
  -- the device whose turn it is
  its_turn : (step : ℕ) → is_among ids (device_of ids step) ≡ true
  its_turn step = among-from_Contains ids (device_of ids step) (Contains-get_or ids ((step / 20) % length ids) 0 (mod_below (step / 20) (length ids) some))

  no_draws : (number : ℕ) (devices : List ℕ) → draws_in (repairs_of devices (draw_behind number)) ≡ 0
  no_draws number [] = refl
  no_draws number (device ∷ devices) = omega (arith, no_draws number devices)

  repairs-fine : (number : ℕ) → AreFine ids 0 (repairs_of ids (draw_behind number))
  repairs-fine number = record {
    names = All-map (Names ids) (λ device. event.Run (job.Recon device (name_of (draw_behind number).name))) ids (λ k d within. among-from_Contains ids (get_or ids k d) (Contains-get_or ids k d within));
    draws = omega (arith, no_draws number ids);
  }

  either : (first second : Bool) (one other : List Event) → AreFine ids 0 one → AreFine ids 0 other → AreFine ids 0 (if first then one else if second then other else [])
  either true second one other of_one of_other = of_one
  either false true one other of_one of_other = of_other
  either false false one other of_one of_other = fine-none ids

  outage-fine : (step number : ℕ) → AreFine ids 0 (outage_of ids step (draw_behind number))
  outage-fine step number =
      let draw = draw_behind number in
      either (step % 20 == 0) (step % 20 == 10 && nat_lt 10 step) (event.Stop (device_of ids step) ∷ []) (event.Restart (device_of ids step) ∷ repairs_of ids draw)
      (fine-one ids (event.Stop (device_of ids step)) (its_turn step))
      (fine-behind ids 0 0 (event.Restart (device_of ids step) ∷ []) (repairs_of ids draw) (fine-one ids (event.Restart (device_of ids step)) (its_turn step)) (repairs-fine number))

  one_of : (first second : Bool) (put get delete : Job) → NamesJob ids put → NamesJob ids get → NamesJob ids delete → NamesJob ids (if first then put else if second then get else delete)
  one_of true second put get delete of_put of_get of_delete = of_put
  one_of false true put get delete of_put of_get of_delete = of_get
  one_of false false put get delete of_put of_get of_delete = of_delete

  one_at_most : (may : Bool) → count_of may ≤ 1
  one_at_most true = omega arith
  one_at_most false = omega arith

  job-fine : (number : ℕ) → AreFine ids 1 (event.Run (job_of (draw_behind number)) ∷ [])
  job-fine number =
      let draw = draw_behind number in
      let one : Event = event.Run (job_of draw) in
      record {
        names =
            All-cons (Names ids) one []
            (one_of (nat_lt (draw.kind % 8) 4) (nat_lt (draw.kind % 8) 7) (job.Put (name_of draw.name) (put_object draw.body)) (job.Get (name_of draw.name)) (job.Delete (name_of draw.name)) tt tt tt)
            (All-nil (Names ids));
        draws = omega (arith, one_at_most (is_drawing one));
      }

  steps-fine : (left step number : ℕ) → AreFine ids left (steps_from ids left step number)
  steps-fine zero step number = fine-none ids
  steps-fine (suc left) step number =
      let draw = draw_behind number in
      let count : 1 + left ≡ suc left = omega arith in
      subst (λ (most : ℕ). AreFine ids most (steps_from ids (suc left) step number)) count
      (fine-behind ids 1 left (step_of ids step draw) (steps_from ids left (step + 1) draw.body)
      (fine-behind ids 0 1 (outage_of ids step draw) (event.Run (job_of draw) ∷ []) (outage-fine step number) (job-fine number))
      (steps-fine left (step + 1) draw.body))

  pub workload-names : (number : ℕ) → All (Names ids) (workload_of ids number)
  workload-names number = (steps-fine number 1 number).names

  pub workload-draws : (number : ℕ) → draws_in (workload_of ids number) ≤ number
  workload-draws number = (steps-fine number 1 number).draws
