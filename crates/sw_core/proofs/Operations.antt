-- Puts, gets and deletes: what they hand out may be sent.
use Rattle.std.proofs.Common.{◌≡◌, ℕ, Bool, true, false, nat_lt, Contains, List, length, Option, Some, None, subst}
use Rattle.std.specs.Prelude.{if◌then◌else◌}
use Rattle.std.specs.List.{slice_get}
use Rattle.sw_message.specs.Learnt.{Learnt}
use Rattle.sw_message.specs.Message.{IsPlaceOf, place_in}
use Rattle.sw_message.specs.Transcript.{Hand, Over}
use Rattle.sw_message.specs.Warrant.{IsWarranted}
use Rattle.sw_message.specs.declared.sent.Sent.{Sent}
use Rattle.sw_message.specs.declared.target.Target.{Target}
use Rattle.sw_quorum.proofs.Places.{place_right}
use Rattle.sw_delete.specs.Delete as deletes
use Rattle.sw_delete.proofs.Devices as delete_devices
use Rattle.sw_delete.proofs.Transcripts as delete_transcripts
use Rattle.sw_get.specs.Get as gets
use Rattle.sw_get.specs.Round.{all_devices}
use Rattle.sw_get.specs.declared.round_end.Going.{Going}
use Rattle.sw_get.specs.declared.round_end.Going.TheVariants as going
use Rattle.sw_put.specs.Put as puts
use Rattle.sw_put.proofs.Transcripts as put_transcripts
use Rattle.sw_put.proofs.Warrants as put_warrants
use Rattle.sw_core.proofs.Warranting.{HandsWarranted}

-- ---- puts

pub put-hands : (begun : puts.Begun) (learnt : Learnt) → puts.IsBegun begun → Contains learnt.book (record { stamp = begun.stamp; name = begun.name; object = begun.object })
    → HandsWarranted begun.cluster (puts.IsNext begun) learnt
put-hands begun learnt valid has = λ past sent run known next.
    let is = (put_transcripts.handed begun past sent next).1 in
    ((put_warrants.is_of begun past sent valid run is).place, put_warrants.warranted begun learnt past sent valid run has known is)

-- ---- deletes

pub delete-hands : (begun : deletes.Begun) (learnt : Learnt) → deletes.IsBegun begun → Contains learnt.marks (record { stamp = begun.stamp; name = begun.name })
    → HandsWarranted begun.cluster (deletes.IsNext begun) learnt
delete-hands begun learnt valid has = λ past sent run known next.
    let is = (delete_transcripts.handed begun past sent next).1 in
    ((delete_devices.is_of begun past sent valid is).place, delete_devices.is_warranted begun past sent learnt has is)

-- ---- gets

module _ (begun : gets.Begun) (learnt : Learnt) (sent : Sent) where
  abbrev MaySend : Type 0
  MaySend = IsPlaceOf begun.cluster (place_in sent.msg) × IsWarranted begun.cluster learnt sent.msg

  asks : (ticket device : ℕ) → Hand (gets.ask_message begun ticket device) ≡ Hand sent → MaySend
  asks ticket device same =
      let one : gets.ask_message begun ticket device ≡ sent = cc in
      subst (λ (s : Sent). IsPlaceOf begun.cluster (place_in s.msg) × IsWarranted begun.cluster learnt s.msg) one (place_right begun.cluster begun.name, tt)

  fetches : (ticket stamp : ℕ) (source : Target) → Hand (gets.fetch_message begun ticket stamp source) ≡ Hand sent → MaySend
  fetches ticket stamp source same =
      let one : gets.fetch_message begun ticket stamp source ≡ sent = cc in
      subst (λ (s : Sent). IsPlaceOf begun.cluster (place_in s.msg) × IsWarranted begun.cluster learnt s.msg) one (place_right begun.cluster begun.name, tt)

  asks_first : (ticket : ℕ) (device : Option ℕ) → gets.ask_first begun ticket device ≡ Hand sent → MaySend
  asks_first ticket (Some device) same = asks ticket device same
  asks_first ticket None same = absurd (cc)

  asks_again : (few : Bool) (ticket : ℕ) (device : Option ℕ) → (if few then gets.ask_first begun ticket device else Over) ≡ Hand sent → MaySend
  asks_again true ticket device same = asks_first ticket device same
  asks_again false ticket device same = absurd (cc)

  sends : (turns : List gets.Turn) (goes : Going) → gets.next_after begun turns goes ≡ Hand sent → MaySend
  sends turns (going.Ask device) same = asks (gets.sends turns) device same
  sends turns (going.Fetch stamp source) same = fetches (gets.sends turns) stamp source same
  sends turns going.Wait same = absurd (cc)
  sends turns (going.End ending) same = absurd (cc)
  sends turns (going.Keep event) same = asks_again (nat_lt (length (gets.events begun turns)) gets.most_kept) (gets.sends turns) (slice_get (all_devices (gets.devices begun)) 0) same

pub get-hands : (begun : gets.Begun) (learnt : Learnt) → HandsWarranted begun.cluster (gets.IsNext begun) learnt
get-hands begun learnt = λ past sent run known next. sends begun learnt sent next.0 (gets.going_in begun next.0) next.2
