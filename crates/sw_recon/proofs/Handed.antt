-- What is known of a message as it is handed out.
use Rattle.std.proofs.Common.{◌≡◌, ℕ, List, subst}
use Rattle.sw_hashpath.specs.Place.{PlaceModel}
use Rattle.sw_hashdir.specs.declared.entry.Entry.{Entry}
use Rattle.sw_message.specs.Transcript.{Hand, IsRun, Step}
use Rattle.sw_message.specs.declared.message.Msg.TheVariants as message
use Rattle.sw_message.specs.declared.sent.Sent.{Sent}
use Rattle.sw_recon.specs.Causes.{IsCovered, WasFetched}
use Rattle.sw_recon.specs.Revert.{Begun, IsNext, next_at, sent_for, primary_of}
use Rattle.sw_recon.specs.declared.status.Status.{Status}
use Rattle.sw_recon.specs.declared.status.Status.TheVariants.{Ends, Starts, Treats}
use Rattle.sw_recon.specs.declared.treatment.Treatment.{Treatment}
use Rattle.sw_recon.specs.declared.treatment.Treatment.TheVariants.{Ask, Commit, Fetch, Remove, Store}
use Rattle.sw_recon.proofs.Known.{IsTreated, Knows, known}
use Rattle.sw_recon.proofs.Machine.{handed}

module _ (begun : Begun) (past : List Step) (sent : Sent) (place : PlaceModel) where
  -- bytes that go to a primary
  module _ (stamp index : ℕ) (bytes : List ℕ) (is : sent.msg ≡ message.PutFrag place stamp index bytes) where
    abbrev Stores : Type 0
    Stores = (place ≡ begun.place) × WasFetched begun past stamp index bytes

    stores_by : (entry : Entry) (treatment : Treatment) → IsTreated begun past entry treatment → sent.msg ≡ (sent_for begun.place begun.device (primary_of begun entry.index) entry treatment).1 → Stores
    stores_by entry (Store held) treated same =
        let places : place ≡ begun.place = cc (is, same) in
        let stamps : entry.stamp ≡ stamp = cc (is, same) in
        let indices : entry.index ≡ index = cc (is, same) in
        let these : held ≡ bytes = cc (is, same) in
        let fetched : WasFetched begun past entry.stamp entry.index held = record { archive = treated.2; told = treated.1 } in
        (places, subst (λ n. WasFetched begun past n index bytes) stamps (subst (λ n. WasFetched begun past entry.stamp n bytes) indices (subst (WasFetched begun past entry.stamp entry.index) these fetched)))
    stores_by entry Ask treated same = absurd (cc (is, same))
    stores_by entry Fetch treated same = absurd (cc (is, same))
    stores_by entry Commit treated same = absurd (cc (is, same))
    stores_by entry Remove treated same = absurd (cc (is, same))

    stores_at : (number : ℕ) (status : Status) → Knows begun past status → Hand sent ≡ next_at begun number status → Stores
    stores_at number Starts knows next = absurd (cc (is, next))
    stores_at number (Treats course) knows next = stores_by course.entry course.treatment knows.treated (cc (next))
    stores_at number (Ends end) knows next = absurd (cc (next))

    pub stores : IsRun (IsNext begun) past → IsNext begun past (Hand sent) → Stores
    stores run next = let hands = handed begun past sent next in stores_at _ hands.status (known begun past hands.status run hands.is) hands.next

  -- an entry that is to be removed
  module _ (entry : Entry) (is : sent.msg ≡ message.Remove place entry.stamp entry.index) where
    abbrev Removes : Type 0
    Removes = (place ≡ begun.place) × IsCovered begun past entry

    removes_by : (one : Entry) (treatment : Treatment) → IsTreated begun past one treatment → sent.msg ≡ (sent_for begun.place begun.device (primary_of begun one.index) one treatment).1 → Removes
    removes_by one Remove treated same =
        let places : place ≡ begun.place = cc (is, same) in
        let stamps : one.stamp ≡ entry.stamp = cc (is, same) in
        let indices : one.index ≡ entry.index = cc (is, same) in
        let plain : IsCovered begun past (record { stamp = one.stamp; index = one.index; durable = entry.durable }) =
        record { below = treated.below; msg = treated.msg; given = treated.given; told = treated.told; place = treated.place; shows = treated.shows } in (
          places,
          subst (λ n. IsCovered begun past (record { stamp = n; index = entry.index; durable = entry.durable })) stamps
              (subst (λ n. IsCovered begun past (record { stamp = one.stamp; index = n; durable = entry.durable })) indices plain),
        )
    removes_by one Ask treated same = absurd (cc (is, same))
    removes_by one Fetch treated same = absurd (cc (is, same))
    removes_by one (Store held) treated same = absurd (cc (is, same))
    removes_by one Commit treated same = absurd (cc (is, same))

    removes_at : (number : ℕ) (status : Status) → Knows begun past status → Hand sent ≡ next_at begun number status → Removes
    removes_at number Starts knows next = absurd (cc (is, next))
    removes_at number (Treats course) knows next = removes_by course.entry course.treatment knows.treated (cc (next))
    removes_at number (Ends end) knows next = absurd (cc (next))

    pub removes : IsRun (IsNext begun) past → IsNext begun past (Hand sent) → Removes
    removes run next = let hands = handed begun past sent next in removes_at _ hands.status (known begun past hands.status run hands.is) hands.next
