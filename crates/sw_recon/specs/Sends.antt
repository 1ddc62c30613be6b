-- What a revert may hand out, by what was answered before.
use Rattle.std.specs.Prelude.{◌≡◌, ◌≢◌, ◌⊎◌, ℕ, ◌<◌, ◌==◌, Bool, true, false, ◌&&◌, nat_lt, List, [], take, Contains, Some, ⊤}
use Rattle.std.specs.List.{AllPairs, count_by}
use Rattle.sw_hashdir.specs.Listing.{ListingModel}
use Rattle.sw_hashdir.specs.declared.entry.Entry.{Entry}
use Rattle.sw_message.specs.Transcript.{IsFirst, Step, given}
use Rattle.sw_message.specs.declared.message.Msg.{Msg}
use Rattle.sw_message.specs.declared.message.Msg.TheVariants as message
use Rattle.sw_message.specs.declared.reply.Reply.TheVariants as reply
use Rattle.sw_message.specs.declared.sent.Sent.{Sent}
use Rattle.sw_recon.specs.Causes.{IsAbout, IsCovered, IsCoveredBy, ListsOwn, WasFetched, WasStored, WasTold}
use Rattle.sw_recon.specs.Course.{most_entries}
use Rattle.sw_recon.specs.Revert.{Begun, primary_of, total}

-- ---- what a message may be about

-- the own device listed the entry among those that are treated, and the policy has its index
pub record IsListed (begun : Begun) (past : List Step) (entry : Entry) : Type 0 where
  pub listing : ListingModel
  pub own : ListsOwn begun past listing
  pub among : Contains (take most_entries listing.entries) entry
  pub below : entry.index < total begun

-- the primary of its index listed nothing that covers the entry
pub record IsUncovered (begun : Begun) (past : List Step) (entry : Entry) : Type 0 where
  pub listing : ListingModel
  pub told : WasTold past (primary_of begun entry.index) (message.Ask begun.place) (Some (reply.Held listing))
  pub not_covered : IsCoveredBy begun entry listing → ⊥

-- What is known of an entry as a message about it is handed out. Its primary is asked at once. A durable entry that the primary's listing
-- does not cover is fetched; the bytes that the own device sent are stored; what was stored is made durable; and what is covered is removed.
abbrev pub MayTreat : Begun → List Step → Entry → Msg → Type 0
MayTreat begun past entry (message.Ask place) = ⊤
MayTreat begun past entry (message.Fetch place stamp index) = (entry.durable ≡ true) × IsUncovered begun past entry
MayTreat begun past entry (message.PutFrag place stamp index bytes) = (entry.durable ≡ true) × WasFetched begun past stamp index bytes
MayTreat begun past entry (message.Commit place stamp index) = WasStored begun past entry
MayTreat begun past entry (message.Remove place stamp index) = IsCovered begun past entry
MayTreat begun past entry other = ⊥

-- it is about such an entry, and goes where that is to go
pub record IsForEntry (begun : Begun) (past : List Step) (device : ℕ) (msg : Msg) : Type 0 where
  pub entry : Entry
  pub listed : IsListed begun past entry
  pub about : IsAbout begun entry device msg
  pub may : MayTreat begun past entry msg

-- the first message of all asks the own device what it has
pub record IsOpening (begun : Begun) (past : List Step) (device : ℕ) (msg : Msg) : Type 0 where
  pub first : past ≡ []
  pub own : device ≡ begun.device
  pub asks : msg ≡ message.Ask begun.place

abbrev pub MaySend : Begun → List Step → (device : ℕ) → Msg → Type 0
MaySend begun past device msg = IsOpening begun past device msg ⊎ IsForEntry begun past device msg

-- ---- what is handed out once

-- no two of these entries have one stamp and one index
abbrev pub AreOnce : List Entry → Type 0
AreOnce entries = AllPairs (λ one other. one.stamp ≡ other.stamp → one.index ≢ other.index) entries

-- how many questions went to a device
abbrev pub is_question : (device to : ℕ) → Msg → Bool
is_question device to (message.Ask place) = to == device
is_question device to other = false

abbrev pub questions_to : (device : ℕ) → List Sent → ℕ
questions_to device sents = count_by (λ sent. is_question device sent.device sent.msg) sents

-- the device is the primary of the entry's index
abbrev pub has_primary : Begun → (device : ℕ) → Entry → Bool
has_primary begun device entry = nat_lt entry.index (total begun) && primary_of begun entry.index == device

-- Where no two of the entries have one stamp and one index, a message other than a question was not handed out before. A question may come
-- again, since each entry has its own: fewer went to the device before than there are entries of whose index it is the primary.
abbrev pub IsFirstOf : Begun → List Entry → List Step → Sent → Msg → Type 0
IsFirstOf begun entries past sent (message.Ask place) = questions_to sent.device (given past) < count_by (has_primary begun sent.device) entries
IsFirstOf begun entries past sent other = AreOnce entries → IsFirst past sent

abbrev pub IsFirstFor : Begun → List Entry → List Step → Sent → Type 0
IsFirstFor begun entries past sent = IsFirstOf begun entries past sent sent.msg
