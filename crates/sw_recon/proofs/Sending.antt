-- What is handed out may be sent.
use Rattle.std.proofs.Common.{◌≡◌, inl, inr, ℕ, List, [], ◌∷◌, ◌++◌, Contains, length, take, refl, sym, ap, subst, ◌∙◌, arith}
use Rattle.std.proofs.lemmas.List.Elements.{Contains-append_right}
use Rattle.sw_hashdir.specs.declared.entry.Entry.{Entry}
use Rattle.sw_message.specs.Transcript.{Hand, IsRun, Step, given, opens}
use Rattle.sw_message.specs.declared.sent.Sent.{Sent}
use Rattle.sw_recon.specs.Course.{Course, most_entries}
use Rattle.sw_recon.specs.Revert.{Begun, IsNext, message_for, next_at, own_message, treat_message}
use Rattle.sw_recon.specs.Sends.{IsListed, MaySend, MayTreat}
use Rattle.sw_recon.specs.declared.status.Status.{Status}
use Rattle.sw_recon.specs.declared.status.Status.TheVariants.{Ends, Starts, Treats}
use Rattle.sw_recon.specs.declared.treatment.Treatment.{Treatment}
use Rattle.sw_recon.specs.declared.treatment.Treatment.TheVariants.{Ask, Commit, Fetch, Remove, Store}
use Rattle.sw_recon.proofs.Known.{IsCourse, IsTreated, Knows, about, known}
use Rattle.sw_recon.proofs.Machine.{handed}

-- the entry that is treated was listed
pub is-listed : (begun : Begun) (past : List Step) (course : Course) → IsCourse begun past course → IsListed begun past course.entry
is-listed begun past course is = record {
  listing = is.listing;
  own = is.own;
  among = subst (λ (these : List Entry). Contains these course.entry) (sym is.are) (Contains-append_right is.front (course.entry ∷ course.later) course.entry (0, omega arith, refl));
  below = is.below;
}

module _ (begun : Begun) (past : List Step) where
  may-treat : (entry : Entry) (treatment : Treatment) → IsTreated begun past entry treatment → MayTreat begun past entry (message_for begun.place entry treatment)
  may-treat entry Ask is = tt
  may-treat entry Fetch is = is
  may-treat entry (Store bytes) is = (is.0, record { archive = is.2; told = is.1 })
  may-treat entry Commit is = is
  may-treat entry Remove is = is

  module _ (sent : Sent) where
    sends-at : (status : Status) → Knows begun past status → opens past ≡ [] → Hand sent ≡ next_at begun (length (given past)) status → MaySend begun past sent.device sent.msg
    sends-at Starts (inl none) closed next =
        let same : sent ≡ own_message begun (length (given past)) = cc (next) in
        inl (record { first = none; own = ap (λ (one : Sent). one.device) same; asks = ap (λ (one : Sent). one.msg) same })
    sends-at Starts (inr one) closed next = absurd (cc (sym closed ∙ ap opens one))
    sends-at (Treats course) is closed next =
        let number : ℕ = length (given past) in
        let same : sent ≡ treat_message begun number course = cc (next) in
        subst (λ (one : Sent). MaySend begun past one.device one.msg) (sym same) (inr (record {
          entry = course.entry;
          listed = is-listed begun past course is;
          about = about begun past course.entry course.later course.removed course.kept number course.treatment;
          may = may-treat course.entry course.treatment is.treated;
        }))
    sends-at (Ends end) is closed next = absurd (cc (next))

    pub may-send : IsRun (IsNext begun) past → IsNext begun past (Hand sent) → MaySend begun past sent.device sent.msg
    may-send run next = let hands = handed begun past sent next in sends-at hands.status (known begun past hands.status run hands.is) hands.none_open hands.next
