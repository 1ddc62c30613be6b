-- A transcript has one status, and at most one message is open.
use Rattle.std.proofs.Common.{◌≡◌, ◌⊎◌, inl, inr, ℕ, ◌==◌, Bool, true, false, not, cond, List, [], ◌∷◌, length, Option, Some, None, refl, sym, ap, subst, ◌∙◌}
use Rattle.std.specs.List.{filter, find}
use Rattle.std.proofs.lemmas.Bool.{cases_Bool, cond-false, cond-true}
use Rattle.std.proofs.lemmas.Option.{none-some, same_Some}
use Rattle.sw_hashdir.specs.declared.entry.Entry.{Entry}
use Rattle.sw_hashpath.specs.Place.{PlaceModel}
use Rattle.sw_ring.specs.Cluster.{ClusterModel}
use Rattle.sw_message.specs.Transcript.{Closed, Gave, Hand, IsRun, Next, Step, given, is_empty, is_not, is_waiting, open_at, opens}
use Rattle.sw_message.specs.declared.reply.Reply.{Reply}
use Rattle.sw_message.specs.declared.reply.Reply.TheVariants as reply
use Rattle.sw_message.specs.declared.sent.Sent.{Sent}
use Rattle.sw_message.specs.declared.spoil.Spoil.{Spoil}
use Rattle.sw_message.proofs.Spoils.{asked_or_spoiled, one_spoil}
use Rattle.sw_recon.specs.Revert.{Begun, IsEnd, IsNext, IsSpoilt, IsStatus, Leads, after_by, next_at, next_or, total}
use Rattle.sw_recon.specs.Standing.{ends}
use Rattle.sw_recon.specs.declared.revert_end.RevertEnd.{RevertEnd}
use Rattle.sw_recon.specs.declared.status.Status.{Status}
use Rattle.sw_recon.specs.declared.status.Status.TheVariants.{Ends, Starts, Treats}
use Rattle.sw_recon.specs.declared.treatment.Treatment.{Treatment}
use Rattle.sw_recon.specs.declared.treatment.Treatment.TheVariants.{Fetch}

-- ---- one status

module _ (cluster : ClusterModel) (place : PlaceModel) (entry : Entry) where
  one_spoilt : (bytes : List ℕ) (a b : Option Spoil) → IsSpoilt cluster place entry Fetch (Some (reply.Fragment bytes)) a → IsSpoilt cluster place entry Fetch (Some (reply.Fragment bytes)) b → a ≡ b
  one_spoilt bytes None None x y = refl
  one_spoilt bytes None (Some b) x y = absurd (asked_or_spoiled cluster place entry.stamp entry.index bytes b x y)
  one_spoilt bytes (Some a) None x y = absurd (asked_or_spoiled cluster place entry.stamp entry.index bytes a y x)
  one_spoilt bytes (Some a) (Some b) x y = ap (λ spoil. Some spoil) (one_spoil cluster place entry.stamp entry.index bytes a b x y)

  one_check : (treatment : Treatment) (answer : Option Reply) (a b : Option Spoil) → IsSpoilt cluster place entry treatment answer a → IsSpoilt cluster place entry treatment answer b → a ≡ b
  one_check Fetch (Some (reply.Fragment bytes)) a b x y = one_spoilt bytes a b x y
  one_check treatment answer a b x y = x ∙ sym y

module _ (begun : Begun) where
  one_lead : (before : Status) (answer : Option Reply) (a b : Status) → Leads begun before answer a → Leads begun before answer b → a ≡ b
  one_lead Starts answer a b x y = x ∙ sym y
  one_lead (Treats course) answer a b x y =
      x.2 ∙ ap (after_by (total begun) course course.treatment answer) (one_check begun.cluster begun.place course.entry course.treatment answer x.0 y.0 x.1 y.1) ∙ sym y.2
  one_lead (Ends end) answer a b x y = absurd x

  pub one_status : (past : List Step) (a b : Status) → IsStatus begun past a → IsStatus begun past b → a ≡ b
  one_status [] a b x y = x ∙ sym y
  one_status (Gave sent ∷ past) a b x y = one_status past a b x y
  one_status (Closed sent answer ∷ past) a b x y =
      one_lead x.0 answer a b x.2 (subst (λ (before : Status). Leads begun before answer b) (one_status past y.0 x.0 y.1 x.1) y.2)

  -- so one thing comes next
  next-by : (past : List Step) (waits : Bool) (one other : Next) → next_or begun past waits one → next_or begun past waits other → one ≡ other
  next-by past true one other x y = x ∙ sym y
  next-by past false one other x y = x.2 ∙ ap (next_at begun (length (given past))) (one_status past x.0 y.0 x.1 y.1) ∙ sym y.2

  pub one_next : (past : List Step) (one other : Next) → IsNext begun past one → IsNext begun past other → one ≡ other
  one_next past one other x y = next-by past (is_waiting past) one other x y

  -- and there is one end
  pub one_end : (past : List Step) (one other : RevertEnd) → IsEnd begun past one → IsEnd begun past other → one ≡ other
  one_end past one other x y = let same = one_status past (Ends one) (Ends other) x.1 y.1 in cc

-- ---- one open message

-- the one that is open is the last one
pub record IsOpen (begun : Begun) (past : List Step) : Type 0 where
  pub sent : Sent
  pub opened : opens past ≡ sent ∷ []
  pub number : ℕ
  pub status : Status
  pub is : IsStatus begun past status
  pub next : Hand sent ≡ next_at begun number status

-- none is open where one is handed out
pub record IsHanded (begun : Begun) (past : List Step) (sent : Sent) : Type 0 where
  pub none_open : opens past ≡ []
  pub status : Status
  pub is : IsStatus begun past status
  pub next : Hand sent ≡ next_at begun (length (given past)) status

only_one : (one sent : Sent) (ticket : ℕ) → find (λ (sent : Sent). sent.ticket == ticket) (one ∷ []) ≡ Some sent → (one ≡ sent) × (filter (is_not ticket) (one ∷ []) ≡ [])
only_one one sent ticket is = elim (cases_Bool (one.ticket == ticket)) [
  | inl has ↦ (same_Some one sent (sym (cond-true (one.ticket == ticket) (Some one) None has) ∙ is), ap (λ b. cond (not b) (one ∷ []) []) has)
  | inr other ↦ absurd (none-some sent (sym (cond-false (one.ticket == ticket) (Some one) None other) ∙ is))
]

module _ (begun : Begun) where
  handed_by : (past : List Step) (sent : Sent) (opened : List Sent) → opens past ≡ opened → next_or begun past (not (is_empty opened)) (Hand sent) → IsHanded begun past sent
  handed_by past sent [] none is = record { none_open = none; status = is.0; is = is.1; next = is.2 }
  handed_by past sent (one ∷ more) some is = absurd (cc)

  pub handed : (past : List Step) (sent : Sent) → IsNext begun past (Hand sent) → IsHanded begun past sent
  handed past sent is = handed_by past sent (opens past) refl is

  pub record IsAnswered (past : List Step) (sent : Sent) : Type 0 where
    pub one : IsOpen begun past
    pub same : one.sent ≡ sent
    pub closed : filter (is_not sent.ticket) (opens past) ≡ []

  answered_by : (past : List Step) (sent : Sent) → (opens past ≡ []) ⊎ IsOpen begun past → open_at sent.ticket past ≡ Some sent → IsAnswered past sent
  answered_by past sent (inl none) is = absurd (none-some sent (sym (ap (find (λ (one : Sent). one.ticket == sent.ticket)) none) ∙ is))
  answered_by past sent (inr one) is =
      let same = only_one one.sent sent sent.ticket (ap (find (λ (one : Sent). one.ticket == sent.ticket)) (sym one.opened) ∙ is) in
      record { one = one; same = same.0; closed = ap (filter (is_not sent.ticket)) one.opened ∙ same.1 }

  pub at_most_one : (past : List Step) → IsRun (IsNext begun) past → (opens past ≡ []) ⊎ IsOpen begun past
  at_most_one [] run = inl refl
  at_most_one (Gave sent ∷ past) run =
      let is = handed past sent run.0 in
      inr (record { sent = sent; opened = ap (λ these. sent ∷ these) is.none_open; number = length (given past); status = is.status; is = is.is; next = is.next })
  at_most_one (Closed sent answer ∷ past) run = inl (answered_by past sent (at_most_one past run.1) run.0).closed

  -- an answer is for the one open message
  pub answered : (past : List Step) (sent : Sent) → IsRun (IsNext begun) past → open_at sent.ticket past ≡ Some sent → IsAnswered past sent
  answered past sent run is = answered_by past sent (at_most_one past run) is

  goes : (number : ℕ) (sent : Sent) (status : Status) → Hand sent ≡ next_at begun number status → ends status ≡ false
  goes number sent Starts is = refl
  goes number sent (Treats course) is = refl
  goes number sent (Ends end) is = absurd (cc)

  -- while one is open, it is not over
  pub open-goes : (past : List Step) (status : Status) → IsOpen begun past → IsStatus begun past status → ends status ≡ false
  open-goes past status one is = goes one.number one.sent status (one.next ∙ ap (next_at begun one.number) (one_status begun past one.status status one.is is))
