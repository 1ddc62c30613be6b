-- A listing that a round of a get knows answers a question of the get to a device of its cluster.
use Rattle.std.proofs.Common.{◌≡◌, inl, inr, ℕ, Contains, List, [], ◌∷◌, Option, Some, refl, sym, ap, subst}
use Rattle.std.specs.Prelude.{⊤}
use Rattle.std.specs.List.{All}
use Rattle.std.proofs.lemmas.List.Elements.{All-cons, All-filter, All-head, All-nil, All-tail, Contains-append_cases}
use Rattle.sw_hashdir.specs.Listing.{ListingModel}
use Rattle.sw_diskfile.proofs.Lists.{Contains-cases, Contains-none}
use Rattle.sw_message.specs.Message.{IsMember}
use Rattle.sw_message.specs.Transcript.{Closed, Gave, Hand, IsRun, Step, is_not, opens}
use Rattle.sw_message.specs.declared.message.Msg.{Msg}
use Rattle.sw_message.specs.declared.message.Msg.TheVariants as message
use Rattle.sw_message.specs.declared.reply.Reply.{Reply}
use Rattle.sw_message.specs.declared.reply.Reply.TheVariants as reply
use Rattle.sw_message.specs.declared.sent.Sent.{Sent}
use Rattle.sw_quorum.proofs.Transcripts.{found}
use Rattle.sw_get.specs.Get.{Begun, Hears, IsBegun, IsMeant, IsNext, Sends, Turn, ask_message, facts_in, facts_of, listed_by, place_of}
use Rattle.sw_get.specs.Meaning.{Lists, Meaning, asked_meaning}
use Rattle.sw_get.specs.declared.round_end.Going.TheVariants as going
use Rattle.sw_get.proofs.Members.{asked_known}
use Rattle.sw_get.proofs.Rounds.{HandedSo, handed_so}
use Rattle.sw_get.proofs.Runs.{all_kept, says}
use Rattle.sw_get.proofs.Shown.{IsTold, held_of}

-- a question asks a device of the cluster for what it has at the place
abbrev AsksRight : Begun → (device : ℕ) → Msg → Type 0
AsksRight begun device (message.Ask place) = (place ≡ place_of begun) × IsMember begun.cluster device
AsksRight begun device other = ⊤

-- the answer to a question of the get, to a device of its cluster, is this listing
pub record IsListed (begun : Begun) (past : List Step) (device : ℕ) (listing : ListingModel) : Type 0 where
  pub member : IsMember begun.cluster device
  pub ticket : ℕ
  pub told : Contains past (Closed (ask_message begun ticket device) (Some (reply.Held listing)))

-- ---- what was asked

module _ (begun : Begun) (valid : IsBegun begun) where
  abbrev IsRight : Sent → Type 0
  IsRight sent = AsksRight begun sent.device sent.msg

  handed_right : (past : List Step) → IsRun (IsNext begun) past → (sent : Sent) → (next : IsNext begun past (Hand sent)) → HandedSo begun next.0 sent → IsRight sent
  handed_right past run sent next (inl asks) =
      let at = says begun valid past next.0 (all_kept begun valid past run next.0 next.1) (going.Ask asks.device) asks.goes in
      subst IsRight (sym asks.is) (refl, asked_known begun valid (facts_in begun next.0).asked asks.device at)
  handed_right past run sent next (inr (inl fetches)) = subst IsRight (sym fetches.is) tt
  handed_right past run sent next (inr (inr starts)) = subst IsRight (sym starts.is) (refl, asked_known begun valid 0 starts.device starts.first)

  opens_right : (past : List Step) → IsRun (IsNext begun) past → All IsRight (opens past)
  opens_right [] run = All-nil IsRight
  opens_right (Gave sent ∷ past) run = All-cons IsRight sent (opens past) (handed_right past run.1 sent run.0 (handed_so begun past sent run.0.0 run.0 run.0.1)) (opens_right past run.1)
  opens_right (Closed sent answer ∷ past) run = All-filter (is_not sent.ticket) IsRight (opens past) (opens_right past run.1)

  told_right : (past : List Step) → IsRun (IsNext begun) past → (sent : Sent) (answer : Option Reply) → Contains past (Closed sent answer) → IsRight sent
  told_right [] run sent answer has = absurd (Contains-none (Closed sent answer) has)
  told_right (Gave other ∷ past) run sent answer has = elim (Contains-cases (Gave other) past (Closed sent answer) has) [
    | inl this ↦ absurd (cc this)
    | inr later ↦ told_right past run.1 sent answer later
  ]
  told_right (Closed other given ∷ past) run sent answer has = elim (Contains-cases (Closed other given) past (Closed sent answer) has) [
    | inl this ↦ let same : other ≡ sent = cc this in subst IsRight same (found IsRight other.ticket (opens past) other run.0 (opens_right past run.1)).0
    | inr later ↦ told_right past run.1 sent answer later
  ]

-- ---- what was listed

module _ (begun : Begun) (valid : IsBegun begun) (past : List Step) (run : IsRun (IsNext begun) past) (device : ℕ) (listing : ListingModel) where
  by_question : (ticket : ℕ) (place : _) (answer : Option Reply) → Contains past (Closed (record { ticket = ticket; device = device; msg = message.Ask place }) answer) → Lists listing ≡ asked_meaning answer
      → IsListed begun past device listing
  by_question ticket place answer told means =
      let right = told_right begun valid past run (record { ticket = ticket; device = device; msg = message.Ask place }) answer told in
      record {
        member = right.1;
        ticket = ticket;
        told = subst (λ one. Contains past (Closed (ask_message begun ticket device) one)) (held_of answer listing (sym means))
            (subst (λ one. Contains past (Closed (record { ticket = ticket; device = device; msg = message.Ask one }) answer)) right.0 told);
      }

  by_turn : (ticket from : ℕ) (msg : Msg) (meaning : Meaning) (answer : Option Reply) (before : List Turn) → Contains past (Closed (record { ticket = ticket; device = from; msg = msg }) answer) → IsMeant begun before msg answer meaning
      → Contains (listed_by from msg meaning) (device, listing) → IsListed begun past device listing
  by_turn ticket from (message.Ask place) (Lists shown) answer before told means has = elim (Contains-cases (from, shown) [] (device, listing) has) [
    | inl this ↦
        let devices : from ≡ device = ap (λ (one : ℕ × ListingModel). one.0) this in
        let listings : shown ≡ listing = ap (λ (one : ℕ × ListingModel). one.1) this in
        by_question ticket place answer (subst (λ n. Contains past (Closed (record { ticket = ticket; device = n; msg = message.Ask place }) answer)) devices told) (subst (λ one. Lists one ≡ asked_meaning answer) listings means)
    | inr none ↦ absurd (Contains-none (device, listing) none)
  ]
  by_turn ticket from (message.Ask place) other answer before told means has = absurd (Contains-none (device, listing) has)
  by_turn ticket from other meaning answer before told means has = absurd (Contains-none (device, listing) has)

  -- what a device lists in turns of the get it has answered to a question
  pub listed : (turns : List Turn) → All (IsTold begun past) turns → Contains (facts_of turns).lists (device, listing) → IsListed begun past device listing
  listed [] each has = absurd (Contains-none (device, listing) has)
  listed (Sends sent ∷ turns) each has = listed turns (All-tail (IsTold begun past) (Sends sent) turns each) has
  listed (Hears sent meaning ∷ turns) each has = elim (Contains-append_cases (facts_of turns).lists (listed_by sent.device sent.msg meaning) (device, listing) has) [
    | inl before ↦ listed turns (All-tail (IsTold begun past) (Hears sent meaning) turns each) before
    | inr this ↦
        let told = All-head (IsTold begun past) (Hears sent meaning) turns each in
        by_turn sent.ticket sent.device sent.msg meaning told.0 told.2 told.1 told.3 this
  ]
