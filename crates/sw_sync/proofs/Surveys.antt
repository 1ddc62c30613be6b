-- What was heard of devices is what they answered as they were asked.
use Rattle.std.proofs.Common.{◌≡◌, inl, inr, ℕ, Contains, List, [], ◌∷◌, ◌++◌, Option, Some, None, refl, sym, ap, subst}
use Rattle.std.specs.List.{All}
use Rattle.std.proofs.lemmas.List.Elements.{All-nil, All-push, All-weaker, Contains-append_left, Contains-push}
use Rattle.sw_hashdir.specs.Listing.{ListingModel}
use Rattle.sw_message.specs.Miss.{miss_of}
use Rattle.sw_message.specs.Transcript.{Closed, Gave, Step}
use Rattle.sw_message.specs.declared.message.Msg.{Msg}
use Rattle.sw_message.specs.declared.message.Msg.TheVariants as message
use Rattle.sw_message.specs.declared.miss.Miss.{Miss}
use Rattle.sw_message.specs.declared.miss.Miss.TheVariants as miss
use Rattle.sw_message.specs.declared.reply.Reply.{Reply}
use Rattle.sw_message.specs.declared.reply.Reply.TheVariants as reply
use Rattle.sw_message.specs.declared.sent.Sent.{Sent}
use Rattle.sw_gather.proofs.Lists.{first_or_later, here, none_in}
use Rattle.sw_sync.specs.Answers.{IsMissedAsk, MissedAsk, WasListed, WasTold}
use Rattle.sw_sync.specs.Parts.{Heard}
use Rattle.sw_sync.specs.Sync.{Begun, heard_from}
use Rattle.sw_sync.proofs.Messages.{told-cases, told-later}

-- each that is listed was listed, each miss is one, and there are no others
pub record Survey (begun : Begun) (past : List Step) (heard : Heard) : Type 0 where
  pub lists : All (λ (one : ℕ × ListingModel). WasListed begun past one.0 one.1) heard.lists
  pub all_lists : (device : ℕ) (listing : ListingModel) → WasListed begun past device listing → Contains heard.lists (device, listing)
  pub misses : All (λ (one : ℕ × Miss). MissedAsk begun past one.0 one.1) heard.misses
  pub all_misses : (device : ℕ) (how : Miss) → MissedAsk begun past device how → Contains heard.misses (device, how)

pub survey-begun : (begun : Begun) → Survey begun [] (record { lists = []; misses = [] })
survey-begun begun = record {
  lists = All-nil (λ (one : ℕ × ListingModel). WasListed begun [] one.0 one.1);
  all_lists = λ device listing is. absurd (none_in _ is.1);
  misses = All-nil (λ (one : ℕ × Miss). MissedAsk begun [] one.0 one.1);
  all_misses = λ device how is. absurd (none_in _ is.told.1);
}

-- a step answers no question
abbrev pub IsNoQuestion : Begun → Step → Type 0
IsNoQuestion begun step = (device : ℕ) (answer : Option Reply) (ticket : ℕ) → step ≡ Closed (record { ticket = ticket; device = device; msg = message.Ask begun.place }) answer → ⊥

pub no-question : (begun : Begun) (sent : Sent) (answer : Option Reply) → (sent.msg ≡ message.Ask begun.place → ⊥) → IsNoQuestion begun (Closed sent answer)
no-question begun sent answer other device told ticket same = other (ap msg_of same)
  where
    msg_of : Step → Msg
    msg_of (Gave one) = one.msg
    msg_of (Closed one answer) = one.msg

module _ (begun : Begun) (past : List Step) (step : Step) where
  pub missed-later : (device : ℕ) (how : Miss) → MissedAsk begun past device how → MissedAsk begun (step ∷ past) device how
  missed-later device how is = record { answer = is.answer; told = told-later past step device (message.Ask begun.place) is.answer is.told; missed = is.missed }

  -- where it answers no question, such a miss was there before
  module _ (other : IsNoQuestion begun step) where
    told-before : (device : ℕ) (answer : Option Reply) → WasTold (step ∷ past) device (message.Ask begun.place) answer → WasTold past device (message.Ask begun.place) answer
    told-before device answer (ticket, there) = elim (first_or_later step past (Closed (record { ticket = ticket; device = device; msg = message.Ask begun.place }) answer) there) [
      | inl same ↦ absurd (other device answer ticket same)
      | inr later ↦ (ticket, later)
    ]

    pub missed-before : (device : ℕ) (how : Miss) → MissedAsk begun (step ∷ past) device how → MissedAsk begun past device how
    missed-before device how is = record { answer = is.answer; told = told-before device is.answer is.told; missed = is.missed }

  module _ (heard : Heard) (survey : Survey begun past heard) where
    abbrev now : List Step
    now = step ∷ past

    lists-later : All (λ (one : ℕ × ListingModel). WasListed begun now one.0 one.1) heard.lists
    lists-later =
        All-weaker (λ (one : ℕ × ListingModel). WasListed begun past one.0 one.1) (λ (one : ℕ × ListingModel). WasListed begun now one.0 one.1)
        (λ one is. told-later past step one.0 (message.Ask begun.place) (Some (reply.Held one.1)) is) heard.lists survey.lists

    misses-later : All (λ (one : ℕ × Miss). MissedAsk begun now one.0 one.1) heard.misses
    misses-later =
        All-weaker (λ (one : ℕ × Miss). MissedAsk begun past one.0 one.1) (λ (one : ℕ × Miss). MissedAsk begun now one.0 one.1) (λ one is. missed-later one.0 one.1 is) heard.misses survey.misses

    pub survey-same : IsNoQuestion begun step → Survey begun now heard
    survey-same other = record {
      lists = lists-later;
      all_lists = λ device listing is. survey.all_lists device listing (told-before other device (Some (reply.Held listing)) is);
      misses = misses-later;
      all_misses = λ device how is. survey.all_misses device how (missed-before other device how is);
    }

-- a device answered as it was asked
module _ (begun : Begun) (past : List Step) (heard : Heard) (survey : Survey begun past heard) (ticket device : ℕ) where
  abbrev asked : Sent
  asked = record { ticket = ticket; device = device; msg = message.Ask begun.place }

  abbrev after : Option Reply → List Step
  after answer = Closed asked answer ∷ past

  told-now : (answer : Option Reply) → WasTold (after answer) device (message.Ask begun.place) answer
  told-now answer = (ticket, here (Closed asked answer) past)

  survey-listed : (listing : ListingModel) → Survey begun (after (Some (reply.Held listing))) (record heard { lists = heard.lists ++ (device, listing) ∷ [] })
  survey-listed listing = record {
    lists = All-push (λ (one : ℕ × ListingModel). WasListed begun (after (Some (reply.Held listing))) one.0 one.1) heard.lists (device, listing)
        (lists-later begun past (Closed asked (Some (reply.Held listing))) heard survey) (told-now (Some (reply.Held listing)));
    all_lists = λ other listed is. elim (told-cases past asked (Some (reply.Held listing)) other (message.Ask begun.place) (Some (reply.Held listed)) is) [
      | inl this ↦
          let same : listing ≡ listed = cc (this.2) in
          subst (λ n. Contains (heard.lists ++ (device, listing) ∷ []) (n, listed)) this.0
          (subst (λ (one : ListingModel). Contains (heard.lists ++ (device, listing) ∷ []) (device, one)) same (Contains-push heard.lists (device, listing)))
      | inr before ↦ Contains-append_left heard.lists ((device, listing) ∷ []) (other, listed) (survey.all_lists other listed before)
    ];
    misses = misses-later begun past (Closed asked (Some (reply.Held listing))) heard survey;
    all_misses = λ other how is. elim (told-cases past asked (Some (reply.Held listing)) other (message.Ask begun.place) is.answer is.told) [
      | inl this ↦ absurd (subst (λ (one : Option Reply). IsMissedAsk one how) (sym this.2) is.missed)
      | inr before ↦ survey.all_misses other how (record { answer = is.answer; told = before; missed = is.missed })
    ];
  }

  survey-missed : (answer : Option Reply) (how : Miss) → IsMissedAsk answer how → ((other : Miss) → IsMissedAsk answer other → how ≡ other) → ((listing : ListingModel) → answer ≡ Some (reply.Held listing) → ⊥)
      → Survey begun (after answer) (record heard { misses = heard.misses ++ (device, how) ∷ [] })
  survey-missed answer how missed one none = record {
    lists = lists-later begun past (Closed asked answer) heard survey;
    all_lists = λ other listed is. elim (told-cases past asked answer other (message.Ask begun.place) (Some (reply.Held listed)) is) [
      | inl this ↦ absurd (none listed this.2)
      | inr before ↦ survey.all_lists other listed before
    ];
    misses = All-push (λ (one : ℕ × Miss). MissedAsk begun (after answer) one.0 one.1) heard.misses (device, how) (misses-later begun past (Closed asked answer) heard survey)
        (record { answer = answer; told = told-now answer; missed = missed });
    all_misses = λ other why is. elim (told-cases past asked answer other (message.Ask begun.place) is.answer is.told) [
      | inl this ↦
          let same : how ≡ why = one why (subst (λ (told : Option Reply). IsMissedAsk told why) (sym this.2) is.missed) in
          subst (λ n. Contains (heard.misses ++ (device, how) ∷ []) (n, why)) this.0
          (subst (λ (one : Miss). Contains (heard.misses ++ (device, how) ∷ []) (device, one)) same (Contains-push heard.misses (device, how)))
      | inr before ↦ Contains-append_left heard.misses ((device, how) ∷ []) (other, why) (survey.all_misses other why (record { answer = is.answer; told = before; missed = is.missed }))
    ];
  }

  pub survey-asked : (answer : Option Reply) → Survey begun (after answer) (heard_from heard device answer)
  survey-asked None = survey-missed None miss.NoReply refl (λ other is. sym is) (λ listing same. cc)
  survey-asked (Some (reply.Held listing)) = survey-listed listing
  survey-asked (Some other) = survey-missed (Some other) (miss_of other) refl (λ how is. sym is) (λ listing same. cc)
