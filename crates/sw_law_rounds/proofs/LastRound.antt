-- What devices answered in the last round of a get: each that did not miss listed what it has.
use Rattle.std.proofs.Common.{◌≡◌, ⊎_elim, ℕ, Contains, List, [], ◌∷◌, Option, Some, refl, subst}
use Rattle.std.proofs.lemmas.List.Elements.{All-contains, Contains-append_left, Contains-append_right}
use Rattle.sw_hashdir.specs.Listing.{ListingModel}
use Rattle.sw_diskfile.proofs.Lists.{Contains-cases, Contains-first, Contains-none}
use Rattle.sw_message.specs.Message.{IsMember}
use Rattle.sw_message.specs.Transcript.{Closed, Step}
use Rattle.sw_message.specs.declared.message.Msg.{Msg}
use Rattle.sw_message.specs.declared.reply.Reply.{Reply}
use Rattle.sw_message.specs.declared.reply.Reply.TheVariants as reply
use Rattle.sw_message.specs.declared.sent.Sent.{Sent}
use Rattle.sw_get.specs.Causes.{AllAnswered}
use Rattle.sw_get.specs.Get.{AreTurns, Begun, Hears, Sends, Turn, ask_message, facts_in, heard, listed_by}
use Rattle.sw_get.specs.Meaning.{Lists, Meaning, asked_meaning}
use Rattle.sw_get.proofs.Meanings.{asked_cases}
use Rattle.sw_get.proofs.Shown.{IsTold, all_told, held_of, parts}
use Rattle.sw_get.proofs.Turns.{all, now}
use Rattle.sw_law_rounds.specs.Missed.{HasMissed}
use Rattle.sw_law_rounds.proofs.Handed.{in_whole}

-- what a turn tells is among what all tell
pub in_heard : {A : Type 0} (tells : ℕ → Msg → Meaning → List A) (turns : List Turn) (sent : Sent) (meaning : Meaning) (x : A) → Contains turns (Hears sent meaning) → Contains (tells sent.device sent.msg meaning) x
    → Contains (heard tells turns) x
in_heard tells [] sent meaning x has is = absurd (Contains-none _ has)
in_heard tells (Sends one ∷ turns) sent meaning x has is = ⊎_elim
    (λ same. absurd (cc same))
    (λ later. in_heard tells turns sent meaning x later is)
    (Contains-cases (Sends one) turns (Hears sent meaning) has)
in_heard tells (Hears one means ∷ turns) sent meaning x has is = ⊎_elim
    (λ same.
    let sents : sent ≡ one = cc same in
    let meanings : meaning ≡ means = cc same in
    Contains-append_right (heard tells turns) (tells one.device one.msg means) x
    (subst (λ (s : Sent). Contains (tells s.device s.msg means) x) sents (subst (λ m. Contains (tells sent.device sent.msg m) x) meanings is)))
    (λ later. Contains-append_left (heard tells turns) (tells one.device one.msg means) x (in_heard tells turns sent meaning x later is))
    (Contains-cases (Hears one means) turns (Hears sent meaning) has)

-- a device that was asked in the last round listed what it has, among some steps
pub record HasListed (begun : Begun) (steps : List Step) (turns : List Turn) (device : ℕ) : Type 0 where
  pub ticket : ℕ
  pub listing : ListingModel
  pub told : Contains steps (Closed (ask_message begun ticket device) (Some (reply.Held listing)))
  pub heard : Contains (now begun turns) (Hears (ask_message begun ticket device) (Lists listing))
  pub among : Contains (facts_in begun turns).lists (device, listing)

module _ (begun : Begun) (past : List Step) (turns : List Turn) (are : AreTurns begun past turns) (device : ℕ) (not_missed : HasMissed begun past device → ⊥) where
  -- by an answer that came
  pub listed-by : (steps : List Step) (ticket : ℕ) (answer : Option Reply) → Contains steps (Closed (ask_message begun ticket device) answer) → Contains (now begun turns) (Hears (ask_message begun ticket device) (asked_meaning answer))
      → HasListed begun steps turns device
  listed-by steps ticket answer told hears_it =
      let sent = ask_message begun ticket device in
      ⊎_elim
      (λ lists.
      let hears = subst (λ meaning. Contains (now begun turns) (Hears sent meaning)) {y = Lists lists.0} lists.1 hears_it in
      record {
        ticket = ticket;
        listing = lists.0;
        told = subst (λ given. Contains steps (Closed sent given)) (held_of answer lists.0 lists.1) told;
        heard = hears;
        among = in_heard listed_by (now begun turns) sent (Lists lists.0) (device, lists.0) hears (Contains-first (device, lists.0) []);
      })
      (λ misses. absurd (not_missed (turns, are, misses.0, (sent, in_whole begun turns _ (subst (λ meaning. Contains (now begun turns) (Hears sent meaning)) misses.1 hears_it), refl))))
      (asked_cases answer)

  -- each device of the cluster that missed nothing did so
  pub has-listed : AllAnswered begun turns → IsMember begun.cluster device → HasListed begun past turns device
  has-listed answered member =
      let one = answered.each device member in
      let sent = ask_message begun one.ticket device in
      let told = All-contains (IsTold begun past) (now begun turns) (Hears sent one.meaning) (parts (IsTold begun past) (all begun turns) turns (all_told begun past turns are)).0 one.heard in
      listed-by past one.ticket told.0 told.1 (subst (λ meaning. Contains (now begun turns) (Hears sent meaning)) told.3 one.heard)
