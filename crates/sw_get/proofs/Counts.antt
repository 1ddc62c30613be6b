-- How many answers are missing: what a message, an answer that is taken, and one that is read change.
use Rattle.std.proofs.Common.{◌≡◌, inl, inr, ℕ, ◌+◌, ◌<◌, ◌≤◌, zero, suc, not, Bool, true, false, ◌++◌, List, [], ◌∷◌, length, length-append, Option, Some, refl, sym, ap, subst, ◌∙◌, arith}
use Rattle.std.specs.Prelude.{if◌then◌else◌}
use Rattle.std.specs.List.{All, AllPairs, filter, find}
use Rattle.std.proofs.lemmas.Bool.{cases_Bool, cond-false, cond-true, eqb-true, ne_eqb}
use Rattle.std.proofs.lemmas.Option.{none-some, same_Some}
use Rattle.sw_message.specs.Transcript.{is_not}
use Rattle.sw_message.specs.declared.message.Msg.{Msg}
use Rattle.sw_message.specs.declared.reply.Reply.{Reply}
use Rattle.sw_message.specs.declared.sent.Sent.{Sent}
use Rattle.sw_message.specs.declared.target.Target.{Target}
use Rattle.sw_quorum.proofs.Transcripts.{all-kept}
use Rattle.sw_quorum.specs.Transcripts.{HasOther, has_ticket}
use Rattle.sw_get.specs.Get.{Begun, ask_message, count_ask, fetch_message, is_ask}
use Rattle.sw_gather.specs.Mailbox.{Unread}
use Rattle.sw_get.specs.Meaning.{Brings, Lacks, Lists, Meaning, Misses, asked_meaning, with_asked, with_fetched}
use Rattle.sw_get.specs.Round.{Facts, lost}
use Rattle.sw_get.specs.Standing.{AreCounted, IsErrand, ask_in, count_fetch, count_opens, count_unread, fetch_in}
use Rattle.sw_get.specs.declared.errand.Errand.{Errand}
use Rattle.sw_get.specs.declared.errand.Errand.TheVariants.{Ask, Fetch}
use Rattle.sw_get.proofs.Meanings.{asked_cases}

-- ---- counts of lists

pub count_unread-snoc : (count : Errand → ℕ) (these : List (Unread Errand)) (one : Unread Errand) → count_unread count (these ++ one ∷ []) ≡ count_unread count these + count one.0
count_unread-snoc count [] one = refl
count_unread-snoc count (unread ∷ later) one = omega (arith, count_unread-snoc count later one)

-- without the message of a ticket
pub one_less : (count : Msg → ℕ) (ticket : ℕ) (sents : List Sent) (sent : Sent) → find (has_ticket ticket) sents ≡ Some sent → AllPairs HasOther sents
    → count_opens count (filter (is_not ticket) sents) + count sent.msg ≡ count_opens count sents
one_less count ticket [] sent is apart = absurd (none-some sent is)
one_less count ticket (first ∷ sents) sent is apart = elim (cases_Bool (has_ticket ticket first)) [
  | inl has ↦
      let same : first ≡ sent = same_Some first sent (sym (cond-true (has_ticket ticket first) (Some first) (find (has_ticket ticket) sents) has) ∙ is) in
      let others : All (λ (one : Sent). is_not ticket one ≡ true) sents =
      λ i d within. ap not (ne_eqb _ ticket (λ same. apart zero (suc i) d (omega arith) (omega arith) (eqb-true first.ticket ticket has ∙ sym same))) in
      let counts : count first.msg ≡ count sent.msg = ap (λ (one : Sent). count one.msg) same in
      rw (has, all-kept ticket sents others) (omega (arith, counts))
  | inr other ↦
      let rest : AllPairs HasOther sents = λ i j d less within. apart (suc i) (suc j) d (omega arith) (omega arith) in
      let fewer = one_less count ticket sents sent (sym (cond-false (has_ticket ticket first) (Some first) (find (has_ticket ticket) sents) other) ∙ is) rest in
      rw other (omega (arith, fewer))
]

-- ---- what an errand counts

pub asks_of : (begun : Begun) (errand : Errand) (sent : Sent) → IsErrand begun errand sent → (ask_in errand ≡ count_ask sent.msg) × (fetch_in errand ≡ count_fetch sent.msg)
asks_of begun (Ask device) sent is = (ap (λ (one : Sent). count_ask one.msg) (sym is.message), ap (λ (one : Sent). count_fetch one.msg) (sym is.message))
asks_of begun (Fetch stamp source) sent is = (ap (λ (one : Sent). count_ask one.msg) (sym is.message), ap (λ (one : Sent). count_fetch one.msg) (sym is.message))

-- ---- what is open

none_counted : (sents : List Sent) → count_opens count_ask sents + count_opens count_fetch sents ≡ length sents
none_counted [] = refl
none_counted (sent ∷ sents) = by_kind (is_ask sent.msg) refl (none_counted sents)
  where
    by_kind : (b : Bool) → is_ask sent.msg ≡ b → count_opens count_ask sents + count_opens count_fetch sents ≡ length sents
        → count_opens count_ask (sent ∷ sents) + count_opens count_fetch (sent ∷ sents) ≡ length (sent ∷ sents)
    by_kind true is others =
        let asks : count_ask sent.msg ≡ 1 = ap (λ b. if b then 1 else 0) is in
        let fetches : count_fetch sent.msg ≡ 0 = ap (λ b. if b then 0 else 1) is in
        omega (arith, others, asks, fetches)
    by_kind false is others =
        let asks : count_ask sent.msg ≡ 0 = ap (λ b. if b then 1 else 0) is in
        let fetches : count_fetch sent.msg ≡ 1 = ap (λ b. if b then 0 else 1) is in
        omega (arith, others, asks, fetches)

-- ---- counts of a round

module _ (facts : Facts) (opened : List Sent) where
  -- answered or not, no more were asked and tried
  pub within : (unread : List (Unread Errand)) → AreCounted facts unread opened → (facts.answered ≤ facts.asked) × (length facts.sources + lost facts ≤ length facts.tried)
  within unread counted = (omega (arith, counted.asks), omega (arith, counted.fetches))

  -- once nothing is to be read, every open message is missing
  pub opens_are : AreCounted facts [] opened → facts.answered + length facts.sources + lost facts + length opened ≡ facts.asked + length facts.tried
  opens_are counted = omega (arith, counted.asks, counted.fetches, none_counted opened)

  -- a device's answer is read
  module _ (device : ℕ) (answer : Option Reply) (later : List (Unread Errand)) (counted : AreCounted facts ((Ask device, answer) ∷ later) opened) where
    pub one_asked : facts.answered < facts.asked
    one_asked = omega (arith, counted.asks)

    pub counted-answered : AreCounted (with_asked facts device (asked_meaning answer)) later opened
    counted-answered =
        let Counted : Meaning → Type 0 = λ meaning. AreCounted (with_asked facts device meaning) later opened in
        elim (asked_cases answer) [
          | inl lists ↦ subst Counted (sym lists.1) (record { asks = omega (arith, counted.asks); fetches = omega (arith, counted.fetches) })
          | inr misses ↦ subst Counted (sym misses.1) (record { asks = omega (arith, counted.asks); fetches = omega (arith, counted.fetches) })
        ]

  -- a source's answer is read
  pub counted-fetched : (stamp : ℕ) (source : Target) (answer : Option Reply) (later : List (Unread Errand)) (meaning : Meaning) → ((listing : _) → meaning ≡ Lists listing → ⊥)
      → AreCounted facts ((Fetch stamp source, answer) ∷ later) opened → AreCounted (with_fetched facts source meaning) later opened
  counted-fetched stamp source answer later (Lists listing) never counted = absurd (never listing refl)
  counted-fetched stamp source answer later (Brings archive) never counted =
      record { asks = omega (arith, counted.asks); fetches = omega (arith, counted.fetches, length-append facts.sources (source ∷ [])) }
  counted-fetched stamp source answer later (Lacks listing) never counted =
      record { asks = omega (arith, counted.asks); fetches = omega (arith, counted.fetches, length-append facts.gone (source ∷ [])) }
  counted-fetched stamp source answer later (Misses miss) never counted =
      record { asks = omega (arith, counted.asks); fetches = omega (arith, counted.fetches, length-append facts.failed (source ∷ [])) }

  -- an answer is taken
  pub counted-taken : (begun : Begun) (unread : List (Unread Errand)) (errand : Errand) (answer : Option Reply) (sent : Sent) → IsErrand begun errand sent
      → find (has_ticket sent.ticket) opened ≡ Some sent → AllPairs HasOther opened
      → AreCounted facts unread opened → AreCounted facts (unread ++ (errand, answer) ∷ []) (filter (is_not sent.ticket) opened)
  counted-taken begun unread errand answer sent is found apart counted =
      let kinds = asks_of begun errand sent is in
      record {
        asks = omega (arith, counted.asks, count_unread-snoc ask_in unread (errand, answer), one_less count_ask sent.ticket opened sent found apart, kinds.0);
        fetches = omega (arith, counted.fetches, count_unread-snoc fetch_in unread (errand, answer), one_less count_fetch sent.ticket opened sent found apart, kinds.1);
      }

  -- a message is handed out
  pub counted-ask : (begun : Begun) (ticket device : ℕ) → AreCounted facts [] opened → AreCounted (record facts { asked = facts.asked + 1 }) [] (ask_message begun ticket device ∷ opened)
  counted-ask begun ticket device counted = record { asks = omega (arith, counted.asks); fetches = omega (arith, counted.fetches) }

  pub counted-fetch : (begun : Begun) (ticket stamp : ℕ) (source : Target) → AreCounted facts [] opened
      → AreCounted (record facts { tried = facts.tried ++ source ∷ [] }) [] (fetch_message begun ticket stamp source ∷ opened)
  counted-fetch begun ticket stamp source counted = record { asks = omega (arith, counted.asks); fetches = omega (arith, counted.fetches, length-append facts.tried (source ∷ [])) }
