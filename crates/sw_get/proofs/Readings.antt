-- A get that read an answer.
use Rattle.std.proofs.Common.{◌≡◌, inl, inr, ℕ, List, [], ◌∷◌, Option, Some, None, refl, sym, ap, subst, ◌∙◌}
use Rattle.std.proofs.lemmas.Option.{same_Some}
use Rattle.sw_types.specs.Object.{ObjectModel}
use Rattle.sw_types.specs.Policy.{PolicyModel}
use Rattle.sw_hashdir.specs.declared.floor.Floor.{Floor}
use Rattle.sw_archive.specs.Archive.{ArchiveModel}
use Rattle.sw_message.specs.Floors.{highest_from}
use Rattle.sw_message.specs.Message.{IsMember}
use Rattle.sw_message.specs.Transcript.{Step, opens}
use Rattle.sw_message.specs.declared.reply.Reply.{Reply}
use Rattle.sw_message.specs.declared.reply.Reply.TheVariants as reply
use Rattle.sw_message.specs.declared.sent.Sent.{Sent}
use Rattle.sw_message.specs.declared.target.Target.{Target}
use Rattle.sw_get.specs.Get.{Begun, Hears, IsMeant, ask_message, fetch_message, shown_by, wanted}
use Rattle.sw_gather.specs.Mailbox.{MailboxModel, Unread}
use Rattle.sw_get.specs.Meaning.{Brings, IsFetched, IsRead, Lacks, Lists, Meaning, Misses, Wanted, asked_meaning, with_asked, with_fetched}
use Rattle.sw_get.specs.Round.{Facts}
use Rattle.sw_get.specs.Standing.{AreCounted, AreFindings, BeginsWith, Findings, GetModel, FindsObject, Stands, Subject, shown_gone}
use Rattle.sw_get.specs.declared.errand.Errand.{Errand}
use Rattle.sw_get.specs.declared.errand.Errand.TheVariants.{Ask, Fetch}
use Rattle.sw_get.proofs.Changes.{stands_read}
use Rattle.sw_get.proofs.Counts.{counted-answered, counted-fetched, one_asked}
use Rattle.sw_get.proofs.Findings.{finds-answered, finds-fetched}
use Rattle.sw_get.proofs.Meanings.{asked_cases, never_lists}

-- a get with another target, round and mailbox
abbrev pub with_read : GetModel → Option Floor → Facts → Option ObjectModel → MailboxModel Errand → GetModel
with_read get target facts object mailbox = record get { findings = record get.findings { target = target; facts = facts }; object = object; mailbox = mailbox }

-- a device's answer leaves what was brought
has-asked : (policy : PolicyModel) (facts : Facts) (object : Option ObjectModel) (device : ℕ) (answer : Option Reply) → FindsObject policy facts object
    → FindsObject policy (with_asked facts device (asked_meaning answer)) object
has-asked policy facts object device answer has =
    let Has : Meaning → Type 0 = λ meaning. FindsObject policy (with_asked facts device meaning) object in
    elim (asked_cases answer) [
      | inl lists ↦ subst Has (sym lists.1) has
      | inr misses ↦ subst Has (sym misses.1) has
    ]

-- ---- the first answer that is to be read

first_errand : List (Unread Errand) → Option Errand
first_errand [] = None
first_errand (unread ∷ later) = Some unread.0

pub begins : (unread : List (Unread Errand)) (errand other : Errand) (answer : Option Reply) (rest : List (Unread Errand)) → BeginsWith unread errand → unread ≡ (other, answer) ∷ rest → unread ≡ (errand, answer) ∷ rest
unfolding first_errand
begins unread errand other answer rest starts is =
    is ∙ ap (λ (one : Errand). (one, answer) ∷ rest) (same_Some other errand (sym (ap first_errand is) ∙ ap first_errand starts.2))

-- ---- what the answer to a fetch shows

read_shows : (wanted : Wanted) (others : List ArchiveModel) (index : ℕ) (bytes : List ℕ) (meaning : Meaning) → IsRead wanted others index bytes meaning → shown_by meaning ≡ []
read_shows wanted others index bytes (Brings archive) is = refl
read_shows wanted others index bytes (Misses miss) is = refl
read_shows wanted others index bytes (Lists listing) is = absurd is
read_shows wanted others index bytes (Lacks listing) is = absurd is

module _ (wanted : Wanted) (others : List ArchiveModel) (index : ℕ) (meaning : Meaning) where
  pub fetched_shows : (answer : Option Reply) → IsFetched wanted others index answer meaning → shown_by meaning ≡ shown_gone answer
  fetched_shows None is = ap shown_by is
  fetched_shows (Some reply.Synced) is = ap shown_by is
  fetched_shows (Some reply.Committed) is = ap shown_by is
  fetched_shows (Some (reply.Deleted existed)) is = ap shown_by is
  fetched_shows (Some (reply.Superseded floor)) is = ap shown_by is
  fetched_shows (Some reply.Missing) is = ap shown_by is
  fetched_shows (Some (reply.Held held)) is = ap shown_by is
  fetched_shows (Some (reply.Fragment bytes)) is = read_shows wanted others index bytes meaning is
  fetched_shows (Some (reply.Gone held)) is = ap shown_by is
  fetched_shows (Some (reply.Spoiled spoil)) is = ap shown_by is
  fetched_shows (Some reply.Kept) is = ap shown_by is
  fetched_shows (Some reply.Removed) is = ap shown_by is
  fetched_shows (Some (reply.PartList parts)) is = ap shown_by is
  fetched_shows (Some (reply.SuffixList pairs)) is = ap shown_by is
  fetched_shows (Some (reply.PlaceList places)) is = ap shown_by is
  fetched_shows (Some reply.DiskFault) is = ap shown_by is
  fetched_shows (Some (reply.NoSpace need free)) is = ap shown_by is
  fetched_shows (Some reply.NoMemory) is = ap shown_by is

-- ---- the get

module _ (get : GetModel) (begun : Begun) (past : List Step) (stands : Stands get begun past) (answer : Option Reply) (later : List (Unread Errand))
    (target : Option Floor) (facts : Facts) (object : Option ObjectModel) (mailbox : MailboxModel Errand) (mailbox_is : mailbox ≡ record get.mailbox { unread = later }) where
  same : (others : Facts) (another : Option ObjectModel) → facts ≡ others → object ≡ another → Stands (with_read get target others another (record get.mailbox { unread = later })) begun past
      → Stands (with_read get target facts object mailbox) begun past
  same others another facts_is object_is stood =
      subst (λ these. Stands (with_read get target these object mailbox) begun past) (sym facts_is)
      (subst (λ it. Stands (with_read get target others it mailbox) begun past) (sym object_is)
      (subst (λ (box : MailboxModel Errand). Stands (with_read get target others another box) begun past) (sym mailbox_is) stood))

  pub stands_asked : (device : ℕ) → get.mailbox.unread ≡ (Ask device, answer) ∷ later → target ≡ highest_from get.findings.target (shown_by (asked_meaning answer))
      → facts ≡ with_asked get.findings.facts device (asked_meaning answer) → object ≡ get.object → Stands (with_read get target facts object mailbox) begun past
  stands_asked device first target_is facts_is object_is =
      let meaning = asked_meaning answer in
      let findings : Findings = record get.findings { target = target; facts = with_asked get.findings.facts device meaning } in
      let counted = subst (λ unread. AreCounted get.findings.facts unread (opens past)) first stands.counted in
      let less = one_asked get.findings.facts (opens past) device answer later counted in
      same (with_asked get.findings.facts device meaning) get.object facts_is object_is
      (stands_read get begun past stands (Ask device) answer later first findings get.object meaning
      (λ sent is. subst (λ (one : Sent). IsMeant begun stands.turns one.msg answer meaning × AreFindings findings begun (Hears one meaning ∷ stands.turns)) (sym is.message) (
        refl,
        finds-answered begun stands.turns get.findings stands.finds target sent.ticket device answer
            (subst (IsMember begun.cluster) (ap (λ (one : Sent). one.device) is.message) is.member) less target_is,
      ))
      (counted-answered get.findings.facts (opens past) device answer later counted)
      (λ on. has-asked begun.cluster.policy get.findings.facts get.object device answer (stands.object_is on)))

  pub stands_fetched : (stamp : ℕ) (source : Target) (meaning : Meaning) → get.mailbox.unread ≡ (Fetch stamp source, answer) ∷ later
      → IsFetched (record { policy = get.subject.policy; name = get.subject.name; stamp = stamp }) get.findings.facts.archives source.index answer meaning
      → target ≡ highest_from get.findings.target (shown_gone answer) → facts ≡ with_fetched get.findings.facts source meaning
      → (FindsObject get.subject.policy get.findings.facts get.object → FindsObject get.subject.policy facts object)
      → Stands (with_read get target facts object mailbox) begun past
  stands_fetched stamp source meaning first is target_is facts_is has =
      let findings : Findings = record get.findings { target = target; facts = with_fetched get.findings.facts source meaning } in
      let counted = subst (λ unread. AreCounted get.findings.facts unread (opens past)) first stands.counted in
      let named : IsFetched (wanted begun stamp) get.findings.facts.archives source.index answer meaning =
      subst (λ (subject : Subject). IsFetched (record { policy = subject.policy; name = subject.name; stamp = stamp }) get.findings.facts.archives source.index answer meaning) stands.subject_is is in
      let meant : IsMeant begun stands.turns (Rattle.sw_message.specs.declared.message.Msg.TheVariants.Fetch (Rattle.sw_get.specs.Get.place_of begun) stamp source.index) answer meaning =
      subst (λ (these : Facts). IsFetched (wanted begun stamp) these.archives source.index answer meaning) stands.finds.facts_are named in
      let shown = fetched_shows (wanted begun stamp) get.findings.facts.archives source.index meaning answer named in
      let policy = ap (λ (subject : Subject). subject.policy) stands.subject_is in
      same (with_fetched get.findings.facts source meaning) object facts_is refl
      (stands_read get begun past stands (Fetch stamp source) answer later first findings object meaning
      (λ sent is. subst (λ (one : Sent). IsMeant begun stands.turns one.msg answer meaning × AreFindings findings begun (Hears one meaning ∷ stands.turns)) (sym is.message)
      (meant, finds-fetched begun stands.turns get.findings stands.finds target sent.ticket stamp source meaning (target_is ∙ ap (highest_from get.findings.target) (sym shown))))
      (counted-fetched get.findings.facts (opens past) stamp source answer later meaning
      (λ listing lists. never_lists (wanted begun stamp) get.findings.facts.archives source.index answer listing
      (subst (IsFetched (wanted begun stamp) get.findings.facts.archives source.index answer) lists named)) counted)
      (λ on. subst (λ (these : Facts). FindsObject begun.cluster.policy these object) facts_is
      (subst (λ (p : PolicyModel). FindsObject p facts object) policy (has (subst (λ (p : PolicyModel). FindsObject p get.findings.facts get.object) (sym policy) (stands.object_is on))))))
