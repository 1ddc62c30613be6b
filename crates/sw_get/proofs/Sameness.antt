-- An answer has one meaning, and a transcript one list of turns.
use Rattle.std.proofs.Common.{◌≡◌, inl, inr, ◌⊎◌, ℕ, ◌<◌, ◌≤◌, ◌++◌, Bool, true, false, List, [], ◌∷◌, length, length-append, append-nil, Option, Some, None, refl, sym, ap, subst, ◌∙◌, arith}
use Rattle.std.specs.Prelude.{if◌then◌else◌}
use Rattle.std.specs.List.{All}
use Rattle.std.proofs.lemmas.List.Elements.{All-nil, All-push}
use Rattle.sw_types.specs.Policy.{PolicyModel}
use Rattle.sw_archive.specs.Archive.{ArchiveModel, IsSound}
use Rattle.sw_archive.specs.Assemble.{AreTogether, IsNext}
use Rattle.sw_archive.proofs.Gatherings.{AreTogether-push, none_together}
use Rattle.sw_message.specs.Spoil.{HasCode, IsNamed}
use Rattle.sw_message.specs.Transcript.{Closed, Gave, Step}
use Rattle.sw_message.specs.declared.message.Msg.{Msg}
use Rattle.sw_message.specs.declared.message.Msg.TheVariants as message
use Rattle.sw_message.specs.declared.miss.Miss.TheVariants as miss
use Rattle.sw_message.specs.declared.reply.Reply.{Reply}
use Rattle.sw_message.specs.declared.reply.Reply.TheVariants as reply
use Rattle.sw_message.specs.declared.sent.Sent.{Sent}
use Rattle.sw_message.specs.declared.spoil.Foreign.TheVariants as foreign
use Rattle.sw_message.specs.declared.spoil.Spoil.TheVariants as spoil
use Rattle.sw_message.specs.declared.target.Target.{Target}
use Rattle.sw_get.specs.Get.{AreTurns, Begun, Hears, IsMeant, Round, Sends, Turn, facts_in, facts_of, is_first, round_in, source_of, wanted}
use Rattle.sw_get.specs.Meaning.{Brings, IsFetched, IsRead, IsWanted, Lacks, Lists, Meaning, Misses, Wanted}
use Rattle.sw_gather.proofs.Readings as reading
use Rattle.sw_gather.proofs.Readings.{Reading, Reads, one-reading}
use Rattle.sw_get.proofs.Meanings.{asked_cases}
use Rattle.sw_get.proofs.Turns.{all, now}

-- ---- what bytes mean

module _ (wanted : Wanted) (others : List ArchiveModel) (index : ℕ) (bytes : List ℕ) where
  abbrev as_meaning : Reading → Meaning
  as_meaning (reading.Brings archive) = Brings archive
  as_meaning (reading.Spoils how) = Misses (miss.Spoiled how)

  abbrev ReadsAs : Meaning → Type 0
  ReadsAs meaning = (one : Reading) × (meaning ≡ as_meaning one) × Reads (IsNamed wanted.name) wanted.policy wanted.stamp others index bytes one

  view : (meaning : Meaning) → IsRead wanted others index bytes meaning → ReadsAs meaning
  view (Brings archive) is = (reading.Brings archive, refl, is)
  view (Misses (miss.Spoiled (spoil.Fault fault))) is = (reading.Spoils (spoil.Fault fault), refl, is)
  view (Misses (miss.Spoiled (spoil.Foreign foreign.Name))) is = (reading.Spoils (spoil.Foreign foreign.Name), refl, is)
  view (Misses (miss.Spoiled (spoil.Foreign foreign.Stamp))) is = (reading.Spoils (spoil.Foreign foreign.Stamp), refl, is)
  view (Misses (miss.Spoiled (spoil.Foreign foreign.Index))) is = (reading.Spoils (spoil.Foreign foreign.Index), refl, is)
  view (Misses (miss.Spoiled (spoil.Foreign foreign.Code))) is = (reading.Spoils (spoil.Foreign foreign.Code), refl, is)
  view (Misses (miss.Spoiled (spoil.Foreign foreign.Object))) is = (reading.Spoils (spoil.Foreign foreign.Object), refl, is)
  view (Misses miss.NoReply) is = absurd is
  view (Misses miss.DiskFault) is = absurd is
  view (Misses (miss.NoSpace need free)) is = absurd is
  view (Misses miss.NoMemory) is = absurd is
  view (Misses miss.Missing) is = absurd is
  view (Misses miss.Gone) is = absurd is
  view (Misses miss.Odd) is = absurd is
  view (Lists listing) is = absurd is
  view (Lacks listing) is = absurd is

  one_read : AreTogether others → (a b : Meaning) → IsRead wanted others index bytes a → IsRead wanted others index bytes b → a ≡ b
  one_read together a b x y =
      let one = view a x in
      let other = view b y in
      one.1 ∙ ap as_meaning (one-reading (IsNamed wanted.name) wanted.policy wanted.stamp others index bytes together one.0 other.0 one.2 other.2) ∙ sym other.1

-- ---- what answers mean

module _ (wanted : Wanted) (others : List ArchiveModel) (index : ℕ) (together : AreTogether others) (a b : Meaning) where
  one_fetched : (answer : Option Reply) → IsFetched wanted others index answer a → IsFetched wanted others index answer b → a ≡ b
  one_fetched None x y = x ∙ sym y
  one_fetched (Some reply.Synced) x y = x ∙ sym y
  one_fetched (Some reply.Committed) x y = x ∙ sym y
  one_fetched (Some (reply.Deleted existed)) x y = x ∙ sym y
  one_fetched (Some (reply.Superseded floor)) x y = x ∙ sym y
  one_fetched (Some reply.Missing) x y = x ∙ sym y
  one_fetched (Some (reply.Held held)) x y = x ∙ sym y
  one_fetched (Some (reply.Fragment bytes)) x y = one_read wanted others index bytes together a b x y
  one_fetched (Some (reply.Gone held)) x y = x ∙ sym y
  one_fetched (Some (reply.Spoiled how)) x y = x ∙ sym y
  one_fetched (Some reply.Kept) x y = x ∙ sym y
  one_fetched (Some reply.Removed) x y = x ∙ sym y
  one_fetched (Some (reply.PartList parts)) x y = x ∙ sym y
  one_fetched (Some (reply.SuffixList pairs)) x y = x ∙ sym y
  one_fetched (Some (reply.PlaceList places)) x y = x ∙ sym y
  one_fetched (Some reply.DiskFault) x y = x ∙ sym y
  one_fetched (Some (reply.NoSpace need free)) x y = x ∙ sym y
  one_fetched (Some reply.NoMemory) x y = x ∙ sym y

module _ (begun : Begun) (turns : List Turn) (answer : Option Reply) where
  one_meant : AreTogether (facts_in begun turns).archives → (msg : Msg) (a b : Meaning) → IsMeant begun turns msg answer a → IsMeant begun turns msg answer b → a ≡ b
  one_meant together (message.Ask place) a b x y = x ∙ sym y
  one_meant together (message.Fetch place stamp index) a b x y = one_fetched (wanted begun stamp) (facts_in begun turns).archives index together a b answer x y
  one_meant together (message.PutFrag place stamp index bytes) a b x y = absurd x
  one_meant together (message.Commit place stamp index) a b x y = absurd x
  one_meant together (message.Delete place stamp) a b x y = absurd x
  one_meant together (message.Remove place stamp index) a b x y = absurd x
  one_meant together message.Parts a b x y = absurd x
  one_meant together (message.Suffixes part) a b x y = absurd x
  one_meant together (message.Places part) a b x y = absurd x

-- ---- an archive that was brought

-- it was sent, as a fragment
pub record IsFragment (wanted : Wanted) (others : List ArchiveModel) (index : ℕ) (answer : Option Reply) (archive : ArchiveModel) : Type 0 where
  pub bytes : List ℕ
  pub given : answer ≡ Some (reply.Fragment bytes)
  pub spelled : IsWanted wanted index bytes archive
  pub next : IsNext others archive

module _ (wanted : Wanted) (others : List ArchiveModel) (index : ℕ) (archive : ArchiveModel) where
  pub fragment_of : (answer : Option Reply) → IsFetched wanted others index answer (Brings archive) → IsFragment wanted others index answer archive
  fragment_of None is = absurd (cc)
  fragment_of (Some reply.Synced) is = absurd (cc)
  fragment_of (Some reply.Committed) is = absurd (cc)
  fragment_of (Some (reply.Deleted existed)) is = absurd (cc)
  fragment_of (Some (reply.Superseded floor)) is = absurd (cc)
  fragment_of (Some reply.Missing) is = absurd (cc)
  fragment_of (Some (reply.Held held)) is = absurd (cc)
  fragment_of (Some (reply.Fragment bytes)) is = record { bytes = bytes; given = refl; spelled = is.0; next = is.1 }
  fragment_of (Some (reply.Gone held)) is = absurd (cc)
  fragment_of (Some (reply.Spoiled how)) is = absurd (cc)
  fragment_of (Some reply.Kept) is = absurd (cc)
  fragment_of (Some reply.Removed) is = absurd (cc)
  fragment_of (Some (reply.PartList parts)) is = absurd (cc)
  fragment_of (Some (reply.SuffixList pairs)) is = absurd (cc)
  fragment_of (Some (reply.PlaceList places)) is = absurd (cc)
  fragment_of (Some reply.DiskFault) is = absurd (cc)
  fragment_of (Some (reply.NoSpace need free)) is = absurd (cc)
  fragment_of (Some reply.NoMemory) is = absurd (cc)

-- so it can stand beside those that were brought before it, and is of the policy's code
pub record IsBeside (policy : PolicyModel) (others : List ArchiveModel) (archive : ArchiveModel) (device : ℕ) (msg : Msg) : Type 0 where
  pub sound : IsSound archive
  pub next : IsNext others archive
  pub code : HasCode policy archive
  pub one_source : length (source_of device msg) ≡ 1

module _ (begun : Begun) (turns : List Turn) (archive : ArchiveModel) (answer : Option Reply) (device : ℕ) where
  abbrev Beside : Msg → Type 0
  Beside msg = IsBeside begun.cluster.policy (facts_in begun turns).archives archive device msg

  brought_beside : (msg : Msg) → IsMeant begun turns msg answer (Brings archive) → Beside msg
  brought_beside (message.Ask place) is = elim (asked_cases answer) [ inl lists ↦ absurd (cc (lists.1)) | inr misses ↦ absurd (cc (misses.1)) ]
  brought_beside (message.Fetch place stamp index) is =
      let sent = fragment_of (wanted begun stamp) (facts_in begun turns).archives index archive answer is in
      record { sound = sent.spelled.0.sound; next = sent.next; code = sent.spelled.1.code; one_source = refl }
  brought_beside (message.PutFrag place stamp index bytes) is = absurd is
  brought_beside (message.Commit place stamp index) is = absurd is
  brought_beside (message.Delete place stamp) is = absurd is
  brought_beside (message.Remove place stamp index) is = absurd is
  brought_beside message.Parts is = absurd is
  brought_beside (message.Suffixes part) is = absurd is
  brought_beside (message.Places part) is = absurd is

-- ---- the archives of a round

-- they stand beside one another and are of the policy's code, one for each source that brought one
pub record AreBrought (policy : PolicyModel) (sources : List Target) (archives : List ArchiveModel) : Type 0 where
  pub together : AreTogether archives
  pub coded : All (HasCode policy) archives
  pub count : length archives ≡ length sources

abbrev pub BroughtIn : Begun → List Turn → Type 0
BroughtIn begun turns = AreBrought begun.cluster.policy (facts_in begun turns).sources (facts_in begun turns).archives

none_brought : (policy : PolicyModel) → AreBrought policy [] []
none_brought policy = record { together = none_together; coded = All-nil (HasCode policy); count = refl }

nothing_more : (policy : PolicyModel) (sources : List Target) (archives : List ArchiveModel) → AreBrought policy sources archives → AreBrought policy (sources ++ []) (archives ++ [])
nothing_more policy sources archives are =
    subst (λ these. AreBrought policy these (archives ++ [])) (sym (append-nil sources)) (subst (AreBrought policy sources) (sym (append-nil archives)) are)

module _ (begun : Begun) (turns : List Turn) where
  abbrev round_after : Sent → Bool → Round
  round_after sent b = if b then record { turns = Sends sent ∷ []; earlier = turns } else record { turns = Sends sent ∷ now begun turns; earlier = (round_in begun turns).earlier }

  -- a message leaves them, or begins a round that has none
  archives_sent : (sent : Sent) → BroughtIn begun turns → BroughtIn begun (Sends sent ∷ turns)
  archives_sent sent are = by_first (is_first (all begun turns) sent.msg (round_in begun turns)) refl
    where
      by_first : (b : Bool) → is_first (all begun turns) sent.msg (round_in begun turns) ≡ b
          → AreBrought begun.cluster.policy (facts_of (round_after sent b).turns).sources (facts_of (round_after sent b).turns).archives
      by_first true is = none_brought begun.cluster.policy
      by_first false is = are

  archives_heard : (sent : Sent) (answer : Option Reply) (meaning : Meaning) → IsMeant begun turns sent.msg answer meaning → BroughtIn begun turns → BroughtIn begun (Hears sent meaning ∷ turns)
  archives_heard sent answer (Brings archive) is are =
      let facts = facts_in begun turns in
      let beside = brought_beside begun turns archive answer sent.device sent.msg is in
      record {
        together = AreTogether-push facts.archives archive are.together beside.sound beside.next;
        coded = All-push (HasCode begun.cluster.policy) facts.archives archive are.coded beside.code;
        count = omega (arith, are.count, beside.one_source, length-append facts.archives (archive ∷ []), length-append facts.sources (source_of sent.device sent.msg));
      }
  archives_heard sent answer (Lists listing) is are = nothing_more begun.cluster.policy _ _ are
  archives_heard sent answer (Lacks listing) is are = nothing_more begun.cluster.policy _ _ are
  archives_heard sent answer (Misses how) is are = nothing_more begun.cluster.policy _ _ are

pub turns_brought : (begun : Begun) (past : List Step) (turns : List Turn) → AreTurns begun past turns → BroughtIn begun turns
turns_brought begun [] [] are = none_brought begun.cluster.policy
turns_brought begun [] (turn ∷ turns) are = absurd are
turns_brought begun (Gave sent ∷ past) [] are = absurd are
turns_brought begun (Gave sent ∷ past) (Sends same ∷ turns) are = archives_sent begun turns same (turns_brought begun past turns are.1)
turns_brought begun (Gave sent ∷ past) (Hears same meaning ∷ turns) are = absurd are
turns_brought begun (Closed sent answer ∷ past) [] are = absurd are
turns_brought begun (Closed sent answer ∷ past) (Sends same ∷ turns) are = absurd are
turns_brought begun (Closed sent answer ∷ past) (Hears same meaning ∷ turns) are =
    archives_heard begun turns same answer meaning (subst (λ (one : Sent). IsMeant begun turns one.msg answer meaning) (sym are.0) are.1) (turns_brought begun past turns are.2)

pub turns_together : (begun : Begun) (past : List Step) (turns : List Turn) → AreTurns begun past turns → AreTogether (facts_in begun turns).archives
turns_together begun past turns are = (turns_brought begun past turns are).together

-- ---- one list of turns

pub one_turns : (begun : Begun) (past : List Step) (a b : List Turn) → AreTurns begun past a → AreTurns begun past b → a ≡ b
one_turns begun [] [] [] x y = refl
one_turns begun [] [] (turn ∷ b) x y = absurd y
one_turns begun [] (turn ∷ a) b x y = absurd x
one_turns begun (Gave sent ∷ past) (Sends one ∷ a) (Sends other ∷ b) x y = let rest = one_turns begun past a b x.1 y.1 in cc (x.0, y.0)
one_turns begun (Gave sent ∷ past) [] b x y = absurd x
one_turns begun (Gave sent ∷ past) (Hears one meaning ∷ a) b x y = absurd x
one_turns begun (Gave sent ∷ past) (Sends one ∷ a) [] x y = absurd y
one_turns begun (Gave sent ∷ past) (Sends one ∷ a) (Hears other meaning ∷ b) x y = absurd y
one_turns begun (Closed sent answer ∷ past) (Hears one meaning ∷ a) (Hears other meant ∷ b) x y =
    let rest = one_turns begun past a b x.2 y.2 in
    let first = subst (λ turns. IsMeant begun turns sent.msg answer meaning) rest x.1 in
    let same = one_meant begun b answer (turns_together begun past b y.2) sent.msg meaning meant first y.1 in
    cc (x.0, y.0)
one_turns begun (Closed sent answer ∷ past) [] b x y = absurd x
one_turns begun (Closed sent answer ∷ past) (Sends one ∷ a) b x y = absurd x
one_turns begun (Closed sent answer ∷ past) (Hears one meaning ∷ a) [] x y = absurd y
one_turns begun (Closed sent answer ∷ past) (Hears one meaning ∷ a) (Sends other ∷ b) x y = absurd y
