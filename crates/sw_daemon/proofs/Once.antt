-- Each question of a pass is answered once, where no partition is listed twice.
use Rattle.std.proofs.Common.{◌≡◌, ◌≢◌, ◌⊎◌, inl, inr, ℕ, zero, suc, ◌^◌, ◌<◌, ◌==◌, Bool, true, false, not, Contains, List, [], ◌∷◌, ◌++◌, filter, take, Option, Some, None, refl, sym, ap, subst, ◌∙◌, arith}
use Rattle.std.specs.Prelude.{⊤}
use Rattle.std.specs.List.{AllPairs}
use Rattle.std.proofs.lemmas.List.Kept.{AllPairs-filter}
use Rattle.std.proofs.lemmas.Option.{none-some}
use Rattle.sw_hashpath.specs.Place.{PlaceModel}
use Rattle.sw_suffix.specs.Table.{Hashed}
use Rattle.sw_ring.specs.Cluster.{column_of}
use Rattle.sw_ring.specs.Ring.{is_among}
use Rattle.sw_ring.proofs.Among.{Contains-cons}
use Rattle.sw_message.specs.Message.{is_primary, place_in}
use Rattle.sw_message.specs.Transcript.{Closed, Gave, IsRun, Step, open_at}
use Rattle.sw_message.specs.declared.message.Msg.{Msg}
use Rattle.sw_message.specs.declared.message.Msg.TheVariants as message
use Rattle.sw_message.specs.declared.reply.Reply.{Reply}
use Rattle.sw_message.specs.declared.reply.Reply.TheVariants as reply
use Rattle.sw_message.specs.declared.sent.Sent.{Sent}
use Rattle.sw_gather.proofs.Lists.{here, none_in}
use Rattle.sw_sync.proofs.Messages.{IsThis, as-told, told-cases, told-gave, told-later}
use Rattle.sw_sync.specs.Answers.{WasTold}
use Rattle.sw_daemon.specs.Causes.{AreOnce}
use Rattle.sw_daemon.specs.Pass.{AfterOther, AfterOwn, AsksOn, Begun, Does, Ends, FollowsAnswer, IsBegun, ListOther, ListOwn, ListParts, ListPlaces, Status, Task, Treat, after_parts, after_places, asks, begin_part, is_of_part, is_of_ring, missed, most_parts, most_places, next_part, next_place, others_of, stage_of}
use Rattle.sw_daemon.specs.Question.{message_of}
use Rattle.sw_daemon.specs.Stage as stages
use Rattle.sw_daemon.specs.declared.report.PassReport.{PassReport}
use Rattle.sw_daemon.specs.declared.survey.Survey.{Survey}
use Rattle.sw_daemon.specs.declared.survey.Survey.TheVariants as survey
use Rattle.sw_daemon.proofs.Justified.{IsAnswer, IsTaskOf, others-are}
use Rattle.sw_daemon.proofs.Known.{question_of, treat-sends}
use Rattle.sw_daemon.proofs.Opened.{open-is}
use Rattle.sw_daemon.proofs.Questions.{open-untold, told-is, told-own}

-- ---- lists without repetition

abbrev pub AreApart : List ℕ → Type 0
AreApart [] = ⊤
AreApart (x ∷ xs) = ((other : ℕ) → Contains xs other → x ≢ other) × AreApart xs

apart-from : (xs : List ℕ) → AllPairs (λ one other. one ≢ other) xs → AreApart xs
apart-from [] pairs = tt
apart-from (x ∷ xs) pairs = (
  λ other has. subst (λ n. x ≢ n) has.2 (pairs zero (suc has.0) other (omega arith) (omega (arith, has.1))),
  apart-from xs (λ i j d less within. pairs (suc i) (suc j) d (omega arith) (omega arith)),
)

-- ---- questions

abbrev pub IsOnce : List Step → Type 0
IsOnce past = (device : ℕ) (msg : Msg) → place_in msg ≡ None → (one other : Option Reply) → WasTold past device msg one → WasTold past device msg other → one ≡ other

abbrev NotTold : List Step → ℕ → Msg → Type 0
NotTold past device msg = (answer : Option Reply) → WasTold past device msg answer → ⊥

-- a message was told in the stage that a pass is in, if ever
abbrev OnlyIn : List Step → List Step → ℕ → Msg → Type 0
OnlyIn past own device msg = (answer : Option Reply) → WasTold past device msg answer → WasTold own device msg answer

-- nothing was told of a partition
abbrev AreUnasked : List Step → ℕ → Type 0
AreUnasked past part = (device : ℕ) → NotTold past device (message.Places part) × NotTold past device (message.Suffixes part)

-- nor of what is still to be asked
abbrev IsAlone : List Step → List Step → Task → Type 0
IsAlone past own ListParts = (device : ℕ) (msg : Msg) → place_in msg ≡ None → OnlyIn past own device msg
IsAlone past own (ListPlaces part) = (device : ℕ) → OnlyIn past own device (message.Places part) × OnlyIn past own device (message.Suffixes part)
IsAlone past own (ListOwn part) = (device : ℕ) → OnlyIn past own device (message.Suffixes part)
IsAlone past own (ListOther part listed heard device others) = ((one : ℕ) → Contains (device ∷ others) one → OnlyIn past own one (message.Suffixes part)) × AreApart (device ∷ others)
IsAlone past own (Treat place) = ⊤

-- the partition that is asked about, and those after it
abbrev parts_from : Task → List ℕ → List ℕ
parts_from (ListPlaces part) parts = part ∷ parts
parts_from (ListOwn part) parts = part ∷ parts
parts_from (ListOther part listed heard device others) parts = part ∷ parts
parts_from other parts = parts

pub record IsOrderly (past own : List Step) (task : Task) (parts : List ℕ) : Type 0 where
  pub once : IsOnce past
  pub alone : IsAlone past own task
  pub apart : AreApart (parts_from task parts)
  pub unasked : (part : ℕ) → Contains parts part → AreUnasked past part

-- ---- a pass that begins

pub orderly-begun : IsOrderly [] [] ListParts []
orderly-begun = record {
  once = λ device msg none one other first second. absurd (none_in _ first.1);
  alone = λ device msg none answer told. told;
  apart = tt;
  unasked = λ part there. absurd (none_in part there);
}

-- ---- a message is handed out

module _ (past own : List Step) (sent one : Sent) where
  gave-only : (device : ℕ) (msg : Msg) → OnlyIn past own device msg → OnlyIn (Gave sent ∷ past) (Gave one ∷ own) device msg
  gave-only device msg only answer told = told-later own (Gave one) device msg answer (only answer (told-gave past sent device msg answer told))

  gave-alone : (task : Task) → IsAlone past own task → IsAlone (Gave sent ∷ past) (Gave one ∷ own) task
  gave-alone ListParts alone = λ device msg none. gave-only device msg (alone device msg none)
  gave-alone (ListPlaces part) alone = λ device. (gave-only device (message.Places part) (alone device).0, gave-only device (message.Suffixes part) (alone device).1)
  gave-alone (ListOwn part) alone = λ device. gave-only device (message.Suffixes part) (alone device)
  gave-alone (ListOther part listed heard device others) alone = (λ other there. gave-only other (message.Suffixes part) (alone.0 other there), alone.1)
  gave-alone (Treat place) alone = tt

  pub orderly-gave : (task : Task) (parts : List ℕ) → IsOrderly past own task parts → IsOrderly (Gave sent ∷ past) (Gave one ∷ own) task parts
  orderly-gave task parts is = record {
    once = λ device msg none a b first second. is.once device msg none a b (told-gave past sent device msg a first) (told-gave past sent device msg b second);
    alone = gave-alone task is.alone;
    apart = is.apart;
    unasked = λ part there device. (
      λ answer told. (is.unasked part there device).0 answer (told-gave past sent device (message.Places part) answer told),
      λ answer told. (is.unasked part there device).1 answer (told-gave past sent device (message.Suffixes part) answer told),
    );
  }

-- ---- an answer is taken

module _ (begun : Begun) (past own : List Step) (sent : Sent) (ticket : ℕ) (answer : Option Reply) (opened : open_at sent.ticket own ≡ Some sent) where
  abbrev Now : List Step
  Now = Closed (record sent { ticket = ticket }) answer ∷ past

  abbrev OwnNow : List Step
  OwnNow = Closed sent answer ∷ own

  -- what an open message asks was not told yet
  asked-untold : (device : ℕ) (what : Survey) → IsRun (stages.IsNext (asks begun device what)) own → OnlyIn past own device (message_of what) → NotTold past sent.device sent.msg
  asked-untold device what run only = subst (λ (one : Sent). NotTold past one.device one.msg) (sym (told-own (question_of begun device what) own run sent opened))
      (λ given told. open-untold (question_of begun device what) device (message_of what) given own run sent opened (only given told))

  job-message : (place : PlaceModel) → IsRun (stages.IsNext (stage_of begun (Treat place))) own → place_in sent.msg ≡ Some place
  job-message place run =
      open-is (stages.IsNext (stage_of begun (Treat place))) (λ (one : Sent). place_in one.msg ≡ Some place) (λ steps one next. treat-sends begun place steps one (is_primary begun.cluster begun.device place) next) own run sent
      opened

  sent-untold : (task : Task) → IsRun (stages.IsNext (stage_of begun task)) own → IsAlone past own task → place_in sent.msg ≡ None → NotTold past sent.device sent.msg
  sent-untold ListParts run alone none = asked-untold begun.device survey.Parts run (alone begun.device message.Parts refl)
  sent-untold (ListPlaces part) run alone none = asked-untold begun.device (survey.Places part) run (alone begun.device).0
  sent-untold (ListOwn part) run alone none = asked-untold begun.device (survey.Suffixes part) run (alone begun.device)
  sent-untold (ListOther part listed heard device others) run alone none = asked-untold device (survey.Suffixes part) run (alone.0 device (here device others))
  sent-untold (Treat place) run alone none = absurd (none-some place (sym none ∙ job-message place run))

  -- nor is it about a partition that is left
  abbrev IsAbout : ℕ → Type 0
  IsAbout part = (sent.msg ≡ message.Places part) ⊎ (sent.msg ≡ message.Suffixes part)

  asked-message : (device : ℕ) (what : Survey) → IsRun (stages.IsNext (asks begun device what)) own → sent.msg ≡ message_of what
  asked-message device what run = ap (λ (one : Sent). one.msg) (told-own (question_of begun device what) own run sent opened)

  not-about : (task : Task) (parts : List ℕ) → IsRun (stages.IsNext (stage_of begun task)) own → AreApart (parts_from task parts) → (part : ℕ) → Contains parts part → IsAbout part → ⊥
  not-about ListParts parts run apart part there (inl is) = let same = asked-message begun.device survey.Parts run in cc (is, same)
  not-about ListParts parts run apart part there (inr is) = let same = asked-message begun.device survey.Parts run in cc (is, same)
  not-about (ListPlaces one) parts run apart part there (inl is) = let same = asked-message begun.device (survey.Places one) run in apart.0 part there (cc (is, same))
  not-about (ListPlaces one) parts run apart part there (inr is) = let same = asked-message begun.device (survey.Places one) run in cc (is, same)
  not-about (ListOwn one) parts run apart part there (inl is) = let same = asked-message begun.device (survey.Suffixes one) run in cc (is, same)
  not-about (ListOwn one) parts run apart part there (inr is) = let same = asked-message begun.device (survey.Suffixes one) run in apart.0 part there (cc (is, same))
  not-about (ListOther one listed heard device others) parts run apart part there (inl is) = let same = asked-message device (survey.Suffixes one) run in cc (is, same)
  not-about (ListOther one listed heard device others) parts run apart part there (inr is) = let same = asked-message device (survey.Suffixes one) run in apart.0 part there (cc (is, same))
  not-about (Treat place) parts run apart part there (inl is) = none-some place (sym (ap place_in is) ∙ job-message place run)
  not-about (Treat place) parts run apart part there (inr is) = none-some place (sym (ap place_in is) ∙ job-message place run)

  -- ---- what was told

  told-here : (device : ℕ) (msg : Msg) (given : Option Reply) → sent.device ≡ device → sent.msg ≡ msg → answer ≡ given → WasTold OwnNow device msg given
  told-here device msg given of is same = as-told OwnNow sent device msg given of is (subst (λ (one : Option Reply). Contains OwnNow (Closed sent one)) same (here (Closed sent answer) own))

  told-only : (device : ℕ) (msg : Msg) → OnlyIn past own device msg → OnlyIn Now OwnNow device msg
  told-only device msg only given told = elim (told-cases past (record sent { ticket = ticket }) answer device msg given told) [
    | inl this ↦ told-here device msg given this.0 this.1 this.2
    | inr before ↦ told-later own (Closed sent answer) device msg given (only given before)
  ]

  told-alone : (task : Task) → IsAlone past own task → IsAlone Now OwnNow task
  told-alone ListParts alone = λ device msg none. told-only device msg (alone device msg none)
  told-alone (ListPlaces part) alone = λ device. (told-only device (message.Places part) (alone device).0, told-only device (message.Suffixes part) (alone device).1)
  told-alone (ListOwn part) alone = λ device. told-only device (message.Suffixes part) (alone device)
  told-alone (ListOther part listed heard device others) alone = (λ other there. told-only other (message.Suffixes part) (alone.0 other there), alone.1)
  told-alone (Treat place) alone = tt

  module _ (task : Task) (parts : List ℕ) (run : IsRun (stages.IsNext (stage_of begun task)) own) (is : IsOrderly past own task parts) where
    -- a question that is told now was not told before
    not-again : (device : ℕ) (msg : Msg) → place_in msg ≡ None → sent.device ≡ device → sent.msg ≡ msg → NotTold past device msg
    not-again device msg none of same =
        subst (λ n. NotTold past n msg) of (subst (NotTold past sent.device) same (sent-untold task run is.alone (ap place_in same ∙ none)))

    abbrev IsNowOrWas : ℕ → Msg → Option Reply → Type 0
    IsNowOrWas device msg given = IsThis (record sent { ticket = ticket }) answer device msg given ⊎ WasTold past device msg given

    told-once : IsOnce Now
    told-once device msg none one other first second =
        by_cases (told-cases past (record sent { ticket = ticket }) answer device msg one first) (told-cases past (record sent { ticket = ticket }) answer device msg other second)
      where
        by_cases : IsNowOrWas device msg one → IsNowOrWas device msg other → one ≡ other
        by_cases (inl this) (inl that) = sym this.2 ∙ that.2
        by_cases (inl this) (inr before) = absurd (not-again device msg none this.0 this.1 other before)
        by_cases (inr before) (inl that) = absurd (not-again device msg none that.0 that.1 one before)
        by_cases (inr before) (inr that) = is.once device msg none one other before that

    still-unasked : (part : ℕ) → Contains parts part → AreUnasked Now part
    still-unasked part there device = (
      λ given told. elim (told-cases past (record sent { ticket = ticket }) answer device (message.Places part) given told) [
        | inl this ↦ not-about task parts run is.apart part there (inl this.1)
        | inr before ↦ (is.unasked part there device).0 given before
      ],
      λ given told. elim (told-cases past (record sent { ticket = ticket }) answer device (message.Suffixes part) given told) [
        | inl this ↦ not-about task parts run is.apart part there (inr this.1)
        | inr before ↦ (is.unasked part there device).1 given before
      ],
    )

    pub orderly-told : IsOrderly Now OwnNow task parts
    orderly-told = record { once = told-once; alone = told-alone task is.alone; apart = is.apart; unasked = still-unasked }

-- ---- what follows

abbrev pub StaysOrderly : List Step → Status → Type 0
StaysOrderly past (Does course) = IsOrderly past [] course.task course.parts
StaysOrderly past (Ends report) = ⊤

module _ (past : List Step) (once : IsOnce past) where
  part-next : (parts : List ℕ) (report : PassReport) → AreApart parts → ((part : ℕ) → Contains parts part → AreUnasked past part) → StaysOrderly past (next_part parts report)
  part-next [] report apart unasked = tt
  part-next (part ∷ parts) report apart unasked =
      let none = unasked part (here part parts) in
      record {
        once = once;
        alone = λ device. (λ answer told. absurd ((none device).0 answer told), λ answer told. absurd ((none device).1 answer told));
        apart = apart;
        unasked = λ one there. unasked one (Contains-cons one part parts there);
      }

  pub place-next : (places : List PlaceModel) (parts : List ℕ) (report : PassReport) → AreApart parts → ((part : ℕ) → Contains parts part → AreUnasked past part) → StaysOrderly past (next_place places parts report)
  place-next [] parts report apart unasked = part-next parts report apart unasked
  place-next (place ∷ places) parts report apart unasked = record { once = once; alone = tt; apart = apart; unasked = unasked }

module _ (begun : Begun) (past own : List Step) (parts : List ℕ) where
  -- ---- partitions and places

  module _ (run : IsRun (stages.IsNext (stage_of begun ListParts)) own) (is : IsOrderly past own ListParts parts) where
    all-unasked : (part : ℕ) → AreUnasked past part
    all-unasked part device = (
      λ answer told.
          let same = (told-is (question_of begun begun.device survey.Parts) device (message.Places part) answer own run (is.alone device (message.Places part) refl answer told)).1 in
          cc same,
      λ answer told.
          let same = (told-is (question_of begun begun.device survey.Parts) device (message.Suffixes part) answer own run (is.alone device (message.Suffixes part) refl answer told)).1 in
          cc same,
    )

    parts-follow : (places : List PlaceModel) (report : PassReport) (answer : Option Reply) → AreOnce begun past → WasTold past begun.device message.Parts answer
        → StaysOrderly past (after_parts begun.cluster.part_power (record { task = ListParts; places = places; parts = parts; report = report }) answer)
    parts-follow places report (Some (reply.PartList listed)) distinct told =
        let those = filter (is_of_ring begun.cluster.part_power) (take most_parts listed) in
        part-next past is.once those report (apart-from those (AllPairs-filter (λ one other. one ≢ other) (is_of_ring begun.cluster.part_power) (take most_parts listed) (distinct listed told))) (λ part there. all-unasked part)
    parts-follow places report other distinct told = part-next past is.once parts (missed report) is.apart is.unasked

  module _ (part : ℕ) where
    module _ (run : IsRun (stages.IsNext (stage_of begun (ListPlaces part))) own) (is : IsOrderly past own (ListPlaces part) parts) where
      part-begun : (primary : Bool) (places : List PlaceModel) (report : PassReport) → StaysOrderly past (begin_part primary part places parts report)
      part-begun true places report = record {
        once = is.once;
        alone = λ device answer told.
            let same = (told-is (question_of begun begun.device (survey.Places part)) device (message.Suffixes part) answer own run ((is.alone device).1 answer told)).1 in
            absurd (cc same);
        apart = is.apart;
        unasked = is.unasked;
      }
      part-begun false places report = place-next past is.once places parts report is.apart.1 is.unasked

      places-follow : (places : List PlaceModel) (report : PassReport) (answer : Option Reply)
          → StaysOrderly past (after_places begun part (record { task = ListPlaces part; places = places; parts = parts; report = report }) answer)
      places-follow places report (Some (reply.PlaceList listed)) =
          part-begun (is_among (column_of begun.cluster part) begun.device) (filter (is_of_part begun.cluster.part_power part) (take most_places listed)) report
      places-follow places report other = part-next past is.once parts (missed report) is.apart.1 is.unasked

    -- ---- suffixes

    module _ (once : IsOnce past) (apart : AreApart (part ∷ parts)) (unasked : (one : ℕ) → Contains parts one → AreUnasked past one) where
      asked-on : (listed : List Hashed) (heard : List (Option (List Hashed))) (others : List ℕ) (places : List PlaceModel) (report : PassReport) → ((one : ℕ) → Contains others one → NotTold past one (message.Suffixes part)) → AreApart others
          → (status : Status) → AsksOn part listed heard others places parts report status → StaysOrderly past status
      asked-on listed heard [] places report none distinct status (due, are_due, status_is) = subst (StaysOrderly past) (sym status_is) (place-next past once due parts report apart.1 unasked)
      asked-on listed heard (device ∷ others) places report none distinct status status_is =
          subst (StaysOrderly past) (sym status_is) (record { once = once; alone = (λ one there answer told. absurd (none one there answer told), distinct); apart = apart; unasked = unasked })

    module _ (run : IsRun (stages.IsNext (stage_of begun (ListOwn part))) own) (is : IsOrderly past own (ListOwn part) parts) where
      others-unasked : (one : ℕ) → Contains (others_of begun part) one → NotTold past one (message.Suffixes part)
      others-unasked one there answer told =
          (others-are begun past part one there).0 (told-is (question_of begun begun.device (survey.Suffixes part)) one (message.Suffixes part) answer own run (is.alone one answer told)).0

      own-follow : IsBegun begun → part < 2 ^ begun.cluster.part_power → (places : List PlaceModel) (report : PassReport) (answer : Option Reply)
          → (status : Status) → AfterOwn begun part (record { task = ListOwn part; places = places; parts = parts; report = report }) answer status → StaysOrderly past status
      own-follow valid below places report (Some (reply.SuffixList listed)) status follows = asked-on is.once is.apart is.unasked listed [] (others_of begun part) places report others-unasked
          (apart-from (others_of begun part) (AllPairs-filter (λ one other. one ≢ other) (λ id. not (id == begun.device)) (column_of begun.cluster part) (valid.rules.apart part below))) status follows
      own-follow valid below places report other status follows = subst (StaysOrderly past) (sym follows) (part-next past is.once parts (missed report) is.apart.1 is.unasked)

    module _ (listed : List Hashed) (heard : List (Option (List Hashed))) (device : ℕ) (others : List ℕ) (run : IsRun (stages.IsNext (stage_of begun (ListOther part listed heard device others))) own)
        (is : IsOrderly past own (ListOther part listed heard device others) parts) where
      rest-unasked : (one : ℕ) → Contains others one → NotTold past one (message.Suffixes part)
      rest-unasked one there answer told =
          let same = (told-is (question_of begun device (survey.Suffixes part)) one (message.Suffixes part) answer own run (is.alone.0 one (Contains-cons one device others there) answer told)).0 in
          is.alone.1.0 one there (sym same)

      other-follow : (places : List PlaceModel) (report : PassReport) (answer : Option Reply)
          → (status : Status) → AfterOther part listed heard others (record { task = ListOther part listed heard device others; places = places; parts = parts; report = report }) answer status → StaysOrderly past status
      other-follow places report (Some (reply.SuffixList hashes)) status follows =
          asked-on is.once is.apart is.unasked listed (heard ++ Some hashes ∷ []) others places report rest-unasked is.alone.1.1 status follows
      other-follow places report other status follows = asked-on is.once is.apart is.unasked listed (heard ++ None ∷ []) others places (missed report) rest-unasked is.alone.1.1 status follows

  pub orderly-follows : (task : Task) (places : List PlaceModel) (report : PassReport) (answer : Option Reply) → IsBegun begun → AreOnce begun past → IsTaskOf begun past task → IsRun (stages.IsNext (stage_of begun task)) own
      → IsOrderly past own task parts → IsAnswer begun past task answer
      → (status : Status) → FollowsAnswer begun (record { task = task; places = places; parts = parts; report = report }) task answer status → StaysOrderly past status
  orderly-follows ListParts places report answer valid distinct of run is told status follows = subst (StaysOrderly past) (sym follows) (parts-follow run is places report answer distinct told)
  orderly-follows (ListPlaces part) places report answer valid distinct of run is told status follows = subst (StaysOrderly past) (sym follows) (places-follow part run is places report answer)
  orderly-follows (ListOwn part) places report answer valid distinct of run is told status follows = own-follow part run is valid of.0.below places report answer status follows
  orderly-follows (ListOther part listed heard device others) places report answer valid distinct of run is told status follows =
      other-follow part listed heard device others run is places report answer status follows
  orderly-follows (Treat place) places report answer valid distinct of run is told status follows = absurd follows
