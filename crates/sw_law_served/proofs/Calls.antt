-- The calls of an operation over nodes behind locks, none of which is lost, are a chain of views, and the pass draws nothing by them.
use Rattle.std.proofs.Common.{◌≡◌, ⊎_elim, ℕ, true, Contains, List, [], ◌∷◌, Option, Some, None, refl, sym, ap, subst, ◌∙◌, arith}
use Rattle.sw_words.specs.Counts.{one_more}
use Rattle.sw_diskfile.proofs.Lists.{Contains-none}
use Rattle.sw_ring.specs.Cluster.{ClusterModel}
use Rattle.sw_message.specs.Running.{AreCalls}
use Rattle.sw_message.specs.Transcript.{Closed, Gave, Step}
use Rattle.sw_message.specs.declared.message.Msg.{Msg}
use Rattle.sw_message.specs.declared.reply.Reply.{Reply}
use Rattle.sw_message.specs.declared.reply.Reply.TheVariants.{DiskFault, NoMemory}
use Rattle.sw_view.specs.History.{Continues}
use Rattle.sw_view.specs.View.{IsSoundView}
use Rattle.sw_view.specs.declared.event.Event.{Event}
use Rattle.sw_view.specs.declared.event.Event.TheVariants.{Mounted}
use Rattle.sw_law_reading.specs.Reading.{AddsReply, AreCallsOver, IsCall}
use Rattle.sw_law_reading.proofs.Links.{chained}
use Rattle.sw_pass.specs.Known.{history, slot_of, view_of}
use Rattle.sw_pass.specs.declared.known.Known.{Known}
use Rattle.sw_pass.proofs.Histories.{continues_itself, continues_more, continues_one}
use Rattle.sw_cell.specs.Calling.{IsCalled, IsRepliedTo}
use Rattle.sw_cell.specs.Learning.{HasGrown}
use Rattle.sw_local.specs.Link.{Calls, LocalModel}
use Rattle.sw_local.proofs.Hearing.{learnt_grows}
use Rattle.sw_law_served.specs.Served.{AreAnswered, WentBy, view_by}

-- ---- what is known only grows

pub grown_same : (known : Known) → HasGrown known known
grown_same known = record {
  covers = record { drawn = λ fact has. has; histories = λ slot. continues_itself (history known.histories slot) };
  mark = omega arith;
  clock = refl;
  draws = refl;
}

pub grown_both : (first second third : Known) → HasGrown first second → HasGrown second third → HasGrown first third
grown_both first second third one other = record {
  covers = record {
    drawn = λ fact has. other.covers.drawn fact (one.covers.drawn fact has);
    histories = λ slot. continues_more (history third.histories slot) (history second.histories slot) (history first.histories slot) (other.covers.histories slot) (one.covers.histories slot);
  };
  mark = let less = one.mark in let more = other.mark in omega (arith, less, more);
  clock = other.clock ∙ one.clock;
  draws = other.draws ∙ one.draws;
}

-- ---- one call

-- what had happened, and maybe a mount, goes on from what was known
middle_on : (msg : Msg) (given : Reply) (past events : List Event) → (replied : IsRepliedTo true msg given past events) → Continues replied.middle past
middle_on msg given past events replied = ⊎_elim
    (λ same. subst (λ (middle : List Event). Continues middle past) (sym same) (continues_itself past))
    (λ same. subst (λ (middle : List Event). Continues middle past) (sym same) (continues_one Mounted past))
    replied.mounted

module _ (cluster : ClusterModel) (device : ℕ) (msg : Msg) (before after : Known) where
  pub adds_reply : (given : Reply) → IsCalled cluster true (slot_of cluster device) msg given before after → AddsReply (view_of cluster before) (view_of cluster after) device msg (Some given)
  adds_reply NoMemory called = tt
  adds_reply DiskFault called = (called.replied.middle, continues_more _ called.past _ (middle_on msg DiskFault called.past _ called.replied) called.later, called.replied.latest)
  adds_reply given called = (called.replied.middle, continues_more _ called.past _ (middle_on msg given called.past _ called.replied) called.later, called.replied.latest)

module _ {T : Type 0} (cluster : ClusterModel) where
  -- a link that loses no call
  abbrev pub LosesNone : LocalModel T → Type 0
  LosesNone link = link.lost ≡ []

  one_call : (before : LocalModel T) (device : ℕ) (msg : Msg) (answer : Option Reply) (after : LocalModel T) → Calls cluster true before device msg answer after → LosesNone after
      → (LosesNone before × IsCall cluster (view_by cluster before) device msg answer (view_by cluster after)) × HasGrown before.known after.known
  one_call before device msg None after lost none =
      let same : after.lost ≡ before.lost = ap (λ (link : LocalModel T). link.lost) lost.after_is in
      absurd (Contains-none (one_more before.calls) (subst (λ (numbers : List ℕ). Contains numbers (one_more before.calls)) (sym same ∙ none) lost.lost))
  one_call before device msg (Some given) after was none =
      let called = was.called in
      let same : after.lost ≡ before.lost = ap (λ (link : LocalModel T). link.lost) was.after_is in (
        (
          sym same ∙ none,
          record {
            member = was.member;
            grows = learnt_grows cluster before.known after.known called.learnt.grown;
            sound = called.learnt.sound;
            adds = adds_reply cluster device msg before.known after.known given called;
          },
        ),
        called.learnt.grown,
      )

  -- ---- all of them

  module _ (losses : LocalModel T → ℕ) where
    all_grown : (before : LocalModel T) (past : List Step) (after : LocalModel T) → AreCalls (Calls cluster true) losses before past after → LosesNone after → HasGrown before.known after.known
    all_grown before [] after same none = subst (λ (link : LocalModel T). HasGrown before.known link.known) same (grown_same before.known)
    all_grown before (Gave sent ∷ more) after wrong none = absurd wrong
    all_grown before (Closed sent answer ∷ []) after wrong none = absurd wrong
    all_grown before (Closed sent answer ∷ Closed same again ∷ more) after wrong none = absurd wrong
    all_grown before (Closed sent answer ∷ Gave same ∷ more) after (between, were, same_is, call, counts) none =
        let last = one_call between sent.device sent.msg answer after call none in
        grown_both before.known between.known after.known (all_grown before more between were last.0.0) last.1

    all_answered : (before : LocalModel T) (past : List Step) (after : LocalModel T) → AreCalls (Calls cluster true) losses before past after → LosesNone after → AreAnswered past
    all_answered before [] after same none = tt
    all_answered before (Gave sent ∷ more) after wrong none = absurd wrong
    all_answered before (Closed sent answer ∷ []) after wrong none = absurd wrong
    all_answered before (Closed sent answer ∷ Closed same again ∷ more) after wrong none = absurd wrong
    all_answered before (Closed sent None ∷ Gave same ∷ more) after (between, were, same_is, call, counts) none =
        let same_lost : after.lost ≡ between.lost = ap (λ (link : LocalModel T). link.lost) call.after_is in
        Contains-none (one_more between.calls) (subst (λ (numbers : List ℕ). Contains numbers (one_more between.calls)) (sym same_lost ∙ none) call.lost)
    all_answered before (Closed sent (Some given) ∷ Gave same ∷ more) after (between, were, same_is, call, counts) none =
        all_answered before more between were (one_call between sent.device sent.msg (Some given) after call none).0.0

    pub went_by : (before : LocalModel T) (past : List Step) (after : LocalModel T) → AreCalls (Calls cluster true) losses before past after → LosesNone after → WentBy cluster before past after
    went_by before past after calls none = record {
      calls = (chained (Calls cluster true) losses (view_by cluster) LosesNone cluster (λ first device msg answer second call is. (one_call first device msg answer second call is).0) before past after calls none).1;
      answered = all_answered before past after calls none;
      grown = all_grown before past after calls none;
    }

  -- what was sound is so still
  pub sound_behind : (before after : LocalModel T) (past : List Step) → AreCallsOver cluster (view_by cluster before) past (view_by cluster after) → IsSoundView cluster (view_by cluster before) → IsSoundView cluster (view_by cluster after)
  sound_behind before after [] same sound = subst (IsSoundView cluster) same sound
  sound_behind before after (Gave sent ∷ more) none sound = absurd none
  sound_behind before after (Closed sent answer ∷ []) none sound = absurd none
  sound_behind before after (Closed sent answer ∷ Closed same again ∷ more) none sound = absurd none
  sound_behind before after (Closed sent answer ∷ Gave same ∷ more) calls sound = calls.3.sound
