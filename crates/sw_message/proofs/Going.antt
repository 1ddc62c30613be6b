-- An operation over a link goes on by a message and its answer.
use Rattle.std.proofs.Common.{◌≡◌, ℕ, ◌==◌, true, ◌++◌, List, [], ◌∷◌, Option, Some, None, refl, sym, ◌∙◌, subst, rules}
use Rattle.std.proofs.lemmas.Option.{none-some, same_Some}
use Rattle.sw_ring.specs.Cluster.{ClusterModel}
use Rattle.sw_message.specs.Learnt.{AreKnown, HasOwn, IsGenuine, IsSoundBook, Keeps, KnowsReplies, Learnt, Nothing, Own, OwnDelete, OwnPut}
use Rattle.sw_message.specs.Running.{AreCalls, CountsLoss, Hears, MayRun, StillTells, TellsSoundly}
use Rattle.sw_message.specs.Transcript.{Closed, Gave, Hand, IsRun, Next, Step, after_answer, opens}
use Rattle.sw_message.specs.declared.link.Link as link
use Rattle.sw_message.specs.declared.operation.Operation as operation
use Rattle.sw_message.specs.declared.reply.Reply.{Reply}
use Rattle.sw_message.specs.declared.reply.Reply.TheVariants as reply
use Rattle.sw_message.specs.declared.sent.Sent.{Sent}

-- ---- what was known still is

module _ (before after : Learnt) (keeps : Keeps before after) where
  own_kept : (own : Own) → HasOwn own before → HasOwn own after
  own_kept (OwnPut booked) has = keeps.book booked has
  own_kept (OwnDelete marked) has = keeps.marks marked has
  own_kept Nothing has = tt

  genuine_kept : (cluster : ClusterModel) (given : Reply) → IsGenuine cluster before given → IsGenuine cluster after given
  genuine_kept cluster (reply.Fragment bytes) genuine = λ archive is. let found = genuine archive is in (found.0, keeps.book found.0 found.1, found.2)
  genuine_kept cluster other genuine = tt

  replies_kept : (cluster : ClusterModel) (past : List Step) → KnowsReplies cluster before past → KnowsReplies cluster after past
  replies_kept cluster [] known = tt
  replies_kept cluster (Gave sent ∷ past) known = replies_kept cluster past known
  replies_kept cluster (Closed sent None ∷ past) known = (tt, replies_kept cluster past known.1)
  replies_kept cluster (Closed sent (Some given) ∷ past) known =
      ((λ other. keeps.heard _ (known.0.0 other), genuine_kept cluster given known.0.1), replies_kept cluster past known.1)

-- the replies of a transcript are known, and the puts are sound
pub are_known : (cluster : ClusterModel) (learnt : Learnt) → IsSoundBook cluster.policy learnt.book → (past : List Step) → KnowsReplies cluster learnt past → AreKnown cluster learnt past
are_known cluster learnt sound [] known = sound
are_known cluster learnt sound (Gave sent ∷ past) known = are_known cluster learnt sound past known
are_known cluster learnt sound (Closed sent answer ∷ past) known = (known.0, are_known cluster learnt sound past known.1)

-- the puts are sound by what a link tells
pub sound_told : (cluster : ClusterModel) (of : Option ClusterModel) (learnt : Option Learnt) (known : Learnt) → TellsSoundly of learnt → ((other : ClusterModel) → of ≡ Some other → cluster ≡ other) → learnt ≡ Some known
    → IsSoundBook cluster.policy known.book
sound_told cluster of None known sound same tells = absurd (none-some known tells)
sound_told cluster None (Some learnt) known sound same tells = absurd sound
sound_told cluster (Some other) (Some learnt) known sound same tells =
    subst (λ (one : Learnt). IsSoundBook cluster.policy one.book) (same_Some learnt known tells) (rw (same other refl) sound.book)

pub still_more : (MayBe MayBeThen : Type 0) → (MayBe → MayBeThen) → (first before after : Option Learnt) → StillTells MayBeThen before after → StillTells MayBe first before → StillTells MayBeThen first after
still_more MayBe MayBeThen stays None None after later still = later
still_more MayBe MayBeThen stays None (Some before) after later still = absurd (none-some before (sym still))
still_more MayBe MayBeThen stays (Some first) None None later still = stays still
still_more MayBe MayBeThen stays (Some first) (Some before) None later still = later
still_more MayBe MayBeThen stays (Some first) None (Some after) later still = absurd (none-some after (sym later))
still_more MayBe MayBeThen stays (Some first) (Some before) (Some after) later still = record {
  book = λ one has. later.book one (still.book one has);
  marks = λ one has. later.marks one (still.marks one has);
  heard = λ one has. later.heard one (still.heard one has);
}

-- ---- a message and its answer

same_ticket : (n : ℕ) → (n == n) ≡ true
same_ticket n = search rules

module _ (sent : Sent) (answer : Option Reply) (past : List Step) where
  told-gave : after_answer (Gave sent ∷ past) sent.ticket answer ≡ Closed sent answer ∷ Gave sent ∷ past
  told-gave = rw (same_ticket sent.ticket) refl

  none_open : opens past ≡ [] → opens (Closed sent answer ∷ Gave sent ∷ past) ≡ []
  none_open none = rw (none, same_ticket sent.ticket) refl

  run_more : (machine : List Step → Next → Type 0) → machine past (Hand sent) → IsRun machine past → IsRun machine (Closed sent answer ∷ Gave sent ∷ past)
  run_more machine hands run = (rw (same_ticket sent.ticket) refl, (hands, run))

  known_more : (MayBe : Type 0) (cluster : ClusterModel) (own : Own) (of : Option ClusterModel) (before after : Option Learnt) → StillTells MayBe before after → Hears of after sent.device sent.msg answer
      → ((known : Learnt) → after ≡ Some known → (other : ClusterModel) × (of ≡ Some other) × (cluster ≡ other))
      → ((known : Learnt) → before ≡ Some known → HasOwn own known × KnowsReplies cluster known past)
      → (known : Learnt) → after ≡ Some known → HasOwn own known × KnowsReplies cluster known (Closed sent answer ∷ Gave sent ∷ past)
  known_more MayBe cluster own of None after still hears same had known tells = absurd (none-some known (sym still ∙ tells))
  known_more MayBe cluster own of (Some before) None still hears same had known tells = absurd (none-some known tells)
  known_more MayBe cluster own None (Some before) (Some after) still hears same had known tells = let it = same after refl in absurd (none-some it.0 it.1)
  known_more MayBe cluster own (Some of) (Some before) (Some after) still hears same had known tells =
      let first = had before refl in
      let it = same after refl in
      subst (λ (one : Learnt). HasOwn own one × KnowsReplies cluster one (Closed sent answer ∷ Gave sent ∷ past)) (same_Some after known tells)
      (own_kept before after still own first.0, (rw (it.2 ∙ sym (same_Some of it.0 it.1)) hears, replies_kept before after still cluster past first.1))

  may_run_more : (MayBe : Type 0) (cluster : ClusterModel) (own : Own) (of of' : Option ClusterModel) (before after : Option Learnt) → of' ≡ of → TellsSoundly of' after → StillTells MayBe before after → Hears of' after sent.device sent.msg answer
      → MayRun cluster own past of before → MayRun cluster own (Closed sent answer ∷ Gave sent ∷ past) of' after
  may_run_more MayBe cluster own of of' before after same sound still hears may = record {
    nothing_open = none_open may.nothing_open;
    same_cluster = λ other is. may.same_cluster other (sym same ∙ is);
    known = known_more MayBe cluster own of' before after still hears (λ known tells. of_told cluster of' after known sound (λ other is. may.same_cluster other (sym same ∙ is)) tells) may.known;
  } where
    -- a link that tells has a cluster
    of_told : (cluster : ClusterModel) (of : Option ClusterModel) (learnt : Option Learnt) (known : Learnt) → TellsSoundly of learnt → ((other : ClusterModel) → of ≡ Some other → cluster ≡ other) → learnt ≡ Some known
        → (other : ClusterModel) × (of ≡ Some other) × (cluster ≡ other)
    of_told cluster of None known sound same tells = absurd (none-some known tells)
    of_told cluster None (Some learnt) known sound same tells = absurd sound
    of_told cluster (Some other) (Some learnt) known sound same tells = (other, refl, same other refl)

-- ---- an operation over a link

module _ {S T : Type 0} (P : operation.Ghosts S) (L : link.Ghosts T) where
  -- what holds of an operation over a link from one moment to another
  abbrev pub HasRun : S → T → S → T → Type 0
  HasRun op over op' over' = record {
    runs : (more : List Step) × AreCalls L.calls L.losses over more over' × ((begun : P.Begun) (past : List Step) → P.stands op begun past
        → MayRun (P.cluster begun) (P.own begun) past (L.cluster over) (L.learnt over)
        → P.stands op' begun (more ++ past) × MayRun (P.cluster begun) (P.own begun) (more ++ past) (L.cluster over') (L.learnt over')
        × (IsRun (P.machine begun) past → IsRun (P.machine begun) (more ++ past)));
    learns : StillTells (L.may_be_silent over') (L.learnt over) (L.learnt over');
    silence : L.may_be_silent over → L.may_be_silent over';
    cluster : L.cluster over' ≡ L.cluster over;
  }

  -- what a call of a link ensures, and what it tells then
  abbrev pub IsCalled : T → Sent → Option Reply → T → Type 0
  IsCalled over sent answer called = record {
    calls : L.calls over sent.device sent.msg answer called;
    cluster : L.cluster called ≡ L.cluster over;
    tells : StillTells (L.may_be_silent called) (L.learnt over) (L.learnt called);
    silence : L.may_be_silent over → L.may_be_silent called;
    hears : Hears (L.cluster called) (L.learnt called) sent.device sent.msg answer;
    counts : CountsLoss (L.losses over) (L.losses called) answer;
  }

  pub goes_on : (first op gave took : S) (begin over called : T) (sent : Sent) (answer : Option Reply) → HasRun first begin op over → TellsSoundly (L.cluster called) (L.learnt called)
      → ((begun : P.Begun) (past : List Step) → P.stands op begun past → P.machine begun past (Hand sent) × P.stands gave begun (Gave sent ∷ past)) → IsCalled over sent answer called
      → ((begun : P.Begun) (past : List Step) → P.stands gave begun past → P.stands took begun (after_answer past sent.ticket answer))
      → HasRun first begin took called
  goes_on first op gave took begin over called sent answer ran sound gives call takes =
      let more = ran.runs.0 in
      record {
        runs = (
          Closed sent answer ∷ Gave sent ∷ more,
          (over, ran.runs.1, refl, call.calls, call.counts),
          λ begun past stood may.
              let now = ran.runs.2 begun past stood may in
              let gave = gives begun _ now.0 in (
                rw (told-gave sent answer (more ++ past)) at (takes begun _ gave.1),
                may_run_more sent answer (more ++ past) _ _ _ _ _ _ _ call.cluster sound call.tells call.hears now.1,
                λ run. run_more sent answer (more ++ past) (P.machine begun) gave.0 (now.2 run),
              ),
        );
        learns = still_more _ _ call.silence _ _ _ call.tells ran.learns;
        silence = λ may. call.silence (ran.silence may);
        cluster = call.cluster ∙ ran.cluster;
      }
