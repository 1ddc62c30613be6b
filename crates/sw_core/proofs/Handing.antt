-- What an operation hands out as it goes on: each message may be sent.
use Rattle.std.proofs.Common.{ℕ, ⊎_elim, Contains, List, [], ◌∷◌, Option, Some, None, subst, sym}
use Rattle.sw_diskfile.proofs.Lists.{Contains-cases, Contains-first, Contains-later, Contains-none}
use Rattle.sw_message.specs.Learnt.{AreKnown, HasOwn, Learnt}
use Rattle.sw_message.specs.Transcript.{Closed, Gave, IsRun, Step, given}
use Rattle.sw_message.specs.declared.reply.Reply.{Reply}
use Rattle.sw_message.specs.declared.sent.Sent.{Sent}
use Rattle.sw_law_scene.specs.Scene.{Answer, Scene, known_to}
use Rattle.sw_law_scene.specs.Sound.{IsSoundScene, MayBeSent}
use Rattle.sw_law_scene.proofs.Growth.{answer-known}
use Rattle.sw_operation.specs.Operating.{Begun, IsBegun, IsNext, cluster_of, own_of}
use Rattle.sw_core.specs.World.{HandsOut}
use Rattle.sw_core.proofs.Machines.{hands}

-- the replies in a transcript were made for a number: so they are known
pub replies-known : (scene : Scene) → IsSoundScene scene → (number : ℕ) (past : List Step)
    → ((sent : Sent) (reply : Reply) → Contains past (Closed sent (Some reply)) → (at : ℕ) × Contains scene.messages (Answer at number sent reply)) → AreKnown scene.cluster (known_to scene) past
replies-known scene sound number [] made = sound.book
replies-known scene sound number (Gave first ∷ past) made = replies-known scene sound number past (λ sent reply has. made sent reply (Contains-later (Gave first) past _ has))
replies-known scene sound number (Closed first None ∷ past) made =
    (tt, replies-known scene sound number past (λ sent reply has. made sent reply (Contains-later (Closed first None) past _ has)))
replies-known scene sound number (Closed first (Some given) ∷ past) made =
    let this = made first given (Contains-first (Closed first (Some given)) past) in (
      ((λ some. answer-known scene.messages this.0 number first given this.1), sound.messages (Answer this.0 number first given) this.1),
      replies-known scene sound number past (λ sent reply has. made sent reply (Contains-later (Closed first (Some given)) past _ has)),
    )

-- what holds of a transcript once some messages were handed out after another
pub record AreHandedOut (begun : Begun) (learnt : Learnt) (past : List Step) (sents : List Sent) (after : List Step) : Type 0 where
  pub run : IsRun (IsNext begun) after
  pub may : (sent : Sent) → Contains sents sent → MayBeSent (cluster_of begun) learnt sent.msg
  pub kept : (sent : Sent) → Contains (given past) sent → Contains (given after) sent
  pub handed : (sent : Sent) → Contains sents sent → Contains (given after) sent
  pub told : (sent : Sent) (answer : Option Reply) → Contains after (Closed sent answer) → Contains past (Closed sent answer)

module _ (begun : Begun) (learnt : Learnt) (valid : IsBegun begun) (own : HasOwn (own_of begun) learnt) where
  pub handed-out : (sents : List Sent) (past after : List Step) → IsRun (IsNext begun) past → AreKnown (cluster_of begun) learnt past → HandsOut begun sents past after → AreHandedOut begun learnt past sents after
  handed-out [] past after run known same = subst (AreHandedOut begun learnt past []) (sym same) (record {
    run = run;
    may = λ sent has. absurd (Contains-none sent has);
    kept = λ sent has. has;
    handed = λ sent has. absurd (Contains-none sent has);
    told = λ sent answer has. has;
  })
  handed-out (first ∷ sents) past after run known (next, more) =
      let later = handed-out sents (Gave first ∷ past) after (next, run) known more in
      record {
        run = later.run;
        may = λ sent has. ⊎_elim
            (λ same. subst (λ (one : Sent). MayBeSent (cluster_of begun) learnt one.msg) same (hands begun learnt valid own past first run known next))
            (λ rest. later.may sent rest)
            (Contains-cases first sents sent has);
        kept = λ sent has. later.kept sent (Contains-later first (given past) sent has);
        handed = λ sent has. ⊎_elim
            (λ same. later.kept sent (subst (Contains (first ∷ given past)) same (Contains-first first (given past))))
            (λ rest. later.handed sent rest)
            (Contains-cases first sents sent has);
        told = λ sent answer has. ⊎_elim (λ same. absurd (cc)) (λ old. old) (Contains-cases (Gave first) past (Closed sent answer) (later.told sent answer has));
      }
