-- A put that has handed out all its fragments waits, also once the first of them is stored.
use Rattle.std.proofs.Common.{◌≡◌, ℕ, ◌<◌, List, [], ◌∷◌, ◌++◌, length, Some, refl, ap, ◌∙◌, arith}
use Rattle.std.specs.List.{slice_get}
use Rattle.sw_message.specs.Transcript.{Closed, Gave, Step, Wait, given, open_at}
use Rattle.sw_message.specs.declared.reply.Reply.TheVariants as reply
use Rattle.sw_message.specs.declared.sent.Sent.{Sent}
use Rattle.sw_message.specs.declared.target.Target.{Target}
use Rattle.sw_quorum.specs.Answers.{Judged, missed}
use Rattle.sw_quorum.specs.Targets.{targets_from}
use Rattle.sw_quorum.specs.declared.verdict.Verdict.TheVariants.{Done}
use Rattle.sw_put.specs.Put.{Begun, primaries, put_next, stores}
use Rattle.sw_put.proofs.Dues.{length-targets_from}
use Rattle.sw_operation.specs.Operating.{Put as PutBegun}
use Rattle.sw_core.specs.World.{HandsOut}
use Rattle.sw_law_example.proofs.Handing.{after_giving, fragment, fragments, gave-given, gave-open, gave-stores, gave-told, hands-out, length-fragments, waits}

-- A put has handed out these messages, this one first, one for each primary; it waits, and does so still once the first is answered.
pub record IsWaiting (begun : Begun) (first : Sent) (others : List Sent) (past : List Step) : Type 0 where
  pub count : length (first ∷ others) ≡ length (primaries begun)
  pub handed : HandsOut (PutBegun begun) (first ∷ others) [] past
  pub waits : put_next begun past ≡ Wait
  pub first_open : open_at 0 past ≡ Some first
  pub still : put_next begun (Closed first (Some reply.Synced) ∷ past) ≡ Wait

module _ (begun : Begun) (device : ℕ) (devices : List ℕ) where
  -- the first fragment, the others, and the transcript once all were handed out
  abbrev target : Target
  target = record { index = 0; device = device }

  abbrev pub first : Sent
  first = fragment begun 0 target

  abbrev pub others : List Sent
  others = fragments begun 1 (targets_from 1 devices)

  abbrev pub handed_out : List Step
  handed_out = after_giving (first ∷ others) []

  -- its answer is the only one
  heard : stores (Closed first (Some reply.Synced) ∷ handed_out) ≡ record { about = target; verdict = Done } ∷ []
  heard = ap (λ (judged : List (Judged Target)). judged ++ record { about = target; verdict = Done } ∷ []) (gave-stores (first ∷ others) [])

  -- a put whose primaries are these, and at least two, waits so
  pub waiting : primaries begun ≡ device ∷ devices → 1 < length (primaries begun) → IsWaiting begun first others handed_out
  waiting are some =
      let none = gave-stores (first ∷ others) [] in
      let unanswered = gave-told (first ∷ others) [] in
      let all : length (first ∷ others) ≡ length (primaries begun) = omega (arith, length-fragments begun 1 (targets_from 1 devices), length-targets_from 1 devices, ap length are) in
      let all_given : length (given handed_out) ≡ length (primaries begun) = omega (arith, all, gave-given (first ∷ others) []) in
      record {
        count = all;
        handed = hands-out begun 0 (target ∷ targets_from 1 devices) [] refl
            (λ i. ap (slice_get (targets_from 0 (primaries begun))) (omega arith) ∙ ap (λ (these : List ℕ). slice_get (targets_from 0 these) i) are);
        waits = waits begun handed_out (ap missed none) (omega (arith, some, ap length none)) (omega (arith, some, unanswered)) all_given;
        first_open = gave-open begun 0 (targets_from 1 devices) (Gave first ∷ []);
        still = waits begun (Closed first (Some reply.Synced) ∷ handed_out) (ap missed heard) (omega (arith, some, ap length heard)) (omega (arith, some, unanswered)) all_given;
      }
