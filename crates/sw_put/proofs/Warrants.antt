-- The messages of a put are of its cluster, and are warranted.
use Rattle.std.proofs.Common.{◌≡◌, ◌≢◌, inl, ℕ, zero, suc, ◌+◌, ◌≤◌, ◌==◌, List, [], ◌∷◌, length, Contains, Some, refl, sym, subst, arith}
use Rattle.std.specs.List.{AllPairs, sum_by}
use Rattle.std.proofs.lemmas.List.Elements.{All-weaker}
use Rattle.std.proofs.lemmas.List.Sums.{sum_by-append}
use Rattle.sw_message.specs.Learnt.{AreKnown, HasOwn, KnowsReply, Learnt, OwnPut}
use Rattle.sw_message.specs.Running.{IsOf}
use Rattle.sw_message.specs.Transcript.{Closed, Gave, IsRun, Step}
use Rattle.sw_message.specs.Warrant.{IsDecided, IsSynced, IsWarranted}
use Rattle.sw_message.specs.declared.miss.Miss.{Miss}
use Rattle.sw_message.specs.declared.reply.Reply.{Reply}
use Rattle.sw_message.specs.declared.reply.Reply.TheVariants as reply
use Rattle.sw_message.specs.declared.sent.Sent.{Sent}
use Rattle.sw_message.specs.declared.target.Target.{Target}
use Rattle.sw_archive.specs.Put.{put_archive}
use Rattle.sw_quorum.specs.Answers.{done, missed}
use Rattle.sw_quorum.proofs.Laws.{parts}
use Rattle.sw_quorum.proofs.Places.{apart-from_once, device_once, one_if, part_small, place_right}
use Rattle.sw_put.specs.Causes.{WasStored}
use Rattle.sw_put.specs.Put.{Begun, IsBegun, IsNext, handoffs, place_of, primaries, put_message, replacements, stores}
use Rattle.sw_quorum.specs.Targets.{targets_from}
use Rattle.sw_put.specs.declared.errand.Errand.{Errand}
use Rattle.sw_put.specs.declared.errand.Errand.TheVariants.{CommitAt, StoreAt}
use Rattle.sw_put.proofs.Homes.{Fits, IsFit, fits, known}
use Rattle.sw_put.proofs.Transcripts.{IsPut, grew, stores-balance}
use Rattle.sw_put.proofs.Weights.{handoffs-devices, has_device, has_index, primaries-devices, primary-once, replaced}

-- ---- no two that were stored have one index, and no two that were stored or missed have one device

module _ (begun : Begun) (past : List Step) (run : IsRun (IsNext begun) past) where
  within : (w : Target → ℕ) → sum_by w (done (stores past)) + sum_by (λ (miss : Target × Miss). w miss.0) (missed (stores past)) ≤ sum_by w (targets_from 0 (primaries begun)) + sum_by w (replacements (missed (stores past)) (handoffs begun))
  within w =
      omega (
        arith,
        stores-balance begun past run (grew begun past run) w,
        parts w (stores past),
        sum_by-append w (targets_from 0 (primaries begun)) (replacements (missed (stores past)) (handoffs begun)),
      )

  pub index-once : (k : ℕ) → sum_by (has_index k) (done (stores past)) ≤ 1
  index-once k = omega (arith, within (has_index k), primary-once 0 (primaries begun) k, replaced (λ n. one_if (n == k)) (missed (stores past)) (handoffs begun))

  pub devices-once : IsBegun begun → (k : ℕ) → sum_by (has_device k) (done (stores past)) + sum_by (λ (miss : Target × Miss). has_device k miss.0) (missed (stores past)) ≤ 1
  devices-once valid k =
      omega (
        arith,
        within (has_device k),
        primaries-devices (λ n. one_if (n == k)) 0 (primaries begun),
        handoffs-devices (λ n. one_if (n == k)) (missed (stores past)) (handoffs begun),
        device_once begun.cluster (place_of begun).part valid.rules (part_small begun.cluster begun.name) k,
      )

  pub device-once : IsBegun begun → (k : ℕ) → sum_by (has_device k) (done (stores past)) ≤ 1
  device-once valid k = omega (arith, devices-once valid k)

  pub indices-apart : AllPairs (λ (one other : Target). one.index ≢ other.index) (done (stores past))
  indices-apart = apart-from_once (λ (target : Target). target.index) (done (stores past)) index-once

  pub devices-apart : IsBegun begun → AllPairs (λ (one other : Target). one.device ≢ other.device) (done (stores past))
  devices-apart valid = apart-from_once (λ (target : Target). target.device) (done (stores past)) (device-once valid)

-- ---- what is known of a transcript's replies

module _ (begun : Begun) (learnt : Learnt) where
  reply_known : (past : List Step) (sent : Sent) (given : Reply) → AreKnown begun.cluster learnt past → Contains past (Closed sent (Some given)) → KnowsReply begun.cluster learnt sent.device sent.msg (Some given)
  reply_known [] sent given known (k, within, is) = absurd (omega (arith, within))
  reply_known (Gave other ∷ past) sent given known (zero, within, is) = absurd (cc)
  reply_known (Gave other ∷ past) sent given known (suc k, within, is) = reply_known past sent given known (k, omega (arith, within), is)
  reply_known (Closed other answer ∷ past) sent given known (zero, within, is) =
      let same_sent : other ≡ sent = cc in
      let same_answer : answer ≡ Some given = cc in
      subst (λ (one : Sent). KnowsReply begun.cluster learnt one.device one.msg (Some given)) same_sent (subst (KnowsReply begun.cluster learnt other.device other.msg) same_answer known.0)
  reply_known (Closed other answer ∷ past) sent given known (suc k, within, is) = reply_known past sent given known.1 (k, omega (arith, within), is)

  -- q that were stored decide the stamp
  decided : (past : List Step) → IsBegun begun → IsRun (IsNext begun) past → AreKnown begun.cluster learnt past → begun.cluster.policy.q ≤ length (done (stores past))
      → IsDecided begun.cluster learnt.heard (place_of begun) begun.stamp
  decided past valid run knows enough =
      let all = (known begun valid past run).stored in
      record {
        targets = done (stores past);
        enough = enough;
        indices = indices-apart begun past run;
        devices = devices-apart begun past run valid;
        homes = All-weaker (λ target. IsFit begun target × WasStored begun past target) _ (λ target was. was.0.home) (done (stores past)) all;
        synced = All-weaker (λ target. IsFit begun target × WasStored begun past target) (IsSynced learnt.heard (place_of begun) begun.stamp)
            (λ target was. (
              put_archive begun.cluster.policy begun.stamp begun.name begun.object target.index,
              (reply_known past (put_message begun was.1.0 (StoreAt target)) reply.Synced knows was.1.1).0 (λ same. cc),
            ))
            (done (stores past)) all;
      }

  -- ---- each message

  warranted_by : (past : List Step) (ticket : ℕ) (errand : Errand) → IsBegun begun → IsRun (IsNext begun) past → HasOwn (OwnPut (record { stamp = begun.stamp; name = begun.name; object = begun.object })) learnt
      → AreKnown begun.cluster learnt past → Fits begun past errand → IsWarranted begun.cluster learnt (put_message begun ticket errand).msg
  warranted_by past ticket (StoreAt target) valid run has knows fit = record {
    booked = record { stamp = begun.stamp; name = begun.name; object = begun.object };
    known = has;
    stamp_is = refl;
    place_is = refl;
    index_below = fit.below;
    archive = refl;
  }
  warranted_by past ticket (CommitAt target) valid run has knows fit = inl (decided past valid run knows fit.1)

  pub warranted : (past : List Step) (sent : Sent) → IsBegun begun → IsRun (IsNext begun) past → HasOwn (OwnPut (record { stamp = begun.stamp; name = begun.name; object = begun.object })) learnt
      → AreKnown begun.cluster learnt past → IsPut begun past sent → IsWarranted begun.cluster learnt sent.msg
  warranted past sent valid run has knows is =
      subst (λ (one : Sent). IsWarranted begun.cluster learnt one.msg) (sym is.is) (warranted_by past sent.ticket is.about valid run has knows (fits begun valid past sent.ticket is.about run is.found))

module _ (begun : Begun) where
  of_by : (past : List Step) (ticket : ℕ) (errand : Errand) → Fits begun past errand → IsOf begun.cluster (put_message begun ticket errand).device (put_message begun ticket errand).msg
  of_by past ticket (StoreAt target) fit = record { member = fit.member; place = place_right begun.cluster begun.name }
  of_by past ticket (CommitAt target) fit = record { member = fit.0.0.member; place = place_right begun.cluster begun.name }

  pub is_of : (past : List Step) (sent : Sent) → IsBegun begun → IsRun (IsNext begun) past → IsPut begun past sent → IsOf begun.cluster sent.device sent.msg
  is_of past sent valid run is =
      subst (λ (one : Sent). IsOf begun.cluster one.device one.msg) (sym is.is) (of_by past sent.ticket is.about (fits begun valid past sent.ticket is.about run is.found))
