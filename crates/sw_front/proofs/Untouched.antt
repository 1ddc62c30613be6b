-- Requests for which nothing was begun.
use Rattle.std.proofs.Common.{◌≡◌, ◌↔◌, Bool, true, false, Option, Some, None, Result, Ok, Err, IfOk, inl, refl}
use Rattle.std.specs.Prelude.{IsTrue}
use Rattle.sw_types.specs.declared.memory.NoMemory.{NoMemory as Refused}
use Rattle.sw_ring.specs.Cluster.{ClusterModel}
use Rattle.sw_message.specs.Learnt.{Learnt}
use Rattle.sw_message.specs.Running.{StillTells}
use Rattle.sw_httpwrite.specs.Answer.{AnswerModel}
use Rattle.sw_request.specs.Body.{RequestModel, has_other_tag}
use Rattle.sw_request.specs.Fields.{AsksToClose}
use Rattle.sw_request.specs.Response.{refusal_answer}
use Rattle.sw_request.specs.declared.refusal.Refusal.TheVariants.{ETagDiffers}
use Rattle.sw_front.specs.Answering.{Answers, Refuses, Ways}

still_same : (MayBe : Type 0) (known : Option Learnt) → StillTells MayBe known known
still_same MayBe None = refl
still_same MayBe (Some known) = record { book = λ one has. has; marks = λ one has. has; heard = λ one has. has }

module _ {L : Type 0} (ways : Ways L) (cluster : ClusterModel) (request : RequestModel) (close : Bool) (closes : IsTrue close ↔ AsksToClose request.head) (link : L) where
  refuses : (result : Result AnswerModel Refused) → has_other_tag request ≡ true → IfOk result (λ answer. answer ≡ refusal_answer false close ETagDiffers) → Refuses ways cluster request close link result link
  refuses (Ok answer) other is = (other, is, refl)
  refuses (Err refused) other is = refl

  -- it tells another ETag
  pub other_tag : (result : Result AnswerModel Refused) → has_other_tag request ≡ true → IfOk result (λ answer. answer ≡ refusal_answer false close ETagDiffers) → Answers ways cluster request link result link
  other_tag result other is = (still_same (ways.may_be_silent link) (ways.learnt link), close, closes, inl (refuses result other is))

  -- memory was wanted
  pub not_begun : (refused : Refused) → Answers ways cluster request link (Err refused) link
  not_begun refused = (still_same (ways.may_be_silent link) (ways.learnt link), close, closes, inl refl)
