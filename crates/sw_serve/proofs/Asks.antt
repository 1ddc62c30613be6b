-- What was asked stays what was asked, whatever bytes come behind it.
use Rattle.std.proofs.Common.{◌≡◌, ℕ, Bool, true, false, if◌then◌else◌, List, ◌++◌, None, inl, inr, refl, ap, ◌∙◌}
use Rattle.sw_httpread.specs.Request.{RequestHeadModel}
use Rattle.sw_httpread.specs.declared.body.BodyNext.TheVariants as body
use Rattle.sw_httpread.specs.declared.body.Framing.{Framing}
use Rattle.sw_httpread.specs.declared.head.HeadNext.TheVariants as head
use Rattle.sw_httpread.proofs.BodyLaws.{body_more}
use Rattle.sw_httpread.proofs.HeadLaws.{head_more}
use Rattle.sw_httpwrite.specs.Answer.{AnswerModel}
use Rattle.sw_request.specs.Refusal.{refusal_of}
use Rattle.sw_request.specs.Response.{is_closing, is_head, refusal_answer}
use Rattle.sw_request.specs.declared.refusal.BadInput.{BadInput}
use Rattle.sw_request.specs.declared.refusal.BadInput.TheVariants as bad
use Rattle.sw_request.specs.declared.refusal.Refusal.{Refusal}
use Rattle.sw_serve.specs.Asks.{Asked, BeginsWith, IsAsked, IsNoBody, IsNoHead, Refused, Whole}

module _ (more : List ℕ) where
  begins_more : (bytes : List ℕ) (request : RequestHeadModel) (how : Framing) (waits : Bool) (rest : List ℕ) → BeginsWith bytes request how waits rest → BeginsWith (bytes ++ more) request how waits (rest ++ more)
  begins_more bytes request how waits rest begins = record {
    reads = head_more bytes more rest None None (head.Head request) tt begins.reads;
    no_defect = begins.no_defect;
    framing_is = begins.framing_is;
    waits_is = begins.waits_is;
  }

  no_head_more : (bytes : List ℕ) (why : BadInput) (unused : List ℕ) → IsNoHead bytes why unused → IsNoHead (bytes ++ more) why (unused ++ more)
  no_head_more bytes bad.BadHead unused is = head_more bytes more unused None None head.BadHead tt is
  no_head_more bytes bad.HeadTooLarge unused is = head_more bytes more unused None None head.HeadTooLarge tt is
  no_head_more bytes bad.BadChunk unused is = absurd is
  no_head_more bytes bad.TooLarge unused is = absurd is

  no_body_more : (how : Framing) (bytes : List ℕ) (why : BadInput) (unused : List ℕ) → IsNoBody how bytes why unused → IsNoBody how (bytes ++ more) why (unused ++ more)
  no_body_more how bytes bad.BadChunk unused is = body_more how bytes more unused body.BadChunk is
  no_body_more how bytes bad.TooLarge unused is = body_more how bytes more unused body.TooLarge is
  no_body_more how bytes bad.BadHead unused is = absurd is
  no_body_more how bytes bad.HeadTooLarge unused is = absurd is

  pub asked_more : (bytes : List ℕ) (asked : Asked) (waits : Bool) (unused : List ℕ) → IsAsked bytes asked waits unused → IsAsked (bytes ++ more) asked waits (unused ++ more)
  asked_more bytes (Whole request) waits unused asked = (
    asked.0,
    asked.1 ++ more,
    begins_more bytes request.head asked.0 waits asked.1 asked.2,
    body_more asked.0 asked.1 more unused (body.Body request.body) asked.3,
  )
  asked_more bytes (Refused answer) waits unused (inl (none, inl refused)) = inl (none, inl (refused.0, no_head_more bytes refused.0 unused refused.1, refused.2))
  asked_more bytes (Refused answer) waits unused (inl (none, inr refused)) = inl (
    none,
    inr (
      refused.0,
      record {
        reads = head_more bytes more unused None None (head.Head refused.0) tt refused.1.reads;
        why = refused.1.why;
        defect = refused.1.defect;
        answer_is = refused.1.answer_is;
      },
    ),
  )
  asked_more bytes (Refused answer) waits unused (inr refused) = inr (
    refused.0,
    refused.1,
    refused.2 ++ more,
    begins_more bytes refused.0 refused.1 waits refused.2 refused.3,
    refused.4,
    no_body_more refused.1 refused.2 refused.4 unused refused.5,
    refused.6,
  )

-- ---- what is refused closes the connection

always : (closing : Bool) → (if closing then true else true) ≡ true
always true = refl
always false = refl

closes_refused : (to_head : Bool) (why : Refusal) (answer : AnswerModel) → answer ≡ refusal_answer to_head true why → answer.close ≡ true
closes_refused to_head why answer is = ap (λ (a : AnswerModel). a.close) is ∙ always (is_closing why)

pub refused_closes : (bytes : List ℕ) (answer : AnswerModel) (waits : Bool) (unused : List ℕ) → IsAsked bytes (Refused answer) waits unused → answer.close ≡ true
refused_closes bytes answer waits unused (inl (none, inl refused)) = closes_refused false (refusal_of refused.0) answer refused.2
refused_closes bytes answer waits unused (inl (none, inr refused)) = closes_refused (is_head refused.0) refused.1.why answer refused.1.answer_is
refused_closes bytes answer waits unused (inr refused) = closes_refused (is_head refused.0) (refusal_of refused.4) answer refused.6
