-- Bytes begin with one thing that is asked.
use Rattle.std.proofs.Common.{◌≡◌, Bool, true, false, List, ℕ, Option, Some, None, inl, inr, refl, sym, ap, subst, ◌∙◌}
use Rattle.sw_httpread.specs.Bodies.{Decides, LeavesOpen}
use Rattle.sw_httpread.specs.Ends.{IsUnended}
use Rattle.sw_httpread.specs.Heads.{IsHeadNext}
use Rattle.sw_httpread.specs.Lines.{IsWholeHead}
use Rattle.sw_httpread.specs.Request.{RequestHeadModel}
use Rattle.sw_httpread.specs.declared.body.BodyNext.TheVariants as body
use Rattle.sw_httpread.specs.declared.body.Framing.{Framing}
use Rattle.sw_httpread.specs.declared.head.HeadNext.TheVariants as head
use Rattle.sw_httpread.proofs.BodyLaws.{body_one, body_undecided}
use Rattle.sw_httpread.proofs.HeadLaws.{head_one, head_open}
use Rattle.sw_httpwrite.specs.Answer.{AnswerModel}
use Rattle.sw_request.specs.Body.{RequestModel}
use Rattle.sw_request.specs.Framing.{framing_of, is_waiting}
use Rattle.sw_request.specs.Refusal.{head_refusal, refusal_of}
use Rattle.sw_request.specs.Response.{is_head, refusal_answer}
use Rattle.sw_request.specs.declared.refusal.BadInput.{BadInput}
use Rattle.sw_request.specs.declared.refusal.BadInput.TheVariants as bad
use Rattle.sw_request.specs.declared.refusal.Refusal.{Refusal}
use Rattle.sw_serve.specs.Asks.{Asked, BeginsWith, IsAsked, IsNoBody, IsNoHead, Refused, RefusesHeadOf, Whole}
use Rattle.sw_serve.specs.Serving.{IsOpen}

-- what two readings of the same bytes have in common
abbrev AreAlike : (asked other : Asked) → (waits waits' : Bool) → (x y : List ℕ) → Type 0
AreAlike asked other waits waits' x y = (asked ≡ other) × (waits ≡ waits') × (x ≡ y)

module _ (bytes : List ℕ) where
  -- ---- heads

  one_head : (h k : RequestHeadModel) (x y : List ℕ) → IsHeadNext bytes None (head.Head h) x → IsHeadNext bytes None (head.Head k) y → (h ≡ k) × (x ≡ y)
  one_head h k x y n m =
      let one = head_one bytes x y None None (head.Head h) (head.Head k) tt tt n m in
      let same : h ≡ k = let heads = one.0 in cc in
      (same, one.1)

  record SameBeginning (h k : RequestHeadModel) (how how' : Framing) (waits waits' : Bool) (x y : List ℕ) : Type 0 where
    head_is : h ≡ k
    how_is : how ≡ how'
    waits_is : waits ≡ waits'
    rest_is : x ≡ y

  same_beginning : (h k : RequestHeadModel) (how how' : Framing) (waits waits' : Bool) (x y : List ℕ) → BeginsWith bytes h how waits x → BeginsWith bytes k how' waits' y → SameBeginning h k how how' waits waits' x y
  same_beginning h k how how' waits waits' x y a b =
      let one = one_head h k x y a.reads b.reads in
      let framings : Some how ≡ Some how' = sym a.framing_is ∙ ap framing_of one.0 ∙ b.framing_is in
      let same : how ≡ how' = cc in
      record {
        head_is = one.0;
        how_is = same;
        waits_is = a.waits_is ∙ ap (λ (r : RequestHeadModel). is_waiting r how) one.0 ∙ ap (is_waiting k) same ∙ sym b.waits_is;
        rest_is = one.1;
      }

  -- a head without a defect is no head with one
  not_refused : (h k : RequestHeadModel) (how : Framing) (waits : Bool) (answer : AnswerModel) (x y : List ℕ) → BeginsWith bytes h how waits x → RefusesHeadOf bytes k answer y → ⊥
  not_refused h k how waits answer x y a b =
      let one = one_head h k x y a.reads b.reads in
      let none : None ≡ Some b.why = sym a.no_defect ∙ ap head_refusal one.0 ∙ b.defect in
      absurd (cc)

  -- a head is no bad one
  not_bad : (h : RequestHeadModel) (why : BadInput) (x y : List ℕ) → IsHeadNext bytes None (head.Head h) x → IsNoHead bytes why y → ⊥
  not_bad h bad.BadHead x y n m = let one = (head_one bytes x y None None (head.Head h) head.BadHead tt tt n m).0 in absurd (cc)
  not_bad h bad.HeadTooLarge x y n m = let one = (head_one bytes x y None None (head.Head h) head.HeadTooLarge tt tt n m).0 in absurd (cc)
  not_bad h bad.BadChunk x y n m = absurd m
  not_bad h bad.TooLarge x y n m = absurd m

  one_bad : (why other : BadInput) (x y : List ℕ) → IsNoHead bytes why x → IsNoHead bytes other y → (why ≡ other) × (x ≡ y)
  one_bad bad.BadHead bad.BadHead x y n m = (refl, (head_one bytes x y None None head.BadHead head.BadHead tt tt n m).1)
  one_bad bad.HeadTooLarge bad.HeadTooLarge x y n m = (refl, (head_one bytes x y None None head.HeadTooLarge head.HeadTooLarge tt tt n m).1)
  one_bad bad.BadHead bad.HeadTooLarge x y n m = let one = (head_one bytes x y None None head.BadHead head.HeadTooLarge tt tt n m).0 in absurd (cc)
  one_bad bad.HeadTooLarge bad.BadHead x y n m = let one = (head_one bytes x y None None head.HeadTooLarge head.BadHead tt tt n m).0 in absurd (cc)
  one_bad bad.BadChunk other x y n m = absurd n
  one_bad bad.TooLarge other x y n m = absurd n
  one_bad bad.BadHead bad.BadChunk x y n m = absurd m
  one_bad bad.BadHead bad.TooLarge x y n m = absurd m
  one_bad bad.HeadTooLarge bad.BadChunk x y n m = absurd m
  one_bad bad.HeadTooLarge bad.TooLarge x y n m = absurd m

-- ---- bodies

one_body : (how : Framing) (bytes content other : List ℕ) (x y : List ℕ) → Decides how bytes (body.Body content) x → Decides how bytes (body.Body other) y → (content ≡ other) × (x ≡ y)
one_body how bytes content other x y n m =
    let one = body_one how bytes x y None None (body.Body content) (body.Body other) tt tt n m in
    let same : content ≡ other = let bodies = one.0 in cc in
    (same, one.1)

not_none : (how : Framing) (bytes content : List ℕ) (why : BadInput) (x y : List ℕ) → Decides how bytes (body.Body content) x → IsNoBody how bytes why y → ⊥
not_none how bytes content bad.BadChunk x y n m = let one = (body_one how bytes x y None None (body.Body content) body.BadChunk tt tt n m).0 in absurd (cc)
not_none how bytes content bad.TooLarge x y n m = let one = (body_one how bytes x y None None (body.Body content) body.TooLarge tt tt n m).0 in absurd (cc)
not_none how bytes content bad.BadHead x y n m = absurd m
not_none how bytes content bad.HeadTooLarge x y n m = absurd m

one_none : (how : Framing) (bytes : List ℕ) (why other : BadInput) (x y : List ℕ) → IsNoBody how bytes why x → IsNoBody how bytes other y → (why ≡ other) × (x ≡ y)
one_none how bytes bad.BadChunk bad.BadChunk x y n m = (refl, (body_one how bytes x y None None body.BadChunk body.BadChunk tt tt n m).1)
one_none how bytes bad.TooLarge bad.TooLarge x y n m = (refl, (body_one how bytes x y None None body.TooLarge body.TooLarge tt tt n m).1)
one_none how bytes bad.BadChunk bad.TooLarge x y n m = let one = (body_one how bytes x y None None body.BadChunk body.TooLarge tt tt n m).0 in absurd (cc)
one_none how bytes bad.TooLarge bad.BadChunk x y n m = let one = (body_one how bytes x y None None body.TooLarge body.BadChunk tt tt n m).0 in absurd (cc)
one_none how bytes bad.BadHead other x y n m = absurd n
one_none how bytes bad.HeadTooLarge other x y n m = absurd n
one_none how bytes bad.BadChunk bad.BadHead x y n m = absurd m
one_none how bytes bad.BadChunk bad.HeadTooLarge x y n m = absurd m
one_none how bytes bad.TooLarge bad.BadHead x y n m = absurd m
one_none how bytes bad.TooLarge bad.HeadTooLarge x y n m = absurd m

-- ---- what is asked

module _ (bytes x y : List ℕ) (waits waits' : Bool) where
  whole_whole : (h k : RequestModel) → IsAsked bytes (Whole h) waits x → IsAsked bytes (Whole k) waits' y → AreAlike (Whole h) (Whole k) waits waits' x y
  whole_whole h k a b =
      let same = same_beginning bytes h.head k.head a.0 b.0 waits waits' a.1 b.1 a.2 b.2 in
      let there = subst (λ (f : Framing). Decides f b.1 (body.Body k.body) y) (sym same.how_is) b.3 in
      let read = one_body a.0 a.1 h.body k.body x y a.3 (subst (λ (l : List ℕ). Decides a.0 l (body.Body k.body) y) (sym same.rest_is) there) in
      (ap (λ (r : RequestHeadModel). Whole (record { head = r; body = h.body })) same.head_is ∙ ap (λ (l : List ℕ). Whole (record { head = k.head; body = l })) read.0, same.waits_is, read.1)

  whole_refused : (h : RequestModel) (answer : AnswerModel) → IsAsked bytes (Whole h) waits x → IsAsked bytes (Refused answer) waits' y → ⊥
  whole_refused h answer a (inl (none, inl refused)) = not_bad bytes h.head refused.0 a.1 y a.2.reads refused.1
  whole_refused h answer a (inl (none, inr refused)) = not_refused bytes h.head refused.0 a.0 waits answer a.1 y a.2 refused.1
  whole_refused h answer a (inr refused) =
      let same = same_beginning bytes h.head refused.0 a.0 refused.1 waits waits' a.1 refused.2 a.2 refused.3 in
      let there = subst (λ (f : Framing). IsNoBody f refused.2 refused.4 y) (sym same.how_is) refused.5 in
      not_none a.0 a.1 h.body refused.4 x y a.3 (subst (λ (l : List ℕ). IsNoBody a.0 l refused.4 y) (sym same.rest_is) there)

  refused_refused : (answer other : AnswerModel) → IsAsked bytes (Refused answer) waits x → IsAsked bytes (Refused other) waits' y → AreAlike (Refused answer) (Refused other) waits waits' x y
  refused_refused answer other (inl (none, inl a)) (inl (none', inl b)) =
      let one = one_bad bytes a.0 b.0 x y a.1 b.1 in
      (ap Refused (a.2 ∙ ap (λ (why : BadInput). refusal_answer false true (refusal_of why)) one.0 ∙ sym b.2), none ∙ sym none', one.1)
  refused_refused answer other (inl (none, inl a)) (inl (none', inr b)) = absurd (not_bad bytes b.0 a.0 y x b.1.reads a.1)
  refused_refused answer other (inl (none, inl a)) (inr b) = absurd (not_bad bytes b.0 a.0 b.2 x b.3.reads a.1)
  refused_refused answer other (inl (none, inr a)) (inl (none', inl b)) = absurd (not_bad bytes a.0 b.0 x y a.1.reads b.1)
  refused_refused answer other (inl (none, inr a)) (inl (none', inr b)) =
      let one = one_head bytes a.0 b.0 x y a.1.reads b.1.reads in
      let defects : Some a.1.why ≡ Some b.1.why = sym a.1.defect ∙ ap head_refusal one.0 ∙ b.1.defect in
      let same : a.1.why ≡ b.1.why = cc in
      (ap Refused (a.1.answer_is ∙ ap (λ (r : RequestHeadModel). refusal_answer (is_head r) true a.1.why) one.0 ∙ ap (λ (why : Refusal). refusal_answer (is_head b.0) true why) same ∙ sym b.1.answer_is), none ∙ sym none', one.1)
  refused_refused answer other (inl (none, inr a)) (inr b) = absurd (not_refused bytes b.0 a.0 b.1 waits' answer b.2 x b.3 a.1)
  refused_refused answer other (inr a) (inl (none', inl b)) = absurd (not_bad bytes a.0 b.0 a.2 y a.3.reads b.1)
  refused_refused answer other (inr a) (inl (none', inr b)) = absurd (not_refused bytes a.0 b.0 a.1 waits other a.2 y a.3 b.1)
  refused_refused answer other (inr a) (inr b) =
      let same = same_beginning bytes a.0 b.0 a.1 b.1 waits waits' a.2 b.2 a.3 b.3 in
      let there = subst (λ (f : Framing). IsNoBody f b.2 b.4 y) (sym same.how_is) b.5 in
      let one = one_none a.1 a.2 a.4 b.4 x y a.5 (subst (λ (l : List ℕ). IsNoBody a.1 l b.4 y) (sym same.rest_is) there) in
      (ap Refused (a.6 ∙ ap (λ (r : RequestHeadModel). refusal_answer (is_head r) true (refusal_of a.4)) same.head_is ∙ ap (λ (why : BadInput). refusal_answer (is_head b.0) true (refusal_of why)) one.0 ∙ sym b.6), same.waits_is, one.1)

pub asked_one : (bytes x y : List ℕ) (asked other : Asked) (waits waits' : Bool) → IsAsked bytes asked waits x → IsAsked bytes other waits' y → (asked ≡ other) × (waits ≡ waits') × (x ≡ y)
asked_one bytes x y (Whole h) (Whole k) waits waits' a b = whole_whole bytes x y waits waits' h k a b
asked_one bytes x y (Whole h) (Refused answer) waits waits' a b = absurd (whole_refused bytes x y waits waits' h answer a b)
asked_one bytes x y (Refused answer) (Whole k) waits waits' a b = absurd (whole_refused bytes y x waits' waits k answer b a)
asked_one bytes x y (Refused answer) (Refused other) waits waits' a b = refused_refused bytes x y waits waits' answer other a b

-- ---- bytes of no whole request

-- no head has come whole
no_head_yet : (bytes unused : List ℕ) (asked : Asked) (waits : Bool) → IsUnended IsWholeHead bytes → IsAsked bytes asked waits unused → ⊥
no_head_yet bytes unused (Whole request) waits undecided is = head_open bytes is.1 None (head.Head request.head) undecided tt is.2.reads
no_head_yet bytes unused (Refused answer) waits undecided (inl (none, inr refused)) = head_open bytes unused None (head.Head refused.0) undecided tt refused.1.reads
no_head_yet bytes unused (Refused answer) waits undecided (inr refused) = head_open bytes refused.2 None (head.Head refused.0) undecided tt refused.3.reads
no_head_yet bytes unused (Refused answer) waits undecided (inl (none, inl (bad.BadHead, is, same))) = head_open bytes unused None head.BadHead undecided tt is
no_head_yet bytes unused (Refused answer) waits undecided (inl (none, inl (bad.HeadTooLarge, is, same))) = head_open bytes unused None head.HeadTooLarge undecided tt is
no_head_yet bytes unused (Refused answer) waits undecided (inl (none, inl (bad.BadChunk, is, same))) = absurd is
no_head_yet bytes unused (Refused answer) waits undecided (inl (none, inl (bad.TooLarge, is, same))) = absurd is

no_body_yet : (how : Framing) (bytes rest unused : List ℕ) (why : BadInput) → LeavesOpen how bytes rest → IsNoBody how bytes why unused → ⊥
no_body_yet how bytes rest unused bad.BadChunk undecided is = body_undecided how bytes rest unused body.BadChunk undecided is
no_body_yet how bytes rest unused bad.TooLarge undecided is = body_undecided how bytes rest unused body.TooLarge undecided is
no_body_yet how bytes rest unused bad.BadHead undecided is = absurd is
no_body_yet how bytes rest unused bad.HeadTooLarge undecided is = absurd is

-- a head without a defect has, and no whole body behind it
module _ (bytes unused : List ℕ) (h : RequestHeadModel) (how : Framing) (waits' : Bool) (middle rest : List ℕ) (begins : BeginsWith bytes h how waits' middle) (undecided : LeavesOpen how middle rest) where
  not_whole : (asked : Asked) (waits : Bool) → IsAsked bytes asked waits unused → ⊥
  not_whole (Whole request) waits is =
      let same = same_beginning bytes h request.head how is.0 waits' waits middle is.1 begins is.2 in
      let there = subst (λ (f : Framing). Decides f is.1 (body.Body request.body) unused) (sym same.how_is) is.3 in
      body_undecided how middle rest unused (body.Body request.body) undecided (subst (λ (l : List ℕ). Decides how l (body.Body request.body) unused) (sym same.rest_is) there)
  not_whole (Refused answer) waits (inl (none, inl refused)) = not_bad bytes h refused.0 middle unused begins.reads refused.1
  not_whole (Refused answer) waits (inl (none, inr refused)) = not_refused bytes h refused.0 how waits' answer middle unused begins refused.1
  not_whole (Refused answer) waits (inr refused) =
      let same = same_beginning bytes h refused.0 how refused.1 waits' waits middle refused.2 begins refused.3 in
      let there = subst (λ (f : Framing). IsNoBody f refused.2 refused.4 unused) (sym same.how_is) refused.5 in
      no_body_yet how middle rest unused refused.4 undecided (subst (λ (l : List ℕ). IsNoBody how l refused.4 unused) (sym same.rest_is) there)

pub open_unasked : (bytes unused written : List ℕ) (left : Option (List ℕ)) (asked : Asked) (waits : Bool) → IsOpen bytes left head.ReadFault body.ReadFault written → IsAsked bytes asked waits unused → ⊥
open_unasked bytes unused written left asked waits (inl is) asks = no_head_yet bytes unused asked waits is.1.1 asks
open_unasked bytes unused written left asked waits (inr is) asks = not_whole bytes unused is.0 is.1 is.2 is.3 is.5 is.4 is.6 asked waits asks
