-- What comes of one turn, from the request back to its head.
use Rattle.std.proofs.Common.{◌≡◌, ℕ, Bool, true, false, List, [], ◌++◌, take, Option, None, Ok, Err, inl, inr, refl, sym, ap, subst, ◌∙◌, append_assoc}
use Rattle.std.proofs.Common.{append-nil}
use Rattle.std.specs.Io.KnownBytes.{Appends, Consumes}
use Rattle.std.proofs.KnownBytes.{Appends-nil, Appends-trans, Consumes-nil, Consumes-trans}
use Rattle.sw_io.specs.Whole.{AppendsProperFront}
use Rattle.sw_httpread.specs.Bodies.{ReadsBody}
use Rattle.sw_httpread.specs.Heads.{IsHeadNext, ReadsHead}
use Rattle.sw_httpread.specs.Request.{RequestHeadModel}
use Rattle.sw_httpread.specs.declared.body.BodyNext.{BodyNext}
use Rattle.sw_httpread.specs.declared.body.BodyNext.TheVariants as body
use Rattle.sw_httpread.specs.declared.body.Framing.{Framing}
use Rattle.sw_httpread.specs.declared.head.HeadNext.{HeadNext}
use Rattle.sw_httpread.specs.declared.head.HeadNext.TheVariants as head
use Rattle.sw_httpread.proofs.HeadLaws.{head_more}
use Rattle.sw_httpwrite.specs.Answer.{AnswerModel}
use Rattle.sw_httpwrite.specs.Response.{continue_bytes, response_bytes}
use Rattle.sw_types.specs.declared.memory.NoMemory.{NoMemory as Wanted}
use Rattle.sw_request.specs.Body.{RequestModel}
use Rattle.sw_request.specs.Refusal.{refusal_of}
use Rattle.sw_request.specs.Response.{IsVerdict, is_head, refusal_answer}
use Rattle.sw_request.specs.declared.refusal.BadInput.{BadInput}
use Rattle.sw_request.specs.declared.judging.Verdict.TheVariants.{Read, Refuse}
use Rattle.sw_response.specs.Response.{wanting_answer}
use Rattle.sw_serve.specs.Asks.{Asked, BeginsWith, IsAsked, IsNoBody, IsNoHead, Refused, Whole}
use Rattle.sw_serve.specs.Serving.{Answering, IsFront, IsOpen, IsToHead, Replies, Wants, closing_at, leave_bytes}
use Rattle.sw_serve.specs.Turns.{IsSent, IsTurn, TakesBody, TakesHead, TakesRequest, TakesTurn}
use Rattle.sw_serve.specs.declared.end.ConnEnd.TheVariants as end
use Rattle.sw_serve.specs.declared.turn.Turn.{Turn}
use Rattle.sw_serve.specs.declared.turn.Turn.TheVariants.{Answered, Over}

-- leave was given only where it was due
leave_due : (bytes : List ℕ) (asked : Asked) (waits : Bool) (unused : List ℕ) → IsAsked bytes asked waits unused → waits ≡ true
    → (request : RequestHeadModel) × (how : Framing) × (middle : List ℕ) × BeginsWith bytes request how true middle
leave_due bytes (Whole request) waits unused asked is = (request.head, asked.0, asked.1, subst (λ (b : Bool). BeginsWith bytes request.head asked.0 b asked.1) is asked.2)
leave_due bytes (Refused answer) waits unused (inl none) is = absurd (cc)
leave_due bytes (Refused answer) waits unused (inr refused) is = (refused.0, refused.1, refused.2, subst (λ (b : Bool). BeginsWith bytes refused.0 refused.1 b refused.2) is refused.3)

module _ {L : Type 0} (answers : Answering L) (number : ℕ) (before after : L) (faults faults' : ℕ) where
  wants_of : (bytes : List ℕ) (asked : Asked) (waits : Bool) (unused : List ℕ) (answer : AnswerModel) → IsAsked bytes asked waits unused → Replies answers number asked before answer after → Wants answers bytes waits before after
  wants_of bytes (Whole request) waits unused answer asked replies = inr (request, unused, asked, Ok replies.0, replies.1)
  wants_of bytes (Refused given) waits unused answer asked replies = inl replies.1

  -- what was asked was answered, and the answer was sent, or a front of it
  pub sent_turn : (bytes : List ℕ) (asked : Asked) (waits : Bool) (unused : List ℕ) (left : Option (List ℕ)) (answer : AnswerModel) (to_head : Bool) (turn : Turn) (told : List ℕ) → IsAsked bytes asked waits unused
      → Replies answers number asked before answer after → IsSent answer to_head turn faults faults' told → IsToHead answers bytes waits before after to_head → IsTurn answers number bytes left before after unused turn faults faults' (leave_bytes waits ++ told)
  sent_turn bytes asked waits unused left answer to_head (Answered closes) told is replies sent of_head = (record { asked = asked; waits = waits; answer = answer }, is, replies, sent.0, ap (λ (t : List ℕ). leave_bytes waits ++ t) sent.1)
  sent_turn bytes asked waits unused left answer to_head (Over end.WriteFault) told is replies sent of_head = inr (record { asked = asked; waits = waits; answer = answer }, unused, is, replies, told, sent, refl)
  sent_turn bytes asked waits unused left answer to_head (Over end.NoMemory) told is replies sent of_head = record {
    waits = waits;
    due = leave_due bytes asked waits unused is;
    wants = wants_of bytes asked waits unused answer is replies;
    to_head = to_head;
    is_to_head = of_head;
    front = told;
    is_front = sent;
    written_is = refl;
  }
  sent_turn bytes asked waits unused left answer to_head (Over end.Closed) told is replies sent of_head = absurd sent
  sent_turn bytes asked waits unused left answer to_head (Over end.Cut) told is replies sent of_head = absurd sent
  sent_turn bytes asked waits unused left answer to_head (Over end.ReadFault) told is replies sent of_head = absurd sent

  -- ---- a request

  pub request_sent : (request : RequestModel) (left written written' : Option (List ℕ)) (given answer : AnswerModel) (to_head : Bool) (turn : Turn) → to_head ≡ is_head request.head → answers request before (Ok given) after → answer ≡ closing_at number given
      → (told : List ℕ) × Appends written written' told × IsSent answer to_head turn faults faults' told → TakesRequest answers number request left written written' faults faults' before after turn
  request_sent request left written written' given answer to_head turn head_is answered is sent = record {
    told = sent.0;
    writes = sent.1;
    is = λ bytes waits unused asked. sent_turn bytes (Whole request) waits unused left answer to_head turn sent.0 asked (given, answered, is) sent.2 (inl (request.head, asked.1, asked.2.reads, head_is));
  }

  pub request_wants : (request : RequestModel) (left written written' : Option (List ℕ)) (refused : Wanted) (to_head : Bool) (turn : Turn) → to_head ≡ is_head request.head → answers request before (Err refused) after → turn ≡ Over end.NoMemory
      → (front : List ℕ) × Appends written written' front × IsFront faults faults' front (response_bytes (wanting_answer to_head)) → TakesRequest answers number request left written written' faults faults' before after turn
  request_wants request left written written' refused to_head turn head_is answered is told = record {
    told = told.0;
    writes = told.1;
    is = λ bytes waits unused asked. subst (λ (t : Turn). IsTurn answers number bytes left before after unused t faults faults' (leave_bytes waits ++ told.0)) (sym is) (record {
      waits = waits;
      due = leave_due bytes (Whole request) waits unused asked;
      wants = inr (request, unused, asked, Err refused, answered);
      to_head = to_head;
      is_to_head = inl (request.head, asked.1, asked.2.reads, head_is);
      front = told.0;
      is_front = told.2;
      written_is = refl;
    });
  }

  -- ---- a body

  module _ (request : RequestHeadModel) (how : Framing) (left left' : Option (List ℕ)) (unused unused' : List ℕ) where
    -- it was read
    pub body_read : (content : List ℕ) (middle written written' : Option (List ℕ)) (turn : Turn) → ReadsBody how left left' unused unused' (body.Body content) → left' ≡ middle
        → TakesRequest answers number (record { head = request; body = content }) middle written written' faults faults' before after turn → TakesBody answers number request how left middle written written' faults faults' unused unused' before after turn
    body_read content middle written written' turn reads same takes = record {
      got = reads.got;
      consumed = subst (λ (o : Option (List ℕ)). Consumes left o reads.got) same reads.consumed;
      told = takes.told;
      writes = takes.writes;
      is = λ bytes waits begins. takes.is bytes waits unused' (how, unused ++ reads.got, begins, reads.outcome);
    }

    -- it is cut, or reading failed: nothing was written
    pub body_open : (no_head : HeadNext) (no_body : BodyNext) (turn : Turn) (written : Option (List ℕ))
        → ((bytes told : List ℕ) → (after ≡ before) × IsOpen bytes left' no_head no_body told → IsTurn answers number bytes left' before after unused' turn faults faults' told)
        → ReadsBody how left left' unused unused' no_body → after ≡ before → TakesBody answers number request how left left' written written faults faults' unused unused' before after turn
    body_open no_head no_body turn written ends reads same = record {
      got = reads.got;
      consumed = reads.consumed;
      told = [];
      writes = Appends-nil written;
      is = λ bytes waits begins. ends bytes (leave_bytes waits ++ []) (same, inr (request, how, waits, unused ++ reads.got, begins, unused', reads.outcome, append-nil (leave_bytes waits)));
    }

    -- it is none
    pub body_refused : (no_body : BodyNext) (why : BadInput) (to_head : Bool) (turn : Turn) (middle written written' : Option (List ℕ)) (reads : ReadsBody how left left' unused unused' no_body) → IsNoBody how (unused ++ reads.got) why unused'
        → to_head ≡ is_head request → left' ≡ middle → after ≡ before → (told : List ℕ) × Appends written written' told × IsSent (refusal_answer to_head true (refusal_of why)) to_head turn faults faults' told
        → TakesBody answers number request how left middle written written' faults faults' unused unused' before after turn
    body_refused no_body why to_head turn middle written written' reads none head_is kept same sent =
        let answer = refusal_answer to_head true (refusal_of why) in
        record {
          got = reads.got;
          consumed = subst (λ (o : Option (List ℕ)). Consumes left o reads.got) kept reads.consumed;
          told = sent.0;
          writes = sent.1;
          is = λ bytes waits begins.
              sent_turn bytes (Refused answer) waits unused' middle answer to_head turn sent.0
              (inr (request, how, unused ++ reads.got, begins, why, none, ap (λ (b : Bool). refusal_answer b true (refusal_of why)) head_is)) (refl, same) sent.2
              (inl (request, unused ++ reads.got, begins.reads, head_is));
        }

    -- memory was wanted
    pub body_wants : (no_body : BodyNext) (to_head : Bool) (turn : Turn) (middle written written' : Option (List ℕ)) → ReadsBody how left left' unused unused' no_body → to_head ≡ is_head request → left' ≡ middle → after ≡ before → turn ≡ Over end.NoMemory
        → (front : List ℕ) × Appends written written' front × IsFront faults faults' front (response_bytes (wanting_answer to_head)) → TakesBody answers number request how left middle written written' faults faults' unused unused' before after turn
    body_wants no_body to_head turn middle written written' reads head_is kept same is told = record {
      got = reads.got;
      consumed = subst (λ (o : Option (List ℕ)). Consumes left o reads.got) kept reads.consumed;
      told = told.0;
      writes = told.1;
      is = λ bytes waits begins. subst (λ (t : Turn). IsTurn answers number bytes middle before after unused' t faults faults' (leave_bytes waits ++ told.0)) (sym is) (record {
        waits = waits;
        due = λ due. (request, how, unused ++ reads.got, subst (λ (b : Bool). BeginsWith bytes request how b (unused ++ reads.got)) due begins);
        wants = inl same;
        to_head = to_head;
        is_to_head = inl (request, unused ++ reads.got, begins.reads, head_is);
        front = told.0;
        is_front = told.2;
        written_is = refl;
      });
    }

  -- ---- a head

  module _ (request : RequestHeadModel) where
    -- it has no defect, and leave was given where it was due
    pub head_goes_on : (how : Framing) (waits : Bool) (left middle left' written between written' : Option (List ℕ)) (unused unused' : List ℕ) (turn : Turn) → IsVerdict request (Read how waits) → middle ≡ left
        → Appends written between (leave_bytes waits) → TakesBody answers number request how middle left' between written' faults faults' unused unused' before after turn
        → TakesHead answers number request left left' written written' faults faults' unused unused' before after turn
    head_goes_on how waits left middle left' written between written' unused unused' turn verdict kept leave takes = record {
      got = takes.got;
      consumed = subst (λ (o : Option (List ℕ)). Consumes o left' takes.got) kept takes.consumed;
      told = leave_bytes waits ++ takes.told;
      writes = Appends-trans written between written' (leave_bytes waits) takes.told leave takes.writes;
      is = λ bytes reads. takes.is bytes waits (record { reads = reads; no_defect = verdict.0; framing_is = verdict.1; waits_is = verdict.2 });
    }

    module _ (left left' written written' : Option (List ℕ)) (unused : List ℕ) (kept : left' ≡ left) (same : after ≡ before) where
      at_end : (bytes : List ℕ) → IsHeadNext bytes None (head.Head request) (unused ++ []) → IsHeadNext bytes None (head.Head request) unused
      at_end bytes reads = subst (λ (rest : List ℕ). IsHeadNext bytes None (head.Head request) rest) (append-nil unused) reads

      nothing_got : Consumes left left' []
      nothing_got = subst (λ (o : Option (List ℕ)). Consumes left o []) (sym kept) (Consumes-nil left)

      -- it has a defect
      pub head_refused : (answer : AnswerModel) (to_head : Bool) (turn : Turn) → to_head ≡ is_head request → IsVerdict request (Refuse answer) → (told : List ℕ) × Appends written written' told × IsSent answer to_head turn faults faults' told
          → TakesHead answers number request left left' written written' faults faults' unused unused before after turn
      head_refused answer to_head turn head_is verdict sent = record {
        got = [];
        consumed = nothing_got;
        told = sent.0;
        writes = sent.1;
        is = λ bytes reads.
            sent_turn bytes (Refused answer) false unused left' answer to_head turn sent.0
            (inl (refl, inr (request, record { reads = at_end bytes reads; why = verdict.0; defect = verdict.1; answer_is = verdict.2 }))) (refl, same) sent.2 (inl (request, unused, at_end bytes reads, head_is));
      }

      -- leave could not be written
      pub head_cut_off : (how : Framing) (waits : Bool) → IsVerdict request (Read how waits) → waits ≡ true → AppendsProperFront written written' continue_bytes
          → TakesHead answers number request left left' written written' faults faults' unused unused before after (Over end.WriteFault)
      head_cut_off how waits verdict due part = record {
        got = [];
        consumed = nothing_got;
        told = take part.0 continue_bytes;
        writes = part.1;
        is = λ bytes reads.
            inl (request, how, unused, record { reads = at_end bytes reads; no_defect = verdict.0; framing_is = verdict.1; waits_is = sym due ∙ verdict.2 }, same, (part.0, part.2, refl));
      }

      -- memory was wanted
      pub head_wants : (to_head : Bool) (turn : Turn) → to_head ≡ is_head request → turn ≡ Over end.NoMemory → (front : List ℕ) × Appends written written' front × IsFront faults faults' front (response_bytes (wanting_answer to_head))
          → TakesHead answers number request left left' written written' faults faults' unused unused before after turn
      head_wants to_head turn head_is is told = record {
        got = [];
        consumed = nothing_got;
        told = told.0;
        writes = told.1;
        is = λ bytes reads. subst (λ (t : Turn). IsTurn answers number bytes left' before after unused t faults faults' told.0) (sym is) (record {
          waits = false;
          due = λ due. absurd (cc);
          wants = inl same;
          to_head = to_head;
          is_to_head = inl (request, unused, at_end bytes reads, head_is);
          front = told.0;
          is_front = told.2;
          written_is = refl;
        });
      }

  -- ---- what comes next

  pub turn_head : (request : RequestHeadModel) (left middle left' written written' : Option (List ℕ)) (unused carried unused' : List ℕ) (turn : Turn) → ReadsHead left middle unused carried (head.Head request)
      → TakesHead answers number request middle left' written written' faults faults' carried unused' before after turn → TakesTurn answers number left left' written written' faults faults' unused unused' before after turn
  turn_head request left middle left' written written' unused carried unused' turn reads takes =
      let more = head_more (unused ++ reads.got) takes.got carried middle None (head.Head request) tt reads.outcome in
      record {
        got = reads.got ++ takes.got;
        consumed = Consumes-trans left middle left' reads.got takes.got reads.consumed takes.consumed;
        told = takes.told;
        writes = takes.writes;
        is = takes.is (unused ++ (reads.got ++ takes.got)) (subst (λ (bytes : List ℕ). IsHeadNext bytes None (head.Head request) (carried ++ takes.got)) (append_assoc unused reads.got takes.got) more);
      }

  module _ (left left' : Option (List ℕ)) (unused unused' : List ℕ) (same : after ≡ before) where
    -- it is cut, or reading failed: nothing was written
    pub turn_open : (no_head : HeadNext) (no_body : BodyNext) (turn : Turn) (written : Option (List ℕ))
        → ((bytes told : List ℕ) → (after ≡ before) × IsOpen bytes left' no_head no_body told → IsTurn answers number bytes left' before after unused' turn faults faults' told)
        → ReadsHead left left' unused unused' no_head → TakesTurn answers number left left' written written faults faults' unused unused' before after turn
    turn_open no_head no_body turn written ends reads = record {
      got = reads.got;
      consumed = reads.consumed;
      told = [];
      writes = Appends-nil written;
      is = ends (unused ++ reads.got) [] (same, inl (unused', reads.outcome, refl));
    }

    pub turn_refused : (no_head : HeadNext) (why : BadInput) (turn : Turn) (middle written written' : Option (List ℕ)) (reads : ReadsHead left left' unused unused' no_head) → IsNoHead (unused ++ reads.got) why unused' → left' ≡ middle
        → (told : List ℕ) × Appends written written' told × IsSent (refusal_answer false true (refusal_of why)) false turn faults faults' told → TakesTurn answers number left middle written written' faults faults' unused unused' before after turn
    turn_refused no_head why turn middle written written' reads none kept sent =
        let answer = refusal_answer false true (refusal_of why) in
        record {
          got = reads.got;
          consumed = subst (λ (o : Option (List ℕ)). Consumes left o reads.got) kept reads.consumed;
          told = sent.0;
          writes = sent.1;
          is = sent_turn (unused ++ reads.got) (Refused answer) false unused' middle answer false turn sent.0 (inl (refl, inl (why, none, refl))) (refl, same) sent.2 (inr (refl, refl, same));
        }

    pub turn_wants : (no_head : HeadNext) (turn : Turn) (middle written written' : Option (List ℕ)) → ReadsHead left left' unused unused' no_head → left' ≡ middle → turn ≡ Over end.NoMemory
        → (front : List ℕ) × Appends written written' front × IsFront faults faults' front (response_bytes (wanting_answer false)) → TakesTurn answers number left middle written written' faults faults' unused unused' before after turn
    turn_wants no_head turn middle written written' reads kept is told = record {
      got = reads.got;
      consumed = subst (λ (o : Option (List ℕ)). Consumes left o reads.got) kept reads.consumed;
      told = told.0;
      writes = told.1;
      is = subst (λ (t : Turn). IsTurn answers number (unused ++ reads.got) middle before after unused' t faults faults' told.0) (sym is) (record {
        waits = false;
        due = λ due. absurd (cc);
        wants = inl same;
        to_head = false;
        is_to_head = inr (refl, refl, same);
        front = told.0;
        is_front = told.2;
        written_is = refl;
      });
    }
