-- Turns, one behind the other, up to the end of a connection.
use Rattle.std.proofs.Common.{◌≡◌, ◌≤◌, ◌<◌, ◌+◌, ◌||◌, ℕ, Bool, true, false, List, [], ◌∷◌, ◌++◌, length, Option, refl, sym, ap, subst, inl, inr, ◌∙◌, append-nil, arith}
use Rattle.std.specs.Io.KnownBytes.{Appends, Consumes}
use Rattle.std.proofs.KnownBytes.{Appends-nil, Appends-trans, Consumes-nil, Consumes-trans}
use Rattle.sw_httpwrite.specs.Answer.{AnswerModel}
use Rattle.sw_serve.specs.Asks.{Asked, IsAsked, Refused, Whole}
use Rattle.sw_serve.specs.Serving.{Answering, AreServed, Exchange, GoOn, IsCutOff, IsEnd, Replies, Serves, closing_at, exchange_bytes, greatest_answers, written_of}
use Rattle.sw_serve.specs.Turns.{IsTurn, TakesTurn}
use Rattle.sw_serve.specs.declared.end.ConnEnd.{ConnEnd}
use Rattle.sw_serve.specs.declared.end.ConnEnd.TheVariants as end
use Rattle.sw_serve.specs.declared.turn.Turn.TheVariants.{Answered, Over}
use Rattle.sw_serve.proofs.Asks.{asked_more, refused_closes}

either_true : (b : Bool) → (b || true) ≡ true
either_true true = refl
either_true false = refl

module _ {L : Type 0} (answers : Answering L) where
  served_more : (more bytes : List ℕ) (exchanges : List Exchange) (before after : L) (rest : List ℕ) → AreServed answers bytes exchanges before after rest → AreServed answers (bytes ++ more) exchanges before after (rest ++ more)
  served_more more bytes [] before after rest served = (served.0, ap (λ (b : List ℕ). b ++ more) served.1)
  served_more more bytes (one ∷ earlier) before after rest served = (
    served.0,
    served.1 ++ more,
    served_more more bytes earlier before served.0 served.1 served.2,
    served.3,
    asked_more more served.1 one.asked one.waits rest served.4,
    served.5,
  )

  -- so many turns were taken, and the connection goes on
  pub record HasServed (count : ℕ) (left left' written written' : Option (List ℕ)) (unused : List ℕ) (before after : L) : Type 0 where
    pub got : List ℕ
    pub consumed : Consumes left left' got
    pub exchanges : List Exchange
    pub counted : length exchanges ≡ count
    pub served : AreServed answers got exchanges before after unused
    pub go_on : GoOn exchanges
    pub writes : Appends written written' (written_of exchanges)

  pub none_served : (left written : Option (List ℕ)) (link : L) → HasServed 0 left left written written [] link link
  none_served left written link = record {
    got = [];
    consumed = Consumes-nil left;
    exchanges = [];
    counted = refl;
    served = (refl, refl);
    go_on = tt;
    writes = Appends-nil written;
  }

  -- the last answer of a connection closes it
  closes_last : (number : ℕ) (bytes : List ℕ) (asked : Asked) (waits : Bool) (unused : List ℕ) (before after : L) (answer : AnswerModel) → number ≡ greatest_answers → IsAsked bytes asked waits unused
      → Replies answers number asked before answer after → answer.close ≡ true
  closes_last number bytes (Whole request) waits unused before after answer last is replies =
      ap (λ (a : AnswerModel). a.close) (replies.2 ∙ ap (λ (n : ℕ). closing_at n replies.0) last) ∙ either_true replies.0.close
  closes_last number bytes (Refused given) waits unused before after answer last is replies = ap (λ (a : AnswerModel). a.close) replies.0 ∙ refused_closes bytes given waits unused is

  closed_and_open : (a : Bool) → a ≡ true → a ≡ false → ⊥
  closed_and_open a first second = absurd (cc)

  never_behind : (got : List ℕ) (exchanges : List Exchange) (before after : L) (unused : List ℕ) → length exchanges ≡ greatest_answers → AreServed answers got exchanges before after unused → GoOn exchanges → ⊥
  never_behind got [] before after unused counted served go = absurd (omega (arith, counted))
  never_behind got (one ∷ earlier) before after unused counted served go =
      closed_and_open one.answer.close (closes_last (length earlier + 1) served.1 one.asked one.waits unused served.0 after one.answer (omega (arith, counted)) served.4 served.5) go

  -- it does not go on behind the last
  pub none_left : (count : ℕ) (left left' written written' : Option (List ℕ)) (unused : List ℕ) (before after : L) → greatest_answers ≤ count → count ≤ greatest_answers → HasServed count left left' written written' unused before after → ⊥
  none_left count left left' written written' unused before after least most h = never_behind h.got h.exchanges before after unused (omega (arith, h.counted, least, most)) h.served h.go_on

  module _ (count : ℕ) (left middle left' written between written' : Option (List ℕ)) (faults faults' : ℕ) (unused unused' : List ℕ) (before link after : L) (h : HasServed count left middle written between unused before link) where
    -- what was asked next was answered
    module _ (closes : Bool) (t : TakesTurn answers (count + 1) middle left' between written' faults faults' unused unused' link after (Answered closes)) where
      abbrev next : Exchange
      next = t.is.0

      number_is : count + 1 ≡ length h.exchanges + 1
      number_is = ap (λ (n : ℕ). n + 1) (sym h.counted)

      served_next : AreServed answers (h.got ++ t.got) (next ∷ h.exchanges) before after unused'
      served_next = (
        link,
        unused ++ t.got,
        served_more t.got h.got h.exchanges before link unused h.served,
        h.go_on,
        t.is.1,
        subst (λ (n : ℕ). Replies answers n next.asked link next.answer after) number_is t.is.2,
      )

      consumed_next : Consumes left left' (h.got ++ t.got)
      consumed_next = Consumes-trans left middle left' h.got t.got h.consumed t.consumed

      written_next : Appends written written' (written_of (next ∷ h.exchanges))
      written_next = Appends-trans written between written' (written_of h.exchanges) (exchange_bytes next) h.writes (subst (Appends between written') t.is.4 t.writes)

      pub goes_on : closes ≡ false → HasServed (count + 1) left left' written written' unused' before after
      goes_on is = record {
        got = h.got ++ t.got;
        consumed = consumed_next;
        exchanges = next ∷ h.exchanges;
        counted = omega (arith, h.counted);
        served = served_next;
        go_on = sym t.is.3 ∙ is;
        writes = written_next;
      }

      pub closed : closes ≡ true → count < greatest_answers → Serves answers left left' written written' faults faults' before end.Closed after
      closed is few = record {
        got = h.got ++ t.got;
        consumed = consumed_next;
        exchanges = next ∷ h.exchanges;
        few = omega (arith, few, h.counted);
        rest = unused';
        between = after;
        served = served_next;
        behind = [];
        ends = (refl, refl, inl (sym t.is.3 ∙ is));
        writes = subst (Appends written written') (sym (append-nil (written_of (next ∷ h.exchanges)))) written_next;
      }

    -- it ended
    ends_so : (result : ConnEnd) (bytes told : List ℕ) (exchanges : List Exchange) → GoOn exchanges → length exchanges ≡ count → IsTurn answers (count + 1) bytes left' link after unused' (Over result) faults faults' told → IsEnd answers result bytes left' exchanges link after faults faults' told
    ends_so end.Closed bytes told [] go counted is = is
    ends_so end.Closed bytes told (last ∷ earlier) go counted is = (is.0, is.1, inr (go, is.2, is.3))
    ends_so end.Cut bytes told exchanges go counted is = (go, is.0, is.1)
    ends_so end.ReadFault bytes told exchanges go counted is = (go, is.0, is.1)
    ends_so end.WriteFault bytes told exchanges go counted is = (go, subst (λ (n : ℕ). IsCutOff answers bytes (n + 1) link after told) (sym counted) is)
    ends_so end.NoMemory bytes told exchanges go counted is = (go, is)

    pub over : (result : ConnEnd) → TakesTurn answers (count + 1) middle left' between written' faults faults' unused unused' link after (Over result) → count < greatest_answers → Serves answers left left' written written' faults faults' before result after
    over result t few = record {
      got = h.got ++ t.got;
      consumed = Consumes-trans left middle left' h.got t.got h.consumed t.consumed;
      exchanges = h.exchanges;
      few = omega (arith, few, h.counted);
      rest = unused ++ t.got;
      between = link;
      served = served_more t.got h.got h.exchanges before link unused h.served;
      behind = t.told;
      ends = ends_so result (unused ++ t.got) t.told h.exchanges h.go_on h.counted t.is;
      writes = Appends-trans written between written' (written_of h.exchanges) t.told h.writes t.writes;
    }
