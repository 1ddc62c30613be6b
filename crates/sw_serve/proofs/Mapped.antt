-- A connection that was served by answers of one kind was served by those of another, where each of the first is one of the second for a link as it
-- stood then.
use Rattle.std.proofs.Common.{inl, inr, ⊎_elim, ℕ, ◌+◌, List, [], ◌∷◌, length, Option, sym, subst}
use Rattle.std.specs.Prelude.{Result, Ok}
use Rattle.sw_types.specs.declared.memory.NoMemory.{NoMemory as Refusal}
use Rattle.sw_httpwrite.specs.Answer.{AnswerModel}
use Rattle.sw_request.specs.Body.{RequestModel}
use Rattle.sw_serve.specs.Asks.{Asked, Refused, Whole}
use Rattle.sw_serve.specs.Serving.{Answering, AreServed, Exchange, IsCutOff, IsEnd, Replies, Serves, Wants}
use Rattle.sw_serve.specs.declared.end.ConnEnd.{ConnEnd}
use Rattle.sw_serve.specs.declared.end.ConnEnd.TheVariants as end

module _ {L : Type 0} (one other : Answering L) (Stands : L → Type 0)
    (each : (request : RequestModel) (before : L) (result : Result AnswerModel Refusal) (after : L) → Stands before → one request before result after → other request before result after × Stands after) where
  replies : (number : ℕ) (asked : Asked) (before : L) (answer : AnswerModel) (after : L) → Stands before → Replies one number asked before answer after → Replies other number asked before answer after × Stands after
  replies number (Whole request) before answer after stands (given, answers, closing) = let is = each request before (Ok given) after stands answers in ((given, is.0, closing), is.1)
  replies number (Refused given) before answer after stands (is, same) = ((is, same), subst Stands (sym same) stands)

  served : (bytes : List ℕ) (exchanges : List Exchange) (before after : L) (rest : List ℕ) → Stands before → AreServed one bytes exchanges before after rest → AreServed other bytes exchanges before after rest × Stands after
  served bytes [] before after rest stands (same, none) = ((same, none), subst Stands (sym same) stands)
  served bytes (exchange ∷ earlier) before after rest stands (between, unused, were, go, asked, answered) =
      let first = served bytes earlier before between unused stands were in
      let last = replies (length earlier + 1) exchange.asked between exchange.answer after first.1 answered in
      ((between, unused, first.0, go, asked, last.0), last.1)

  wants : (bytes : List ℕ) (waits : _) (before after : L) → Stands before → Wants one bytes waits before after → Wants other bytes waits before after
  wants bytes waits before after stands = ⊎_elim inl (λ went. let (request, unused, asked, result, answers) = went in inr (request, unused, asked, result, (each request before result after stands answers).0))

  cut_off : (bytes : List ℕ) (number : ℕ) (before after : L) (written : List ℕ) → Stands before → IsCutOff one bytes number before after written → IsCutOff other bytes number before after written
  cut_off bytes number before after written stands = ⊎_elim inl
      (λ cut. let (exchange, unused, asked, answered, front, proper, is) = cut in inr (exchange, unused, asked, (replies number exchange.asked before exchange.answer after stands answered).0, front, proper, is))

  ends : (result : ConnEnd) (bytes : List ℕ) (left : Option (List ℕ)) (exchanges : List Exchange) (before after : L) (faults faults' : ℕ) (written : List ℕ) → Stands before
      → IsEnd one result bytes left exchanges before after faults faults' written → IsEnd other result bytes left exchanges before after faults faults' written
  ends end.Closed bytes left [] before after faults faults' written stands is = is
  ends end.Closed bytes left (last ∷ earlier) before after faults faults' written stands is = is
  ends end.Cut bytes left exchanges before after faults faults' written stands is = is
  ends end.ReadFault bytes left exchanges before after faults faults' written stands is = is
  ends end.WriteFault bytes left exchanges before after faults faults' written stands (go, cut) = (go, cut_off bytes (length exchanges + 1) before after written stands cut)
  ends end.NoMemory bytes left exchanges before after faults faults' written stands (go, wanting) = (
    go,
    record {
      waits = wanting.waits;
      due = wanting.due;
      wants = wants bytes wanting.waits before after stands wanting.wants;
      to_head = wanting.to_head;
      is_to_head = wanting.is_to_head;
      front = wanting.front;
      is_front = wanting.is_front;
      written_is = wanting.written_is;
    },
  )

  pub serves_so : (left left' written written' : Option (List ℕ)) (faults faults' : ℕ) (before : L) (result : ConnEnd) (after : L) → Stands before
      → Serves one left left' written written' faults faults' before result after → Serves other left left' written written' faults faults' before result after
  serves_so left left' written written' faults faults' before result after stands is =
      let so = served is.got is.exchanges before is.between is.rest stands is.served in
      record {
        got = is.got;
        consumed = is.consumed;
        exchanges = is.exchanges;
        few = is.few;
        rest = is.rest;
        between = is.between;
        served = so.0;
        behind = is.behind;
        ends = ends result is.rest left' is.exchanges is.between after faults faults' is.behind so.1 is.ends;
        writes = is.writes;
      }
