use Rattle.std.proofs.Common.{◌≡◌, ◌++◌, ◌∷◌, [], ℕ, ◌+◌, suc, List, Option, drop, map, option_to_list, sym, ap, subst, ◌∙◌}
use Rattle.std.proofs.lemmas.List.{append-nil}
use Rattle.sw_sim_exchange.specs.declared.lines.SentLine.{SentLine}
use Rattle.sw_sim_exchange.specs.declared.lines.SentLine.TheVariants.{Started}
use Rattle.sw_sim_exchange.specs.Letters.{line_of, lines_from}
use Rattle.sw_sim_exchange.specs.declared.letter.Content.TheVariants.{Answer}
use Rattle.sw_sim_exchange.proofs.SentLines.{answer_line, empty_line, line_more, no_more, request_line}
use Rattle.sw_sim_exchange.proofs.sent.sent_since.Goals as goal
use Rattle.sw_sim_exchange.proofs.sent.sent_since.Goals.{in-Answer-None, in-Answer-Some+in-Some-of-2+in_ok-push-in-Answer-Some, in-Answer-Some+in_default-of-2, in-Request+in-Some-of+in_ok-push-in-Request, in-Request+in_default-of, in-Some+in_ok-push, in_default}

pub letters-init : goal.letters-init
letters-init c =
    let lines = c.match-started.lines.items in
    let same : lines ≡ map (λ (operation : ℕ). Started operation) (option_to_list c.args.started) = elim c.match-started.branch [
      | in-Some+in_ok-push w ↦
          subst (λ (started : Option ℕ). lines ≡ map (λ (operation : ℕ). Started operation) (option_to_list started)) (sym w.in-Some.is)
          (ap (λ all. all.items) w.lines-is ∙ w.in_ok-push.ensures.items ∙ ap (λ (all : List SentLine). all ++ Started w.in-Some.operation ∷ []) c.new-lines.ensures.items)
      | in_default w ↦
          subst (λ (started : Option ℕ). lines ≡ map (λ (operation : ℕ). Started operation) (option_to_list started)) (sym w.in_default.is)
          (ap (λ all. all.items) w.lines-is ∙ c.new-lines.ensures.items)
    ] in
    ap (λ (all : List SentLine). all ++ lines_from (suc c.args.from) (drop c.args.from c.args.letters.now)) same

pub letters-preserved : goal.letters-preserved
letters-preserved c =
    let lines = c.letters.lines.items in
    let more = c.match-letter.lines.items in
    let letter = c.index-letters-slot.result in
    let number = c.letters.slot + 1 in
    let same : more ≡ lines ++ option_to_list (line_of number letter) = elim c.match-letter.branch [
      | in-Request+in-Some-of+in_ok-push-in-Request w ↦
          subst (λ (line : Option SentLine). more ≡ lines ++ option_to_list line) (request_line number letter _ _ w.in-Request.is (sym w.in-Some-of.is ∙ w.of.ensures))
          (ap (λ all. all.items) w.lines-is ∙ w.in_ok-push-in-Request.ensures.items)
      | in-Request+in_default-of w ↦
          subst (λ (line : Option SentLine). more ≡ lines ++ option_to_list line) (request_line number letter _ _ w.in-Request.is (sym w.in_default-of.is ∙ w.of.ensures))
          (ap (λ all. all.items) w.lines-is ∙ sym (append-nil lines))
      | in-Answer-Some+in-Some-of-2+in_ok-push-in-Answer-Some w ↦
          subst (λ (line : Option SentLine). more ≡ lines ++ option_to_list line) (answer_line number letter _ _ (w.in-Answer-Some.is ∙ ap Answer (rw w.in-Answer-Some.is at w.in-Answer-Some.field-0-is)) (sym w.in-Some-of-2.is ∙ w.of-in-Answer-Some.ensures))
          (ap (λ all. all.items) w.lines-is ∙ w.in_ok-push-in-Answer-Some.ensures.items)
      | in-Answer-Some+in_default-of-2 w ↦
          subst (λ (line : Option SentLine). more ≡ lines ++ option_to_list line) (answer_line number letter _ _ (w.in-Answer-Some.is ∙ ap Answer (rw w.in-Answer-Some.is at w.in-Answer-Some.field-0-is)) (sym w.in_default-of-2.is ∙ w.of-in-Answer-Some.ensures))
          (ap (λ all. all.items) w.lines-is ∙ sym (append-nil lines))
      | in-Answer-None w ↦
          subst (λ (line : Option SentLine). more ≡ lines ++ option_to_list line) (empty_line number letter (w.in-Answer-None.is ∙ ap Answer (rw w.in-Answer-None.is at w.in-Answer-None.field-0-is))) (ap (λ all. all.items) w.lines-is ∙ sym (append-nil lines))
    ] in
    line_more c.args.letters.now c.letters.slot letter lines more c.letters-test.true c.index-letters-slot.is same ∙ c.letters.invariant

pub returns : goal.returns
returns c = sym (no_more c.args.letters.now c.letters.slot c.letters.lines.items c.letters-test.false) ∙ c.letters.invariant
