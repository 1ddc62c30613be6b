-- The lines of letters from a slot on: those of the first of them, and then of the rest.
use Rattle.std.proofs.Common.{◌≡◌, ℕ, suc, ◌+◌, ◌<◌, ◌≤◌, List, ◌∷◌, ◌++◌, length, drop, get_or, Option, Some, None, option_map, option_to_list, sym, ap, ◌∙◌, arith}
use Rattle.std.proofs.lemmas.List.{append-nil, append_assoc, drop_all, drop_more}
use Rattle.sw_message.specs.declared.message.Msg.{Msg}
use Rattle.sw_message.specs.declared.reply.Reply.{Reply}
use Rattle.sw_sim_exchange.specs.Kinds.{answer_kind, request_kind}
use Rattle.sw_sim_exchange.specs.declared.kinds.AnswerKind.{AnswerKind}
use Rattle.sw_sim_exchange.specs.declared.kinds.RequestKind.{RequestKind}
use Rattle.sw_sim_exchange.specs.declared.lines.SentLine.{SentLine}
use Rattle.sw_sim_exchange.specs.declared.lines.SentLine.TheVariants as told
use Rattle.sw_sim_exchange.specs.Letters.{line_in, line_of, lines_from}
use Rattle.sw_sim_exchange.specs.declared.letter.Content.{Content}
use Rattle.sw_sim_exchange.specs.declared.letter.Content.TheVariants as content
use Rattle.sw_sim_exchange.specs.declared.letter.Letter.{Letter}

module _ (letters : List Letter) (slot : ℕ) where
  -- these lines are those of the letters before this slot
  abbrev pub With : List SentLine → List SentLine
  With lines = lines ++ lines_from (suc slot) (drop slot letters)

  -- the line of the first letter, and then those of the rest
  at_first : (letter : Letter) (rest : List Letter) (n m k : ℕ) → n ≡ m → n + 1 ≡ k → lines_from n (letter ∷ rest) ≡ option_to_list (line_of m letter) ++ lines_from k rest
  at_first letter rest n m k same next = ap (λ (x : ℕ). option_to_list (line_of x letter) ++ lines_from (n + 1) rest) same ∙ ap (λ (x : ℕ). option_to_list (line_of m letter) ++ lines_from x rest) next

  -- with the line of the letter at this slot they are those of the letters before the next
  pub line_more : (letter : Letter) (lines more : List SentLine) → slot < length letters → letter ≡ get_or letters slot letter → more ≡ lines ++ option_to_list (line_of (slot + 1) letter)
      → more ++ lines_from (suc (slot + 1)) (drop (slot + 1) letters) ≡ With lines
  line_more letter lines more within is same =
      ap (λ (ls : List SentLine). ls ++ lines_from (suc (slot + 1)) (drop (slot + 1) letters)) same
      ∙ append_assoc lines (option_to_list (line_of (slot + 1) letter)) (lines_from (suc (slot + 1)) (drop (slot + 1) letters))
      ∙ ap (λ (ls : List SentLine). lines ++ ls) (sym here)
    where
      here : lines_from (suc slot) (drop slot letters) ≡ option_to_list (line_of (slot + 1) letter) ++ lines_from (suc (slot + 1)) (drop (slot + 1) letters)
      here = ap (lines_from (suc slot)) (drop_more letters slot letter within ∙ ap (λ (first : Letter). first ∷ drop (slot + 1) letters) (sym is))
          ∙ at_first letter (drop (slot + 1) letters) (suc slot) (slot + 1) (suc (slot + 1)) (omega arith) (omega arith)

  -- at the end no line is left
  pub no_more : (lines : List SentLine) → length letters ≤ slot → With lines ≡ lines
  no_more lines past = ap (λ (rest : List Letter). lines ++ lines_from (suc slot) rest) (drop_all slot letters past) ∙ append-nil lines

-- ---- the line of one

module _ (number : ℕ) (letter : Letter) where
  -- of a request
  pub request_line : (msg : Msg) (kind : Option RequestKind) → letter.content ≡ content.Request msg → kind ≡ request_kind msg → option_map (told.Request number letter.operation letter.device) kind ≡ line_of number letter
  request_line msg kind is same = ap (option_map (told.Request number letter.operation letter.device)) same ∙ sym (ap (λ (one : Content). line_in one number letter.operation letter.device) is)

  -- of a reply
  pub answer_line : (reply : Reply) (kind : Option AnswerKind) → letter.content ≡ content.Answer (Some reply) → kind ≡ answer_kind reply → option_map (told.Answered number letter.operation letter.device) kind ≡ line_of number letter
  answer_line reply kind is same = ap (option_map (told.Answered number letter.operation letter.device)) same ∙ sym (ap (λ (one : Content). line_in one number letter.operation letter.device) is)

  -- of a reply that was taken out none
  pub empty_line : letter.content ≡ content.Answer None → None ≡ line_of number letter
  empty_line is = sym (ap (λ (one : Content). line_in one number letter.operation letter.device) is)
