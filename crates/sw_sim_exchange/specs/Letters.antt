-- Letters: what is kept of a message, and how one is told.
use Rattle.std.specs.Prelude.{ℕ, ◌+◌, true, false, List, [], ◌∷◌, ◌++◌, Option, Some, None, option_map, option_to_list}
use Rattle.sw_message.specs.declared.reply.Reply.{Reply}
use Rattle.sw_message.specs.declared.sent.Sent.{Sent}
use Rattle.sw_sim_exchange.specs.Kinds.{answer_kind, request_kind}
use Rattle.sw_sim_exchange.specs.declared.lines.SentLine.{SentLine}
use Rattle.sw_sim_exchange.specs.declared.lines.SentLine.TheVariants as told
use Rattle.sw_sim_exchange.specs.declared.letter.Content.{Content}
use Rattle.sw_sim_exchange.specs.declared.letter.Content.TheVariants as content
use Rattle.sw_sim_exchange.specs.declared.letter.Letter.{Letter}

abbrev pub letter_of : (operation : ℕ) → Sent → Letter
letter_of operation sent = record { operation = operation; ticket = sent.ticket; device = sent.device; is_delivered = false; content = content.Request sent.msg }

-- the letter of a reply to a request
abbrev pub answer_letter : (operation ticket device : ℕ) → Reply → Letter
answer_letter operation ticket device reply = record { operation = operation; ticket = ticket; device = device; is_delivered = false; content = content.Answer (Some reply) }

-- one that is delivered, and one whose reply was taken out by that
abbrev pub marked : Letter → Letter
marked letter = record letter { is_delivered = true }

abbrev pub emptied : Letter → Letter
emptied letter = record letter { is_delivered = true; content = content.Answer None }

-- ---- lines

-- how a letter is told as the message of this number, if it is
abbrev pub line_in : Content → (number operation device : ℕ) → Option SentLine
line_in (content.Request msg) number operation device = option_map (told.Request number operation device) (request_kind msg)
line_in (content.Answer (Some reply)) number operation device = option_map (told.Answered number operation device) (answer_kind reply)
line_in (content.Answer None) number operation device = None

abbrev pub line_of : (number : ℕ) → Letter → Option SentLine
line_of number letter = line_in letter.content number letter.operation letter.device

-- those that are told, the first of which has this number
abbrev pub lines_from : (number : ℕ) → List Letter → List SentLine
lines_from number [] = []
lines_from number (letter ∷ letters) = option_to_list (line_of number letter) ++ lines_from (number + 1) letters
