-- The lines of the letters that were made are those of the messages.
use Rattle.std.proofs.Common.{◌≡◌, ℕ, zero, suc, ◌+◌, ◌≤◌, false, Contains, List, [], ◌∷◌, ◌++◌, drop, length, map, slice_get, Option, Some, None, option_map, option_to_list, refl, ap, ap₂, ◌∙◌, arith}
use Rattle.std.specs.List.{AllZip}
use Rattle.std.proofs.lemmas.Bool.{false_from_ne_true}
use Rattle.std.proofs.lemmas.Option.{none-some}
use Rattle.sw_message.specs.declared.reply.Reply.{Reply}
use Rattle.sw_law_scene.specs.Scene.{Answer, Message, Request}
use Rattle.sw_sim_exchange.specs.Kinds.{answer_kind, request_kind}
use Rattle.sw_sim_exchange.specs.declared.lines.SentLine.{SentLine}
use Rattle.sw_sim_exchange.specs.declared.lines.SentLine.TheVariants as told
use Rattle.sw_sim_exchange.specs.Letters.{line_in, line_of, lines_from}
use Rattle.sw_sim_world.specs.ScriptedWorld.{ScriptedWorld}
use Rattle.sw_sim_world.specs.Standing.{IsLetterOf, StandsFor, WorldModel}
use Rattle.sw_sim_world.specs.Unfolding.{made_lines, sent_line, sent_lines}
use Rattle.sw_sim_exchange.specs.declared.letter.Content.{Content}
use Rattle.sw_sim_exchange.specs.declared.letter.Content.TheVariants as content
use Rattle.sw_sim_exchange.specs.declared.letter.Letter.{Letter}
use Rattle.sw_sim_world.proofs.Slots.{zip-length}

-- ---- what is left of lists

module _ {A : Type 0} where
  -- what is left of a list stood there so many slots later
  drop-at : (count : ℕ) (items : List A) (slot : ℕ) (item : A) → slice_get (drop count items) slot ≡ Some item → (other : ℕ) × (other ≡ count + slot) × (slice_get items other ≡ Some item)
  drop-at zero items slot item is = (slot, omega arith, is)
  drop-at (suc count) [] slot item is = absurd (none-some item is)
  drop-at (suc count) (first ∷ items) slot item is = let there = drop-at count items slot item is in (suc there.0, omega (arith, there.1), there.2)

-- what is left of lists side by side is so too
zip-drop : {A B : Type 0} (R : A → B → Type 0) (count : ℕ) (xs : List A) (ys : List B) → AllZip R xs ys → AllZip R (drop count xs) (drop count ys)
zip-drop R zero xs ys all = all
zip-drop R (suc count) [] [] all = tt
zip-drop R (suc count) [] (y ∷ ys) all = absurd all
zip-drop R (suc count) (x ∷ xs) [] all = absurd all
zip-drop R (suc count) (x ∷ xs) (y ∷ ys) all = zip-drop R count xs ys all.1

-- ---- lines

-- what is made of an item, as a list
listed : {A B : Type 0} (f : A → B) (found : Option A) → option_to_list (option_map f found) ≡ map f (option_to_list found)
listed f None = refl
listed f (Some item) = refl

-- the line of a letter is what it says of its operation and its device
same-line : (number : ℕ) (letter : Letter) (operation device : ℕ) (text : Content) → letter.content ≡ text → letter.operation ≡ operation → letter.device ≡ device → line_of number letter ≡ line_in text number operation device
same-line number letter operation device text content_is operation_is device_is =
    ap (λ (one : Content). line_in one number letter.operation letter.device) content_is
    ∙ ap (λ (n : ℕ). line_in text number n letter.device) operation_is
    ∙ ap (λ (n : ℕ). line_in text number operation n) device_is

-- the line of a letter that was not delivered is that of its message
one-line : (number : ℕ) (letter : Letter) (posted : Message) → letter.is_delivered ≡ false → IsLetterOf letter posted → option_to_list (line_of number letter) ≡ sent_line number posted
one-line number letter (Request at operation sent) fresh is =
    ap option_to_list (same-line number letter operation sent.device (content.Request sent.msg) is.3 is.0 is.2) ∙ listed (told.Request number operation sent.device) (request_kind sent.msg)
one-line number letter (Answer at operation sent reply) fresh is =
    ap option_to_list (same-line number letter operation sent.device (content.Answer (Some reply)) (is.4 ∙ ap (λ (kept : Option Reply). content.Answer kept) (is.5 fresh)) is.0 is.2)
    ∙ listed (told.Answered number operation sent.device) (answer_kind reply)

-- and so are the lines of all
same-lines : (number : ℕ) (letters : List Letter) (messages : List Message) → AllZip IsLetterOf letters messages → ((slot : ℕ) (letter : Letter) → slice_get letters slot ≡ Some letter → letter.is_delivered ≡ false)
    → lines_from number letters ≡ sent_lines number messages
same-lines number [] [] all fresh = refl
same-lines number [] (posted ∷ messages) all fresh = absurd all
same-lines number (letter ∷ letters) [] all fresh = absurd all
same-lines number (letter ∷ letters) (posted ∷ messages) all fresh =
    ap₂ (λ (a b : List SentLine). a ++ b) (one-line number letter posted (fresh zero letter refl) all.0) (same-lines (number + 1) letters messages all.1 (λ slot one is. fresh (suc slot) one is))

-- Where only messages that were there before were delivered, the lines of the letters behind those are of the messages that were made.
pub lines-made : (model new : WorldModel) (before after : ScriptedWorld) → StandsFor model before → StandsFor new after → ((message : ℕ) → Contains after.delivered message → message ≤ length model.letters)
    → lines_from (suc (length model.letters)) (drop (length model.letters) new.letters) ≡ made_lines before after
lines-made model new before after stands later within =
    let count = length model.letters in
    let as_many = zip-length IsLetterOf model.letters before.world.scene.messages stands.letters in
    let next : suc count ≡ length before.world.scene.messages + 1 = omega (arith, as_many) in
    ap (λ (number : ℕ). lines_from number (drop count new.letters)) next
    ∙ same-lines (length before.world.scene.messages + 1) (drop count new.letters) (drop count after.world.scene.messages) (zip-drop IsLetterOf count new.letters after.world.scene.messages later.letters) fresh
    ∙ ap (λ (n : ℕ). sent_lines (length before.world.scene.messages + 1) (drop n after.world.scene.messages)) as_many
  where
    -- none of them was delivered
    fresh : (slot : ℕ) (letter : Letter) → slice_get (drop (length model.letters) new.letters) slot ≡ Some letter → letter.is_delivered ≡ false
    fresh slot letter is =
        let there = drop-at (length model.letters) new.letters slot letter is in
        false_from_ne_true letter.is_delivered (λ delivered. absurd (omega (arith, there.1, within (suc there.0) ((later.marked there.0 letter there.2).0 delivered))))
