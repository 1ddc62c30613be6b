-- Calls of a link that tells add nothing to its book.
use Rattle.std.proofs.Common.{◌≡◌, Bool, true, false, true≢false, List, [], ◌∷◌, refl, sym, ap, subst, ◌∙◌}
use Rattle.sw_message.specs.Learnt.{Learnt}
use Rattle.sw_message.specs.Running.{AreCalls}
use Rattle.sw_message.specs.Transcript.{Closed, Gave, Step}
use Rattle.sw_telling.specs.Telling.{Calls, TellingModel, losses}
use Rattle.sw_telling.proofs.Hearing.{same_book}

-- it was not silent, and its book is as it was
abbrev pub KeepsBook : (before after : TellingModel) → Type 0
KeepsBook before after = after.is_silent ≡ false → (before.is_silent ≡ false) × (after.known.book ≡ before.known.book)

speaking : (b c : Bool) → (b ≡ true → c ≡ true) → c ≡ false → b ≡ false
speaking true c silent speaks = absurd (true≢false (sym (silent refl) ∙ speaks))
speaking false c silent speaks = refl

pub calls_keep : (before after : TellingModel) (past : List Step) → AreCalls Calls losses before past after → KeepsBook before after
calls_keep before after [] same = subst (KeepsBook before) same (λ speaks. (speaks, refl))
calls_keep before after (Closed sent answer ∷ Gave given ∷ past) (between, earlier, same, call, counts) = λ speaks.
    let spoke = speaking between.is_silent after.is_silent call.learns.silent speaks in
    let kept = calls_keep before between past earlier spoke in
    (kept.0, ap (λ (known : Learnt). known.book) (call.learns.known_is speaks) ∙ same_book between.known sent.device sent.msg answer ∙ kept.1)
calls_keep before after (Closed sent answer ∷ Closed other again ∷ past) none = absurd none
calls_keep before after (Closed sent answer ∷ []) none = absurd none
calls_keep before after (Gave sent ∷ past) none = absurd none
