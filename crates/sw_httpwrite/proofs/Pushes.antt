-- A line that is added piece by piece.
use Rattle.std.proofs.Common.{◌≡◌, ℕ, List, [], ◌∷◌, ◌++◌, Result, Ok, Err, OnOk, ap, ◌∙◌, append_assoc}

regroup : (old a b c d e : List ℕ) → ((((old ++ a) ++ b) ++ c) ++ d) ++ e ≡ old ++ (a ++ (b ++ (c ++ (d ++ e))))
regroup old a b c d e = simp append_assoc

pub five_pushed : {X Y : Type 0} (result : Result X Y) (old one two three four five a b c d e : List ℕ) → one ≡ old ++ a → two ≡ one ++ b → three ≡ two ++ c → four ≡ three ++ d
    → OnOk result (five ≡ four ++ e) → OnOk result (five ≡ old ++ (a ++ (b ++ (c ++ (d ++ e)))))
five_pushed (Err x) old one two three four five a b c d e h1 h2 h3 h4 h5 = tt
five_pushed (Ok x) old one two three four five a b c d e h1 h2 h3 h4 h5 =
    let first : two ≡ (old ++ a) ++ b = h2 ∙ ap (λ (l : List ℕ). l ++ b) h1 in
    let second : three ≡ ((old ++ a) ++ b) ++ c = h3 ∙ ap (λ (l : List ℕ). l ++ c) first in
    let third : four ≡ (((old ++ a) ++ b) ++ c) ++ d = h4 ∙ ap (λ (l : List ℕ). l ++ d) second in
    h5 ∙ ap (λ (l : List ℕ). l ++ e) third ∙ regroup old a b c d e
