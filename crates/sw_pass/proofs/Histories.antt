-- Lists of histories by slot, and which go on from which.
use Rattle.std.proofs.Common.{◌≡◌, ◌≢◌, ◌⊎◌, ℕ, zero, suc, ◌+◌, ◌≤◌, ◌<◌, nat_lt, if◌then◌else◌, Bool, true, false, List, [], ◌∷◌, ◌++◌, length, refl, sym, ap, ◌∙◌, subst, inl, inr, arith, length-append, append-nil}
use mathlib.Core.Logic.{dite}
use native.Mathlib.Decide.{ℕ_discrete}
use Rattle.std.proofs.lemmas.Bool.Decides.{nat_tests}
use Rattle.sw_view.specs.History.{Continues}
use Rattle.sw_view.specs.declared.event.Event.{Event}
use Rattle.sw_view.proofs.Growth.{continues_both}
use Rattle.sw_pass.specs.Known.{history, with_history}
use Rattle.sw_pass.specs.Steps.{longer, longest, own_kept}
use Rattle.sw_pass.specs.declared.known.Kind.{Kind}
use Rattle.sw_pass.specs.declared.known.Kind.TheVariants as kind

pub history_same : (hs : List (List Event)) (x : ℕ) (h : List Event) → history (with_history hs x h) x ≡ h
history_same [] zero h = refl
history_same [] (suc x) h = history_same [] x h
history_same (g ∷ gs) zero h = refl
history_same (g ∷ gs) (suc x) h = history_same gs x h

pub history_other : (hs : List (List Event)) (x y : ℕ) (h : List Event) → y ≢ x → history (with_history hs x h) y ≡ history hs y
history_other [] zero zero h n = absurd (n refl)
history_other [] zero (suc y) h n = refl
history_other [] (suc x) zero h n = refl
history_other [] (suc x) (suc y) h n = history_other [] x y h (λ e. n (ap suc e))
history_other (g ∷ gs) zero zero h n = absurd (n refl)
history_other (g ∷ gs) zero (suc y) h n = refl
history_other (g ∷ gs) (suc x) zero h n = refl
history_other (g ∷ gs) (suc x) (suc y) h n = history_other gs x y h (λ e. n (ap suc e))

pub continues_itself : (h : List Event) → Continues h h
continues_itself h = ([], refl)

pub continues_more : (a b c : List Event) → Continues a b → Continues b c → Continues a c
continues_more a b c p q = continues_both c b a q p

pub continues_one : (e : Event) (h : List Event) → Continues (e ∷ h) h
continues_one e h = (e ∷ [], refl)

pub continues_none : (h : List Event) → Continues h []
continues_none h = (h, sym (append-nil h))

pub continues_length : (a b : List Event) → Continues a b → length b ≤ length a
continues_length a b p = let l : length a ≡ length p.0 + length b = ap length p.1 ∙ length-append p.0 b in omega arith

abbrev tail_of : List Event → List Event
tail_of [] = []
tail_of (x ∷ xs) = xs

of_one : (m n a b : List Event) → m ++ a ≡ n ++ b → length b ≤ length a → Continues a b
of_one [] n a b e l = (n, e)
of_one (x ∷ m) [] a b e l = let k : suc (length m + length a) ≡ length b = ap suc (sym (length-append m a)) ∙ ap length e in absurd (omega arith)
of_one (x ∷ m) (y ∷ n) a b e l = of_one m n a b (ap tail_of e) l

-- of two beginnings of one history the longer continues the other
pub continues_of : (p a b : List Event) → Continues p a → Continues p b → length b ≤ length a → Continues a b
continues_of p a b f g l = of_one f.0 g.0 a b (sym f.1 ∙ g.1) l

tested : (a n : ℕ) (P : Bool → Type 0) (b : Bool) → nat_lt a n ≡ b → (a < n → P true) → (n ≤ a → P false) → P b
tested a n P true is above below = above (grind (arith, nat_tests))
tested a n P false is above below = below (grind (arith, nat_tests))

-- what holds of either, the longer has
pub by_longer : (P : List Event → Type 0) (a b : List Event) → (length a < length b → P b) → (length b ≤ length a → P a) → P (longer a b)
by_longer P a b f g = tested (length a) (length b) (λ t. P (if t then b else a)) (nat_lt (length a) (length b)) refl f g

abbrev pub Both : List Event → List Event → List Event → List Event → Type 0
Both p a b c = Continues c a × Continues c b × Continues p c × ((c ≡ a) ⊎ (c ≡ b))

longer_both : (p a b : List Event) → Continues p a → Continues p b → Both p a b (longer a b)
longer_both p a b f g = by_longer (Both p a b) a b
    (λ l. (continues_of p b a g f (omega arith), continues_itself b, g, inr refl))
    (λ l. (continues_itself a, continues_of p a b f g l, f, inl refl))

longest_both : (p : ℕ → List Event) (gs hs : List (List Event)) → ((x : ℕ) → Continues (p x) (history gs x)) → ((x : ℕ) → Continues (p x) (history hs x)) → (x : ℕ) → Both (p x) (history gs x) (history hs x) (history (longest gs hs) x)
longest_both p [] hs f g x = (continues_none (history hs x), continues_itself (history hs x), g x, inr refl)
longest_both p (a ∷ gs) [] f g x = (continues_itself (history (a ∷ gs) x), continues_none (history (a ∷ gs) x), f x, inl refl)
longest_both p (a ∷ gs) (b ∷ hs) f g zero = longer_both (p zero) a b (f zero) (g zero)
longest_both p (a ∷ gs) (b ∷ hs) f g (suc x) = longest_both (λ y. p (suc y)) gs hs (λ y. f (suc y)) (λ y. g (suc y)) x

-- a node has the whole of its device's history
abbrev pub IsWhole : (ℕ → List Event) → List (List Event) → Kind → Type 0
IsWhole p gs (kind.Node x) = history gs x ≡ p x
IsWhole p gs other = Unit {0}

pub own_both : (p : ℕ → List Event) (gs hs : List (List Event)) → ((x : ℕ) → Continues (p x) (history gs x)) → ((x : ℕ) → Continues (p x) (history hs x)) → (k : Kind) → IsWhole p gs k → (x : ℕ) → Both (p x) (history gs x) (history hs x) (history (own_kept k gs hs) x)
own_both p gs hs f g kind.Pass whole x = longest_both p gs hs f g x
own_both p gs hs f g kind.Note whole x = longest_both p gs hs f g x
own_both p gs hs f g kind.Spent whole x = longest_both p gs hs f g x
own_both p gs hs f g (kind.Node n) whole x = dite (ℕ_discrete x n)
    (λ e. subst (λ y. Both (p y) (history gs y) (history hs y) (history (with_history (longest gs hs) n (history gs n)) y)) (sym e)
    (subst (Both (p n) (history gs n) (history hs n)) (sym (history_same (longest gs hs) n (history gs n)))
    (continues_itself (history gs n), subst (λ z. Continues z (history hs n)) (sym whole) (g n), f n, inl refl)))
    (λ n'. subst (Both (p x) (history gs x) (history hs x)) (sym (history_other (longest gs hs) n x (history gs n) n')) (longest_both p gs hs f g x))

pub with_more : (hs : List (List Event)) (x : ℕ) (h : List Event) → Continues h (history hs x) → (y : ℕ) → Continues (history (with_history hs x h) y) (history hs y)
with_more hs x h more y = dite (ℕ_discrete y x)
    (λ e. subst (λ z. Continues (history (with_history hs x h) z) (history hs z)) (sym e) (subst (λ z. Continues z (history hs x)) (sym (history_same hs x h)) more))
    (λ n. subst (λ z. Continues z (history hs y)) (sym (history_other hs x y h n)) (continues_itself (history hs y)))
