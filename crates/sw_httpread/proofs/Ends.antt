-- Where something ends within bytes, whatever it is.
use Rattle.std.proofs.Common.{◌≡◌, ◌≤◌, inl, inr, ℕ, min, List, [], ◌++◌, length, take, drop, refl, sym, ap, ◌∙◌, subst, arith, length-append, append_assoc}
use Rattle.std.proofs.lemmas.Bool.{cases_lt}
use Rattle.std.proofs.lemmas.List.{append-nil, take-append-le, take_at, take-append-drop, take-take, append_cancel_left, length-take}
use Rattle.sw_httpread.specs.Ends.{greatest_length, Ends, EndsNotYet, EndsNowhere, HasNoWhole, HasWhole}

-- a front of some bytes is one of their first so many, too
front_of : (bytes front rest : List ℕ) (m : ℕ) → bytes ≡ front ++ rest → length front ≤ m → take m bytes ≡ front ++ drop (length front) (take m bytes)
front_of bytes front rest m e le =
    let front_is : take (length front) (take m bytes) ≡ front = take-take (length front) m bytes le ∙ ap (take (length front)) e ∙ take_at front rest (length front) refl in
    sym (take-append-drop (length front) (take m bytes)) ∙ ap (λ (t : List ℕ). t ++ drop (length front) (take m bytes)) front_is

pub ends_not_yet : (W : List ℕ → Type 0) (bytes : List ℕ) (m : ℕ) → m ≡ min (length bytes) 8192 → HasNoWhole W (take m bytes) → EndsNotYet W bytes
ends_not_yet W bytes m e none front rest ends =
    let le : length front ≤ m = omega (arith, e, ends.bound, ap length ends.split, length-append front rest) in
    none front (drop (length front) (take m bytes)) (front_of bytes front rest m ends.split le) ends.whole

pub has_whole : (W : List ℕ → Type 0) (bytes : List ℕ) (m n : ℕ) → m ≡ min (length bytes) 8192 → HasWhole W (take m bytes) n → HasWhole W bytes n × (n ≤ greatest_length)
has_whole W bytes m n e found =
    let le : n ≤ m = omega (arith, e, found.0, length-take m bytes) in
    ((omega (arith, e, le), subst W (take-take n m bytes le) found.1), omega (arith, e, le))

-- what some bytes are found to begin with
pub ends_at : (W : List ℕ → Type 0) (bytes : List ℕ) (n : ℕ) → HasWhole W bytes n → n ≤ greatest_length → Ends W bytes (take n bytes) (drop n bytes)
ends_at W bytes n found bound = record {
  split = sym (take-append-drop n bytes);
  whole = found.1;
  bound = omega (arith, bound, found.0, length-take n bytes);
}

-- ---- more bytes

pub ends_more : (W : List ℕ → Type 0) (bytes front rest more : List ℕ) → Ends W bytes front rest → Ends W (bytes ++ more) front (rest ++ more)
ends_more W bytes front rest more e = record {
  split = ap (λ (t : List ℕ). t ++ more) e.split ∙ append_assoc front rest more;
  whole = e.whole;
  bound = e.bound;
}

pub nowhere_more : (W : List ℕ → Type 0) (bytes more : List ℕ) → EndsNowhere W bytes → EndsNowhere W (bytes ++ more)
nowhere_more W bytes more none = (
  omega (arith, none.0, length-append bytes more),
  λ front rest e.
      let le : length front ≤ length bytes = omega (arith, e.bound, none.0) in
      let same : take (length bytes) (bytes ++ more) ≡ bytes = take_at bytes more (length bytes) refl in
      let f = front_of (bytes ++ more) front rest (length bytes) e.split le in
      none.1 front (drop (length front) bytes) (record {
        split = sym same ∙ f ∙ ap (λ (t : List ℕ). front ++ drop (length front) t) same;
        whole = e.whole;
        bound = e.bound;
      }),
)

-- ---- one end

-- no whole one begins another
abbrev pub IsApart : (List ℕ → Type 0) → Type 0
IsApart W = (a b rest : List ℕ) → W a → W b → a ≡ b ++ rest → rest ≡ []

longer : (all a b x y : List ℕ) → all ≡ a ++ x → all ≡ b ++ y → length b ≤ length a → a ≡ b ++ drop (length b) a
longer all a b x y e f le =
    let front : take (length b) a ≡ b = sym (take-append-le (length b) a x le) ∙ ap (take (length b)) (sym e ∙ f) ∙ take_at b y (length b) refl in
    sym (take-append-drop (length b) a) ∙ ap (λ (t : List ℕ). t ++ drop (length b) a) front

pub ends_same : (W : List ℕ → Type 0) → IsApart W → (all a b x y : List ℕ) → Ends W all a x → Ends W all b y → (a ≡ b) × (x ≡ y)
ends_same W apart all a b x y p q =
    let same : a ≡ b = elim (cases_lt (length a) (length b)) [
      | inl lt ↦
          let l = longer all b a y x q.split p.split (omega arith) in
          sym (l ∙ ap (λ (t : List ℕ). a ++ t) (apart b a (drop (length a) b) q.whole p.whole l) ∙ append-nil a)
      | inr le ↦
          let l = longer all a b x y p.split q.split le in
          l ∙ ap (λ (t : List ℕ). b ++ t) (apart a b (drop (length b) a) p.whole q.whole l) ∙ append-nil b
    ] in
    (same, append_cancel_left b x y (ap (λ (t : List ℕ). t ++ x) (sym same) ∙ sym p.split ∙ q.split))
