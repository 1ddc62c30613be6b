-- What follows from what is said of a result or an option.
use Rattle.std.proofs.Common.{◌≡◌, ℕ, false, Option, Some, None, Result, Ok, Err, is_some, refl, sym, subst, true≢false}
use Rattle.std.specs.Prelude.{IfOk, IfSome, IsErr, MatchOption, SomeIff}

pub at_some : {A : Type 0} (option : Option A) (x : A) (P : A → Type 0) → option ≡ Some x → IfSome option P → P x
at_some option x P is holds = subst (λ one. IfSome one P) is holds

pub value_so : (option : Option ℕ) (x value : ℕ) (P : Type 0) → option ≡ Some x → SomeIff option P value → x ≡ value
value_so option x value P is holds = (subst (λ one. SomeIff one P value) is holds).1

pub none_so : {A : Type 0} (option : Option A) → is_some option ≡ false → option ≡ None
none_so None is = refl
none_so (Some x) is = absurd (true≢false is)

pub matched_none : {A : Type 0} (option : Option A) {P : Type 0} (R : A → Type 0) → is_some option ≡ false → MatchOption option P R → P
matched_none None R none is = is
matched_none (Some x) R none is = absurd (true≢false none)

pub not_ok : {A E : Type 0} (result : Result A E) (P : A → Type 0) → IsErr result → IfOk result P
not_ok (Ok x) P is = absurd (true≢false (sym is))
not_ok (Err e) P is = tt
