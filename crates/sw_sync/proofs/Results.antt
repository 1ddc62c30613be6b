-- What follows from what is said of a result.
use Rattle.std.proofs.Common.{◌⊎◌, inl, inr, Option, Some, None, Result, Ok, Err}
use Rattle.std.specs.Prelude.{IfOk, IfSome, MatchOption, OnErr, OnOk}

pub on_ok : {A E : Type 0} (result : Result A E) {P Q : A → Type 0} → ((x : A) → P x → Q x) → IfOk result P → IfOk result Q
on_ok (Ok x) follows is = follows x is
on_ok (Err e) follows is = is

-- what holds anyway
pub where_refused : {A E : Type 0} (result : Result A E) {P : Type 0} → P → OnErr result P
where_refused (Ok x) is = tt
where_refused (Err e) is = is

-- one of both holds
pub either : {A E : Type 0} (result : Result A E) {P Q : Type 0} → OnOk result P → OnErr result Q → P ⊎ Q
either (Ok x) is other = inl is
either (Err e) is other = inr other

pub matched : {A : Type 0} (option : Option A) {P Q : Type 0} {R S : A → Type 0} → (P → Q) → ((x : A) → R x → S x) → MatchOption option P R → MatchOption option Q S
matched None none some is = none is
matched (Some x) none some is = some x is

pub of_some : {A : Type 0} (option : Option A) (P : Type 0) {R S : A → Type 0} → ((x : A) → R x → S x) → MatchOption option P R → IfSome option S
of_some None P some is = tt
of_some (Some x) P some is = some x is
