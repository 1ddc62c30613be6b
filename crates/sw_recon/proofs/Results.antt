-- What follows from what is said of a result.
use Rattle.std.proofs.Common.{Option, Some, None}
use Rattle.std.specs.Prelude.{IfOk, IfSome, MatchOption, OnErr, Result, Ok, Err}

pub on_ok : {A E : Type 0} (result : Result A E) {P Q : A → Type 0} → ((x : A) → P x → Q x) → IfOk result P → IfOk result Q
on_ok (Ok x) follows is = follows x is
on_ok (Err e) follows is = is

pub on_err : {A E : Type 0} (result : Result A E) {P Q R : Type 0} → (P → Q → R) → OnErr result P → OnErr result Q → OnErr result R
on_err (Ok x) follows is also = is
on_err (Err e) follows is also = follows is also

pub matched : {A : Type 0} (option : Option A) {P Q : Type 0} {R S : A → Type 0} → (P → Q) → ((x : A) → R x → S x) → MatchOption option P R → MatchOption option Q S
matched None none some is = none is
matched (Some x) none some is = some x is

pub of_some : {A : Type 0} (option : Option A) (P : Type 0) {R S : A → Type 0} → ((x : A) → R x → S x) → MatchOption option P R → IfSome option S
of_some None P some is = tt
of_some (Some x) P some is = some x is
