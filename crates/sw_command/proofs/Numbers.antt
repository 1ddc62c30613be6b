-- Numbers that are spelled by words.
use Rattle.std.proofs.Common.{Result, Ok, Err, ◌≡◌, ℕ, ◌^◌, ◌<◌, ◌≤◌, true, false, nat_lt, List, Option, None, Some, IfSome, refl, ap, ◌∙◌, arith}
use Rattle.std.specs.Cmp.Lexicographic.{bytes_decides}
use Rattle.std.specs.Fmt.{decimal}
use Rattle.std.specs.Result.{OkIff, result_ok}
use Rattle.std.specs.Str.Parse.{digits_value}
use Rattle.std.proofs.lemmas.Bool.Decides.{nat_tests}
use Rattle.std.proofs.lemmas.Fmt.{decimal_is_IsNumeral}
use Rattle.sw_command.specs.Words.{IsInRange, greatest_port, is_text, load_of, most_steps, most_workers, number_of, serve_of}

decimal_value : (text : List ℕ) (number : ℕ) → number < 2 ^ 64 → text ≡ decimal number → digits_value 10 text ≡ number
decimal_value text number small printed = ap (digits_value 10) printed ∙ (decimal_is_IsNumeral number small).1

-- a number that is spelled and in its range
pub found : (most : ℕ) (text : List ℕ) (number : ℕ) → number < 2 ^ 64 → text ≡ decimal number → 1 ≤ number → number ≤ most → number_of most text ≡ Some number
found most text number small printed least within =
    let value = decimal_value text number small printed in
    let same : is_text text (decimal number) ≡ true = (bytes_decides text (decimal number)).1 printed in
    let low : nat_lt 0 number ≡ true = grind (arith, nat_tests) in
    let high : nat_lt most number ≡ false = grind (arith, nat_tests) in
    rw value (rw (same, low, high) refl)

pub converted : {E : Type 0} (result : Result ℕ E) (P : Type 0) (number : ℕ) → OkIff result P number → P → result_ok result ≡ Some number
converted (Ok value) P number is holds = ap Some is.1
converted (Err error) P number is holds = absurd (is holds)

-- serving with a port and a number of workers that are in their ranges
pub in_range : (port workers : Option ℕ) → IfSome port (λ number. (1 ≤ number) × (number ≤ greatest_port)) → IfSome workers (λ number. (1 ≤ number) × (number ≤ most_workers)) → IfSome (serve_of port workers) IsInRange
in_range None workers one other = tt
in_range (Some port) None one other = tt
in_range (Some port) (Some workers) one other = (one.0, one.1, other.0, other.1)

-- a workload of a number of steps that is in its range
pub load-in_range : (steps : Option ℕ) → IfSome steps (λ number. (1 ≤ number) × (number ≤ most_steps)) → IfSome (load_of steps) IsInRange
load-in_range None within = tt
load-in_range (Some steps) within = within
