-- Want of memory, where all else of a line is read.
use Rattle.std.proofs.Common.{◌≡◌, ◌≤◌, ℕ, nat_lt, Bool, true, false, cond, List, ◌∷◌, length, Option, Some, None, Result, Ok, Err, IfErr, IsErrAnd, IsOk, IsSome, codes, refl, sym, ap, subst, ◌∙◌, arith}
use Rattle.std.specs.Prelude.{if◌then◌else◌}
use Rattle.std.proofs.lemmas.Bool.Decides.{nat_tests}
use Rattle.sw_script.specs.Line.{as_event, as_some, event_by, event_of, greatest_line, is_blank, job_by, other_event, read_or, words_of}
use Rattle.sw_script.specs.Word.{is_word}
use Rattle.sw_script.specs.declared.event.Event.{Event}
use Rattle.sw_script.specs.declared.event.Job.{Job}
use Rattle.sw_script.specs.declared.fault.LineFault.{LineFault}
use Rattle.sw_script.specs.declared.event.Event.TheVariants.{Start}
use Rattle.sw_script.specs.declared.fault.LineFault.TheVariants.{NoMemory, TooLong}

-- a fault that is passed on
pub passed : {A : Type 0} (P : LineFault → Type 0) (result : Result A LineFault) (fault : LineFault) → IsErrAnd result (λ e. e ≡ fault) → P fault → IfErr result P
passed P (Ok value) fault is holds = absurd is
passed P (Err other) fault is holds = subst P (sym is) holds

pub passed_on : {A : Type 0} (P : Type 0) (result : Result A LineFault) (fault : LineFault) → IsErrAnd result (λ e. e ≡ fault) → (fault ≡ NoMemory → P) → IfErr result (λ e. e ≡ NoMemory → P)
passed_on P result fault is found = passed (λ e. e ≡ NoMemory → P) result fault is found

-- a part that is read, and so is the rest
pub both_read : {A B : Type 0} (fault : LineFault) (part : Option A) (rest : A → Result B LineFault) → IsSome part → ((value : A) → IsOk (rest value)) → IsOk (read_or fault part rest)
both_read fault None rest some all = absurd (cc)
both_read fault (Some value) rest some all = all value

pub event_read : (event : Job → Event) (job : Result Job LineFault) → IsOk job → IsOk (as_event event job)
event_read event (Ok job) ok = refl
event_read event (Err fault) ok = absurd (cc)

-- a line whose first word is this, or not
pub taken : {A : Type 0} (test : Bool) (one other : Result A LineFault) → test ≡ true → IsOk one → IsOk (cond test one other)
taken true one other is ok = ok
taken false one other is ok = absurd (cc)

pub left_out : {A : Type 0} (test : Bool) (one other : Result A LineFault) → test ≡ false → IsOk other → IsOk (cond test one other)
left_out true one other is ok = absurd (cc)
left_out false one other is ok = ok

-- ---- whole lines

-- a line behind `start`
pub begun : (line verb : List ℕ) (words : List (List ℕ)) → words_of line ≡ verb ∷ words → is_word verb (codes "start") ≡ true → event_by (words_of line) ≡ as_event Start (job_by words)
begun line verb words split is = ap event_by split ∙ ap (λ (test : Bool). if test then as_event Start (job_by words) else other_event (verb ∷ words)) is

-- and one without
pub not_begun : (line verb : List ℕ) (words : List (List ℕ)) → words_of line ≡ verb ∷ words → is_word verb (codes "start") ≡ false → event_by (words_of line) ≡ other_event (words_of line)
not_begun line verb words split is = ap event_by split ∙ ap (λ (test : Bool). if test then as_event Start (job_by words) else other_event (verb ∷ words)) is ∙ ap other_event (sym split)

event_told : (told : Result Event LineFault) → IsOk told → (event : Event) × (as_some told ≡ Ok (Some event))
event_told (Ok event) ok = (event, refl)
event_told (Err fault) ok = absurd (cc)

-- a line that tells an event
pub tells_event : (line : List ℕ) → length line ≤ greatest_line → is_blank line ≡ false → IsOk (event_by (words_of line)) → (event : Event) × (event_of line ≡ Ok (Some event))
tells_event line fits some ok =
    let event = event_told (event_by (words_of line)) ok in
    let short : nat_lt greatest_line (length line) ≡ false = grind (arith, nat_tests) in
    let told : Result (Option Event) LineFault = as_some (event_by (words_of line)) in
    let same : event_of line ≡ told = ap (λ (long : Bool). if long then Err TooLong else if is_blank line then Ok None else told) short ∙ ap (λ (blank : Bool). if blank then Ok None else told) some in
    (event.0, same ∙ event.1)
