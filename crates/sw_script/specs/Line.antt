-- The lines of a script, and the event that a line tells.
use Rattle.std.specs.Prelude.{ℕ, ◌==◌, Bool, true, if◌then◌else◌, nat_lt, codes, List, [], ◌∷◌, length, Option, Some, None, Result, Ok, Err}
use Rattle.std.specs.List.{slice_split}
use Rattle.sw_types.specs.Name.{NameModel}
use Rattle.sw_types.specs.Object.{ObjectModel}
use Rattle.sw_script.specs.Word.{is_word, name_of, number_of, object_in, stamp_of}
use Rattle.sw_script.specs.declared.event.Event.{Event}
use Rattle.sw_script.specs.declared.event.Event.TheVariants.{All, Crash, Deliver, GiveUp, Lose, Restart, Run, SetClock, Show, Start, Stop}
use Rattle.sw_script.specs.declared.event.Job.{Job}
use Rattle.sw_script.specs.declared.event.Job.TheVariants.{Delete, Get, Head, Put, Recon}
use Rattle.sw_script.specs.declared.fault.LineFault.{LineFault}
use Rattle.sw_script.specs.declared.fault.LineFault.TheVariants.{BadHex, BadName, BadNumber, Form, NoDevice, NoMemory, NoMessage, NoOperation, TooLong}

-- the number that is printed for a fault of a line; want of memory is printed by none
abbrev pub line_fault_number : LineFault → ℕ
line_fault_number Form = 1
line_fault_number BadNumber = 2
line_fault_number BadHex = 3
line_fault_number BadName = 4
line_fault_number TooLong = 5
line_fault_number NoMessage = 6
line_fault_number NoDevice = 7
line_fault_number NoOperation = 8
line_fault_number NoMemory = 0

-- the greatest number of bytes of a line, without its end
abbrev pub greatest_line : ℕ
greatest_line = 65536

-- lines end with a line feed, which the last may lack
abbrev pub lines_of : List ℕ → List (List ℕ)
lines_of script = slice_split (λ byte. byte == 10) script

-- words are separated by one space
abbrev pub words_of : List ℕ → List (List ℕ)
words_of line = slice_split (λ byte. byte == 32) line

-- ---- a part that is read before the rest, or a fault of it

abbrev pub read_or : {A B : Type 0} → LineFault → Option A → (A → Result B LineFault) → Result B LineFault
read_or fault (Some value) rest = rest value
read_or fault None rest = Err fault

abbrev pub number_then : {B : Type 0} → List ℕ → (ℕ → Result B LineFault) → Result B LineFault
number_then word rest = read_or BadNumber (number_of word) rest

abbrev pub name_then : {B : Type 0} → List ℕ → (NameModel → Result B LineFault) → Result B LineFault
name_then word rest = read_or BadName (name_of word) rest

abbrev pub object_then : {B : Type 0} → List ℕ → (ObjectModel → Result B LineFault) → Result B LineFault
object_then word rest = read_or BadHex (object_in word) rest

-- ---- the forms

-- `get NAME`, `head NAME`, `del NAME`
abbrev pub named_job : List ℕ → List ℕ → Result Job LineFault
named_job verb name =
    if is_word verb (codes "get") then name_then name (λ n. Ok (Get n))
    else if is_word verb (codes "head") then name_then name (λ n. Ok (Head n))
    else if is_word verb (codes "del") then name_then name (λ n. Ok (Delete n))
    else Err Form

abbrev pub put_of : (name body : List ℕ) → Result Job LineFault
put_of name body = name_then name (λ n. object_then body (λ object. Ok (Put n object)))

-- `put NAME HEX`, `recon J NAME`
abbrev pub longer_job : List ℕ → (first second : List ℕ) → Result Job LineFault
longer_job verb first second =
    if is_word verb (codes "put") then put_of first second
    else if is_word verb (codes "recon") then number_then first (λ device. name_then second (λ name. Ok (Recon device name)))
    else Err Form

abbrev pub job_by : List (List ℕ) → Result Job LineFault
job_by (verb ∷ name ∷ []) = named_job verb name
job_by (verb ∷ first ∷ second ∷ []) = longer_job verb first second
job_by other = Err Form

abbrev pub as_event : (Job → Event) → Result Job LineFault → Result Event LineFault
as_event event (Ok job) = Ok (event job)
as_event event (Err fault) = Err fault

-- `stop J`, `restart J`, `lose J`, or a job
abbrev pub device_event : List ℕ → List ℕ → Result Event LineFault
device_event verb word =
    if is_word verb (codes "stop") then number_then word (λ device. Ok (Stop device))
    else if is_word verb (codes "restart") then number_then word (λ device. Ok (Restart device))
    else if is_word verb (codes "lose") then number_then word (λ device. Ok (Lose device))
    else as_event Run (named_job verb word)

-- `msg M`, `giveup R`, `clock STAMP`, or one of these
abbrev pub short_event : List ℕ → List ℕ → Result Event LineFault
short_event verb word =
    if is_word verb (codes "msg") then number_then word (λ message. Ok (Deliver message))
    else if is_word verb (codes "giveup") then number_then word (λ operation. Ok (GiveUp operation))
    else if is_word verb (codes "clock") then read_or Form (stamp_of word) (λ stamp. Ok (SetClock stamp))
    else device_event verb word

-- `show J NAME`, or a job
abbrev pub longer_event : List ℕ → (first second : List ℕ) → Result Event LineFault
longer_event verb first second =
    if is_word verb (codes "show") then number_then first (λ device. name_then second (λ name. Ok (Show device name)))
    else as_event Run (longer_job verb first second)

-- `all`
abbrev pub lone_event : List ℕ → Result Event LineFault
lone_event word = if is_word word (codes "all") then Ok All else Err Form

-- `crash M CALLS PICK`
abbrev pub crash_event : List ℕ → (message calls pick : List ℕ) → Result Event LineFault
crash_event verb message calls pick =
    if is_word verb (codes "crash") then number_then message (λ m. number_then calls (λ c. number_then pick (λ p. Ok (Crash m c p))))
    else Err Form

abbrev pub other_event : List (List ℕ) → Result Event LineFault
other_event (word ∷ []) = lone_event word
other_event (verb ∷ word ∷ []) = short_event verb word
other_event (verb ∷ first ∷ second ∷ []) = longer_event verb first second
other_event (verb ∷ message ∷ calls ∷ pick ∷ []) = crash_event verb message calls pick
other_event words = Err Form

-- `start` and a job, or another form
abbrev pub event_by : List (List ℕ) → Result Event LineFault
event_by [] = Err Form
event_by (verb ∷ words) = if is_word verb (codes "start") then as_event Start (job_by words) else other_event (verb ∷ words)

abbrev pub as_some : Result Event LineFault → Result (Option Event) LineFault
as_some (Ok event) = Ok (Some event)
as_some (Err fault) = Err fault

-- an empty line and a comment tell nothing
abbrev pub is_blank : List ℕ → Bool
is_blank [] = true
is_blank (first ∷ rest) = first == 35

-- the event that a line tells, if it tells one, or its first fault
abbrev pub event_of : List ℕ → Result (Option Event) LineFault
event_of line =
    if nat_lt greatest_line (length line) then Err TooLong
    else if is_blank line then Ok None
    else as_some (event_by (words_of line))
