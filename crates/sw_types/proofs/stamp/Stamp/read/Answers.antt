use Rattle.std.proofs.Common.{◌≡◌, ℕ, ◌<◌, ◌≤◌, ◌/◌, ◌%◌, ◌^◌, List, Option, Some, None, IfSome, SomeIff, length, sym, ◌∙◌, ap, arith}
use Rattle.sw_types.specs.Decimal.{last_digits}
use Rattle.sw_types.specs.Stamp.{greatest_stamp, stamp_text}
use Rattle.sw_types.proofs.DigitsRead.{AreOf, as_long, fraction_is, length-stamp_text, point_is, seconds_are, stamp_of_parts}
use Rattle.sw_types.proofs.stamp.Stamp.read.Goals as goal
use Rattle.sw_types.proofs.stamp.Stamp.read.Goals.{After-read_digits, After-read_digits-2, After-make, then-text-ne16-via-then-text-ne16, then-text-ne16-via-else-text-ne16+then-text-ne46}

-- digits are read as the number that they write
abbrev Reads : List ℕ → Option ℕ → Type 0
Reads digits result = (number : ℕ) → number < 10 ^ length digits → digits ≡ last_digits (length digits) number → result ≡ Some number

read_as : (count n : ℕ) (digits : List ℕ) (result : Option ℕ) → Reads digits result → AreOf count digits n → result ≡ Some n
read_as count n digits result reads are = let all = as_long count n digits are in reads n all.1 all.0

-- the seconds of a stamp's text are read, and so is its fraction
seconds : (c : After-read_digits) (stamp : ℕ) → stamp ≤ greatest_stamp → c.args.text.now ≡ stamp_text stamp → c.read_digits.result ≡ Some (stamp / 100000)
seconds c stamp within printed = read_as 10 (stamp / 100000) _ c.read_digits.result c.read_digits.ensures.reads (seconds_are c.args.text.now stamp within printed)

fraction : (c : After-read_digits-2) (stamp : ℕ) → c.args.text.now ≡ stamp_text stamp → c.read_digits-2.result ≡ Some (stamp % 100000)
fraction c stamp printed = read_as 5 (stamp % 100000) _ c.read_digits-2.result c.read_digits-2.ensures.reads (fraction_is c.args.text.now stamp printed)

pub returns-then-text-ne16-clause-reads : goal.returns-then-text-ne16-clause-reads
returns-then-text-ne16-clause-reads c = λ stamp within printed. elim c.then-text-ne16.branch [
  | then-text-ne16-via-then-text-ne16 w ↦ absurd (w.if-text-ne16.true (ap length printed ∙ length-stamp_text stamp))
  | then-text-ne16-via-else-text-ne16+then-text-ne46 w ↦ absurd (w.if-text-ne46.true (point_is c.args.text.now stamp printed))
]

pub returns-in_err-seconds-clause-reads : goal.returns-in_err-seconds-clause-reads
returns-in_err-seconds-clause-reads c = λ stamp within printed.
    let read = sym c.in_err-seconds.was ∙ seconds (goal.at.returns-in_err-seconds-clause-reads c).After-read_digits stamp within printed in absurd (cc)

pub returns-in_err-fraction-clause-reads : goal.returns-in_err-fraction-clause-reads
returns-in_err-fraction-clause-reads c = λ stamp within printed.
    let read = sym c.in_err-fraction.was ∙ fraction (goal.at.returns-in_err-fraction-clause-reads c).After-read_digits-2 stamp printed in absurd (cc)

found : (text : List ℕ) (units : ℕ) (result : Option ℕ) → SomeIff result (units ≤ greatest_stamp) units → text ≡ stamp_text units → IfSome result (λ stamp. text ≡ stamp_text stamp)
found text units None is printed = tt
found text units (Some stamp) is printed = printed ∙ ap stamp_text (sym is.1)

made : (units stamp : ℕ) (result : Option ℕ) → SomeIff result (units ≤ greatest_stamp) units → units ≡ stamp → stamp ≤ greatest_stamp → result ≡ Some stamp
made units stamp None is same within = absurd (is (omega (arith, same, within)))
made units stamp (Some value) is same within = ap (λ n. Some n) (is.1 ∙ same)

pub returns-clause-found : goal.returns-clause-found
returns-clause-found c = found c.args.text.now _ c.make.result c.make.ensures
    (stamp_of_parts c.args.text.now c.in_ok-seconds.seconds c.in_ok-fraction.fraction c.if-text-ne16.false c.if-text-ne46.false c.in_ok-seconds.ensures.found c.in_ok-fraction.ensures.found)

pub returns-clause-reads : goal.returns-clause-reads
returns-clause-reads c = λ stamp within printed.
    let at = goal.at.returns-clause-reads c in
    let first = sym c.in_ok-seconds.was ∙ seconds at.After-read_digits stamp within printed in
    let second = sym c.in_ok-fraction.was ∙ fraction at.After-read_digits-2 stamp printed in
    let whole : c.in_ok-seconds.seconds ≡ stamp / 100000 = cc in
    let part : c.in_ok-fraction.fraction ≡ stamp % 100000 = cc in
    made _ stamp c.make.result c.make.ensures (omega (arith, whole, part)) within
