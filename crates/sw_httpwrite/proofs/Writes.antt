-- Some bytes that are written behind others.
use Rattle.std.proofs.Common.{◌≡◌, ℕ, ◌+◌, ◌<◌, List, ◌++◌, Option, Result, Ok, Err, OnErr, length, take, sym, subst, length-append, arith}
use Rattle.std.specs.Io.KnownBytes.{Appends}
use Rattle.std.proofs.KnownBytes.{Appends-trans}
use Rattle.std.proofs.Math.Seq.{take-append-add}
use Rattle.sw_io.specs.Whole.{AppendsProperFront}

AppendsProperFront-both : (a b c : Option (List ℕ)) (first second : List ℕ) → Appends a b first → AppendsProperFront b c second → AppendsProperFront a c (first ++ second)
AppendsProperFront-both a b c first second before part = (
  length first + part.0,
  subst (Appends a c) (sym (take-append-add first second part.0)) (Appends-trans a b c first (take part.0 second) before part.1),
  omega (arith, length-append first second, part.2),
)

-- the first were written, and then the second, but these maybe not whole
pub AppendsProperFront-after : {X Y : Type 0} (result : Result X Y) (a b c : Option (List ℕ)) (first second : List ℕ) → Appends a b first
    → OnErr result (AppendsProperFront b c second) → OnErr result (AppendsProperFront a c (first ++ second))
AppendsProperFront-after (Ok x) a b c first second before h = tt
AppendsProperFront-after (Err e) a b c first second before h = AppendsProperFront-both a b c first second before h
