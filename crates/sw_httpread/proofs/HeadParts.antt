-- What comes of the bytes that were read.
use Rattle.std.proofs.Common.{◌≤◌, ℕ, List, take, drop, Option, subst, arith}
use Rattle.std.proofs.lemmas.List.{length-take}
use Rattle.sw_httpread.specs.Lines.{IsWholeHead}
use Rattle.sw_httpread.specs.Ends.{greatest_length, HasWhole, IsUnended}
use Rattle.sw_httpread.specs.Reading.{Grew}
use Rattle.sw_httpread.specs.Heads.{IsHeadNext, IsTaken, ReadsHead}
use Rattle.sw_httpread.specs.declared.head.HeadNext.{HeadNext}
use Rattle.sw_httpread.specs.declared.head.HeadNext.TheVariants.{Head, End, Cut, BadHead, HeadTooLarge, ReadFault, NoMemory}
use Rattle.sw_httpread.proofs.Ends.{ends_at}

-- what the bytes that are had then lead to is what comes of them
pub reads_head : (left left' : Option (List ℕ)) (unused had new : List ℕ) (next : HeadNext) → Grew (IsUnended IsWholeHead) left left' unused had → IsHeadNext had left' next new → ReadsHead left left' unused new next
reads_head left left' unused had new next g n = record {
  got = g.got;
  consumed = g.consumed;
  needed = g.needed;
  outcome = subst (λ (t : List ℕ). IsHeadNext t left' next new) g.grown n;
}

pub taken : (left' : Option (List ℕ)) (had new : List ℕ) (next : HeadNext) (n : ℕ) → HasWhole IsWholeHead had n → n ≤ greatest_length → IsTaken (take n had) next had new → IsHeadNext had left' next new
taken left' had new (Head head) n w bound t = (take n had, record { split = t.1; whole = w.1; bound = omega (arith, bound, w.0, length-take n had) }, t.0)
taken left' had new BadHead n w bound t = (t.1, take n had, drop n had, ends_at IsWholeHead had n w bound, t.0)
taken left' had new NoMemory n w bound t = t
taken left' had new HeadTooLarge n w bound t = absurd t
taken left' had new End n w bound t = absurd t
taken left' had new Cut n w bound t = absurd t
taken left' had new ReadFault n w bound t = absurd t
