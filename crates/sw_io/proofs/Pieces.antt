-- Bytes that are read or written piece by piece.
use Rattle.std.proofs.Common.{◌≡◌, ℕ, ◌+◌, ◌<◌, ◌≤◌, List, ◌++◌, Option, length, take, drop, sym, ap, ◌∙◌, subst, append_assoc, length-append, take-append-drop, arith}
use Rattle.std.specs.Io.KnownBytes.{Appends, Consumes, Keeps}
use Rattle.std.proofs.KnownBytes.{Appends-trans, Appends-kept, Consumes-trans}
use Rattle.std.proofs.Math.Seq.{take-append_seam}
use Rattle.sw_io.specs.Whole.{AppendsProperFront, ConsumesFront}

-- of all the bytes a front was written, and the rest is left
pub record WrotePart (old new : Option (List ℕ)) (all rest : List ℕ) : Type 0 where
  pub done : List ℕ
  pub split : all ≡ done ++ rest
  pub grew : Appends old new done

pub WrotePart-more : (a b c : Option (List ℕ)) (all rest : List ℕ) (n : ℕ) → WrotePart a b all rest → Appends b c (take n rest) → WrotePart a c all (drop n rest)
WrotePart-more a b c all rest n part wrote = record {
  done = part.done ++ take n rest;
  split = part.split ∙ ap (λ l. part.done ++ l) (sym (take-append-drop n rest)) ∙ sym (append_assoc part.done (take n rest) (drop n rest));
  grew = Appends-trans a b c part.done (take n rest) part.grew wrote;
}

pub WrotePart-front : (a b c : Option (List ℕ)) (all rest : List ℕ) → WrotePart a b all rest → 0 < length rest → Keeps b c → AppendsProperFront a c all
WrotePart-front a b c all rest part left kept =
    let front : take (length part.done) all ≡ part.done = ap (take (length part.done)) part.split ∙ take-append_seam part.done rest in
    let proper : length part.done < length all = omega (arith, ap length part.split, length-append part.done rest) in
    (length part.done, subst (Appends a c) (sym front) (Appends-kept a b c part.done part.grew kept), proper)

-- a front after what was read before
pub ConsumesFront-more : (a b c : Option (List ℕ)) (bytes : List ℕ) (more limit : ℕ) → Consumes a b bytes → length bytes + more ≤ limit → ConsumesFront b c more → ConsumesFront a c limit
ConsumesFront-more a b c bytes more limit before room last =
    (bytes ++ last.0, Consumes-trans a b c bytes last.0 before last.1, omega (arith, length-append bytes last.0, last.2))
