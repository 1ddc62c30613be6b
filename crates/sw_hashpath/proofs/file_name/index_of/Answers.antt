use Rattle.std.proofs.Common.{◌≡◌, ◌<◌, ℕ, Bool, ◌++◌, ◌∷◌, Some, codes, append-nil, sym, ap, ◌∙◌}
use Rattle.std.specs.Fmt.{decimal}
use Rattle.std.proofs.lemmas.Bool.{false≢true}
use Rattle.std.proofs.lemmas.Bool.Decides.{Decides-eqb}
use Rattle.std.proofs.lemmas.List.{append_cancel_right}
use Rattle.std.proofs.lemmas.Option.{MatchOption-at_none, MatchOption-at_some, none-some, same_Some}
use Rattle.std.proofs.lemmas.Slice.Eq.{strip_prefix_is, strip_suffix_is}
use Rattle.sw_types.specs.Policy.{greatest_total}
use Rattle.sw_hashpath.specs.FileName.{ending}
use Rattle.sw_hashpath.proofs.FileNames.{IsMarked, mark, marked_parts, middle_text, whole_text}
use Rattle.sw_hashpath.proofs.file_name.index_of.Goals as goal
use Rattle.sw_hashpath.proofs.file_name.index_of.Goals.{After-strip_suffix, After-fragment_of, in-Some, in-None}

pairs : (a b : ℕ) (x y : Bool) → a ≡ b → x ≡ y → ◌≡◌ {A = ℕ × Bool} (a, x) (b, y)
pairs a b x y one other = cc

-- what stands behind the first byte
behind : (c : After-strip_suffix) → c.args.rest.now ≡ codes "#" ++ c.in_ok-strip_prefix.field-0.now
behind c = MatchOption-at_some _ _ _ c.in_ok-strip_prefix.was (strip_prefix_is Decides-eqb c.args.rest.now (codes "#") _ c.strip_prefix.ensures.cases)

-- what stands before the last part
before : (c : After-fragment_of) → c.in_ok-strip_prefix.field-0.now ≡ c.in_ok-rest.rest.now ++ codes ".data"
before c = MatchOption-at_some _ _ _ c.in_ok-rest.was (strip_suffix_is Decides-eqb c.in_ok-strip_prefix.field-0.now (codes ".data") _ c.strip_suffix.ensures.cases)

-- the mark is cut off
marked : (c : After-fragment_of) → IsMarked c.in_ok-rest.rest.now c.match-strip_suffix.durable.0.now c.match-strip_suffix.durable.1
marked c =
    let cut = strip_suffix_is Decides-eqb c.in_ok-rest.rest.now (codes "#d") _ c.strip_suffix-2.ensures.cases in
    elim c.match-strip_suffix.branch [
      | in-Some w ↦ rw w.durable-is (record { is = MatchOption-at_some _ _ _ w.in-Some.is cut; plain = λ no. absurd (false≢true (sym no)) })
      | in-None w ↦ rw w.durable-is (record { is = sym (append-nil c.in_ok-rest.rest.now); plain = λ no. MatchOption-at_none _ _ w.in-None.is cut })
    ]

-- what is read of the text of an index is the index
parts : (c : After-fragment_of) → c.args.rest.now ≡ codes "#" ++ c.in_ok-strip_prefix.field-0.now → (index : ℕ) (durable : Bool) → index < greatest_total → c.args.rest.now ≡ 35 ∷ decimal index ++ ending durable → (c.fragment_of.result ≡ Some index) × (c.match-strip_suffix.durable.1 ≡ durable)
parts c after index durable small printed =
    let middle = append_cancel_right c.in_ok-rest.rest.now (decimal index ++ mark durable) (codes ".data") (sym (before c) ∙ middle_text c.args.rest.now _ index durable after printed) in
    let told = marked_parts _ _ index _ durable small (marked c) middle in
    (c.fragment_of.ensures.reads index small told.0, told.1)

pub returns-in_err-rest-clause-reads : goal.returns-in_err-rest-clause-reads
returns-in_err-rest-clause-reads c = λ index durable small printed.
    let other = MatchOption-at_none _ _ c.in_err-rest.was (strip_suffix_is Decides-eqb c.in_ok-strip_prefix.field-0.now (codes ".data") _ c.strip_suffix.ensures.cases) in
    absurd (other _ (middle_text _ _ index durable (behind (goal.at.returns-in_err-rest-clause-reads c).After-strip_suffix) printed))

pub returns-in_err-fragment_of-clause-reads : goal.returns-in_err-fragment_of-clause-reads
returns-in_err-fragment_of-clause-reads c = λ index durable small printed.
    let here = goal.at.returns-in_err-fragment_of-clause-reads c in
    let read = parts here.After-fragment_of (behind here.After-strip_suffix) index durable small printed in
    absurd (none-some index (sym c.in_err-fragment_of.was ∙ read.0))

pub returns-clause-found : goal.returns-clause-found
returns-clause-found c =
    let here = goal.at.returns-clause-found c in
    let found = c.in_ok-fragment_of.ensures.found in
    (found.0, whole_text _ _ _ _ _ _ (behind here.After-strip_suffix) (before here.After-fragment_of) (marked here.After-fragment_of) found.1)

pub returns-clause-reads : goal.returns-clause-reads
returns-clause-reads c = λ index durable small printed.
    let here = goal.at.returns-clause-reads c in
    let read = parts here.After-fragment_of (behind here.After-strip_suffix) index durable small printed in
    ap Some (pairs _ _ _ _ (same_Some _ _ (sym c.in_ok-fragment_of.was ∙ read.0)) read.1)
