use Rattle.std.proofs.Common.{◌≡◌, Some, ◌∙◌, sym, arith}
use Rattle.std.proofs.lemmas.Option.{IfSome_then, none-some, same_Some}
use Rattle.sw_hashpath.specs.FileName.{IsFileName, file_name_text}
use Rattle.sw_hashpath.specs.declared.file_name.FileName.{FileName}
use Rattle.sw_hashpath.proofs.FileNames.{cut_text, joined_text, long_text, name_read, stamp_bound, stamp_of}
use Rattle.sw_hashpath.proofs.file_name.FileName.read.Goals as goal
use Rattle.sw_hashpath.proofs.file_name.FileName.read.Goals.{After-read}

-- the stamp in front of the text of a name is read
stamp_read : (c : After-read) (name : FileName) → IsFileName name → c.args.text.now ≡ file_name_text name → c.read.result ≡ Some (stamp_of name)
stamp_read c name is_name printed =
    let parts = cut_text c.as_bytes.result.now _ _ name c.in_ok-stamp.ensures.cases (c.as_bytes.ensures.value ∙ printed) in
    c.read.ensures.reads (stamp_of name) (stamp_bound name is_name) parts.0

pub returns-in_err-stamp-clause-reads : goal.returns-in_err-stamp-clause-reads
returns-in_err-stamp-clause-reads c = λ name is_name printed.
    let long = long_text c.as_bytes.result.now name (c.as_bytes.ensures.value ∙ printed) in
    absurd (omega (arith, long, c.in_err-stamp.ensures.cases))

pub returns-clause-text : goal.returns-clause-text
returns-clause-text c = IfSome_then c.name_at.result c.name_at.ensures.text (λ name same.
    sym c.as_bytes.ensures.value ∙ joined_text c.as_bytes.result.now _ _ c.in_ok-read.field-0 name c.in_ok-stamp.ensures.cases c.in_ok-read.ensures.found same)

pub returns-in_err-read-clause-reads : goal.returns-in_err-read-clause-reads
returns-in_err-read-clause-reads c = λ name is_name printed.
    let read = stamp_read (goal.at.returns-in_err-read-clause-reads c).After-read name is_name printed in
    absurd (none-some (stamp_of name) (sym c.in_err-read.was ∙ read))

pub returns-clause-reads : goal.returns-clause-reads
returns-clause-reads c = λ name is_name printed.
    let read = stamp_read (goal.at.returns-clause-reads c).After-read name is_name printed in
    let parts = cut_text c.as_bytes.result.now _ _ name c.in_ok-stamp.ensures.cases (c.as_bytes.ensures.value ∙ printed) in
    name_read name c.in_ok-read.field-0 c.in_ok-stamp.rest.now c.name_at.result is_name (same_Some _ _ (sym c.in_ok-read.was ∙ read)) parts.1 c.name_at.ensures.data c.name_at.ensures.tombstone
