use Rattle.std.proofs.Common.{rules, sym}
use Rattle.sw_words.specs.Bytes.{IsBytes}
use Rattle.sw_archive.proofs.Faults.{read_behind}
use Rattle.sw_archive.proofs.Readings.{bytes_behind, faultless}
use Rattle.sw_archive.proofs.reading.check_fields.Goals as goal

pub check_behind-requires-clause-numbers : goal.check_behind-requires-clause-numbers
check_behind-requires-clause-numbers c = (faultless c.args.bytes.now c.read-header.result.0 (sym c.in_default.ensures)).numbers

pub returns : goal.returns
returns c =
    let bytes : IsBytes c.args.bytes.now = search rules in
    let header = c.read-header.result.0 in
    let rest = c.read-header.result.1.now in
    read_behind c.args.bytes.now header rest c.check_behind.result c.if-bytes-lt68.false c.read-header.ensures.opens (sym c.in_default.ensures) c.read-header.ensures.rest
    (bytes_behind c.args.bytes.now header rest c.read-header.ensures.opens bytes) c.check_behind.ensures
