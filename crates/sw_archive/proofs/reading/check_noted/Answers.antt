use Rattle.sw_archive.proofs.Faults.{reads, refused}
use Rattle.sw_archive.proofs.reading.check_noted.Goals as goal

pub returns-clause-reads : goal.returns-clause-reads
returns-clause-reads c = reads c.args.bytes.now c.check_fields.result c.check_fields.ensures

pub returns-clause-refused : goal.returns-clause-refused
returns-clause-refused c = refused c.args.bytes.now c.check_fields.result c.check_fields.ensures
