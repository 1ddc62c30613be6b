use Rattle.sw_script.specs.Word.{name_of, object_in}
use Rattle.sw_script.proofs.Bodies.{body_fault, body_there}
use Rattle.sw_script.proofs.line.read_put.Goals as goal

pub returns-in-Err-NoMemory-clause-fault : goal.returns-in-Err-NoMemory-clause-fault
returns-in-Err-NoMemory-clause-fault c = body_fault (name_of c.args.name.now) (object_in c.args.body.now) c.object_fault.result (c.in-Err-NoMemory.ensures.memory c.in-Err-NoMemory.field-0-is) c.object_fault.ensures

pub returns-in-Err-NoMemory-clause-memory : goal.returns-in-Err-NoMemory-clause-memory
returns-in-Err-NoMemory-clause-memory c = body_there (name_of c.args.name.now) (object_in c.args.body.now) c.object_fault.result (c.in-Err-NoMemory.ensures.memory c.in-Err-NoMemory.field-0-is) c.object_fault.ensures
