use Rattle.sw_law_example.proofs.Example.{example}
use Rattle.sw_law_example.proofs.Found.{finds}
use Rattle.sw_law_example.proofs.Given.{have_room, may_be_put, some_name, some_object}
use Rattle.sw_law_example.proofs.laws.example_law.Goals as goal

pub returns-clause-stores : goal.returns-clause-stores
returns-clause-stores c = example

pub returns-clause-given : goal.returns-clause-given
returns-clause-given c = (some_name, some_object, may_be_put, have_room)

pub returns-clause-finds : goal.returns-clause-finds
returns-clause-finds c = finds
