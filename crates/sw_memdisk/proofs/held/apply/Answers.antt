use Rattle.std.proofs.Common.{not, rules}
use Rattle.std.proofs.lemmas.Fn.{filter_same}
use Rattle.sw_memdisk.specs.Held.{held_named}
use Rattle.sw_memdisk.proofs.held.apply.Goals as goal

pub returns-in-Remove-clause-files : goal.returns-in-Remove-clause-files
returns-in-Remove-clause-files c = rw c.in-Remove.is (filter_same _ (λ held. not (held_named c.in-Remove.name held)) _ (λ x b f' k. search rules) _ _ c.retain.ensures.filtered)
