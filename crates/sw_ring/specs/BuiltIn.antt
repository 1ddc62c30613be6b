-- The ring of a cluster for which no text was given.
use Rattle.std.specs.Prelude.{ℕ, codes, List}

-- four devices, of which three keep the fragments of the only partition
abbrev pub built_in : List ℕ
built_in = codes "{\"part_power\":0,\"k\":2,\"m\":1,\"q\":3,\"c\":2,\"devices\":[{\"id\":0},{\"id\":1},{\"id\":2},{\"id\":3}],\"rows\":[[0],[1],[2]]}"
