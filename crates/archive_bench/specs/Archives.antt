-- The archives of an object that is put.
use Rattle.std.specs.Prelude.{ℕ, List, length, map}
use Rattle.std.specs.List.{range_with_len}
use Rattle.sw_archive.specs.Archive.{ArchiveModel}
use Rattle.sw_archive.specs.Put.{put_archive, put_fields}
use Rattle.archive_bench.specs.declared.put.Put.{Put}

-- the archive of an index, as bytes and as fields
abbrev pub archive_at : Put → ℕ → List ℕ
archive_at put index = put_archive put.policy put.stamp put.name put.object index

abbrev pub fields_at : Put → ℕ → ArchiveModel
fields_at put index = put_fields put.policy put.stamp put.name put.object index

-- the first so many archives
abbrev pub archives_of : Put → ℕ → List (List ℕ)
archives_of put count = map (archive_at put) (range_with_len 0 count)

-- their lengths
abbrev pub lengths_of : Put → ℕ → List ℕ
lengths_of put count = map (λ index. length (archive_at put index)) (range_with_len 0 count)

-- the fields of so many archives, from an index on
abbrev pub fields_from : Put → ℕ → ℕ → List ArchiveModel
fields_from put first count = map (fields_at put) (range_with_len first count)
