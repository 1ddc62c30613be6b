-- Tests whether archives are alike, and whether one can stand beside others.
use Rattle.std.specs.Prelude.{◌==◌, Bool, not, ◌&&◌, nat_eq, nat_lt, List, length}
use Rattle.std.specs.Cmp.Lexicographic.{pointwise}
use Rattle.std.specs.List.{list_all}
use Rattle.sw_types.specs.Head.{HeadModel, Pair}
use Rattle.sw_types.specs.Name.{name_eq}
use Rattle.sw_archive.specs.Archive.{ArchiveModel}

abbrev pub pair_eq : Pair → Pair → Bool
pair_eq a b = pointwise nat_eq a.0 b.0 && pointwise nat_eq a.1 b.1

-- whether two heads have the same content type and pairs
abbrev pub head_eq : HeadModel → HeadModel → Bool
head_eq a b = pointwise nat_eq a.content_type b.content_type && pointwise pair_eq a.pairs b.pairs

-- whether two archives are alike but for index and payload
abbrev pub are_alike : ArchiveModel → ArchiveModel → Bool
are_alike a b =
    a.k == b.k && (a.m == b.m && (a.segment == b.segment && (a.stamp == b.stamp && (a.body_length == b.body_length
    && (pointwise nat_eq a.body_md5 b.body_md5 && (name_eq a.name b.name && head_eq a.head b.head))))))

-- whether an archive is alike to each of these, and its index is not there
abbrev pub is_beside : List ArchiveModel → ArchiveModel → Bool
is_beside archives archive = list_all (λ other. not (other.index == archive.index) && are_alike other archive) archives

-- whether an archive can stand beside these
abbrev pub is_next : List ArchiveModel → ArchiveModel → Bool
is_next archives archive = nat_lt (length archives) archive.k && is_beside archives archive
