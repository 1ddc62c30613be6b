-- What tests on texts, names, heads and archives decide.
use Rattle.std.proofs.Common.{◌≡◌, ◌≢◌, ℕ, ◌==◌, ◌&&◌, not, nat_eq, List, length, refl, sym, ap, ◌∙◌, Decides}
use Rattle.std.specs.Cmp.Lexicographic.{pointwise}
use Rattle.std.specs.List.{All, list_all}
use Rattle.std.proofs.lemmas.Bool.Decides.{Decides-and, Decides-by_and, Decides-eqb, Decides-ltb, Decides-not}
use Rattle.std.proofs.lemmas.Slice.Eq.{slice_eq-Decides}
use Rattle.sw_types.specs.Head.{HeadModel, Pair}
use Rattle.sw_types.specs.Name.{NameModel, name_eq}
use Rattle.sw_types.proofs.Names.{name_eq-same, name_eq-true}
use Rattle.sw_archive.specs.Alike.{are_alike, head_eq, is_beside, is_next, pair_eq}
use Rattle.sw_archive.specs.Archive.{ArchiveModel}
use Rattle.sw_archive.specs.Assemble.{AreAlike, IsNext}
use Rattle.sw_archive.proofs.Archives.{same_archive}
use Rattle.sw_archive.proofs.Heads.{same_pair}

pub Decides-texts : (a b : List ℕ) → Decides (pointwise nat_eq a b) (a ≡ b)
Decides-texts a b = slice_eq-Decides Decides-eqb a b (pointwise nat_eq a b) refl

Decides-pair : (a b : Pair) → Decides (pair_eq a b) (a ≡ b)
Decides-pair a b =
    let both = Decides-and _ _ (Decides-texts a.0 b.0) (Decides-texts a.1 b.1) in (
      λ yes. same_pair a b (both.0 yes).0 (both.0 yes).1,
      λ same. both.1 (ap (λ (pair : Pair). pair.0) same, ap (λ (pair : Pair). pair.1) same),
    )

Decides-head : (a b : HeadModel) → Decides (head_eq a b) (a ≡ b)
Decides-head a b =
    let both = Decides-and _ _ (Decides-texts a.content_type b.content_type) (slice_eq-Decides Decides-pair a.pairs b.pairs (pointwise pair_eq a.pairs b.pairs) refl) in (
      λ yes. ap (λ (text : List ℕ). record { content_type = text; pairs = a.pairs }) (both.0 yes).0 ∙ ap (λ (pairs : List Pair). record { content_type = b.content_type; pairs = pairs }) (both.0 yes).1,
      λ same. both.1 (ap (λ (head : HeadModel). head.content_type) same, ap (λ (head : HeadModel). head.pairs) same),
    )

Decides-name : (a b : NameModel) → Decides (name_eq a b) (a ≡ b)
Decides-name a b = (λ yes. name_eq-true a b yes, λ same. ap (name_eq a) (sym same) ∙ name_eq-same a)

Decides-alike : (a b : ArchiveModel) → Decides (are_alike a b) (AreAlike a b)
Decides-alike a b =
    let all = Decides-and _ _ (Decides-eqb a.k b.k) (Decides-and _ _ (Decides-eqb a.m b.m) (Decides-and _ _ (Decides-eqb a.segment b.segment) (Decides-and _ _ (Decides-eqb a.stamp b.stamp)
    (Decides-and _ _ (Decides-eqb a.body_length b.body_length) (Decides-and _ _ (Decides-texts a.body_md5 b.body_md5) (Decides-and _ _ (Decides-name a.name b.name) (Decides-head a.head b.head))))))) in (
      λ yes. let p = all.0 yes in
          same_archive a (record b { index = a.index; payload = a.payload }) p.0 p.1.0 refl p.1.1.0 p.1.1.1.0 p.1.1.1.1.0 p.1.1.1.1.1.0 p.1.1.1.1.1.1.0 p.1.1.1.1.1.1.1 refl,
      λ alike. all.1 (
        ap (λ (x : ArchiveModel). x.k) alike,
        (
          ap (λ (x : ArchiveModel). x.m) alike,
          (
            ap (λ (x : ArchiveModel). x.segment) alike,
            (
              ap (λ (x : ArchiveModel). x.stamp) alike,
              (ap (λ (x : ArchiveModel). x.body_length) alike, (ap (λ (x : ArchiveModel). x.body_md5) alike, (ap (λ (x : ArchiveModel). x.name) alike, ap (λ (x : ArchiveModel). x.head) alike))),
            ),
          ),
        ),
      ),
    )

-- the test of `add`
pub Decides-next : (archives : List ArchiveModel) (archive : ArchiveModel) → Decides (is_next archives archive) (IsNext archives archive)
Decides-next archives archive =
    let one = λ (other : ArchiveModel). Decides-and _ _ (Decides-not _ (Decides-eqb other.index archive.index)) (Decides-alike other archive) in
    let beside : Decides (is_beside archives archive) (All (λ (other : ArchiveModel). (other.index ≢ archive.index) × AreAlike other archive) archives) =
    Decides-by_and _ _ (list_all (λ other. not (other.index == archive.index) && are_alike other archive)) one refl (λ _ _. refl) archives in
    let both = Decides-and _ _ (Decides-ltb (length archives) archive.k) beside in (
      λ yes. let p = both.0 yes in record { alike = λ position d below. (p.1 position d below).1; new = λ position d below. (p.1 position d below).0; few = p.0 },
      λ next. both.1 (next.few, λ position d below. (next.new position d below, next.alike position d below)),
    )
