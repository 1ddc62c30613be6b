-- What a round knows once an archive was joined.
use Rattle.std.proofs.Common.{◌≡◌, ◌+◌, Bool, true, List, [], ◌∷◌, ◌++◌, length, refl, sym, ap, subst, ◌∙◌}
use Rattle.std.proofs.lemmas.List.{length-append}
use Rattle.sw_types.specs.Policy.{PolicyModel}
use Rattle.sw_archive.specs.Archive.{ArchiveModel}
use Rattle.sw_archive.specs.Assemble.{IsTold}
use Rattle.sw_message.specs.declared.target.Target.{Target}
use Rattle.sw_gather.specs.Gathered.{GatheredModel, IsBeside}
use Rattle.sw_get.specs.Meaning.{Brings, IsJoined, IsTaken, with_fetched}
use Rattle.sw_get.specs.Round.{Facts, RoundModel}

-- ---- what a round then knows

pub brought : (policy : PolicyModel) (gathered after : GatheredModel) (archive : ArchiveModel) → IsBeside policy gathered archive after → IsJoined policy gathered.archives archive (Brings archive)
brought policy gathered after archive beside = (
  refl,
  beside.next,
  λ enough.
      let there = beside.object (ap length beside.archives ∙ enough) in
      (there.0, there.2, subst (λ archives. IsTold archives there.0) beside.archives there.3),
)

pub with_brought : (facts : Facts) (source : Target) (archive : ArchiveModel) (sources : List Target) (archives : List ArchiveModel) → sources ≡ facts.sources ++ source ∷ [] → archives ≡ facts.archives ++ archive ∷ []
    → record facts { sources = sources; archives = archives } ≡ with_fetched facts source (Brings archive)
with_brought facts source archive sources archives longer more =
    ap (λ sources. record facts { sources = sources; archives = archives }) longer ∙ ap (λ archives. record facts { sources = facts.sources ++ source ∷ []; archives = archives }) more

pub as_long : (sources longer : List Target) (archives more : List ArchiveModel) (source : Target) (archive : ArchiveModel) → length sources ≡ length archives → longer ≡ sources ++ source ∷ []
    → more ≡ archives ++ archive ∷ [] → length more ≡ length longer
as_long sources longer archives more source archive same first second =
    ap length second ∙ length-append archives (archive ∷ []) ∙ ap (λ n. n + 1) (sym same) ∙ sym (ap length first ∙ length-append sources (source ∷ []))

pub taken_where : (policy : PolicyModel) (before after : RoundModel) (source : Target) (archive : ArchiveModel) (taken : Bool) → taken ≡ true → IsTaken policy before source archive true after
    → IsTaken policy before source archive taken after
taken_where policy before after source archive taken is whole = subst (λ taken. IsTaken policy before source archive taken after) (sym is) whole
