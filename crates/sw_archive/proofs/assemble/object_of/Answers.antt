use Rattle.std.proofs.Common.{◌≡◌, ◌≢◌, ◌∙◌, List, ℕ, length, Result, Ok, Err, refl, sym, ap, subst}
use Rattle.std.specs.Prelude.{MatchResult}
use Rattle.std.specs.List.{All}
use Rattle.md5.specs.Md5.{md5}
use Rattle.sw_types.specs.Object.{ObjectModel}
use Rattle.sw_archive.specs.Archive.{ArchiveModel}
use Rattle.sw_archive.specs.Assemble.{GivesObject, IsTold}
use Rattle.sw_archive.specs.Pieces.{IsDecoded}
use Rattle.sw_archive.specs.declared.assemble.AssembleFault.{AssembleFault}
use Rattle.sw_archive.specs.declared.assemble.AssembleFault.TheVariants.{BodyMd5}
use Rattle.sw_archive.proofs.Objects.{alike_to_first}
use Rattle.sw_archive.proofs.assemble.object_of.Goals as goal

-- the object of archives, once its body is checked
module _ (archives : List ArchiveModel) (object : ObjectModel) (told : List ℕ) (tells : All (λ (archive : ArchiveModel). told ≡ archive.body_md5) archives)
    (head : All (λ (archive : ArchiveModel). object.head ≡ archive.head) archives) (long : All (λ (archive : ArchiveModel). length object.body ≡ archive.body_length) archives)
    (decoded : IsDecoded archives object.body) where
  is_told : told ≡ object.body_md5 → IsTold archives object
  is_told same = record { head = head; length = long; body_md5 = λ position other below. sym same ∙ tells position other below; decoded = decoded }

  is_other : told ≢ md5 object.body → GivesObject archives (Err (BodyMd5 told (md5 object.body)))
  is_other differs = record { tells = tells; differs = differs; body = object.body; length = long; decoded = decoded; computes = refl }

  gives : (result : Result ObjectModel AssembleFault)
      → MatchResult result (λ checked. (checked ≡ object) × (told ≡ object.body_md5)) (λ fault. (fault ≡ BodyMd5 told (md5 object.body)) × (told ≢ md5 object.body)) → GivesObject archives result
  gives (Ok checked) is = subst (IsTold archives) (sym is.0) (is_told is.1)
  gives (Err fault) is = subst (λ (f : AssembleFault). GivesObject archives (Err f)) (sym is.0) (is_other is.1)

pub returns : goal.returns
returns c =
    gives c.args.archives.now c.in_ok-object.object c.body_md5.result
    (λ position other below.
    c.body_md5.ensures ∙ ap (λ (a : ArchiveModel). a.body_md5) (alike_to_first c.args.archives.now c.index-archives-0.result c.requires.enough c.requires.together c.index-archives-0.is position other below))
    c.in_ok-object.ensures.head c.in_ok-object.ensures.length c.in_ok-object.ensures.decoded c.check_body.result c.check_body.ensures
