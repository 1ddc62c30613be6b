-- From k archives that stand beside one another that of any index can be rebuilt.
use Rattle.std.proofs.Common.{◌≡◌, ℕ, ◌+◌, ◌-◌, ◌<◌, List, [], ◌∷◌, get_or, length, min, refl, sym, ap, ◌∙◌, length-append, arith}
use Rattle.std.specs.List.{All}
use Rattle.std.proofs.lemmas.List.Elements.{All-head}
use Rattle.sw_words.specs.Bytes.{IsBytes}
use Rattle.sw_words.proofs.ByteLists.{IsBytes-append, IsBytes-none}
use Rattle.sw_cauchy.specs.Stripe.{fragment, fragment_width}
use Rattle.sw_cauchy.proofs.Fragments.{IsBytes-fragment, length-fragment}
use Rattle.sw_archive.specs.Archive.{ArchiveModel, IsSound, archive_bytes}
use Rattle.sw_archive.specs.Assemble.{AreEnough, AreTogether, IsFurther}
use Rattle.sw_archive.specs.Pieces.{ArePieces, joined_fragments}
use Rattle.sw_archive.proofs.Objects.{alike_to_first, further_of_put, some_together}
use Rattle.sw_sync.specs.Sync.{IsRebuilt}

-- ---- fragments, joined

-- are as long for each index
length-joined : (k size total : ℕ) (pieces : List (List ℕ)) (a b : ℕ) → length (joined_fragments k size total pieces a) ≡ length (joined_fragments k size total pieces b)
length-joined k size total [] a b = refl
length-joined k size total (first ∷ others) a b =
    let width = fragment_width k (min size total) in
    omega (
      arith,
      length-append (fragment k width first a) (joined_fragments k size (total - size) others a),
      length-append (fragment k width first b) (joined_fragments k size (total - size) others b),
      length-fragment k width first a,
      length-fragment k width first b,
      length-joined k size (total - size) others a b,
    )

IsBytes-joined : (k size total : ℕ) (pieces : List (List ℕ)) (index : ℕ) → ArePieces k size total pieces → IsBytes (joined_fragments k size total pieces index)
IsBytes-joined k size total [] index are = IsBytes-none
IsBytes-joined k size total (first ∷ others) index are =
    let width = fragment_width k (min size total) in
    IsBytes-append (fragment k width first index) (joined_fragments k size (total - size) others index) (IsBytes-fragment k width first index are.1) (IsBytes-joined k size (total - size) others index are.3)

-- ---- archives

module _ (first : ArchiveModel) (others : List ArchiveModel) (together : AreTogether (first ∷ others)) (enough : AreEnough (first ∷ others)) (index : ℕ) (below : index < first.k + first.m) where
  abbrev archives : List ArchiveModel
  archives = first ∷ others

  further : (bytes : List ℕ) × IsFurther archives index bytes
  further =
      let found = some_together archives enough together in
      let sound : IsSound first = All-head IsSound first others together.sound in
      let of = All-head (λ (archive : ArchiveModel). ArePieces archive.k archive.segment archive.body_length found.0 × (archive.payload ≡ joined_fragments archive.k archive.segment archive.body_length found.0 archive.index)) first others found.1 in
      let payload : List ℕ = joined_fragments first.k first.segment first.body_length found.0 index in
      let archive : ArchiveModel = record first { index = index; payload = payload } in (
        archive_bytes archive,
        record {
          archive = archive;
          spelled = record {
            sound = record {
              code = sound.code;
              index = below;
              stamp = sound.stamp;
              body_length = sound.body_length;
              body_md5 = sound.body_md5;
              name = sound.name;
              head = sound.head;
              payload = length-joined first.k first.segment first.body_length found.0 index first.index ∙ sym (ap length of.1) ∙ sound.payload;
              bytes = IsBytes-joined first.k first.segment first.body_length found.0 index of.0;
            };
            spelled = refl;
          };
          indexed = refl;
          alike = λ position other within.
              let at = get_or archives position other in
              ap (λ (one : ArchiveModel). record one { index = at.index; payload = at.payload }) (sym (alike_to_first archives first enough together refl position other within));
          pieces = found.0;
          of = found.1;
          rebuilt = refl;
        },
      )

pub rebuilds : (archives : List ArchiveModel) → AreTogether archives → AreEnough archives → (index : ℕ) → All (λ archive. index < archive.k + archive.m) archives → (bytes : List ℕ) × IsRebuilt archives index bytes
rebuilds [] together enough index below = absurd enough
rebuilds (first ∷ others) together enough index below =
    let made = further first others together enough index (All-head (λ (archive : ArchiveModel). index < archive.k + archive.m) first others below) in (
      made.0,
      record {
        further = made.1;
        put = λ policy stamp name object put of. further_of_put (first ∷ others) index made.0 made.1 enough together policy stamp name object put of;
      },
    )
