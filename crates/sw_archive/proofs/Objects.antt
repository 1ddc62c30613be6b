-- What archives that stand beside one another give: pieces, an object, and further archives.
use Rattle.std.proofs.Common.{◌≡◌, ◌<◌, ℕ, zero, suc, ◌+◌, List, [], ◌∷◌, ◌++◌, length, get_or, Result, Ok, Err, refl, sym, ap, subst, ◌∙◌, arith}
use Rattle.std.specs.List.{All}
use Rattle.std.proofs.lemmas.List.{get_or_default, get_or_read}
use Rattle.md5.specs.Md5.{md5}
use Rattle.sw_words.specs.Bytes.{IsBytes}
use Rattle.sw_words.specs.Memory.{UnlessMemory}
use Rattle.sw_types.specs.Head.{HeadModel}
use Rattle.sw_types.specs.Name.{NameModel}
use Rattle.sw_types.specs.Object.{IsObject, ObjectModel}
use Rattle.sw_types.specs.Policy.{PolicyModel}
use Rattle.sw_types.proofs.Policies.{bounds}
use Rattle.sw_archive.specs.Archive.{ArchiveModel, IsSound, archive_bytes, checked, payload_length}
use Rattle.sw_archive.specs.Assemble.{AreAlike, AreEnough, AreTogether, GivesObject, IsFurther, IsOther, IsTold}
use Rattle.sw_archive.specs.Decoding.{IsRebuilt}
use Rattle.sw_archive.specs.Pieces.{AreOfPieces, ArePieces, IsDecoded, joined_fragments, joined_segments}
use Rattle.sw_archive.specs.Put.{AreOfPut, IsPut, put_archive, put_fields}
use Rattle.sw_archive.specs.declared.assemble.AssembleFault.{AssembleFault}
use Rattle.sw_archive.specs.declared.assemble.AssembleFault.TheVariants.{BodyMd5, NoMemory}
use Rattle.sw_archive.proofs.AnyPieces.{ArePayloads, one_behind, pieces_behind}
use Rattle.sw_archive.proofs.Archives.{code_bounds, same_archive}
use Rattle.sw_archive.proofs.Pieces.{IsBytes-joined, OfBody, of_body}

-- ---- the first archive

abbrev pub no_archive : ArchiveModel
no_archive = record {
  k = 0;
  m = 0;
  index = 0;
  segment = 0;
  stamp = 0;
  body_length = 0;
  body_md5 = [];
  name = record { account = []; container = []; object = [] };
  head = record { content_type = []; pairs = [] };
  payload = [];
}

-- where k archives are there, there is a first one
pub some_archive : (archives : List ArchiveModel) → AreEnough archives → 0 < length archives
some_archive [] enough = absurd enough
some_archive (first ∷ others) enough = omega arith

-- there are as many as its k
pub count_of_first : (archives : List ArchiveModel) (first : ArchiveModel) → AreEnough archives → first ≡ get_or archives 0 first → length archives ≡ first.k
count_of_first [] first enough is = absurd enough
count_of_first (one ∷ others) first enough is = enough ∙ ap (λ (a : ArchiveModel). a.k) (sym is)

-- each is alike to it
pub alike_to_first : (archives : List ArchiveModel) (first : ArchiveModel) → AreEnough archives → AreTogether archives → first ≡ get_or archives 0 first → All (AreAlike first) archives
alike_to_first archives first enough together is zero other below = subst (AreAlike first) (get_or_read archives 0 first (some_archive archives enough) is other) refl
alike_to_first archives first enough together is (suc position) other below =
    subst (λ (a : ArchiveModel). AreAlike a (get_or archives (suc position) other)) (sym (get_or_read archives 0 first (some_archive archives enough) is other)) (together.alike 0 (suc position) other (omega arith) below)

-- what holds of its numbers holds of those of each
of_each : (archives : List ArchiveModel) (first : ArchiveModel) → AreEnough archives → AreTogether archives → first ≡ get_or archives 0 first → (position : ℕ) (other : ArchiveModel) → position < length archives
    → (P : ℕ → ℕ → ℕ → Type 0) → P first.k first.segment first.body_length → let at = get_or archives position other in P at.k at.segment at.body_length
of_each archives first enough together is position other below P holds = subst (λ (a : ArchiveModel). P a.k a.segment a.body_length) (alike_to_first archives first enough together is position other below) holds

-- and the other way round
of_first : (archives : List ArchiveModel) (first : ArchiveModel) → AreEnough archives → AreTogether archives → first ≡ get_or archives 0 first → (position : ℕ) (other : ArchiveModel) → position < length archives
    → (P : ℕ → ℕ → ℕ → Type 0) → let at = get_or archives position other in P at.k at.segment at.body_length → P first.k first.segment first.body_length
of_first archives first enough together is position other below P holds = subst (λ (a : ArchiveModel). P a.k a.segment a.body_length) (sym (alike_to_first archives first enough together is position other below)) holds

-- ---- pieces

-- their payloads, as long as the first one tells
payloads_of : (archives : List ArchiveModel) (first : ArchiveModel) → AreEnough archives → AreTogether archives → first ≡ get_or archives 0 first → ArePayloads first.k first.segment first.body_length 0 archives
payloads_of archives first enough together is =
    let sound : IsSound first = subst IsSound (sym is) (together.sound 0 first (some_archive archives enough)) in
    let bounds = code_bounds first.k first.m first.segment sound.code in
    record {
      small = omega (arith, bounds.total);
      some = omega (arith, bounds.some_data);
      whole = omega (arith, bounds.some_data, bounds.least_segment);
      count = count_of_first archives first enough is;
      below = λ position other below.
          let one = together.sound position other below in
          omega (arith, one.index, (code_bounds (get_or archives position other).k (get_or archives position other).m (get_or archives position other).segment one.code).total);
      distinct = together.distinct;
      bytes = λ position other below. (together.sound position other below).bytes;
      reach = λ position other below.
          let at = get_or archives position other in
          of_first archives first enough together is position other below (λ k size total. length at.payload ≡ payload_length k size total) (together.sound position other below).payload;
    }

-- so they are of some pieces
pub some_together : (archives : List ArchiveModel) → AreEnough archives → AreTogether archives → (pieces : List (List ℕ)) × AreOfPieces archives pieces
some_together archives enough together =
    let first : ArchiveModel = get_or archives 0 no_archive in
    let is : first ≡ get_or archives 0 first = get_or_default archives 0 no_archive first (some_archive archives enough) in
    let found = pieces_behind first.body_length first.k first.segment first.body_length 0 archives (payloads_of archives first enough together is) (omega arith) in (
      found.0,
      (λ position other below.
          let at = get_or archives position other in
          of_each archives first enough together is position other below (λ k size total. ArePieces k size total found.0 × (at.payload ≡ joined_fragments k size total found.0 at.index)) (found.1, found.2 position other below)),
    )

-- and of no others
pub one_together : (archives : List ArchiveModel) (a b : List (List ℕ)) → AreEnough archives → AreTogether archives → AreOfPieces archives a → AreOfPieces archives b → a ≡ b
one_together archives a b enough together a_of b_of =
    let some = some_archive archives enough in
    let first : ArchiveModel = get_or archives 0 no_archive in
    let is : first ≡ get_or archives 0 first = get_or_default archives 0 no_archive first some in
    let have = λ (pieces : List (List ℕ)) (of : AreOfPieces archives pieces) (position : ℕ) (other : ArchiveModel) (below : position < length archives).
    let at = get_or archives position other in
    of_first archives first enough together is position other below (λ k size total. at.payload ≡ joined_fragments k size total pieces at.index) (of position other below).1 in
    one_behind first.k first.segment first.body_length 0 archives (payloads_of archives first enough together is) a b (a_of 0 no_archive some).0 (b_of 0 no_archive some).0 (have a a_of) (have b b_of)

-- the body that they hold is the segments of whatever pieces they are of
joined_from : (archives : List ArchiveModel) (body : List ℕ) → AreEnough archives → AreTogether archives → IsDecoded archives body
    → (pieces : List (List ℕ)) → AreOfPieces archives pieces → All (λ archive. body ≡ joined_segments archive.segment archive.body_length pieces) archives
joined_from archives body enough together decoded pieces of =
    subst (λ (pieces : List (List ℕ)). All (λ (archive : ArchiveModel). body ≡ joined_segments archive.segment archive.body_length pieces) archives)
    (one_together archives decoded.pieces pieces enough together decoded.of of) decoded.joined

-- so it is one
pub one_body : (archives : List ArchiveModel) (a b : List ℕ) → AreEnough archives → AreTogether archives → IsDecoded archives a → IsDecoded archives b → a ≡ b
one_body archives a b enough together a_decoded b_decoded =
    let some = some_archive archives enough in
    joined_from archives a enough together a_decoded b_decoded.pieces b_decoded.of 0 no_archive some ∙ sym (b_decoded.joined 0 no_archive some)

-- ---- an object

abbrev object : HeadModel → List ℕ → List ℕ → ObjectModel
object head body body_md5 = record { head = head; body = body; body_md5 = body_md5 }

same_object : (a b : ObjectModel) → a.head ≡ b.head → a.body ≡ b.body → a.body_md5 ≡ b.body_md5 → a ≡ b
same_object a b head body body_md5 =
    let all : object a.head a.body a.body_md5 ≡ object b.head b.body b.body_md5 = cc in all

-- k archives tell one object
pub one_object : (archives : List ArchiveModel) (a b : ObjectModel) → AreEnough archives → AreTogether archives → IsTold archives a → IsTold archives b → a ≡ b
one_object archives a b enough together a_told b_told =
    let some = some_archive archives enough in
    same_object a b (a_told.head 0 no_archive some ∙ sym (b_told.head 0 no_archive some)) (one_body archives a.body b.body enough together a_told.decoded b_told.decoded)
    (a_told.body_md5 0 no_archive some ∙ sym (b_told.body_md5 0 no_archive some))

-- and where it has the MD5 of its body, they tell no other one
pub not_other : (archives : List ArchiveModel) (object : ObjectModel) (told computed : List ℕ) → AreEnough archives → AreTogether archives → IsObject object → IsTold archives object → IsOther archives told computed → ⊥
not_other archives object told computed enough together is_object is_told other =
    let some = some_archive archives enough in
    let body = one_body archives other.body object.body enough together other.decoded is_told.decoded in
    other.differs (other.tells 0 no_archive some ∙ sym (is_told.body_md5 0 no_archive some) ∙ is_object.body_md5 ∙ ap md5 (sym body) ∙ sym other.computes)

-- what each of a put's archives tells
put_told : (policy : PolicyModel) (stamp : ℕ) (name : NameModel) (object : ObjectModel) (archives : List ArchiveModel) → AreOfPut policy stamp name object archives → AreEnough archives
    → let first = get_or archives 0 no_archive in first ≡ put_fields policy stamp name object first.index
put_told policy stamp name object archives of enough = of 0 no_archive (some_archive archives enough)

-- the pieces of a put's body
pieces_of : (policy : PolicyModel) (stamp : ℕ) (name : NameModel) (object : ObjectModel) → IsPut policy stamp name object → OfBody policy.k policy.segment object.body
pieces_of policy stamp name object put =
    let rules = bounds policy put.policy_rules in
    of_body policy.k policy.segment object.body (omega (arith, rules.some_data)) (omega (arith, rules.some_data, rules.least_segment)) put.object_rules.bytes

-- the payloads of a put's archives have the fragments of these
of_pieces : (policy : PolicyModel) (stamp : ℕ) (name : NameModel) (object : ObjectModel) (archives : List ArchiveModel) → (put : IsPut policy stamp name object) → AreOfPut policy stamp name object archives
    → AreOfPieces archives (pieces_of policy stamp name object put).pieces
of_pieces policy stamp name object archives put of = λ position other below.
    let at = get_or archives position other in
    let pieces = pieces_of policy stamp name object put in
    subst (λ (a : ArchiveModel). ArePieces a.k a.segment a.body_length pieces.pieces × (a.payload ≡ joined_fragments a.k a.segment a.body_length pieces.pieces a.index)) (sym (of position other below))
    (pieces.are, pieces.fragments at.index)

-- what a put's archives hold is its body
pub decoded_of_put : (policy : PolicyModel) (stamp : ℕ) (name : NameModel) (object : ObjectModel) (archives : List ArchiveModel) (body : List ℕ) → AreEnough archives → AreTogether archives
    → (put : IsPut policy stamp name object) → AreOfPut policy stamp name object archives → IsDecoded archives body → body ≡ object.body
decoded_of_put policy stamp name object archives body enough together put of decoded =
    let some = some_archive archives enough in
    let pieces = pieces_of policy stamp name object put in
    subst (λ (a : ArchiveModel). body ≡ joined_segments a.segment a.body_length pieces.pieces) (put_told policy stamp name object archives of enough)
    (joined_from archives body enough together decoded pieces.pieces (of_pieces policy stamp name object archives put of) 0 no_archive some)
    ∙ pieces.segments

-- of a put's archives the answer is the object
pub object_of_put : (archives : List ArchiveModel) (result : Result ObjectModel AssembleFault) → GivesObject archives result → AreEnough archives → AreTogether archives
    → (policy : PolicyModel) (stamp : ℕ) (name : NameModel) (object : ObjectModel) → IsPut policy stamp name object → AreOfPut policy stamp name object archives
    → UnlessMemory (Err NoMemory) result (result ≡ Ok object)
object_of_put archives (Ok read) gives enough together policy stamp name object put of = λ other.
    let some = some_archive archives enough in
    let first = put_told policy stamp name object archives of enough in
    ap (λ (o : ObjectModel). Ok o)
    (same_object read object (gives.head 0 no_archive some ∙ ap (λ (a : ArchiveModel). a.head) first) (decoded_of_put policy stamp name object archives read.body enough together put of gives.decoded)
    (gives.body_md5 0 no_archive some ∙ ap (λ (a : ArchiveModel). a.body_md5) first))
object_of_put archives (Err (BodyMd5 told computed)) gives enough together policy stamp name object put of = λ other.
    let first = put_told policy stamp name object archives of enough in
    absurd (gives.differs (gives.tells 0 no_archive (some_archive archives enough) ∙ ap (λ (a : ArchiveModel). a.body_md5) first ∙ put.object_rules.body_md5
    ∙ sym (gives.computes ∙ ap md5 (decoded_of_put policy stamp name object archives gives.body enough together put of gives.decoded))))
object_of_put archives (Err NoMemory) gives enough together policy stamp name object put of = λ other. absurd (other refl)

-- ---- a further archive

-- the first one, with another index and payload
pub further_archive : (archives : List ArchiveModel) (first : ArchiveModel) (index : ℕ) (old new bytes : List ℕ) → AreEnough archives → AreTogether archives → first ≡ get_or archives 0 first → IsSound first
    → All (λ archive. index < archive.k + archive.m) archives → (rebuilt : IsRebuilt archives index old new)
    → ((fragments : List ℕ) → length fragments ≡ payload_length first.k first.segment first.body_length → old ++ fragments ≡ checked (record first { index = index; payload = fragments }))
    → bytes ≡ new ++ md5 new → IsFurther archives index bytes
further_archive archives first index old new bytes enough together is sound below rebuilt opens sealed =
    let some = some_archive archives enough in
    let there : get_or archives 0 first ≡ first = sym is in
    let reach : length rebuilt.added ≡ payload_length first.k first.segment first.body_length =
    subst (λ (a : ArchiveModel). length rebuilt.added ≡ payload_length a.k a.segment a.body_length) there (rebuilt.reach 0 first some) in
    let archive : ArchiveModel = record first { index = index; payload = rebuilt.added } in
    let written : new ≡ checked archive = rebuilt.appended ∙ opens rebuilt.added reach in
    let alike = alike_to_first archives first enough together is in
    let are : ArePieces first.k first.segment first.body_length rebuilt.pieces = subst (λ (a : ArchiveModel). ArePieces a.k a.segment a.body_length rebuilt.pieces) there (rebuilt.of 0 first some).0 in
    let added : rebuilt.added ≡ joined_fragments first.k first.segment first.body_length rebuilt.pieces index =
    subst (λ (a : ArchiveModel). rebuilt.added ≡ joined_fragments a.k a.segment a.body_length rebuilt.pieces index) there (rebuilt.rebuilt 0 first some) in
    record {
      archive = archive;
      spelled = record {
        sound = record {
          code = sound.code;
          index = subst (λ (a : ArchiveModel). index < a.k + a.m) there (below 0 first some);
          stamp = sound.stamp;
          body_length = sound.body_length;
          body_md5 = sound.body_md5;
          name = sound.name;
          head = sound.head;
          payload = reach;
          bytes = subst IsBytes (sym added) (IsBytes-joined first.k first.segment first.body_length rebuilt.pieces index are);
        };
        spelled = sealed ∙ ap (λ (b : List ℕ). b ++ md5 b) written;
      };
      indexed = refl;
      alike = λ position other within.
          let at = get_or archives position other in
          let same = alike position other within in
          same_archive at (record archive { index = at.index; payload = at.payload }) (sym (ap (λ (a : ArchiveModel). a.k) same)) (sym (ap (λ (a : ArchiveModel). a.m) same)) refl
          (sym (ap (λ (a : ArchiveModel). a.segment) same)) (sym (ap (λ (a : ArchiveModel). a.stamp) same)) (sym (ap (λ (a : ArchiveModel). a.body_length) same))
          (sym (ap (λ (a : ArchiveModel). a.body_md5) same)) (sym (ap (λ (a : ArchiveModel). a.name) same)) (sym (ap (λ (a : ArchiveModel). a.head) same)) refl;
      pieces = rebuilt.pieces;
      of = rebuilt.of;
      rebuilt = added;
    }

-- of each index there is one
pub one_further : (archives : List ArchiveModel) (index : ℕ) (a b : List ℕ) → AreEnough archives → AreTogether archives → IsFurther archives index a → IsFurther archives index b → a ≡ b
one_further archives index a b enough together a_is b_is =
    let some = some_archive archives enough in
    let one = a_is.archive in
    let other = b_is.archive in
    let first = a_is.alike 0 no_archive some in
    let second = b_is.alike 0 no_archive some in
    let k : one.k ≡ other.k = sym (ap (λ (x : ArchiveModel). x.k) first) ∙ ap (λ (x : ArchiveModel). x.k) second in
    let segment : one.segment ≡ other.segment = sym (ap (λ (x : ArchiveModel). x.segment) first) ∙ ap (λ (x : ArchiveModel). x.segment) second in
    let total : one.body_length ≡ other.body_length = sym (ap (λ (x : ArchiveModel). x.body_length) first) ∙ ap (λ (x : ArchiveModel). x.body_length) second in
    let pieces = one_together archives a_is.pieces b_is.pieces enough together a_is.of b_is.of in
    let payload = a_is.rebuilt ∙ ap (λ (p : List (List ℕ)). joined_fragments one.k one.segment one.body_length p index) pieces
    ∙ ap (λ n. joined_fragments n one.segment one.body_length b_is.pieces index) k ∙ ap (λ n. joined_fragments other.k n one.body_length b_is.pieces index) segment
    ∙ ap (λ n. joined_fragments other.k other.segment n b_is.pieces index) total ∙ sym b_is.rebuilt in
    a_is.spelled.spelled
    ∙ ap archive_bytes
    (same_archive one other k (sym (ap (λ (x : ArchiveModel). x.m) first) ∙ ap (λ (x : ArchiveModel). x.m) second) (a_is.indexed ∙ sym b_is.indexed) segment
    (sym (ap (λ (x : ArchiveModel). x.stamp) first) ∙ ap (λ (x : ArchiveModel). x.stamp) second) total (sym (ap (λ (x : ArchiveModel). x.body_md5) first) ∙ ap (λ (x : ArchiveModel). x.body_md5) second)
    (sym (ap (λ (x : ArchiveModel). x.name) first) ∙ ap (λ (x : ArchiveModel). x.name) second) (sym (ap (λ (x : ArchiveModel). x.head) first) ∙ ap (λ (x : ArchiveModel). x.head) second) payload)
    ∙ sym b_is.spelled.spelled

-- of a put's archives it is that of the put
pub further_of_put : (archives : List ArchiveModel) (index : ℕ) (bytes : List ℕ) → IsFurther archives index bytes → AreEnough archives → AreTogether archives
    → (policy : PolicyModel) (stamp : ℕ) (name : NameModel) (object : ObjectModel) → IsPut policy stamp name object → AreOfPut policy stamp name object archives
    → bytes ≡ put_archive policy stamp name object index
further_of_put archives index bytes further enough together policy stamp name object put of =
    let archive = further.archive in
    let first = put_told policy stamp name object archives of enough in
    let alike = further.alike 0 no_archive (some_archive archives enough) in
    let k : archive.k ≡ policy.k = sym (ap (λ (a : ArchiveModel). a.k) alike) ∙ ap (λ (a : ArchiveModel). a.k) first in
    let segment : archive.segment ≡ policy.segment = sym (ap (λ (a : ArchiveModel). a.segment) alike) ∙ ap (λ (a : ArchiveModel). a.segment) first in
    let length_is : archive.body_length ≡ length object.body = sym (ap (λ (a : ArchiveModel). a.body_length) alike) ∙ ap (λ (a : ArchiveModel). a.body_length) first in
    let pieces = pieces_of policy stamp name object put in
    let fragments = further.rebuilt
    ∙ ap (λ (p : List (List ℕ)). joined_fragments archive.k archive.segment archive.body_length p index)
    (one_together archives further.pieces pieces.pieces enough together further.of (of_pieces policy stamp name object archives put of))
    ∙ ap (λ n. joined_fragments n archive.segment archive.body_length pieces.pieces index) k ∙ ap (λ n. joined_fragments policy.k n archive.body_length pieces.pieces index) segment
    ∙ ap (λ n. joined_fragments policy.k policy.segment n pieces.pieces index) length_is ∙ sym (pieces.fragments index) in
    further.spelled.spelled
    ∙ ap archive_bytes
    (same_archive archive (put_fields policy stamp name object index) k (sym (ap (λ (a : ArchiveModel). a.m) alike) ∙ ap (λ (a : ArchiveModel). a.m) first) further.indexed segment
    (sym (ap (λ (a : ArchiveModel). a.stamp) alike) ∙ ap (λ (a : ArchiveModel). a.stamp) first) length_is
    (sym (ap (λ (a : ArchiveModel). a.body_md5) alike) ∙ ap (λ (a : ArchiveModel). a.body_md5) first) (sym (ap (λ (a : ArchiveModel). a.name) alike) ∙ ap (λ (a : ArchiveModel). a.name) first)
    (sym (ap (λ (a : ArchiveModel). a.head) alike) ∙ ap (λ (a : ArchiveModel). a.head) first) fragments)
