-- Archives of puts, of which no two have one stamp: one can stand beside others or can't, and k that stand beside one another hold what
-- was put.
use Rattle.std.proofs.Common.{◌≡◌, ◌≢◌, ◌⊎◌, inl, inr, ℕ, ◌≤◌, List, [], ◌∷◌, ◌++◌, get_or, length, refl, sym, ap, subst, ◌∙◌, arith}
use Rattle.std.specs.List.{All}
use Rattle.std.proofs.lemmas.Bool.{cases_eq, cases_lt}
use Rattle.std.proofs.lemmas.List.Elements.{All-cons, All-head, All-nil, All-push, All-tail}
use Rattle.sw_archive.specs.Archive.{ArchiveModel, IsSound}
use Rattle.sw_archive.specs.Assemble.{AreAlike, AreEnough, AreTogether, IsNext}
use Rattle.sw_archive.specs.Pieces.{IsDecoded, joined_segments}
use Rattle.sw_archive.specs.Put.{AreOfPut, put_fields}
use Rattle.sw_archive.proofs.Archives.{same_archive}
use Rattle.sw_archive.proofs.Gatherings.{AreTogether-push}
use Rattle.sw_archive.proofs.Objects.{alike_to_first, decoded_of_put, some_together}
use Rattle.sw_ring.specs.Cluster.{ClusterModel}
use Rattle.sw_message.specs.Learnt.{Booked, IsOfBook, IsSoundBook}
use Rattle.sw_gather.specs.Gathered.{AreRight, Strays}

-- ---- decisions

abbrev Decided : Type 0 → Type 0
Decided P = P ⊎ (P → ⊥)

-- where it is decided of each item that is so, it is of all
all_decided : {A : Type 0} (Q P : A → Type 0) → ((item : A) → Q item → Decided (P item)) → (items : List A) → All Q items → Decided (All P items)
all_decided Q P decide [] are = inl (All-nil P)
all_decided Q P decide (item ∷ items) are = elim (decide item (All-head Q item items are)) [
  | inr never ↦ inr (λ all. never (All-head P item items all))
  | inl holds ↦ elim (all_decided Q P decide items (All-tail Q item items are)) [
    | inr never ↦ inr (λ all. never (All-tail P item items all))
    | inl rest ↦ inl (All-cons P item items holds rest)
  ]
]

module _ (cluster : ClusterModel) (book : List Booked) (sound : IsSoundBook cluster.policy book) where
  abbrev IsPutOne : ArchiveModel → Type 0
  IsPutOne archive = IsOfBook cluster book archive

  abbrev fields : Booked → ℕ → ArchiveModel
  fields put index = put_fields cluster.policy put.stamp put.name put.object index

  -- ---- beside others

  -- archives of one stamp are of one put
  same_put : (one other : ArchiveModel) → one.stamp ≡ other.stamp → (a : IsPutOne one) (b : IsPutOne other) → b.0 ≡ a.0
  same_put one other same a b = sound.one b.0 a.0 b.1 a.1 (sym (ap (λ (x : ArchiveModel). x.stamp) b.2) ∙ sym same ∙ ap (λ (x : ArchiveModel). x.stamp) a.2)

  -- with its fields
  of_put : (one other : ArchiveModel) → one.stamp ≡ other.stamp → (a : IsPutOne one) → IsPutOne other → other ≡ fields a.0 other.index
  of_put one other same a b = subst (λ (put : Booked). other ≡ fields put other.index) (same_put one other same a b) b.2

  alike : (one other : ArchiveModel) → one.stamp ≡ other.stamp → IsPutOne one → IsPutOne other → AreAlike one other
  alike one other same a b =
      let second = of_put one other same a b in
      same_archive one (record other { index = one.index; payload = one.payload })
      (ap (λ (x : ArchiveModel). x.k) a.2 ∙ sym (ap (λ (x : ArchiveModel). x.k) second))
      (ap (λ (x : ArchiveModel). x.m) a.2 ∙ sym (ap (λ (x : ArchiveModel). x.m) second))
      refl
      (ap (λ (x : ArchiveModel). x.segment) a.2 ∙ sym (ap (λ (x : ArchiveModel). x.segment) second))
      same
      (ap (λ (x : ArchiveModel). x.body_length) a.2 ∙ sym (ap (λ (x : ArchiveModel). x.body_length) second))
      (ap (λ (x : ArchiveModel). x.body_md5) a.2 ∙ sym (ap (λ (x : ArchiveModel). x.body_md5) second))
      (ap (λ (x : ArchiveModel). x.name) a.2 ∙ sym (ap (λ (x : ArchiveModel). x.name) second))
      (ap (λ (x : ArchiveModel). x.head) a.2 ∙ sym (ap (λ (x : ArchiveModel). x.head) second))
      refl

  module _ (others : List ArchiveModel) (are : All IsPutOne others) (archive : ArchiveModel) (is : IsPutOne archive) where
    alike_decided : (other : ArchiveModel) → IsPutOne other → Decided (AreAlike other archive)
    alike_decided other put = elim (cases_eq other.stamp archive.stamp) [
      | inl same ↦ inl (alike other archive same put is)
      | inr apart ↦ inr (λ one. apart (ap (λ (x : ArchiveModel). x.stamp) one))
    ]

    new_decided : (other : ArchiveModel) → IsPutOne other → Decided (other.index ≢ archive.index)
    new_decided other put = elim (cases_eq other.index archive.index) [
      | inl same ↦ inr (λ apart. apart same)
      | inr apart ↦ inl apart
    ]

    next_decided : Decided (IsNext others archive)
    next_decided = elim (all_decided IsPutOne (λ other. AreAlike other archive) alike_decided others are) [
      | inr never ↦ inr (λ next. never next.alike)
      | inl alike ↦ elim (all_decided IsPutOne (λ other. other.index ≢ archive.index) new_decided others are) [
        | inr never ↦ inr (λ next. never next.new)
        | inl new ↦ elim (cases_lt (length others) archive.k) [
          | inr many ↦ inr (λ next. absurd (omega (arith, many, next.few)))
          | inl few ↦ inl (record { alike = alike; new = new; few = few })
        ]
      ]
    ]

  -- ---- k that stand beside one another

  module _ (first : ArchiveModel) (others : List ArchiveModel) (are : All IsPutOne (first ∷ others)) (together : AreTogether (first ∷ others)) (enough : AreEnough (first ∷ others)) where
    abbrev archives : List ArchiveModel
    archives = first ∷ others

    abbrev put : IsPutOne first
    put = All-head IsPutOne first others are

    alike_all : All (AreAlike first) archives
    alike_all = alike_to_first archives first enough together refl

    of_one : AreOfPut cluster.policy put.0.stamp put.0.name put.0.object archives
    of_one = λ position other below. of_put first (get_or archives position other) (ap (λ (x : ArchiveModel). x.stamp) (alike_all position other below)) put (are position other below)

    -- they hold a body
    body_held : (body : List ℕ) × IsDecoded archives body
    body_held =
        let found = some_together archives enough together in (
          joined_segments first.segment first.body_length found.0,
          record { pieces = found.0; of = found.1; joined = λ position other below. ap (λ (x : ArchiveModel). joined_segments x.segment x.body_length found.0) (alike_all position other below) },
        )

    -- that of the put
    body_put : IsDecoded archives put.0.object.body
    body_put =
        let held = body_held in
        subst (IsDecoded archives) (decoded_of_put cluster.policy put.0.stamp put.0.name put.0.object archives held.0 enough together (sound.puts put.0 put.1) of_one held.1) held.1

    right-of_put : AreRight cluster.policy archives
    right-of_put = λ count. (
      put.0.object,
      (sound.puts put.0 put.1).object_rules,
      record {
        head = λ position other below. sym (ap (λ (x : ArchiveModel). x.head) (of_one position other below));
        length = λ position other below. sym (ap (λ (x : ArchiveModel). x.body_length) (of_one position other below));
        body_md5 = λ position other below. sym (ap (λ (x : ArchiveModel). x.body_md5) (of_one position other below));
        decoded = body_put;
      },
    )

  -- so they are right
  right_together : 1 ≤ cluster.policy.k → (archives : List ArchiveModel) → All IsPutOne archives → AreTogether archives → AreRight cluster.policy archives
  right_together some [] are together = λ count. absurd (omega (arith, some, count))
  right_together some (first ∷ others) are together = λ count.
      let put = All-head IsPutOne first others are in
      right-of_put first others are together (count ∙ sym (ap (λ (x : ArchiveModel). x.k) put.2)) count

  -- one more is right beside them, or strays
  pub right_or_strays : 1 ≤ cluster.policy.k → (others : List ArchiveModel) → All IsPutOne others → AreTogether others → (archive : ArchiveModel) → IsPutOne archive → IsSound archive
      → (IsNext others archive × AreRight cluster.policy (others ++ archive ∷ [])) ⊎ Strays cluster.policy others archive
  right_or_strays some others are together archive is whole = elim (next_decided others are archive is) [
    | inr never ↦ inr (inl never)
    | inl next ↦ inl (next, right_together some (others ++ archive ∷ []) (All-push IsPutOne others archive are is) (AreTogether-push others archive together whole next))
  ]
