-- What is obsolete once a name was made has its texts, ascending.
use Rattle.std.proofs.Common.{inl, inr, ⊎_elim, ℕ, Bool, Contains, List, ◌∷◌, map, sym, subst}
use Rattle.sw_hashpath.specs.FileName.{file_name_text}
use Rattle.sw_hashpath.specs.declared.file_name.FileName.{FileName}
use Rattle.sw_hashdir.specs.Obsolete.{IsAfter, IsObsolete, Replaces}
use Rattle.sw_diskfile.proofs.Lists.{Contains-cases, Contains-first, Contains-later, Contains-map, mapped}
use Rattle.sw_message.specs.Table.{ArePurged}
use Rattle.sw_law_possible.proofs.Chosen.{chosen, negated}
use Rattle.sw_law_possible.proofs.Names.{obsolete_or_not, replaces_or_not}
use Rattle.sw_law_possible.proofs.Orders.{ascending_texts}

module _ (made : FileName) (names : List FileName) where
  -- the names once it was made
  after_making : (later : List FileName) × IsAfter made names later
  after_making =
      let kept = chosen (λ name. Replaces made name → ⊥) (λ name. negated (replaces_or_not made name)) names in (
        made ∷ kept.0,
        λ name. (
          λ has. ⊎_elim (λ here. inl (sym here)) (λ later. inr ((kept.1 name).0 later)) (Contains-cases made kept.0 name has),
          λ is. ⊎_elim (λ same. subst (Contains (made ∷ kept.0)) (sym same) (Contains-first made kept.0)) (λ old. Contains-later made kept.0 name ((kept.1 name).1 old)) is,
        ),
      )

  pub purged : (primary : Bool) → (obsolete : List (List ℕ)) × ArePurged primary made names obsolete
  purged primary =
      let later = after_making in
      let gone = chosen (IsObsolete primary later.0) (obsolete_or_not later.0 primary) later.0 in
      let sorted = ascending_texts (map file_name_text gone.0) in (
        sorted.0,
        record {
          later = later.0;
          after = later.1;
          all = λ text. (
            λ has. let from = mapped file_name_text gone.0 text ((sorted.1.same text).0 has) in (from.0, ((gone.1 from.0).0 from.1).1, sym from.2),
            λ is. (sorted.1.same text).1 (subst (Contains (map file_name_text gone.0)) (sym is.2) (Contains-map file_name_text gone.0 is.0 ((gone.1 is.0).1 (is.1.0, is.1)))),
          );
          ascend = sorted.1.ascend;
        },
      )
