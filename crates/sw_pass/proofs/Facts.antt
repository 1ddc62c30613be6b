-- The puts and deletes of a view are what drew a stamp.
use Rattle.std.proofs.Common.{◌≡◌, ⊎_elim, Contains, List, [], ◌∷◌, Option, Some, None, refl, sym, ap, subst}
use Rattle.sw_types.specs.Object.{ObjectModel}
use Rattle.sw_diskfile.proofs.Lists.{Contains-cases, Contains-first, Contains-later, Contains-none}
use Rattle.sw_view.specs.View.{DrawnDelete, DrawnPut}
use Rattle.sw_pass.specs.Known.{delete_before, deletes_in, put_before, puts_in}
use Rattle.sw_pass.specs.declared.known.Drawn.{Drawn}

abbrev pub drawn_put : DrawnPut → Drawn
drawn_put put = record { stamp = put.booked.stamp; name = put.booked.name; object = Some put.booked.object; mark = put.mark }

abbrev pub drawn_delete : DrawnDelete → Drawn
drawn_delete delete = record { stamp = delete.marked.stamp; name = delete.marked.name; object = None; mark = delete.mark }

-- ---- puts

module _ (fact : Drawn) (others : List Drawn) (put : DrawnPut) where
  put_by : (object : Option ObjectModel) → fact.object ≡ object → (Contains (puts_in others) put → Contains others (drawn_put put)) → Contains (put_before fact object (puts_in others)) put → Contains (fact ∷ others) (drawn_put put)
  put_by None is further has = Contains-later fact others _ (further has)
  put_by (Some object) is further has = ⊎_elim
      (λ same.
      let one : fact ≡ record { stamp = fact.stamp; name = fact.name; object = Some object; mark = fact.mark } = ap (λ (o : Option ObjectModel). record { stamp = fact.stamp; name = fact.name; object = o; mark = fact.mark }) is in
      subst (λ (p : DrawnPut). Contains (fact ∷ others) (drawn_put p)) same (subst (Contains (fact ∷ others)) one (Contains-first fact others)))
      (λ later. Contains-later fact others _ (further later))
      (Contains-cases _ (puts_in others) put has)

  put_kept : (object : Option ObjectModel) → Contains (puts_in others) put → Contains (put_before fact object (puts_in others)) put
  put_kept None has = has
  put_kept (Some object) has = Contains-later _ (puts_in others) put has

pub put_out : (drawn : List Drawn) (put : DrawnPut) → Contains (puts_in drawn) put → Contains drawn (drawn_put put)
put_out [] put has = absurd (Contains-none put has)
put_out (fact ∷ others) put has = put_by fact others put fact.object refl (put_out others put) has

pub put_in : (drawn : List Drawn) (put : DrawnPut) → Contains drawn (drawn_put put) → Contains (puts_in drawn) put
put_in [] put has = absurd (Contains-none (drawn_put put) has)
put_in (fact ∷ others) put has = ⊎_elim
    (λ same. subst (λ (f : Drawn). Contains (put_before f f.object (puts_in others)) put) (sym same) (Contains-first put (puts_in others)))
    (λ later. put_kept fact others put fact.object (put_in others put later))
    (Contains-cases fact others (drawn_put put) has)

-- ---- deletes

module _ (fact : Drawn) (others : List Drawn) (delete : DrawnDelete) where
  delete_by : (object : Option ObjectModel) → fact.object ≡ object → (Contains (deletes_in others) delete → Contains others (drawn_delete delete)) → Contains (delete_before fact object (deletes_in others)) delete → Contains (fact ∷ others) (drawn_delete delete)
  delete_by (Some object) is further has = Contains-later fact others _ (further has)
  delete_by None is further has = ⊎_elim
      (λ same.
      let one : fact ≡ record { stamp = fact.stamp; name = fact.name; object = None; mark = fact.mark } = ap (λ (o : Option ObjectModel). record { stamp = fact.stamp; name = fact.name; object = o; mark = fact.mark }) is in
      subst (λ (d : DrawnDelete). Contains (fact ∷ others) (drawn_delete d)) same (subst (Contains (fact ∷ others)) one (Contains-first fact others)))
      (λ later. Contains-later fact others _ (further later))
      (Contains-cases _ (deletes_in others) delete has)

  delete_kept : (object : Option ObjectModel) → Contains (deletes_in others) delete → Contains (delete_before fact object (deletes_in others)) delete
  delete_kept (Some object) has = has
  delete_kept None has = Contains-later _ (deletes_in others) delete has

pub delete_out : (drawn : List Drawn) (delete : DrawnDelete) → Contains (deletes_in drawn) delete → Contains drawn (drawn_delete delete)
delete_out [] delete has = absurd (Contains-none delete has)
delete_out (fact ∷ others) delete has = delete_by fact others delete fact.object refl (delete_out others delete) has

pub delete_in : (drawn : List Drawn) (delete : DrawnDelete) → Contains drawn (drawn_delete delete) → Contains (deletes_in drawn) delete
delete_in [] delete has = absurd (Contains-none (drawn_delete delete) has)
delete_in (fact ∷ others) delete has = ⊎_elim
    (λ same. subst (λ (f : Drawn). Contains (delete_before f f.object (deletes_in others)) delete) (sym same) (Contains-first delete (deletes_in others)))
    (λ later. delete_kept fact others delete fact.object (delete_in others delete later))
    (Contains-cases fact others (drawn_delete delete) has)
