-- What a get finds after the one put over a link that tells.
use Rattle.std.proofs.Common.{◌≡◌, ◌∙◌, ⊎_elim, ℕ, Contains, List, [], ◌∷◌, Some, ap, refl, subst, sym}
use Rattle.sw_types.specs.Name.{NameModel}
use Rattle.sw_types.specs.Object.{ObjectModel}
use Rattle.sw_diskfile.proofs.Lists.{Contains-cases, Contains-none}
use Rattle.sw_ring.specs.Cluster.{ClusterModel}
use Rattle.sw_message.specs.Learnt.{Booked, Learnt}
use Rattle.sw_message.specs.Transcript.{Step}
use Rattle.sw_get.specs.Get.{Begun}
use Rattle.sw_get.specs.declared.end.GetEnd.{GetEnd}
use Rattle.sw_get.specs.declared.end.GetEnd.TheVariants.{Found}
use Rattle.sw_put.specs.declared.end.PutEnd.{PutEnd}
use Rattle.sw_front.specs.Over.{FindsOnePut, IfFound}
use Rattle.sw_law_scene.specs.Moves.{next_stamp}
use Rattle.sw_telling.specs.Shown.{IsNew, IsThatPut, PutAndGot}
use Rattle.sw_telling.specs.Telling.{TellingModel, with_own}
use Rattle.sw_telling.proofs.Books.{calls_keep}

module _ (cluster : ClusterModel) (clock : ℕ) (name : NameModel) (object : ObjectModel) where
  abbrev that_put : Booked
  that_put = record { stamp = clock; name = name; object = object }

  abbrev begun : Begun
  begun = record { cluster = cluster; name = name }

  -- the stamp of the put is what the clock shows
  first_stamp : (first : TellingModel) → IsNew cluster clock first → next_stamp first.clock first.last ≡ clock
  first_stamp first is = rw (is.none_drawn, is.clock_is) refl

  -- ---- what is found

  finds_it : (learnt : Learnt) → learnt.book ≡ that_put ∷ [] → (past : List Step) (found : GetEnd) → FindsOnePut (Some learnt) begun past found → IfFound found (IsThatPut cluster.policy clock object)
  finds_it learnt book past (Found stamp got sources) is =
      let same : that_put ≡ record { stamp = stamp; name = name; object = got } =
      ⊎_elim (λ here. here) (λ later. absurd (Contains-none _ later)) (Contains-cases that_put [] _ (subst (λ (book : List Booked). Contains book (record { stamp = stamp; name = name; object = got })) book is.booked)) in
      record {
        stamp_is = sym (ap (λ (one : Booked). one.stamp) same);
        object_is = sym (ap (λ (one : Booked). one.object) same);
        count = is.count;
        apart = is.apart;
      }
  finds_it learnt book past found is = tt

  -- the book has that put alone
  one_book : (created : PutEnd) (found : GetEnd) (ran : PutAndGot cluster clock name object created found) → ran.last.known.book ≡ that_put ∷ []
  one_book created found ran =
      let put = ran.puts in
      let drew = put.2 in
      let got = calls_keep ran.between ran.last ran.gets.0 ran.gets.1.calls_are ran.speaks in
      let stored = calls_keep drew.drawn ran.between put.1 drew.went.calls_are got.0 in
      let stamp : put.0 ≡ clock = drew.draw.stamp_is ∙ first_stamp ran.first ran.is_new in
      let own : drew.drawn.known ≡ with_own ran.first.known put.0 name (Some object) = drew.draw.learns.known_is stored.0 in
      let book : drew.drawn.known.book ≡ that_put ∷ [] = ap (λ (known : Learnt). known.book) own ∙ rw (ran.is_new.known_is, stamp) refl in
      got.1 ∙ stored.1 ∙ book

  pub shows_it : (created : PutEnd) (found : GetEnd) → PutAndGot cluster clock name object created found → IfFound found (IsThatPut cluster.policy clock object)
  shows_it created found ran = finds_it ran.last.known (one_book created found ran) ran.gets.0 found (rw ran.tells at ran.gets.3)
