-- What a link over nodes behind locks tells: each put and each delete that its pass knows, once, as long as what it knows is sound.
use Rattle.std.proofs.Common.{◌≡◌, ◌≢◌, ℕ, Bool, true, false, Contains, List, [], Some, append-nil, refl, sym, ap, subst, ◌∙◌, arith}
use Rattle.std.specs.List.{AllPairs}
use Rattle.sw_diskfile.proofs.Lists.{Contains-none, mapped}
use Rattle.sw_ring.specs.Cluster.{ClusterModel}
use Rattle.sw_message.specs.Learnt.{Booked, Keeps, Learnt, Marked}
use Rattle.sw_message.specs.Running.{StillTells}
use Rattle.sw_message.specs.Soundly.{is_sound_learnt, stamps_of_marks, told_soundly}
use Rattle.sw_message.proofs.Soundly.{sound-learnt, told-passed}
use Rattle.sw_view.specs.View.{DrawnDelete, Grows, IsSoundView, known_to}
use Rattle.sw_view.proofs.Growth.{keeps}
use Rattle.sw_pass.specs.Known.{AllAgree, deletes_in, view_of}
use Rattle.sw_pass.specs.declared.known.Drawn.{Drawn}
use Rattle.sw_pass.specs.declared.known.Known.{Known}
use Rattle.sw_pass.proofs.Facts.{delete_out, drawn_delete}
use Rattle.sw_local.specs.Link.{KnowsSoundly, learnt_of, told_by}
use Rattle.sw_local.proofs.Firsts.{firsts-all, firsts-differ, firsts-has}

keeps_both : (first second third : Learnt) → Keeps first second → Keeps second third → Keeps first third
keeps_both first second third one other = record {
  book = λ booked has. other.book booked (one.book booked has);
  marks = λ marked has. other.marks marked (one.marks marked has);
  heard = λ heard has. other.heard heard (one.heard heard has);
}

abbrev stamp_of_put : Booked → ℕ
stamp_of_put booked = booked.stamp

abbrev stamp_of_delete : Marked → ℕ
stamp_of_delete marked = marked.stamp

module _ (cluster : ClusterModel) (known : Known) where
  abbrev all : Learnt
  all = known_to cluster (view_of cluster known)

  -- nothing more than is known
  pub no_more : Keeps (learnt_of cluster known) all
  no_more = record {
    book = firsts-has stamp_of_put all.book;
    marks = firsts-has stamp_of_delete all.marks;
    heard = λ heard has. has;
  }

  module _ (sound : IsSoundView cluster (view_of cluster known)) (agree : AllAgree known.drawn known.drawn) where
    -- two deletes of one stamp are one
    one_mark : (a b : Marked) → Contains all.marks a → Contains all.marks b → a.stamp ≡ b.stamp → a ≡ b
    one_mark a b first second same =
        let one = mapped (λ (delete : DrawnDelete). delete.marked) (deletes_in known.drawn) a first in
        let other = mapped (λ (delete : DrawnDelete). delete.marked) (deletes_in known.drawn) b second in
        let stamps : one.0.marked.stamp ≡ other.0.marked.stamp = subst (λ (x : Marked). x.stamp ≡ other.0.marked.stamp) (sym one.2) (subst (λ (y : Marked). a.stamp ≡ y.stamp) (sym other.2) same) in
        let drawn = agree (drawn_delete one.0) (drawn_delete other.0) (delete_out known.drawn one.0 one.1) (delete_out known.drawn other.0 other.1) stamps in
        let marks : one.0.marked ≡ other.0.marked = ap (λ (fact : Drawn). record { stamp = fact.stamp; name = fact.name }) drawn in
        subst (λ (x : Marked). x ≡ b) one.2 (subst (λ (y : Marked). one.0.marked ≡ y) other.2 marks)

    -- and all that is
    pub no_less : Keeps all (learnt_of cluster known)
    no_less = record {
      book = firsts-all stamp_of_put all.book sound.book.one;
      marks = firsts-all stamp_of_delete all.marks one_mark;
      heard = λ heard has. has;
    }

    -- so it passes the test
    passes : is_sound_learnt cluster.policy (learnt_of cluster known) ≡ true
    passes =
        let marks : List Marked = (learnt_of cluster known).marks in
        sound-learnt cluster.policy (learnt_of cluster known)
        (λ booked has. sound.book.puts booked (no_more.book booked has))
        (firsts-differ stamp_of_put all.book (stamps_of_marks marks)
        (subst (AllPairs (λ n m. n ≢ m)) (append-nil (stamps_of_marks marks)) (firsts-differ stamp_of_delete all.marks [] (λ i j d before within. absurd (omega (arith, within))) (λ marked has n none. absurd (Contains-none n none))))
        (λ booked has n also same. let from = mapped stamp_of_delete marks n also in sound.apart booked from.0 has (no_more.marks from.0 from.1) (same ∙ sym from.2)))

    pub is_told : told_soundly cluster.policy (learnt_of cluster known) ≡ Some (learnt_of cluster known)
    is_told = told-passed cluster.policy (learnt_of cluster known) passes

-- ---- what is told

module _ (cluster : ClusterModel) (known : Known) where
  pub told_all : KnowsSoundly cluster known → told_by cluster true known ≡ Some (learnt_of cluster known)
  told_all knows = is_told cluster known knows.0 knows.1

module _ (cluster : ClusterModel) (before after : Known) (was : KnowsSoundly cluster before) (is : KnowsSoundly cluster after) where
  -- what it told it tells still, where its view has grown
  told_more : Grows (view_of cluster before) (view_of cluster after) → Keeps (learnt_of cluster before) (learnt_of cluster after)
  told_more grows =
      keeps_both (learnt_of cluster before) (all cluster before) (learnt_of cluster after) (no_more cluster before)
      (keeps_both (all cluster before) (all cluster after) (learnt_of cluster after) (keeps (view_of cluster before) (view_of cluster after) grows cluster) (no_less cluster after is.0 is.1))

  pub still_told : (tells : Bool) → Grows (view_of cluster before) (view_of cluster after) → StillTells ⊥ (told_by cluster tells before) (told_by cluster tells after)
  still_told false grown = refl
  still_told true grown = rw (told_all cluster before was, told_all cluster after is) (told_more grown)
