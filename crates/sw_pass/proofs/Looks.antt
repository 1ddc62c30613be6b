-- The steps that change no word: losses are counted, what was joined is learnt, and a seat is split.
use Rattle.std.proofs.Common.{◌≡◌, ℕ, ◌+◌, ◌<◌, true≢false, List, [], ◌∷◌, ◌++◌, set, get_or, refl, sym, ap, subst, arith}
use mathlib.Core.Option.{none, some}
use mathlib.Core.Logic.{dite}
use native.Mathlib.Decide.{dec_le}
use native.Mathlib.Nat.{lt_of_not-le}
use lib.ListN.{get_elem?}
use Rattle.atomic_table.specs.Table.{Allows, Splits, keeps, step}
use Rattle.atomic_table.proofs.Lists.{set_again, set_here}
use Rattle.sw_diskfile.proofs.Lists.{Contains-none}
use Rattle.sw_ring.specs.Cluster.{ClusterModel}
use Rattle.sw_pass.specs.Known.{IsPass, history, size_of}
use Rattle.sw_pass.specs.Losses.{LossesBelow, Rises}
use Rattle.sw_pass.specs.Rule.{Account, Fits, IsKept, KindFits, one_if}
use Rattle.sw_pass.specs.Steps.{Learns, Reads, copied, learned, marked, noted, parted, passed}
use Rattle.sw_pass.specs.declared.known.Kind.{Kind}
use Rattle.sw_pass.specs.declared.known.Kind.TheVariants as kind
use Rattle.sw_pass.specs.declared.known.Known.{Known}
use Rattle.sw_pass.proofs.Counts.{total_set}
use Rattle.sw_pass.proofs.Keeps.{came, kept, kind_like, loads, there}
use Rattle.sw_pass.proofs.Losses.{losses_earlier, losses_owed, rises_earlier, rises_owed}
use Rattle.sw_pass.proofs.Views.{sound_of}

-- ---- losses are counted

pub reads : (cluster : ClusterModel) (slots id : ℕ) (v : Known) (cs : List (ℕ × Unit))
    → Allows (IsKept cluster) slots id (v, cs) (size_of cluster + 1) (λ n. n) (Reads (step slots (size_of cluster + 1) 0 0 none) (v, cs))
reads cluster slots id v cs s k _ at _ =
    let l : ℕ = get_or s.words (size_of cluster + 1) 0 in
    let f = k.each id v at in (
      marked l v,
      keeps,
      tt,
      loads cluster (size_of cluster + 1) id s cs (marked l v) (kept cluster s id v (marked l v) k at refl refl (record { passes = omega arith; clock = refl; raising = refl; draws = refl; losing = refl; kind = refl }) (record {
        kind = kind_like cluster k.account id v (marked l v) v.kind refl refl f.kind;
        drawn = f.drawn;
        histories = f.histories;
        closed = f.closed;
        olds = λ o has. let c = f.olds o has in record { drawn = c.drawn; histories = c.histories };
        mark = omega arith;
        clock = f.clock;
        raising = f.raising;
        losing = f.losing;
        late = f.late;
        full = f.full;
      })),
      (
        refl,
        f.mark,
        λ x. dite (dec_le (size_of cluster) x)
            (λ out. let c = f.histories x in losses_earlier l c.0 (history v.histories x) (subst (LossesBelow l) (c.1) (subst (LossesBelow l) (sym (k.beyond x out).0) tt)))
            (λ inside. let c = f.histories x in losses_earlier l c.0 (history v.histories x) (subst (LossesBelow l) c.1 (losses_owed l (k.account.owed x) (k.account.past x) (k.device x (lt_of_not-le inside)).beneath))),
      ),
    )

pub reads_at : (cluster : ClusterModel) (slots id word : ℕ) (v : Known) (cs : List (ℕ × Unit)) → word ≡ size_of cluster + 1
    → Allows (IsKept cluster) slots id (v, cs) word (λ n. n) (Reads (step slots word 0 0 none) (v, cs))
reads_at cluster slots id word v cs e = subst (λ k. Allows (IsKept cluster) slots id (v, cs) k (λ n. n) (Reads (step slots k 0 0 none) (v, cs))) (sym e) (reads cluster slots id v cs)

-- ---- what was joined is learnt

pub learns : (cluster : ClusterModel) (slots id : ℕ) (v : Known) (cs : List (ℕ × Unit))
    → Allows (IsKept cluster) slots id (v, cs) 0 (λ n. n) (Learns cluster (step slots 0 0 0 none) (v, cs))
learns cluster slots id v cs s k _ at _ =
    let f = k.each id v at in (
      learned v,
      keeps,
      tt,
      loads cluster 0 id s cs (learned v) (kept cluster s id v (learned v) k at refl refl (record { passes = omega arith; clock = refl; raising = refl; draws = refl; losing = refl; kind = refl }) (record {
        kind = kind_like cluster k.account id v (learned v) v.kind refl refl f.kind;
        drawn = f.drawn;
        histories = f.histories;
        closed = f.closed;
        olds = λ o has. absurd (Contains-none o has);
        mark = f.mark;
        clock = f.clock;
        raising = f.raising;
        losing = f.losing;
        late = f.late;
        full = f.full;
      })),
      (
        refl,
        record {
          covers = f.olds;
          sound = sound_of cluster k.account _ _ id v k.rules f (k.agree id id v v at at);
          agree = k.agree id id v v at at;
          rises = λ x. let c = f.histories x in rises_earlier c.0 (history v.histories x) (subst Rises c.1 (dite (dec_le (size_of cluster) x)
              (λ out. subst Rises (sym (k.beyond x out).0) tt)
              (λ inside. rises_owed (k.account.owed x) (k.account.past x) (k.device x (lt_of_not-le inside)).rises)));
        },
      ),
    )

-- ---- a seat is split

-- the new seat knows what the other does
copied_fits : (cluster : ClusterModel) (g : Account) (n l id j passes : ℕ) (v : Known) (new : Kind) → KindFits cluster g j (copied new passes v) new → Fits cluster g n l id v → Fits cluster g n l j (copied new passes v)
copied_fits cluster g n l id j passes v new kinds f = record {
  kind = kinds;
  drawn = f.drawn;
  histories = f.histories;
  closed = f.closed;
  olds = λ o has. absurd (Contains-none o has);
  mark = f.mark;
  clock = omega arith;
  raising = omega arith;
  losing = omega arith;
  late = λ x c. absurd (Contains-none x c);
  full = λ is. absurd (true≢false (sym is));
}

pub splits_note : (cluster : ClusterModel) (id : ℕ) (v : Known) → Splits (IsKept cluster) id v v (noted v)
splits_note cluster id v s k at =
    let few = k.counts.passes in
    subst (λ vs. IsKept cluster (record { words = s.words; homes = s.homes; views = vs ++ noted v ∷ [] })) (sym (set_again s.views id v at))
    (came cluster s id v (noted v) k at refl (omega arith) refl refl refl refl (λ j. copied_fits cluster k.account _ _ id j 0 v kind.Note refl (k.each id v at)))

pub splits_pass : (cluster : ClusterModel) (id passes : ℕ) (v : Known) → IsPass v → passes < v.passes → Splits (IsKept cluster) id v (parted passes v) (passed passes v)
splits_pass cluster id passes v is less s k at =
    let left : Known = parted passes v in
    let vs : List Known = set s.views id left in
    let f = k.each id v at in
    let free : one_if v.raising ≡ 0 = ap one_if is.raising in
    let parted_kept : IsKept cluster (record { words = s.words; homes = s.homes; views = vs }) =
    kept cluster s id v left k at refl refl (record { passes = omega arith; clock = refl; raising = refl; draws = refl; losing = refl; kind = refl }) (record {
      kind = kind_like cluster k.account id v left v.kind refl refl f.kind;
      drawn = f.drawn;
      histories = f.histories;
      closed = f.closed;
      olds = λ o has. let c = f.olds o has in record { drawn = c.drawn; histories = c.histories };
      mark = f.mark;
      clock = f.clock;
      raising = omega arith;
      losing = f.losing;
      late = f.late;
      full = f.full;
    }) in
    let here : get_elem? vs id ≡ some left = set_here s.views id left (there s.views id v at) in
    let counts = total_set (λ u. u.passes) s.views id v left at in
    let few = k.counts.passes in
    came cluster (record { words = s.words; homes = s.homes; views = vs }) id left (passed passes v) parted_kept here refl (omega (arith, counts, few, less)) refl refl refl refl
    (λ j. copied_fits cluster parted_kept.account _ _ id j passes left kind.Pass refl (parted_kept.each id left here))
