-- The steps of a node on the word of losses: it asks whether there is room, draws the next number, and owes that loss.
use Rattle.std.proofs.Common.{◌≡◌, ◌≢◌, ℕ, ◌+◌, ◌%◌, ◌^◌, ◌≤◌, ◌<◌, if◌then◌else◌, nat_lt, true, List, [], ◌∷◌, length, set, get_or, Some, None, refl, sym, ap, ◌∙◌, subst, arith, length-set, get_or-set_same, get_or-set_other}
use mathlib.Core.Option.{none, some}
use mathlib.Core.Logic.{dite}
use native.Mathlib.Decide.{ℕ_discrete}
use lib.ListN.{get_elem?}
use Rattle.atomic_table.specs.Table.{Allows, keeps, step, stepped}
use Rattle.atomic_table.proofs.Lists.{set_again}
use Rattle.sw_ring.specs.Cluster.{ClusterModel}
use Rattle.sw_view.specs.History.{IsGuarded}
use Rattle.sw_view.specs.View.{IsSoundView, MayHappen}
use Rattle.sw_view.specs.declared.event.Event.{Event}
use Rattle.sw_view.specs.declared.event.Event.TheVariants.{Replaced}
use Rattle.sw_pass.specs.Known.{history, size_of, slot_of, view_of}
use Rattle.sw_pass.specs.Losses.{LossesBelow, Rises, with_owed}
use Rattle.sw_pass.specs.Rule.{Account, CountsFit, DeviceFits, Fits, IsDrawn, IsKept, IsNodeOf, KindFits, Table, begun, claims, due, is_node, one_if, total, word_at}
use Rattle.sw_pass.specs.Steps.{Looks, Loses, able, look, lost_one, most_losses}
use Rattle.sw_pass.specs.declared.known.Drawn.{Drawn}
use Rattle.sw_pass.specs.declared.known.Kind.{Kind}
use Rattle.sw_pass.specs.declared.known.Kind.TheVariants as kind
use Rattle.sw_pass.specs.declared.known.Known.{Known}
use Rattle.sw_pass.proofs.Counts.{claims_le, claims_same, greatest_set, total_le, total_set}
use Rattle.sw_pass.proofs.Facts.{delete_out, drawn_delete, drawn_put, put_out}
use Rattle.sw_pass.proofs.Histories.{continues_itself}
use Rattle.sw_pass.proofs.Keeps.{fits_grown, kept_counting, kind_like, loads, moved, nodes_like}
use Rattle.sw_pass.proofs.Losses.{losses_more, upd, upd_other, upd_same}
use Rattle.sw_pass.proofs.Stamps.{tested, whole_step}
use Rattle.sw_pass.proofs.Views.{fresh_after, fresh_of, sound_of}

-- a node's seat draws the next loss number, and owes it
lost_keeps : (cluster : ClusterModel) (s : Table) (id x : ℕ) (v : Known) (k : IsKept cluster s) → get_elem? s.views id ≡ some v → v.kind ≡ kind.Node x → v.losing ≡ true → v.owing ≡ None
    → IsKept cluster (record { words = set s.words (size_of cluster + 1) (get_or s.words (size_of cluster + 1) 0 + 1); homes = s.homes; views = set s.views id (lost_one (get_or s.words (size_of cluster + 1) 0) v) })
lost_keeps cluster s id x v k at node able_now owes =
    moved cluster s id w (set s.words (size_of cluster + 1) (l + 1)) g' k
    (length-set s.words (size_of cluster + 1) (l + 1) ∙ k.wide)
    (same (λ a b. Fits cluster g' a b id w) (
    record {
      kind = subst (KindFits cluster g' id w) (sym node) (record { inside = mine.inside; holder = mine.holder; whole = mine.whole; begun = mine.begun; owing = sym (upd_same k.account.owed x (Some l)) });
      drawn = λ y has. let d = f.drawn y has in let m = d.mark in record { stamp = d.stamp; bound = d.bound; may = d.may; mark = omega arith; guarded = guard y d };
      histories = f.histories;
      closed = f.closed;
      olds = λ o has. let c = f.olds o has in record { drawn = c.drawn; histories = c.histories };
      mark = let m = f.mark in omega arith;
      clock = f.clock;
      raising = f.raising;
      losing = omega arith;
      late = f.late;
      full = f.full;
    }))
    (λ i u ne e. let c = k.each i u e in same (λ a b. Fits cluster g' a b i u) (grow i u (others i u ne e u.kind refl c.kind) c))
    (k.agree id id v v at at)
    (λ j u e. k.agree id j v u at e)
    (λ y inside. same (λ a b. DeviceFits cluster g' a b (word_at (set s.words (size_of cluster + 1) (l + 1)) y) y)
    (subst (λ z. DeviceFits cluster g' n (l + 1) z y) (sym (other_word y inside)) (dite (ℕ_discrete y x)
    (λ e. subst (λ z. DeviceFits cluster g' n (l + 1) (word_at s.words z) z) (sym e) device_x)
    (λ ne. let d = k.device y inside in record {
      claimed = d.claimed;
      fresh = λ device stamp mark at least. subst (IsGuarded cluster device stamp mark) (sym (due_other y ne)) (d.fresh device stamp mark at least);
      unclaimed = λ e. upd_other k.account.owed x (Some l) y ne ∙ d.unclaimed e;
      rises = subst Rises (sym (due_other y ne)) d.rises;
      beneath = subst (LossesBelow (l + 1)) (sym (due_other y ne)) (losses_more l (l + 1) (omega arith) (due k.account y) d.beneath);
    }))))
    (λ y out. let b = k.beyond y out in (b.0, upd_other k.account.owed x (Some l) y (λ e. let i = mine.inside in omega arith) ∙ b.1))
    (same (λ a b. CountsFit a b (claims (word_at (set s.words (size_of cluster + 1) (l + 1))) (size_of cluster)) (set s.views id w))
    (subst (λ c. CountsFit n (l + 1) c (set s.views id w)) (sym (claims_same (word_at s.words) (word_at (set s.words (size_of cluster + 1) (l + 1))) (size_of cluster) other_word)) counts))
    (nodes_like cluster k.account s.views id v w at refl k.nodes)
  where
    n : ℕ
    n = get_or s.words 0 0

    l : ℕ
    l = get_or s.words (size_of cluster + 1) 0

    w : Known
    w = lost_one (get_or s.words (size_of cluster + 1) 0) v

    g' : Account
    g' = record { past = k.account.past; seat = k.account.seat; owed = upd k.account.owed x (Some (get_or s.words (size_of cluster + 1) 0)) }

    f : Fits cluster k.account (get_or s.words 0 0) (get_or s.words (size_of cluster + 1) 0) id v
    f = k.each id v at

    other_word : (y : ℕ) → y < size_of cluster → word_at (set s.words (size_of cluster + 1) (get_or s.words (size_of cluster + 1) 0 + 1)) y ≡ word_at s.words y
    other_word y inside = get_or-set_other s.words (size_of cluster + 1) (y + 1) (get_or s.words (size_of cluster + 1) 0 + 1) 0 (λ e. omega arith)

    mine : IsNodeOf cluster k.account id v x
    mine = subst (KindFits cluster k.account id v) node (k.each id v at).kind

    was : k.account.owed x ≡ None
    was = sym mine.owing ∙ owes

    same : (P : ℕ → ℕ → Type 0) → P (get_or s.words 0 0) (get_or s.words (size_of cluster + 1) 0 + 1) → P (get_or (set s.words (size_of cluster + 1) (get_or s.words (size_of cluster + 1) 0 + 1)) 0 0) (get_or (set s.words (size_of cluster + 1) (get_or s.words (size_of cluster + 1) 0 + 1)) (size_of cluster + 1) 0)
    same P p =
        let wide = k.wide in
        subst (λ z. P z (get_or (set s.words (size_of cluster + 1) (get_or s.words (size_of cluster + 1) 0 + 1)) (size_of cluster + 1) 0)) (sym (get_or-set_other s.words (size_of cluster + 1) 0 (get_or s.words (size_of cluster + 1) 0 + 1) 0 (λ e. omega arith)))
        (subst (P (get_or s.words 0 0)) (sym (get_or-set_same s.words (size_of cluster + 1) (get_or s.words (size_of cluster + 1) 0 + 1) 0 (omega arith))) p)

    due_same : with_owed (upd k.account.owed x (Some (get_or s.words (size_of cluster + 1) 0)) x) (k.account.past x) ≡ Replaced (get_or s.words (size_of cluster + 1) 0) ∷ k.account.past x
    due_same = ap (λ z. with_owed z (k.account.past x)) (upd_same k.account.owed x (Some (get_or s.words (size_of cluster + 1) 0)))

    due_other : (y : ℕ) → y ≢ x → with_owed (upd k.account.owed x (Some (get_or s.words (size_of cluster + 1) 0)) y) (k.account.past y) ≡ with_owed (k.account.owed y) (k.account.past y)
    due_other y ne = ap (λ z. with_owed z (k.account.past y)) (upd_other k.account.owed x (Some (get_or s.words (size_of cluster + 1) 0)) y ne)

    guard : (y : Drawn) → IsDrawn cluster k.account (get_or s.words 0 0) (get_or s.words (size_of cluster + 1) 0) y → (device : ℕ)
        → IsGuarded cluster device y.stamp y.mark (with_owed (upd k.account.owed x (Some (get_or s.words (size_of cluster + 1) 0)) (slot_of cluster device)) (k.account.past (slot_of cluster device)))
    guard y d device = dite (ℕ_discrete (slot_of cluster device) x)
        (λ e. subst (λ t. IsGuarded cluster device y.stamp y.mark (with_owed (upd k.account.owed x (Some (get_or s.words (size_of cluster + 1) 0)) t) (k.account.past t))) (sym e)
        (subst (IsGuarded cluster device y.stamp y.mark) (sym due_same)
        ((λ disk side replays is has. d.mark), subst (λ t. IsGuarded cluster device y.stamp y.mark (with_owed t (k.account.past x))) was (subst (λ t. IsGuarded cluster device y.stamp y.mark (due k.account t)) e (d.guarded device)))))
        (λ ne. subst (IsGuarded cluster device y.stamp y.mark) (sym (due_other (slot_of cluster device) ne)) (d.guarded device))

    sound : IsSoundView cluster (view_of cluster v)
    sound = sound_of cluster k.account (get_or s.words 0 0) (get_or s.words (size_of cluster + 1) 0) id v k.rules (k.each id v at) (k.agree id id v v at at)

    may : MayHappen (view_of cluster v) (Replaced (get_or s.words (size_of cluster + 1) 0))
    may = ((λ put has. ((k.each id v at).drawn (drawn_put put) (put_out v.drawn put has)).mark), (λ delete has. ((k.each id v at).drawn (drawn_delete delete) (delete_out v.drawn delete has)).mark))

    fresh_so : (device stamp mark : ℕ) → slot_of cluster device ≡ x → get_or s.words 0 0 ≤ stamp → IsGuarded cluster device stamp mark (Replaced (get_or s.words (size_of cluster + 1) 0) ∷ k.account.past x)
    fresh_so device stamp mark here least =
        let fresh = fresh_of cluster k.account (get_or s.words 0 0) (get_or s.words (size_of cluster + 1) 0) id stamp v (k.each id v at) least in
        let one = fresh_after cluster (view_of cluster v) sound device (get_or s.words (size_of cluster + 1) 0) may stamp fresh mark in
        subst (λ events. IsGuarded cluster device stamp mark (Replaced (get_or s.words (size_of cluster + 1) 0) ∷ events)) mine.whole (subst (λ z. IsGuarded cluster device stamp mark (Replaced (get_or s.words (size_of cluster + 1) 0) ∷ history v.histories z)) here one)

    grow : (i : ℕ) (u : Known) → KindFits cluster (record { past = k.account.past; seat = k.account.seat; owed = upd k.account.owed x (Some (get_or s.words (size_of cluster + 1) 0)) }) i u u.kind
        → Fits cluster k.account (get_or s.words 0 0) (get_or s.words (size_of cluster + 1) 0) i u
        → Fits cluster (record { past = k.account.past; seat = k.account.seat; owed = upd k.account.owed x (Some (get_or s.words (size_of cluster + 1) 0)) }) (get_or s.words 0 0) (get_or s.words (size_of cluster + 1) 0 + 1) i u
    grow i u fit c = fits_grown cluster k.account (record { past = k.account.past; seat = k.account.seat; owed = upd k.account.owed x (Some (get_or s.words (size_of cluster + 1) 0)) }) (get_or s.words 0 0) (get_or s.words 0 0) (get_or s.words (size_of cluster + 1) 0) (get_or s.words (size_of cluster + 1) 0 + 1) i u (omega arith) (omega arith) (λ y. continues_itself (k.account.past y)) guard fit c

    others : (i : ℕ) (u : Known) → i ≢ id → get_elem? s.views i ≡ some u → (h : Kind) → u.kind ≡ h → KindFits cluster k.account i u h
        → KindFits cluster (record { past = k.account.past; seat = k.account.seat; owed = upd k.account.owed x (Some (get_or s.words (size_of cluster + 1) 0)) }) i u h
    others i u ne e kind.Pass is c = c
    others i u ne e kind.Note is c = c
    others i u ne e kind.Spent is c = c
    others i u ne e (kind.Node y) is c =
        let nx : y ≢ x = λ same. ne (c.holder ∙ (ap k.account.seat same ∙ sym mine.holder)) in
        record { inside = c.inside; holder = c.holder; whole = c.whole; begun = c.begun; owing = c.owing ∙ sym (upd_other k.account.owed x (Some (get_or s.words (size_of cluster + 1) 0)) y nx) }

    device_x : DeviceFits cluster (record { past = k.account.past; seat = k.account.seat; owed = upd k.account.owed x (Some (get_or s.words (size_of cluster + 1) 0)) }) (get_or s.words 0 0) (get_or s.words (size_of cluster + 1) 0 + 1) (word_at s.words x) x
    device_x =
        let d = k.device x mine.inside in
        let beneath : LossesBelow (get_or s.words (size_of cluster + 1) 0) (k.account.past x) = subst (λ t. LossesBelow (get_or s.words (size_of cluster + 1) 0) (with_owed t (k.account.past x))) was d.beneath in record {
          claimed = d.claimed;
          fresh = λ device stamp mark here least. subst (IsGuarded cluster device stamp mark) (sym due_same) (fresh_so device stamp mark here least);
          unclaimed = λ e. let b = mine.begun in let z : length (k.account.past x) ≡ 0 = ap length e in absurd (omega arith);
          rises = subst Rises (sym due_same) (beneath, subst (λ t. Rises (with_owed t (k.account.past x))) was d.rises);
          beneath = subst (LossesBelow (get_or s.words (size_of cluster + 1) 0 + 1)) (sym due_same) (omega arith, losses_more (get_or s.words (size_of cluster + 1) 0) (get_or s.words (size_of cluster + 1) 0 + 1) (omega arith) (k.account.past x) beneath);
        }

    counts : CountsFit (get_or s.words 0 0) (get_or s.words (size_of cluster + 1) 0 + 1) (claims (word_at s.words) (size_of cluster)) (set s.views id (lost_one (get_or s.words (size_of cluster + 1) 0) v))
    counts =
        let v' : Known = lost_one (get_or s.words (size_of cluster + 1) 0) v in
        let p = total_set (λ u. u.passes) s.views id v v' at in
        let a = total_set (λ u. one_if u.raising) s.views id v v' at in
        let b = total_set (λ u. u.draws) s.views id v v' at in
        let d = total_set (λ u. one_if u.losing) s.views id v v' at in
        let d' : one_if v.losing ≡ 1 = ap one_if able_now in
        let e = total_set (λ u. is_node u.kind) s.views id v v' at in
        let g = (greatest_set s.views id v v' at (omega arith)).0 in
        let q0 = k.counts.passes in
        let q1 = k.counts.pending in
        let q2 = k.counts.clock in
        let q3 = k.counts.lost in
        let q4 = k.counts.nodes in
        record { passes = omega arith; pending = omega arith; clock = omega arith; lost = omega arith; nodes = omega arith }

-- there are no more nodes than slots
few_nodes : (cluster : ClusterModel) (s : Table) → IsKept cluster s → total (λ u. is_node u.kind) s.views ≤ size_of cluster
few_nodes cluster s k =
    let q = k.counts.nodes in
    let c = claims_le (word_at s.words) (size_of cluster) (λ y inside. let w = (k.device y inside).claimed in let b = begun_le (k.account.past y) in omega arith) in
    omega arith
  where
    begun_le : (past : List Event) → begun past ≤ 1
    begun_le [] = omega arith
    begun_le (event ∷ past) = omega arith

pub loses : (cluster : ClusterModel) (slots id x : ℕ) (v : Known) (cs : List (ℕ × Unit)) → size_of cluster ≤ 64 → v.kind ≡ kind.Node x → v.losing ≡ true → v.owing ≡ None
    → Allows (IsKept cluster) slots id (v, cs) (size_of cluster + 1) (λ n. (n + 1) % 2 ^ 64) (Loses (step slots (size_of cluster + 1) 1 0 none) (v, cs))
loses cluster slots id x v cs small node may owes s k _ at _ = (
  lost_one (get_or s.words (size_of cluster + 1) 0) v,
  keeps,
  tt,
  (let t = k.counts.lost in
      let q = few_nodes cluster s k in
      whole_step (get_or s.words (size_of cluster + 1) 0) (omega arith) (λ z. IsKept cluster (record { words = set s.words (size_of cluster + 1) z; homes = s.homes; views = set s.views id (lost_one (get_or s.words (size_of cluster + 1) 0) v) })) (lost_keeps cluster s id x v k at node may owes)),
  refl,
)

pub loses_at : (cluster : ClusterModel) (slots id word x : ℕ) (v : Known) (cs : List (ℕ × Unit)) → word ≡ size_of cluster + 1 → size_of cluster ≤ 64 → v.kind ≡ kind.Node x → v.losing ≡ true → v.owing ≡ None
    → Allows (IsKept cluster) slots id (v, cs) word (λ n. (n + 1) % 2 ^ 64) (Loses (step slots word 1 0 none) (v, cs))
loses_at cluster slots id word x v cs e small node may owes = subst (λ k. Allows (IsKept cluster) slots id (v, cs) k (λ n. (n + 1) % 2 ^ 64) (Loses (step slots k 1 0 none) (v, cs))) (sym e) (loses cluster slots id x v cs small node may owes)

-- ---- whether there is room for another loss

able_keeps : (cluster : ClusterModel) (s : Table) (id x : ℕ) (v : Known) (k : IsKept cluster s) → get_elem? s.views id ≡ some v → v.kind ≡ kind.Node x → get_or s.words (size_of cluster + 1) 0 < most_losses
    → IsKept cluster (record { words = s.words; homes = s.homes; views = set s.views id (able v) })
able_keeps cluster s id x v k at node room =
    let f = k.each id v at in
    let one : is_node v.kind ≡ 1 = ap is_node node in
    kept_counting cluster s id v (able v) k at refl refl
    (let p = total_set (λ u. u.passes) s.views id v (able v) at in
    let a = total_set (λ u. one_if u.raising) s.views id v (able v) at in
    let b = total_set (λ u. u.draws) s.views id v (able v) at in
    let d = total_set (λ u. one_if u.losing) s.views id v (able v) at in
    let d' = f.losing in
    let e = total_set (λ u. is_node u.kind) s.views id v (able v) at in
    let t = total_le (λ u. one_if u.losing) (λ u. is_node u.kind) s.views (λ j u there. (k.each j u there).losing) in
    let g = (greatest_set s.views id v (able v) at (omega arith)).0 in
    let q0 = k.counts.passes in
    let q1 = k.counts.pending in
    let q2 = k.counts.clock in
    let q3 = k.counts.lost in
    let q4 = k.counts.nodes in
    record { passes = omega arith; pending = omega arith; clock = omega arith; lost = omega arith; nodes = omega arith })
    (record {
      kind = kind_like cluster k.account id v (able v) v.kind refl refl f.kind;
      drawn = f.drawn;
      histories = f.histories;
      closed = f.closed;
      olds = λ o has. let c = f.olds o has in record { drawn = c.drawn; histories = c.histories };
      mark = f.mark;
      clock = f.clock;
      raising = f.raising;
      losing = omega arith;
      late = f.late;
      full = f.full;
    })

-- a look that finds no room leaves all as it is
same_keeps : (cluster : ClusterModel) (s : Table) (id : ℕ) (v : Known) → IsKept cluster s → get_elem? s.views id ≡ some v → IsKept cluster (record { words = s.words; homes = s.homes; views = set s.views id v })
same_keeps cluster s id v k at = subst (λ vs. IsKept cluster (record { words = s.words; homes = s.homes; views = vs })) (sym (set_again s.views id v at)) k

pub looks : (cluster : ClusterModel) (slots id x : ℕ) (v : Known) (cs : List (ℕ × Unit)) → v.kind ≡ kind.Node x
    → Allows (IsKept cluster) slots id (v, cs) (size_of cluster + 1) (λ n. n) (Looks (step slots (size_of cluster + 1) 0 0 none) (v, cs))
looks cluster slots id x v cs node s k _ at _ =
    let l : ℕ = get_or s.words (size_of cluster + 1) 0 in (
      look l v,
      keeps,
      tt,
      tested l most_losses (λ b. IsKept cluster (stepped s (size_of cluster + 1) l id cs (if b then able v else v) keeps)) (nat_lt l most_losses) refl
          (λ room. loads cluster (size_of cluster + 1) id s cs (able v) (able_keeps cluster s id x v k at node room))
          (λ none. loads cluster (size_of cluster + 1) id s cs v (same_keeps cluster s id v k at)),
      refl,
    )

pub looks_at : (cluster : ClusterModel) (slots id word x : ℕ) (v : Known) (cs : List (ℕ × Unit)) → word ≡ size_of cluster + 1 → v.kind ≡ kind.Node x
    → Allows (IsKept cluster) slots id (v, cs) word (λ n. n) (Looks (step slots word 0 0 none) (v, cs))
looks_at cluster slots id word x v cs e node = subst (λ k. Allows (IsKept cluster) slots id (v, cs) k (λ n. n) (Looks (step slots k 0 0 none) (v, cs))) (sym e) (looks cluster slots id x v cs node)
