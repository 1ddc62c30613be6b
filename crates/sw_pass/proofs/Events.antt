-- The steps of a node on the word of its slot: it is claimed, and an event is added.
use Rattle.std.proofs.Common.{◌≡◌, ◌≢◌, ℕ, ◌+◌, ◌≤◌, ◌<◌, ◌==◌, if◌then◌else◌, List, [], ◌∷◌, length, set, get_or, Contains, None, refl, sym, ap, ◌∙◌, subst, ⊎_elim, arith, length-set, get_or-set_same, get_or-set_other, eqb, eq-eqb, ne_eqb}
use mathlib.Core.Option.{none, some}
use mathlib.Core.Logic.{dite}
use native.Mathlib.Decide.{ℕ_discrete}
use lib.Seq.{set-get_or}
use lib.ListN.{get_elem?}
use prog.Atomic.{either}
use Rattle.atomic_table.specs.Table.{Allows, keeps, step, stepped}
use Rattle.sw_diskfile.proofs.Lists.{Contains-cases}
use Rattle.sw_ring.specs.Cluster.{ClusterModel}
use Rattle.sw_law_scene.specs.Devices.{no_folders}
use Rattle.sw_law_scene.specs.Disks.{Sure}
use Rattle.sw_view.specs.History.{Continues, IsGuarded, Replays}
use Rattle.sw_view.specs.View.{IsClosed}
use Rattle.sw_view.specs.declared.event.Event.{Event}
use Rattle.sw_view.specs.declared.event.Event.TheVariants.{Mounted}
use Rattle.sw_pass.specs.Known.{AllAgree, history, size_of, slot_of, view_of, view_with, with_history}
use Rattle.sw_pass.specs.Losses.{IsDue, LossesBelow, Rises, with_owed}
use Rattle.sw_pass.specs.Rule.{Account, CountsFit, DeviceFits, Fits, IsDrawn, IsKept, IsNodeOf, KindFits, Table, begun, claims, is_node, one_if, word_at}
use Rattle.sw_pass.specs.Steps.{Advances, Claims, MayAdvance, advanced, came_late, claim, claimed}
use Rattle.sw_pass.specs.declared.known.Drawn.{Drawn}
use Rattle.sw_pass.specs.declared.known.Kind.{Kind}
use Rattle.sw_pass.specs.declared.known.Kind.TheVariants as kind
use Rattle.sw_pass.specs.declared.known.Known.{Known}
use Rattle.sw_pass.proofs.Counts.{claims_more, greatest_set, total_set}
use Rattle.sw_pass.proofs.Histories.{continues_itself, continues_length, continues_more, continues_one, history_other, history_same}
use Rattle.sw_pass.proofs.Keeps.{counts_like, fits_grown, kept, kind_like, loads, moved, nodes_at}
use Rattle.sw_pass.proofs.Losses.{due_guarded, due_losses, due_rises, same_or_not, upd, upd_at, upd_other, upd_same}
use Rattle.sw_pass.proofs.Slots.{added_closed}

-- ---- whether anything happened

pub begun_one : (past : List Event) → 0 < length past → begun past ≡ 1
begun_one [] less = absurd (omega arith)
begun_one (event ∷ past) less = refl

pub begun_none : (past : List Event) → begun past ≡ 0 → past ≡ []
begun_none [] is = refl
begun_none (event ∷ past) is = absurd (omega arith)

pub begun_some : (past : List Event) → begun past ≢ 0 → 0 < length past
begun_some [] is = absurd (is refl)
begun_some (event ∷ past) is = omega arith

pub none_before : (events : List Event) → Continues [] events → events ≡ []
none_before events on = let l = continues_length [] events on in by_length events l
  where
    by_length : (events : List Event) → length events ≤ 0 → events ≡ []
    by_length [] le = refl
    by_length (event ∷ events) le = absurd (omega arith)

node_le : (k : Kind) → is_node k ≤ 1
node_le kind.Pass = omega arith
node_le kind.Note = omega arith
node_le (kind.Node x) = omega arith
node_le kind.Spent = omega arith

-- ---- an event is added

-- a device has one more event, which its node's seat has
grown : (cluster : ClusterModel) (s : Table) (id x : ℕ) (event : Event) (v w : Known) (k : IsKept cluster s) → get_elem? s.views id ≡ some v → x < size_of cluster → IsDue event (k.account.owed x)
    → ((j : ℕ) (u : Known) → j ≢ id → get_elem? s.views j ≡ some u → u.kind ≡ kind.Node x → ⊥)
    → w.kind ≡ kind.Node x → w.histories ≡ with_history v.histories x (event ∷ k.account.past x) → w.drawn ≡ v.drawn → w.olds ≡ v.olds → w.mark ≡ v.mark → w.late ≡ v.late → w.full ≡ v.full → w.owing ≡ None → w.clock ≡ v.clock → w.raising ≡ v.raising → w.passes ≡ v.passes → w.losing ≡ v.losing
    → ((slot : ℕ) → v.kind ≡ kind.Node slot → slot ≡ x) → CountsFit (get_or s.words 0 0) (get_or s.words (size_of cluster + 1) 0) (claims (word_at (set s.words (x + 1) 1)) (size_of cluster)) (set s.views id w) → IsClosed cluster (view_of cluster w)
    → IsKept cluster (record { words = set s.words (x + 1) 1; homes = s.homes; views = set s.views id w })
grown cluster s id x event v w k at inside dues free node histories facts olds mark late full owing clock raising passes losing own counts closed =
    moved cluster s id w words g' k
    (length-set s.words (x + 1) 1 ∙ wide)
    (same (λ a b. Fits cluster g' a b id w) (record {
      kind = subst (KindFits cluster g' id w) (sym node) (record {
        inside = inside;
        holder = sym (upd_same g.seat x id);
        whole = mine ∙ sym px;
        begun = subst (λ z. 0 < length z) (sym px) (omega arith);
        owing = owing ∙ sym ox;
      });
      drawn = subst (λ fs. (y : Drawn) → Contains fs y → IsDrawn cluster g' stamps losses y) (sym facts) (λ y has. let d = f.drawn y has in record { stamp = d.stamp; bound = d.bound; may = d.may; mark = d.mark; guarded = guard y d });
      histories = λ y. dite (ℕ_discrete y x)
          (λ e. subst (λ z. Continues (g'.past z) (history w.histories z)) (sym e) (subst (λ z. Continues (g'.past x) z) (px ∙ sym mine) (continues_itself (g'.past x))))
          (λ ne. subst (λ z. Continues (g'.past y) z) (sym (apart y ne)) (continues_more (g'.past y) (g.past y) (history v.histories y) (more y) (f.histories y)));
      closed = closed;
      olds = λ o has. let c = f.olds o (subst (λ z. Contains z o) olds has) in record { drawn = λ y d. subst (λ z. Contains z y) (sym facts) (c.drawn y d); histories = λ y. continues_more (history w.histories y) (history v.histories y) (history o.histories y) (later y) (c.histories y) };
      mark = let m = f.mark in omega arith;
      clock = let m = f.clock in omega arith;
      raising = let m = f.raising in let r : one_if w.raising ≡ one_if v.raising = ap one_if raising in omega arith;
      losing = let m = f.losing in let r : one_if w.losing ≡ one_if v.losing = ap one_if losing in let one : is_node w.kind ≡ 1 = ap is_node node in let le = node_le v.kind in omega arith;
      late = λ y has. let c = f.late y (subst (λ z. Contains z y) late has) in let l = continues_length (g'.past y) (g.past y) (more y) in omega arith;
      full = λ is. f.full (sym full ∙ is);
    }))
    (λ i u ne e. let c = k.each i u e in same (λ a b. Fits cluster g' a b i u) (fits_grown cluster g g' stamps stamps losses losses i u (omega arith) (omega arith) more guard (others i u ne e u.kind refl c.kind) c))
    (subst (λ fs. AllAgree fs fs) (sym facts) (k.agree id id v v at at))
    (λ j u e. subst (λ fs. AllAgree fs u.drawn) (sym facts) (k.agree id j v u at e))
    (λ y l. same (λ a b. DeviceFits cluster g' a b (word_at words y) y) (dite (ℕ_discrete y x)
    (λ e. subst (λ z. DeviceFits cluster g' stamps losses (word_at words z) z) (sym e) device_x)
    (λ ne. let d = k.device y l in let p = upd_other g.past x (event ∷ g.past x) y ne in let o = upd_other g.owed x None y ne in
    subst (λ z. DeviceFits cluster g' stamps losses z y) (sym (get_or-set_other s.words (x + 1) (y + 1) 1 0 (λ e. ne (omega arith)))) (record {
      claimed = d.claimed ∙ ap begun (sym p);
      fresh = λ device stamp mark at least. guard_at device stamp mark y (d.fresh device stamp mark at least);
      rises = subst Rises (sym (due_other y ne)) d.rises;
      beneath = subst (LossesBelow losses) (sym (due_other y ne)) d.beneath;
      unclaimed = λ e. o ∙ d.unclaimed (sym p ∙ e);
    }))))
    (λ y out. let b = k.beyond y out in (upd_other g.past x (event ∷ g.past x) y (λ e. omega arith) ∙ b.0, upd_other g.owed x None y (λ e. omega arith) ∙ b.1))
    (same (λ a b. CountsFit a b (claims (word_at words) (size_of cluster)) (set s.views id w)) counts)
    (nodes_at cluster g g' s.views id x v w at node own (upd_same g.seat x id) (λ slot ne. (upd_other g.seat x id slot ne, upd_other g.past x (event ∷ g.past x) slot ne)) k.nodes)
  where
    g : Account
    g = k.account

    g' : Account
    g' = record { past = upd k.account.past x (event ∷ k.account.past x); seat = upd k.account.seat x id; owed = upd k.account.owed x None }

    f : Fits cluster k.account (get_or s.words 0 0) (get_or s.words (size_of cluster + 1) 0) id v
    f = k.each id v at

    stamps : ℕ
    stamps = get_or s.words 0 0

    losses : ℕ
    losses = get_or s.words (size_of cluster + 1) 0

    words : List ℕ
    words = set s.words (x + 1) 1

    wide : length s.words ≡ size_of cluster + 2
    wide = k.wide

    px : upd k.account.past x (event ∷ k.account.past x) x ≡ event ∷ k.account.past x
    px = upd_same k.account.past x (event ∷ k.account.past x)

    ox : upd k.account.owed x None x ≡ None
    ox = upd_same k.account.owed x None

    same : (P : ℕ → ℕ → Type 0) → P (get_or s.words 0 0) (get_or s.words (size_of cluster + 1) 0) → P (get_or (set s.words (x + 1) 1) 0 0) (get_or (set s.words (x + 1) 1) (size_of cluster + 1) 0)
    same P p = subst (λ z. P z (get_or (set s.words (x + 1) 1) (size_of cluster + 1) 0)) (sym (get_or-set_other s.words (x + 1) 0 1 0 (λ e. omega arith)))
        (subst (P (get_or s.words 0 0)) (sym (get_or-set_other s.words (x + 1) (size_of cluster + 1) 1 0 (λ e. omega arith))) p)

    more : (y : ℕ) → Continues (upd k.account.past x (event ∷ k.account.past x) y) (k.account.past y)
    more y = upd_at k.account.past x (event ∷ k.account.past x) y (λ z. Continues z (k.account.past y)) (λ e. subst (λ z. Continues (event ∷ k.account.past x) (k.account.past z)) (sym e) (continues_one event (k.account.past x))) (λ ne. continues_itself (k.account.past y))

    due_same : with_owed (upd k.account.owed x None x) (upd k.account.past x (event ∷ k.account.past x) x) ≡ event ∷ k.account.past x
    due_same = ap (λ z. with_owed z (upd k.account.past x (event ∷ k.account.past x) x)) (upd_same k.account.owed x None) ∙ upd_same k.account.past x (event ∷ k.account.past x)

    due_other : (y : ℕ) → y ≢ x → with_owed (upd k.account.owed x None y) (upd k.account.past x (event ∷ k.account.past x) y) ≡ with_owed (k.account.owed y) (k.account.past y)
    due_other y ne = ap (λ z. with_owed z (upd k.account.past x (event ∷ k.account.past x) y)) (upd_other k.account.owed x None y ne) ∙ ap (with_owed (k.account.owed y)) (upd_other k.account.past x (event ∷ k.account.past x) y ne)

    guard_at : (device stamp mark z : ℕ) → IsGuarded cluster device stamp mark (with_owed (k.account.owed z) (k.account.past z))
        → IsGuarded cluster device stamp mark (with_owed (upd k.account.owed x None z) (upd k.account.past x (event ∷ k.account.past x) z))
    guard_at device stamp mark z was = dite (ℕ_discrete z x)
        (λ e. subst (λ t. IsGuarded cluster device stamp mark (with_owed (upd k.account.owed x None t) (upd k.account.past x (event ∷ k.account.past x) t))) (sym e)
        (subst (IsGuarded cluster device stamp mark) (sym due_same)
        (due_guarded cluster device stamp mark event (k.account.owed x) (k.account.past x) dues (subst (λ t. IsGuarded cluster device stamp mark (with_owed (k.account.owed t) (k.account.past t))) e was))))
        (λ ne. subst (IsGuarded cluster device stamp mark) (sym (due_other z ne)) was)

    guard : (y : Drawn) → IsDrawn cluster k.account (get_or s.words 0 0) (get_or s.words (size_of cluster + 1) 0) y → (device : ℕ)
        → IsGuarded cluster device y.stamp y.mark (with_owed (upd k.account.owed x None (slot_of cluster device)) (upd k.account.past x (event ∷ k.account.past x) (slot_of cluster device)))
    guard y d device = guard_at device y.stamp y.mark (slot_of cluster device) (d.guarded device)

    mine : history w.histories x ≡ event ∷ k.account.past x
    mine = ap (λ z. history z x) histories ∙ history_same v.histories x (event ∷ k.account.past x)

    apart : (y : ℕ) → y ≢ x → history w.histories y ≡ history v.histories y
    apart y ne = ap (λ z. history z y) histories ∙ history_other v.histories x y (event ∷ k.account.past x) ne

    later : (y : ℕ) → Continues (history w.histories y) (history v.histories y)
    later y = dite (ℕ_discrete y x)
        (λ e. subst (λ z. Continues (history w.histories z) (history v.histories z)) (sym e) (subst (λ z. Continues z (history v.histories x)) (sym mine) (continues_more (event ∷ k.account.past x) (k.account.past x) (history v.histories x) (continues_one event (k.account.past x)) ((k.each id v at).histories x))))
        (λ ne. subst (λ z. Continues z (history v.histories y)) (sym (apart y ne)) (continues_itself (history v.histories y)))

    device_x : DeviceFits cluster (record { past = upd k.account.past x (event ∷ k.account.past x); seat = upd k.account.seat x id; owed = upd k.account.owed x None }) (get_or s.words 0 0) (get_or s.words (size_of cluster + 1) 0) (word_at (set s.words (x + 1) 1) x) x
    device_x =
        let d = k.device x inside in
        let wide' = k.wide in record {
          claimed = get_or-set_same s.words (x + 1) 1 0 (omega arith) ∙ ap begun (sym px);
          fresh = λ device stamp mark at least. guard_at device stamp mark x (d.fresh device stamp mark at least);
          rises = subst Rises (sym due_same) (due_rises event (k.account.owed x) (k.account.past x) dues d.rises);
          beneath = subst (LossesBelow (get_or s.words (size_of cluster + 1) 0)) (sym due_same) (due_losses (get_or s.words (size_of cluster + 1) 0) event (k.account.owed x) (k.account.past x) dues d.beneath);
          unclaimed = λ _. ox;
        }

    others : (i : ℕ) (u : Known) → i ≢ id → get_elem? s.views i ≡ some u → (h : Kind) → u.kind ≡ h → KindFits cluster k.account i u h
        → KindFits cluster (record { past = upd k.account.past x (event ∷ k.account.past x); seat = upd k.account.seat x id; owed = upd k.account.owed x None }) i u h
    others i u ne e kind.Pass is c = c
    others i u ne e kind.Note is c = c
    others i u ne e kind.Spent is c = c
    others i u ne e (kind.Node y) is c =
        let nx : y ≢ x = λ same. free i u ne e (is ∙ ap kind.Node same) in
        let p : upd k.account.past x (event ∷ k.account.past x) y ≡ k.account.past y = upd_other k.account.past x (event ∷ k.account.past x) y nx in
        record { inside = c.inside; holder = c.holder ∙ sym (upd_other k.account.seat x id y nx); whole = c.whole ∙ sym p; begun = subst (λ z. 0 < length z) (sym p) c.begun; owing = c.owing ∙ sym (upd_other k.account.owed x None y nx) }

-- an event is added where something had happened: the word stays
pub advances : (cluster : ClusterModel) (slots id x : ℕ) (event : Event) (v : Known) (cs : List (ℕ × Unit)) → v.kind ≡ kind.Node x → IsDue event v.owing → MayAdvance cluster x event v
    → Allows (IsKept cluster) slots id (v, cs) (x + 1) (λ n. n) (Advances event (step slots (x + 1) 0 0 none) (v, cs))
advances cluster slots id x event v cs node dues may s k _ at _ =
    let f = k.each id v at in
    let mine : IsNodeOf cluster k.account id v x = subst (KindFits cluster k.account id v) node f.kind in
    let was : word_at s.words x ≡ 1 = (k.device x mine.inside).claimed ∙ begun_one (k.account.past x) mine.begun in
    let same : set s.words (x + 1) 1 ≡ s.words = ap (set s.words (x + 1)) (sym was) ∙ set-get_or s.words (x + 1) 0 in
    let w : Known = advanced x event v in (
      w,
      keeps,
      tt,
      loads cluster (x + 1) id s cs w (subst (λ ws. IsKept cluster (record { words = ws; homes = s.homes; views = set s.views id w })) same
          (grown cluster s id x event v w k at mine.inside (subst (IsDue event) mine.owing dues)
          (λ i u ne e is. let other : IsNodeOf cluster k.account i u x = subst (KindFits cluster k.account i u) is (k.each i u e).kind in ne (other.holder ∙ sym mine.holder))
          node (ap (λ z. with_history v.histories x (event ∷ z)) mine.whole) refl refl refl refl refl refl refl refl refl refl (λ slot is. cc (sym is ∙ node))
          (subst (λ ws. CountsFit (get_or s.words 0 0) (get_or s.words (size_of cluster + 1) 0) (claims (word_at ws) (size_of cluster)) (set s.views id w)) (sym same)
          (counts_like _ _ _ s.views id v w at (record { passes = omega arith; clock = refl; raising = refl; draws = refl; losing = refl; kind = refl }) k.counts))
          (added_closed cluster v.drawn v.histories x event mine.inside may.fair may.replayed f.closed))),
      ap (λ y. (advanced y event v, cs)) (omega arith),
    )

late_keeps : (cluster : ClusterModel) (s : Table) (id x : ℕ) (v : Known) (k : IsKept cluster s) → get_elem? s.views id ≡ some v → 0 < length (k.account.past x)
    → IsKept cluster (record { words = s.words; homes = s.homes; views = set s.views id (came_late x v) })
late_keeps cluster s id x v k at begun =
    let f = k.each id v at in
    kept cluster s id v (came_late x v) k at refl refl (record { passes = omega arith; clock = refl; raising = refl; draws = refl; losing = refl; kind = refl }) (record {
      kind = kind_like cluster k.account id v (came_late x v) v.kind refl refl f.kind;
      drawn = f.drawn;
      histories = f.histories;
      closed = f.closed;
      olds = λ o has. let c = f.olds o has in record { drawn = c.drawn; histories = c.histories };
      mark = f.mark;
      clock = f.clock;
      raising = f.raising;
      losing = f.losing;
      late = λ y has. ⊎_elim (λ (e : x ≡ y). subst (λ z. 0 < length (k.account.past z)) e begun) (λ (c : Contains v.late y). f.late y c) (Contains-cases x v.late y has);
      full = f.full;
    })

-- ---- a slot is claimed

claimed_keeps : (cluster : ClusterModel) (s : Table) (id x : ℕ) (v : Known) (k : IsKept cluster s) → get_elem? s.views id ≡ some v → v.kind ≡ kind.Note → x < size_of cluster → word_at s.words x ≡ 0
    → IsKept cluster (record { words = set s.words (x + 1) 1; homes = s.homes; views = set s.views id (claimed x v) })
claimed_keeps cluster s id x v k at note inside empty =
    let f = k.each id v at in
    let past : k.account.past x ≡ [] = begun_none (k.account.past x) (sym (k.device x inside).claimed ∙ empty) in
    let mine : history v.histories x ≡ [] = none_before (history v.histories x) (subst (λ past. Continues past (history v.histories x)) past (f.histories x)) in
    let owing : v.owing ≡ None = subst (KindFits cluster k.account id v) note f.kind in
    let wide = k.wide in
    grown cluster s id x (Mounted) v (claimed x v) k at inside ((k.device x inside).unclaimed past)
    (λ i u ne e is. let other : IsNodeOf cluster k.account i u x = subst (KindFits cluster k.account i u) is (k.each i u e).kind in let b = other.begun in let l : length (k.account.past x) ≡ 0 = ap length past in absurd (omega arith))
    refl (ap (λ z. with_history v.histories x (Mounted ∷ z)) (sym past)) refl refl refl refl refl owing refl refl refl refl (λ slot is. let no : kind.Note ≡ kind.Node slot = sym note ∙ is in cc (no))
    (let p = total_set (λ u. u.passes) s.views id v (claimed x v) at in
    let a = total_set (λ u. one_if u.raising) s.views id v (claimed x v) at in
    let b = total_set (λ u. u.draws) s.views id v (claimed x v) at in
    let d = total_set (λ u. one_if u.losing) s.views id v (claimed x v) at in
    let e = total_set (λ u. is_node u.kind) s.views id v (claimed x v) at in
    let e' : is_node v.kind ≡ 0 = ap is_node note in
    let g = (greatest_set s.views id v (claimed x v) at (omega arith)).0 in
    let c = claims_more (word_at s.words) (word_at (set s.words (x + 1) 1)) (size_of cluster) x inside empty (get_or-set_same s.words (x + 1) 1 0 (omega arith)) (λ y ne. get_or-set_other s.words (x + 1) (y + 1) 1 0 (λ e. ne (omega arith))) in
    let q0 = k.counts.passes in
    let q1 = k.counts.pending in
    let q2 = k.counts.clock in
    let q3 = k.counts.lost in
    let q4 = k.counts.nodes in
    record { passes = omega arith; pending = omega arith; clock = omega arith; lost = omega arith; nodes = omega arith })
    (subst (λ events. IsClosed cluster (view_with cluster v.drawn (with_history v.histories x (Mounted ∷ events)))) mine
    (added_closed cluster v.drawn v.histories x Mounted inside tt
    (λ device has. (Sure no_folders, subst (λ events. Replays cluster device (Mounted ∷ events) (Sure no_folders)) (sym mine) (Sure no_folders, no_folders, refl, refl, refl)))
    f.closed))

pub claims_slot : (cluster : ClusterModel) (slots id x : ℕ) (v : Known) (cs : List (ℕ × Unit)) → v.kind ≡ kind.Note → x < size_of cluster
    → Allows (IsKept cluster) slots id (v, cs) (x + 1) (λ n. either (eqb n 0) 1 n) (Claims (step slots (x + 1) 0 1 none) (v, cs))
claims_slot cluster slots id x v cs note inside s k _ at _ =
    let n : ℕ = get_or s.words (x + 1) 0 in (
      claim x n v,
      keeps,
      tt,
      same_or_not n 0 (λ b. IsKept cluster (stepped s (x + 1) (either (eqb n 0) 1 n) id cs (if b then claimed x v else came_late x v) keeps)) (n == 0) refl
          (λ e. subst (λ b. IsKept cluster (record { words = set s.words (x + 1) (either b 1 n); homes = s.homes; views = set s.views id (claimed x v) })) (sym (eq-eqb n 0 e)) (claimed_keeps cluster s id x v k at note inside e))
          (λ ne. let c = (k.device x inside).claimed in
          subst (λ b. IsKept cluster (record { words = set s.words (x + 1) (either b 1 n); homes = s.homes; views = set s.views id (came_late x v) })) (sym (ne_eqb n 0 ne))
          (subst (λ ws. IsKept cluster (record { words = ws; homes = s.homes; views = set s.views id (came_late x v) })) (sym (set-get_or s.words (x + 1) 0)) (late_keeps cluster s id x v k at (begun_some (k.account.past x) (λ z. ne (c ∙ z)))))),
      ap (λ y. (claim y n v, cs)) (omega arith),
    )
