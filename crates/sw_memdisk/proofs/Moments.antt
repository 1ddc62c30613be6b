-- What a crash since some moment leaves, after a change more and after a sync.
use Rattle.std.proofs.Common.{◌≡◌, ◌⊎◌, inl, inr, ⊎_elim, ℕ, zero, suc, ◌+◌, ◌-◌, ◌<◌, ◌≤◌, List, [], ◌∷◌, ◌++◌, length, replicate, take, drop, refl, sym, ◌∙◌, ap, subst, arith, length-append}
use Rattle.std.proofs.lemmas.Bool.{le-leb}
use Rattle.std.proofs.lemmas.List.{length-replicate, drop-append-le, take-append-le, take_all, drop_all, length-drop}
use Rattle.std.proofs.Math.Seq.{take-add}
use Rattle.sw_disk.specs.Folder.{Change, File, IsImage, Survive, all_changed, files_of}
use Rattle.sw_disk.specs.State.{pended, settled}
use Rattle.sw_disk.proofs.Images.{all_changed-append}
use Rattle.sw_memdisk.specs.Laws.{after, count-le-length}
use Rattle.sw_memdisk.specs.Log.{ArePast, IsSound, LeftSince, Log, count_until, folder_of, stable_by, with_change, with_sync}

-- so many of the first changes, taken in two steps
taken : (n k : ℕ) (changes : List Change) (base : List File) → n ≤ k → all_changed (take k changes) base ≡ all_changed (take (k - n) (drop n changes)) (all_changed (take n changes) base)
taken n k changes base le =
    let sum : k ≡ n + (k - n) = omega arith in
    let split : take k changes ≡ take n changes ++ take (k - n) (drop n changes) = ap (λ (m : ℕ). take m changes) sum ∙ take-add n (k - n) changes in
    ap (λ (cs : List Change). all_changed cs base) split ∙ all_changed-append (take n changes) (take (k - n) (drop n changes)) base

-- what a crash leaves of the changes that are stable and of some others
pub image_from : (log : Log) (kept : ℕ) (image : List File) → length log.stable_at ≤ kept → kept ≤ length log.changes → Survive (all_changed (take kept log.changes) log.base) image → IsImage (folder_of log) image
image_from log kept image more most survive = record {
  kept = kept - length log.stable_at;
  within = let e = length-drop (length log.stable_at) log.changes in omega (arith, e, more, most);
  survive = subst (λ (fs : List File). Survive fs image) (taken (length log.stable_at) kept log.changes log.base more) survive;
}

all_counted : (now : ℕ) (moments : List ℕ) → ArePast now moments → count_until now moments ≡ length moments
all_counted now [] past = refl
all_counted now (m ∷ moments) past =
    let first = le-leb m now past.0 in
    rw first (let rest = all_counted now moments past.1 in omega (arith, rest))

count-append : (t : ℕ) (xs ys : List ℕ) → count_until t (xs ++ ys) ≡ count_until t xs + count_until t ys
count-append t [] ys = omega arith
count-append t (x ∷ xs) ys = let rest = count-append t xs ys in omega (arith, rest)

none_counted : (t now n : ℕ) → t < now → count_until t (replicate n now) ≡ 0
none_counted t now zero before = refl
none_counted t now (suc n) before = rw (after now t before) (let rest = none_counted t now n before in omega (arith, rest))

past-append : (now : ℕ) (xs ys : List ℕ) → ArePast now xs → ArePast now ys → ArePast now (xs ++ ys)
past-append now [] ys first next = next
past-append now (x ∷ xs) ys first next = (first.0, past-append now xs ys first.1 next)

past-replicate : (now n : ℕ) → ArePast now (replicate n now)
past-replicate now zero = tt
past-replicate now (suc n) = (omega arith, past-replicate now n)

past-later : (now next : ℕ) (xs : List ℕ) → now ≤ next → ArePast now xs → ArePast next xs
past-later now next [] le past = tt
past-later now next (x ∷ xs) le past = (omega (arith, le, past.0), past-later now next xs le past.1)

module _ (log : Log) (now : ℕ) (sound : IsSound log now) where
  pub folder-change : (change : Change) → folder_of (with_change log change) ≡ pended (folder_of log) change
  folder-change change = λ i. record {
    stable = all_changed (take-append-le (length log.stable_at) log.changes (change ∷ []) sound.stable i) log.base;
    pending = drop-append-le (length log.stable_at) log.changes (change ∷ []) sound.stable i;
  }

  -- after a change more: what was left before, or all the changes
  pub left-change : (change : Change) (t : ℕ) (image : List File) → LeftSince (with_change log change) t image → LeftSince log t image ⊎ IsImage (folder_of (with_change log change)) image
  left-change change t image w = ⊎_elim (λ fewer. inl (before fewer)) (λ all. inr (last all)) (few_or_all w.kept)
    where
      few_or_all : (kept : ℕ) → (kept ≤ length log.changes) ⊎ (length log.changes + 1 ≤ kept)
      few_or_all kept = grind arith

      before : w.kept ≤ length log.changes → LeftSince log t image
      before fewer = record {
        kept = w.kept;
        at_least = omega (arith, w.at_least, length-append log.changes (change ∷ []));
        at_most = fewer;
        survive = subst (λ (cs : List Change). Survive (all_changed cs log.base) image) (take-append-le w.kept log.changes (change ∷ []) fewer) w.survive;
      }

      last : length log.changes + 1 ≤ w.kept → IsImage (folder_of (with_change log change)) image
      last all = image_from (with_change log change) w.kept image (let le = sound.stable in omega (arith, le, all)) w.at_most w.survive

  pub keeps-change : (change : Change) (t : ℕ) (image : List File) → LeftSince log t image → LeftSince (with_change log change) t image
  keeps-change change t image w = record {
    kept = w.kept;
    at_least = omega (arith, w.at_least, count-le-length t log.stable_at, sound.stable, length-append log.changes (change ∷ []));
    at_most = let e = length-append log.changes (change ∷ []) in let le = w.at_most in omega (arith, e, le);
    survive = subst (λ (cs : List Change). Survive (all_changed cs log.base) image) (sym (take-append-le w.kept log.changes (change ∷ []) w.at_most)) w.survive;
  }

  -- since now, a crash leaves only what it may leave now
  pub left_now : (image : List File) → LeftSince log now image → IsImage (folder_of log) image
  left_now image w =
      let all = all_counted now log.stable_at sound.past in
      let enough : length log.stable_at ≤ w.kept = let least = w.at_least in omega (arith, all, least, sound.stable) in
      image_from log w.kept image enough w.at_most w.survive

  pub sound_later : (next : ℕ) → now ≤ next → IsSound log next
  sound_later next le = record { stable = sound.stable; past = past-later now next log.stable_at le sound.past }

  pub sound-change : (change : Change) → IsSound (with_change log change) now
  sound-change change = record { stable = let e = length-append log.changes (change ∷ []) in let le = sound.stable in omega (arith, e, le); past = sound.past }

  length_synced : (moment : ℕ) → length (with_sync log moment).stable_at ≡ length log.changes
  length_synced moment =
      let e = length-append log.stable_at (replicate (length log.changes - length log.stable_at) moment) in
      let r = length-replicate (length log.changes - length log.stable_at) moment in
      let le = sound.stable in
      omega (arith, e, r, le)

  pub folder-sync : (moment : ℕ) → folder_of (with_sync log moment) ≡ settled (folder_of log)
  folder-sync moment =
      let n = length_synced moment in
      let stable : all_changed (take (length (with_sync log moment).stable_at) log.changes) log.base ≡ files_of (folder_of log) =
      ap (λ (k : ℕ). all_changed (take k log.changes) log.base) n
      ∙ taken (length log.stable_at) (length log.changes) log.changes log.base sound.stable
      ∙ ap (λ (cs : List Change). all_changed cs (all_changed (take (length log.stable_at) log.changes) log.base)) (take_all (length log.changes - length log.stable_at) (drop (length log.stable_at) log.changes) (let e = length-drop (length log.stable_at) log.changes in omega (arith, e))) in
      let pending : drop (length (with_sync log moment).stable_at) log.changes ≡ [] = ap (λ (k : ℕ). drop k log.changes) n ∙ drop_all (length log.changes) log.changes (omega arith) in
      λ i. record { stable = stable i; pending = pending i }

  same_by : (moment t : ℕ) → t < moment → stable_by t (with_sync log moment) ≡ stable_by t log
  same_by moment t before =
      let e = count-append t log.stable_at (replicate (length log.changes - length log.stable_at) moment) in
      let none = none_counted t moment (length log.changes - length log.stable_at) before in
      omega (arith, e, none)

  -- a sync changes nothing of the past
  pub left-sync : (moment t : ℕ) (image : List File) → t < moment → LeftSince (with_sync log moment) t image → LeftSince log t image
  left-sync moment t image before w = record { kept = w.kept; at_least = let e = same_by moment t before in let least = w.at_least in omega (arith, e, least); at_most = w.at_most; survive = w.survive }

  pub keeps-sync : (moment t : ℕ) (image : List File) → t < moment → LeftSince log t image → LeftSince (with_sync log moment) t image
  keeps-sync moment t image before w = record { kept = w.kept; at_least = let e = same_by moment t before in let least = w.at_least in omega (arith, e, least); at_most = w.at_most; survive = w.survive }

  pub sound-sync : (moment : ℕ) → now ≤ moment → IsSound (with_sync log moment) moment
  sound-sync moment le = record {
    stable = let n = length_synced moment in omega (arith, n);
    past = past-append moment log.stable_at _ (past-later now moment log.stable_at le sound.past) (past-replicate moment (length log.changes - length log.stable_at));
  }
