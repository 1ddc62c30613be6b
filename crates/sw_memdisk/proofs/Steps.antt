-- One device call of a disk in memory.
use Rattle.std.proofs.Common.{◌≡◌, ◌≢◌, ◌⊎◌, inl, inr, ⊎_elim, ℕ, ◌+◌, ◌<◌, ◌≤◌, Bool, true, false, cond, List, [], ◌∷◌, Some, None, refl, sym, ◌∙◌, ap, subst, arith}
use Rattle.std.specs.Cmp.Lexicographic.{same_text}
use Rattle.std.proofs.Math.Path.{fun_ext}
use Rattle.std.proofs.lemmas.Option.{same_Some}
use Rattle.sw_words.specs.Counts.{one_more}
use Rattle.sw_disk.specs.Calls.{Call, Do}
use Rattle.sw_disk.specs.Folder.{Change, File, Folder, IsImage, same_name}
use Rattle.sw_disk.specs.State.{State, after, replaced, stopped, with_folder}
use Rattle.sw_disk.specs.Runs.{Runs}
use Rattle.sw_disk.specs.declared.refusal.DiskRefusal.{DiskRefusal}
use Rattle.sw_disk.specs.declared.refusal.DiskRefusal.TheVariants.{Failed}
use Rattle.sw_memdisk.specs.Log.{IsSound, LeftSince, Log, folder_of, with_change, with_sync}
use Rattle.sw_memdisk.specs.Memory.{Becomes, FolderModel, Kept, LeftBy, MemDiskModel, fails, folder_at, log_at, seen_of, state_of}
use Rattle.sw_memdisk.specs.Laws.{left_from_image}
use Rattle.sw_memdisk.proofs.Moments.{keeps-change, keeps-sync, left-change, left-sync, left_now, sound_later}

-- ---- the record of a folder

-- what a call does to the record of a folder: a crash within it leaves what one before it does, or what one after it does
pub record Moves (old new : Log) (calls : ℕ) : Type 0 where
  pub back : (t : ℕ) (image : List File) → t ≤ calls → LeftSince new t image → LeftSince old t image ⊎ IsImage (folder_of new) image
  pub keeps : (t : ℕ) (image : List File) → t ≤ calls → LeftSince old t image → LeftSince new t image

pub moves_none : (log : Log) (calls : ℕ) → Moves log log calls
moves_none log calls = record { back = λ t image le left. inl left; keeps = λ t image le left. left }

pub moves_change : (log : Log) (calls : ℕ) → IsSound log calls → (change : Change) → Moves log (with_change log change) calls
moves_change log calls sound change = record {
  back = λ t image le left. left-change log calls sound change t image left;
  keeps = λ t image le left. keeps-change log calls sound change t image left;
}

pub moves_sync : (log : Log) (calls : ℕ) → IsSound log calls → Moves log (with_sync log (calls + 1)) calls
moves_sync log calls sound = record {
  back = λ t image le left. inl (left-sync log calls sound (calls + 1) t image (omega (arith, le)) left);
  keeps = λ t image le left. keeps-sync log calls sound (calls + 1) t image (omega (arith, le)) left;
}

-- ---- what a crash may have left, and the record

before_or_now : (t calls : ℕ) → t ≤ calls → (t < calls) ⊎ (t ≡ calls)
before_or_now t calls le = grind arith

module _ (m : MemDiskModel) (name : List ℕ) (t : ℕ) (image : List File) (le : t ≤ m.calls) where
  was_left : IsSound (log_at m.folders name) m.calls → LeftSince (log_at m.folders name) t image → LeftBy m t name image
  was_left sound left = record {
    before = λ _. left;
    now = λ more. let same : t ≡ m.calls = omega (arith, le, more) in left_now (log_at m.folders name) m.calls sound image (subst (λ (n : ℕ). LeftSince (log_at m.folders name) n image) same left);
  }

  is_left : LeftBy m t name image → LeftSince (log_at m.folders name) t image
  is_left left = ⊎_elim (λ less. left.before less)
      (λ same. left_from_image (log_at m.folders name) t image (left.now (omega (arith, same))))
      (before_or_now t m.calls le)

-- ---- a call that is done

module _ (a b : MemDiskModel) (ticks : b.calls ≡ a.calls + 1) (sound : (name : List ℕ) → IsSound (log_at a.folders name) a.calls)
    (moves : (name : List ℕ) → Moves (log_at a.folders name) (log_at b.folders name) a.calls) where
  time_back : (t : ℕ) (name : List ℕ) (image : List File) → t ≤ a.calls → LeftBy b t name image → LeftBy a t name image ⊎ IsImage (folder_of (log_at b.folders name)) image
  time_back t name image le left = ⊎_elim (λ past. inl (was_left a name t image le (sound name) past)) (λ now. inr now) ((moves name).back t image le (left.before (omega (arith, le, ticks))))

  time_keeps : (t : ℕ) (name : List ℕ) (image : List File) → t ≤ a.calls → LeftBy a t name image → LeftBy b t name image
  time_keeps t name image le left = record {
    before = λ _. (moves name).keeps t image le (is_left a name t image le left);
    now = λ more. absurd (omega (arith, le, ticks, more));
  }

  pub one_done : (call : Call) → state_of b ≡ after (Do call) (state_of a) → fails a (a.calls + 1) ≡ false → b.faults ≡ a.faults → Runs seen_of LeftBy (call ∷ []) None a b
  one_done call is goes_on faults = record {
    steps = Do call ∷ [];
    rest = [];
    split = refl;
    all = λ _. refl;
    some = λ reason not. cc;
    told = (
      state_of b,
      refl,
      record {
        whole = λ _. is;
        is_counted = false;
        temporary = None;
        refused = λ reason not. cc;
        kept = λ reason not _. cc;
        go_on = λ k below. let zero : a.calls + k + 1 ≡ a.calls + 1 = omega (arith, below) in ap (fails a) zero ∙ goes_on;
        fails = λ not. cc;
        unasked = refl;
      },
    );
    later = omega (arith, ticks);
    nothing_else = λ t name image le left. ⊎_elim (λ past. inl past)
        (λ now. inr (record { count = 1; within = omega arith; left = subst (λ (s : State). IsImage (s.folder name) image) is now }))
        (time_back t name image le left);
    keeps = λ exact. time_keeps;
    failed = λ not. cc;
    quiet = λ _. faults;
  }

-- ---- a call that is refused, and changes nothing

module _ (a b : MemDiskModel) (later : a.calls ≤ b.calls) (same : b.folders ≡ a.folders) (sound : (name : List ℕ) → IsSound (log_at a.folders name) a.calls) where
  still : (t : ℕ) (name : List ℕ) (image : List File) → t ≤ a.calls → LeftBy b t name image → LeftBy a t name image
  still t name image le left =
      was_left a name t image le (sound name) (subst (λ (folders : List Kept). LeftSince (log_at folders name) t image) same (is_left b name t image (omega (arith, le, later)) left))

  back : (t : ℕ) (name : List ℕ) (image : List File) → t ≤ a.calls → LeftBy a t name image → LeftBy b t name image
  back t name image le left =
      let sound_b : IsSound (log_at b.folders name) b.calls =
      subst (λ (folders : List Kept). IsSound (log_at folders name) b.calls) (sym same) (sound_later (log_at a.folders name) a.calls (sound name) b.calls later) in
      was_left b name t image (omega (arith, le, later)) sound_b (subst (λ (folders : List Kept). LeftSince (log_at folders name) t image) (sym same) (is_left a name t image le left))

  pub one_refused : (call : Call) (reason : DiskRefusal) (is_counted : Bool) → state_of b ≡ stopped is_counted a.temporary (state_of a) → (reason ≡ Failed → fails a (a.calls + 1) ≡ true)
      → (reason ≡ Failed → b.faults ≡ one_more a.faults) → (reason ≢ Failed → b.faults ≡ a.faults) → Runs seen_of LeftBy (call ∷ []) (Some reason) a b
  one_refused call reason is_counted is failing failed quiet = record {
    steps = [];
    rest = call ∷ [];
    split = refl;
    all = λ none. cc;
    some = λ other e none. cc;
    told = (
      state_of b,
      refl,
      record {
        whole = λ none. cc;
        is_counted = is_counted;
        temporary = a.temporary;
        refused = λ other e. is;
        kept = λ other e _. refl;
        go_on = λ k below. absurd (omega (arith, below));
        fails = λ e. failing (same_Some _ _ e);
        unasked = refl;
      },
    );
    later = later;
    nothing_else = λ t name image le left. inl (still t name image le left);
    keeps = λ exact. back;
    failed = λ e. failed (same_Some _ _ e);
    quiet = λ not. quiet (λ e. not (ap Some e));
  }

-- ---- a call that changes one folder

-- in one folder the record moves on, and in the others it stays
moves_of : (old new : List Kept) (name : List ℕ) (folder : FolderModel) (calls : ℕ) → Becomes old new name folder → Moves (log_at old name) folder.log calls → (other : List ℕ) → Moves (log_at old other) (log_at new other) calls
moves_of old new name folder calls becomes moves other =
    subst (λ (f : FolderModel). Moves (log_at old other) f.log calls) (sym (becomes.at other))
    (elim (same_name other name) as (λ b. same_name other name ≡ b → Moves (log_at old other) (cond b folder (folder_at old other)).log calls) [
      | true ↦ λ e. subst (λ (n : List ℕ). Moves (log_at old n) folder.log calls) (sym (same_text other name (sym e))) moves
      | false ↦ λ e. moves_none (log_at old other) calls
    ] refl)

-- and so do the folders
pub folders_of : (old new : List Kept) (name : List ℕ) (folder : FolderModel) → Becomes old new name folder
    → ◌≡◌ {A = List ℕ → Folder} (λ other. folder_of (log_at new other)) (with_folder (λ other. folder_of (log_at old other)) name (folder_of folder.log))
folders_of old new name folder becomes = fun_ext (λ other. ap (λ (f : FolderModel). folder_of f.log) (becomes.at other) ∙ pick other (same_name other name))
  where
    pick : (other : List ℕ) (b : Bool) → folder_of (cond b folder (folder_at old other)).log ≡ cond b (folder_of folder.log) (folder_of (log_at old other))
    pick other true = refl
    pick other false = refl

-- the state with one folder in place of another
pub state_becomes : (a b : MemDiskModel) (name : List ℕ) (folder : FolderModel) → Becomes a.folders b.folders name folder
    → state_of (record a { folders = b.folders }) ≡ replaced (state_of a) name (folder_of folder.log)
state_becomes a b name folder becomes = λ i. record (state_of a) { used = becomes.used i; folder = folders_of a.folders b.folders name folder becomes i }

-- the record stays sound
pub sound_becomes : (old new : List Kept) (name : List ℕ) (folder : FolderModel) (calls : ℕ) → Becomes old new name folder → IsSound folder.log calls
    → ((other : List ℕ) → IsSound (log_at old other) calls) → (other : List ℕ) → IsSound (log_at new other) calls
sound_becomes old new name folder calls becomes sound others other =
    subst (λ (f : FolderModel). IsSound f.log calls) (sym (becomes.at other))
    (elim (same_name other name) as (λ b. IsSound (cond b folder (folder_at old other)).log calls) [ true ↦ sound | false ↦ others other ])

module _ (a b : MemDiskModel) (name : List ℕ) (folder : FolderModel) (sound : (name : List ℕ) → IsSound (log_at a.folders name) a.calls) (goes_on : fails a (a.calls + 1) ≡ false)
    (becomes : Becomes a.folders b.folders name folder) (moves : Moves (log_at a.folders name) folder.log a.calls) where
  pub folder_done : (call : Call) → b.calls ≡ a.calls + 1 → b.faults ≡ a.faults → state_of b ≡ after (Do call) (state_of a) → Runs seen_of LeftBy (call ∷ []) None a b
  folder_done call ticks faults is = one_done a b ticks sound (moves_of a.folders b.folders name folder a.calls becomes moves) call is goes_on faults
