-- In which order messages about an entry are handed out, and which entry follows.
use Rattle.std.proofs.Common.{◌≡◌, ◌⊎◌, inl, inr, ℕ, ◌+◌, ◌<◌, Bool, true, false, List, [], ◌∷◌, ◌++◌, Option, Some, None, refl, sym, ap, ◌∙◌, arith}
use Rattle.std.specs.Prelude.{if◌then◌else◌}
use Rattle.std.proofs.lemmas.Bool.{cases_lt}
use Rattle.sw_hashdir.specs.declared.entry.Entry.{Entry}
use Rattle.sw_message.specs.Floors.{stands_above}
use Rattle.sw_message.specs.Miss.{miss_of}
use Rattle.sw_message.specs.declared.miss.Miss.TheVariants as miss
use Rattle.sw_message.specs.declared.reply.Reply.{Reply}
use Rattle.sw_message.specs.declared.reply.Reply.TheVariants as reply
use Rattle.sw_message.specs.declared.spoil.Spoil.{Spoil}
use Rattle.sw_recon.specs.Course.{Course}
use Rattle.sw_recon.specs.Revert.{after_by, asked, committed, covers, fetched, forbidden, goes_on, kept_as, keeps, removed, stored, treat}
use Rattle.sw_recon.specs.declared.kept.KeptCause.{KeptCause}
use Rattle.sw_recon.specs.declared.kept.KeptCause.TheVariants.{Missed, NoMark, NotDurable}
use Rattle.sw_recon.specs.declared.kept.KeptEntry.{KeptEntry}
use Rattle.sw_recon.specs.declared.status.Status.{Status}
use Rattle.sw_recon.specs.declared.status.Status.TheVariants.{Treats}
use Rattle.sw_recon.specs.declared.treatment.Treatment.{Treatment}
use Rattle.sw_recon.specs.declared.treatment.Treatment.TheVariants.{Ask, Commit, Fetch, Remove, Store}
use Rattle.sw_recon.proofs.Treats.{treats_first, treats_later}

-- each treatment of an entry comes after those below it
abbrev pub rank : Treatment → ℕ
rank Ask = 0
rank Fetch = 1
rank (Store bytes) = 2
rank Commit = 3
rank Remove = 4

-- the entry is treated further on, or those behind it are treated
abbrev pub Advances : ℕ → Course → Status → Type 0
Advances total course next =
    ((treatment : Treatment) × (rank course.treatment < rank treatment) × (next ≡ goes_on course treatment))
    ⊎ ((removed : ℕ) × (kept : List KeptEntry) × (next ≡ treat total course.later removed kept))

module _ (total : ℕ) (entry : Entry) (later : List Entry) (gone : ℕ) (kept : List KeptEntry) where
  abbrev at : Treatment → Course
  at treatment = record { entry = entry; later = later; treatment = treatment; removed = gone; kept = kept }

  keeps-on : (treatment : Treatment) (cause : KeptCause) → Advances total (at treatment) (keeps total (at treatment) cause)
  keeps-on treatment cause = inr (gone, kept ++ kept_as entry cause ∷ [], refl)

  listed-on : (is_covered is_durable : Bool) → Advances total (at Ask) (if is_covered then goes_on (at Ask) Remove else if is_durable then goes_on (at Ask) Fetch else keeps total (at Ask) NotDurable)
  listed-on true is_durable = inl (Remove, omega arith, refl)
  listed-on false true = inl (Fetch, omega arith, refl)
  listed-on false false = keeps-on Ask NotDurable

  asked-on : (answer : Option Reply) → Advances total (at Ask) (asked total (at Ask) answer)
  asked-on None = keeps-on Ask (Missed miss.NoReply)
  asked-on (Some (reply.Held listing)) = listed-on (covers listing entry) entry.durable
  asked-on (Some other) = keeps-on Ask (Missed (miss_of other))

  fetched-on : (answer : Option Reply) (spoil : Option Spoil) → Advances total (at Fetch) (fetched total (at Fetch) answer spoil)
  fetched-on None spoil = keeps-on Fetch (Missed miss.NoReply)
  fetched-on (Some (reply.Fragment bytes)) (Some spoil) = keeps-on Fetch (Missed (miss.Spoiled spoil))
  fetched-on (Some (reply.Fragment bytes)) None = inl (Store bytes, omega arith, refl)
  fetched-on (Some (reply.Gone listing)) spoil = keeps-on Fetch (Missed miss.Gone)
  fetched-on (Some other) spoil = keeps-on Fetch (Missed (miss_of other))

  forbidden-on : (treatment : Treatment) (above : Bool) → rank treatment < 4 → Advances total (at treatment) (forbidden total (at treatment) above)
  forbidden-on treatment true less = inl (Remove, less, refl)
  forbidden-on treatment false less = keeps-on treatment (Missed miss.Odd)

  stored-on : (bytes : List ℕ) (answer : Option Reply) → Advances total (at (Store bytes)) (stored total (at (Store bytes)) answer)
  stored-on bytes None = keeps-on (Store bytes) (Missed miss.NoReply)
  stored-on bytes (Some reply.Synced) = inl (Commit, omega arith, refl)
  stored-on bytes (Some (reply.Superseded floor)) = forbidden-on (Store bytes) (stands_above floor entry.stamp) (omega arith)
  stored-on bytes (Some other) = keeps-on (Store bytes) (Missed (miss_of other))

  committed-on : (answer : Option Reply) → Advances total (at Commit) (committed total (at Commit) answer)
  committed-on None = keeps-on Commit (Missed miss.NoReply)
  committed-on (Some reply.Committed) = inl (Remove, omega arith, refl)
  committed-on (Some (reply.Superseded floor)) = forbidden-on Commit (stands_above floor entry.stamp) (omega arith)
  committed-on (Some reply.Missing) = keeps-on Commit NoMark
  committed-on (Some other) = keeps-on Commit (Missed (miss_of other))

  taken-on : (answer : Option Reply) → Advances total (at Remove) (removed total (at Remove) answer)
  taken-on None = keeps-on Remove (Missed miss.NoReply)
  taken-on (Some reply.Removed) = inr (gone + 1, kept, refl)
  taken-on (Some reply.Missing) = keeps-on Remove (Missed miss.Missing)
  taken-on (Some other) = keeps-on Remove (Missed (miss_of other))

  pub advances : (treatment : Treatment) (answer : Option Reply) (spoil : Option Spoil) → Advances total (at treatment) (after_by total (at treatment) treatment answer spoil)
  advances Ask answer spoil = asked-on answer
  advances Fetch answer spoil = fetched-on answer spoil
  advances (Store bytes) answer spoil = stored-on bytes answer
  advances Commit answer spoil = committed-on answer
  advances Remove answer spoil = taken-on answer

-- the entry that is treated next is one of those that are left, and its primary is asked
pub record Begins (later : List Entry) (course : Course) : Type 0 where
  pub skipped : List Entry
  pub are : later ≡ skipped ++ course.entry ∷ course.later

pub treat-begins : (total : ℕ) (later : List Entry) (removed : ℕ) (kept : List KeptEntry) (course : Course) → Treats course ≡ treat total later removed kept → Begins later course
treat-begins total [] removed kept course is = absurd (cc)
treat-begins total (entry ∷ later) removed kept course is = elim (cases_lt entry.index total) [
  | inl below ↦
      let same : course ≡ record { entry = entry; later = later; treatment = Ask; removed = removed; kept = kept } = cc (is ∙ treats_first total entry later removed kept below) in
      record { skipped = []; are = ap (λ (one : Course). one.entry ∷ one.later) (sym same) }
  | inr above ↦
      let rest = treat-begins total later removed (kept ++ kept_as entry (Missed miss.Odd) ∷ []) course (is ∙ treats_later total entry later removed kept above) in
      record { skipped = entry ∷ rest.skipped; are = ap (λ these. entry ∷ these) rest.are }
]
