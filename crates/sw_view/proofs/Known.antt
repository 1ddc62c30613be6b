-- What is known in a view is what happened: each reply that is known is that of an event, and that of each event is known.
use Rattle.std.proofs.Common.{◌≡◌, ◌⊎◌, inl, inr, ⊎_elim, ℕ, Contains, List, [], ◌∷◌, ◌++◌, refl, sym, subst}
use Rattle.std.proofs.lemmas.List.Elements.{Contains-append_cases, Contains-append_left, Contains-append_right}
use Rattle.sw_diskfile.proofs.Lists.{Contains-cases, Contains-first, Contains-later, Contains-none}
use Rattle.sw_message.specs.Learnt.{Heard}
use Rattle.sw_message.specs.declared.message.Msg.{Msg}
use Rattle.sw_message.specs.declared.reply.Reply.{Reply}
use Rattle.sw_message.specs.declared.reply.Reply.TheVariants as reply
use Rattle.sw_view.specs.View.{View, heard_at, heard_in}
use Rattle.sw_view.specs.declared.event.Event.{Event}
use Rattle.sw_view.specs.declared.event.Event.TheVariants.{Faulted, Handled, Mounted, Replaced}

-- ---- what is known happened

-- a reply is that to a message that was handled, or the disk failed
abbrev pub IsFrom : List Event → Heard → Type 0
IsFrom events heard = Contains events (Handled heard.msg heard.reply) ⊎ (Contains events (Faulted heard.msg) × (heard.reply ≡ reply.DiskFault))

from_later : (event : Event) (past : List Event) (heard : Heard) → IsFrom past heard → IsFrom (event ∷ past) heard
from_later event past heard (inl has) = inl (Contains-later event past _ has)
from_later event past heard (inr (has, is)) = inr (Contains-later event past _ has, is)

-- each reply of a history is so
from_at : (device : ℕ) (events : List Event) (heard : Heard) → Contains (heard_at device events) heard → (heard.device ≡ device) × IsFrom events heard
from_at device [] heard has = absurd (Contains-none heard has)
from_at device (Handled msg given ∷ past) heard has = ⊎_elim
    (λ same. subst (λ (one : Heard). (one.device ≡ device) × IsFrom (Handled msg given ∷ past) one) same (refl, inl (Contains-first (Handled msg given) past)))
    (λ later. let from = from_at device past heard later in (from.0, from_later (Handled msg given) past heard from.1))
    (Contains-cases _ (heard_at device past) heard has)
from_at device (Faulted msg ∷ past) heard has = ⊎_elim
    (λ same. subst (λ (one : Heard). (one.device ≡ device) × IsFrom (Faulted msg ∷ past) one) same (refl, inr (Contains-first (Faulted msg) past, refl)))
    (λ later. let from = from_at device past heard later in (from.0, from_later (Faulted msg) past heard from.1))
    (Contains-cases _ (heard_at device past) heard has)
from_at device (Mounted ∷ past) heard has = let from = from_at device past heard has in (from.0, from_later Mounted past heard from.1)
from_at device (Replaced loss ∷ past) heard has = let from = from_at device past heard has in (from.0, from_later (Replaced loss) past heard from.1)

-- and each that is known
pub from_known : (devices : List ℕ) (view : View) (heard : Heard) → Contains (heard_in devices view) heard → IsFrom (view.history heard.device) heard
from_known [] view heard has = absurd (Contains-none heard has)
from_known (device ∷ devices) view heard has = ⊎_elim
    (λ here. let from = from_at device (view.history device) heard here in subst (λ d. IsFrom (view.history d) heard) (sym from.0) from.1)
    (λ later. from_known devices view heard later)
    (Contains-append_cases (heard_at device (view.history device)) (heard_in devices view) heard has)

-- ---- what happened is known

module _ (device : ℕ) where
  -- a reply of a history is one of a history that goes on from it
  heard_on : (event : Event) (past : List Event) (heard : Heard) → Contains (heard_at device past) heard → Contains (heard_at device (event ∷ past)) heard
  heard_on (Handled msg given) past heard has = Contains-later _ (heard_at device past) heard has
  heard_on (Faulted msg) past heard has = Contains-later _ (heard_at device past) heard has
  heard_on Mounted past heard has = has
  heard_on (Replaced loss) past heard has = has

  pub heard_more : (more past : List Event) (heard : Heard) → Contains (heard_at device past) heard → Contains (heard_at device (more ++ past)) heard
  heard_more [] past heard has = has
  heard_more (event ∷ more) past heard has = heard_on event (more ++ past) heard (heard_more more past heard has)

  -- what is heard where an event is the latest is heard wherever it happened
  heard_of : (event : Event) (heard : Heard) → ((past : List Event) → Contains (heard_at device (event ∷ past)) heard) → (events : List Event) → Contains events event → Contains (heard_at device events) heard
  heard_of event heard latest [] has = absurd (Contains-none event has)
  heard_of event heard latest (first ∷ past) has = ⊎_elim
      (λ same. subst (λ one. Contains (heard_at device (one ∷ past)) heard) (sym same) (latest past))
      (λ later. heard_on first past heard (heard_of event heard latest past later))
      (Contains-cases first past event has)

module _ (view : View) (device : ℕ) where
  known_in : (devices : List ℕ) (heard : Heard) → Contains devices device → Contains (heard_at device (view.history device)) heard → Contains (heard_in devices view) heard
  known_in [] heard member has = absurd (Contains-none device member)
  known_in (first ∷ devices) heard member has = ⊎_elim
      (λ same. Contains-append_left (heard_at first (view.history first)) (heard_in devices view) heard (subst (λ d. Contains (heard_at d (view.history d)) heard) (sym same) has))
      (λ later. Contains-append_right (heard_at first (view.history first)) (heard_in devices view) heard (known_in devices heard later has))
      (Contains-cases first devices device member)

  -- the reply to a message that was handled
  pub handled_known : (devices : List ℕ) (msg : Msg) (given : Reply) → Contains devices device → Contains (view.history device) (Handled msg given) → Contains (heard_in devices view) (record { device = device; msg = msg; reply = given })
  handled_known devices msg given member has = known_in devices _ member (heard_of device (Handled msg given) _ (λ past. Contains-first _ (heard_at device past)) (view.history device) has)

  -- and a failure
  pub failed_known : (devices : List ℕ) (msg : Msg) → Contains devices device → Contains (view.history device) (Faulted msg) → Contains (heard_in devices view) (record { device = device; msg = msg; reply = reply.DiskFault })
  failed_known devices msg member has = known_in devices _ member (heard_of device (Faulted msg) _ (λ past. Contains-first _ (heard_at device past)) (view.history device) has)
