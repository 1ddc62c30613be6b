-- What a state makes of the first answer that is to be read.
use Rattle.std.proofs.Common.{◌≡◌, List, [], ◌++◌, Option, Result, Ok, Err, refl, sym, ap, subst}
use Rattle.std.specs.Prelude.{IfOk}
use Rattle.std.proofs.lemmas.List.{append-nil}
use Rattle.sw_types.specs.declared.memory.NoMemory.{NoMemory}
use Rattle.sw_hashpath.specs.Place.{PlaceModel}
use Rattle.sw_ring.specs.Cluster.{ClusterModel}
use Rattle.sw_message.specs.declared.reply.Reply.{Reply}
use Rattle.sw_gather.specs.Mailbox.{MailboxModel}
use Rattle.sw_sync.specs.Hearing.{TookFirst, asked, marked}
use Rattle.sw_sync.specs.Parts.{Burial, Heard, Repair}
use Rattle.sw_sync.specs.State.{State}
use Rattle.sw_sync.specs.Sync.{Hears, HearsRepair}
use Rattle.sw_sync.specs.declared.errand.Errand.{Errand}
use Rattle.sw_sync.specs.declared.errand.Errand.TheVariants.{Ask, Commit, Delete, Fetch, Store}
use Rattle.sw_sync.specs.declared.stage.Stage.{Stage}
use Rattle.sw_sync.specs.declared.stage.Stage.TheVariants.{Buries, Ends, Handoffs, Primaries, Repairs}
use Rattle.sw_sync.specs.declared.sync_end.SyncEnd.{SyncEnd}

-- what holds of each answer that was taken out
pub took : (result : Result (Unit {0}) NoMemory) (before after : MailboxModel Errand) (errand : Errand) (P Q : Option Reply → Type 0) → ((answer : Option Reply) → P answer → Q answer)
    → IfOk result (λ _. TookFirst before after errand P) → IfOk result (λ _. TookFirst before after errand Q)
took (Ok done) before after errand P Q follows is = record { answer = is.answer; later = is.later; first = is.first; after_is = is.after_is; leads_to = follows is.answer is.leads_to }
took (Err refused) before after errand P Q follows is = tt

module _ (cluster : ClusterModel) (place : PlaceModel) (answer : Option Reply) where
  -- ---- by the stages

  handoffs_hear : (heard : Heard) (errand : Errand) → Hears cluster place (Handoffs heard) errand answer (Handoffs (asked heard errand answer)) []
  handoffs_hear heard (Ask device) = (refl, refl)
  handoffs_hear heard (Delete device) = (refl, refl)
  handoffs_hear heard (Fetch source) = (refl, refl)
  handoffs_hear heard (Store target) = (refl, refl)
  handoffs_hear heard (Commit target) = (refl, refl)

  primaries_hear : (heard : Heard) (errand : Errand) → Hears cluster place (Primaries heard) errand answer (Primaries (asked heard errand answer)) []
  primaries_hear heard (Ask device) = (refl, refl)
  primaries_hear heard (Delete device) = (refl, refl)
  primaries_hear heard (Fetch source) = (refl, refl)
  primaries_hear heard (Store target) = (refl, refl)
  primaries_hear heard (Commit target) = (refl, refl)

  buries_hear : (burial : Burial) (errand : Errand) → Hears cluster place (Buries burial) errand answer (Buries (marked burial errand answer)) []
  buries_hear burial (Ask device) = (refl, refl)
  buries_hear burial (Delete device) = (refl, refl)
  buries_hear burial (Fetch source) = (refl, refl)
  buries_hear burial (Store target) = (refl, refl)
  buries_hear burial (Commit target) = (refl, refl)

  -- ---- by the state

  abbrev pub LeadsTo : Errand → (before after : State) → Type 0
  LeadsTo errand before after = (stage : Stage) × (more : List Errand) × Hears cluster place before.stage errand answer stage more × (after ≡ record { stage = stage; due = before.due ++ more })

  module _ (errand : Errand) (stage : Stage) (due : List Errand) (before : State) (same : record { stage = stage; due = due } ≡ before) where
    led : (became : Stage) (more : List Errand) → Hears cluster place stage errand answer became more → LeadsTo errand before (record { stage = became; due = due ++ more })
    led became more hears =
        (became, more, subst (λ (state : State). Hears cluster place state.stage errand answer became more) same hears, ap (λ (state : State). record { stage = became; due = state.due ++ more }) same)

    -- where nothing more is due
    led_on : (became : Stage) → Hears cluster place stage errand answer became [] → LeadsTo errand before (record { stage = became; due = due })
    led_on became hears =
        subst (λ (items : List Errand). LeadsTo errand before (record { stage = became; due = items })) (append-nil due) (led became [] hears)

    pub from_handoffs : (heard after : Heard) → stage ≡ Handoffs heard → after ≡ asked heard errand answer → LeadsTo errand before (record { stage = Handoffs after; due = due })
    from_handoffs heard after is becomes =
        led_on (Handoffs after) (subst (λ one. Hears cluster place one errand answer (Handoffs after) []) (sym is)
        (subst (λ one. Hears cluster place (Handoffs heard) errand answer (Handoffs one) []) (sym becomes) (handoffs_hear heard errand)))

    pub from_primaries : (heard after : Heard) → stage ≡ Primaries heard → after ≡ asked heard errand answer → LeadsTo errand before (record { stage = Primaries after; due = due })
    from_primaries heard after is becomes =
        led_on (Primaries after) (subst (λ one. Hears cluster place one errand answer (Primaries after) []) (sym is)
        (subst (λ one. Hears cluster place (Primaries heard) errand answer (Primaries one) []) (sym becomes) (primaries_hear heard errand)))

    pub from_burial : (burial after : Burial) → stage ≡ Buries burial → after ≡ marked burial errand answer → LeadsTo errand before (record { stage = Buries after; due = due })
    from_burial burial after is becomes =
        led_on (Buries after) (subst (λ one. Hears cluster place one errand answer (Buries after) []) (sym is)
        (subst (λ one. Hears cluster place (Buries burial) errand answer (Buries one) []) (sym becomes) (buries_hear burial errand)))

    pub from_repair : (repair after : Repair) (later : List Errand) → stage ≡ Repairs repair → (more : List Errand) × HearsRepair cluster place repair errand answer after more × (later ≡ due ++ more)
        → LeadsTo errand before (record { stage = Repairs after; due = later })
    from_repair repair after later is (more, hears, longer) =
        subst (λ (items : List Errand). LeadsTo errand before (record { stage = Repairs after; due = items })) (sym longer)
        (led (Repairs after) more (subst (λ one. Hears cluster place one errand answer (Repairs after) more) (sym is) (after, hears, refl)))

    pub from_end : (end : SyncEnd) → stage ≡ Ends end → LeadsTo errand before (record { stage = stage; due = due })
    from_end end is = led_on stage (subst (λ one. Hears cluster place one errand answer one []) (sym is) (refl, refl))
