-- What the answers to a get say.
use Rattle.std.proofs.Common.{ℕ, List, [], ◌∷◌, Option, Some, None, refl, sym, subst}
use Rattle.sw_hashpath.specs.Place.{PlaceModel}
use Rattle.sw_archive.specs.Archive.{ArchiveModel}
use Rattle.sw_message.specs.Transcript.{Closed, Gave, Step}
use Rattle.sw_message.specs.declared.message.Msg.{Msg}
use Rattle.sw_message.specs.declared.message.Msg.TheVariants as message
use Rattle.sw_message.specs.declared.miss.Miss.{Miss}
use Rattle.sw_message.specs.declared.miss.Miss.TheVariants as miss
use Rattle.sw_message.specs.declared.reply.Reply.{Reply}
use Rattle.sw_message.specs.declared.reply.Reply.TheVariants as reply
use Rattle.sw_message.specs.declared.spoil.Foreign.TheVariants as foreign
use Rattle.sw_message.specs.declared.spoil.Spoil.TheVariants as spoil
use Rattle.sw_get.specs.Causes.{AreHeard, IsMissOf, Says}
use Rattle.sw_get.specs.Get.{AreTurns, Begun, Hears, IsMeant, Sends, Turn, facts_in, wanted}
use Rattle.sw_get.specs.Meaning.{Brings, IsFetched, IsRead, Lacks, Lists, Meaning, Misses, asked_meaning}

module _ (begun : Begun) (others : List ArchiveModel) (place : PlaceModel) where
  of_ask : (answer : Option Reply) → Says begun others (message.Ask place) answer (asked_meaning answer)
  of_ask None = refl
  of_ask (Some reply.Synced) = refl
  of_ask (Some reply.Committed) = refl
  of_ask (Some (reply.Deleted existed)) = refl
  of_ask (Some (reply.Superseded floor)) = refl
  of_ask (Some reply.Missing) = refl
  of_ask (Some (reply.Held listing)) = refl
  of_ask (Some (reply.Fragment bytes)) = refl
  of_ask (Some (reply.Gone listing)) = refl
  of_ask (Some (reply.Spoiled how)) = refl
  of_ask (Some reply.Kept) = refl
  of_ask (Some reply.Removed) = refl
  of_ask (Some (reply.PartList parts)) = refl
  of_ask (Some (reply.SuffixList pairs)) = refl
  of_ask (Some (reply.PlaceList places)) = refl
  of_ask (Some reply.DiskFault) = refl
  of_ask (Some (reply.NoSpace need free)) = refl
  of_ask (Some reply.NoMemory) = refl

  module _ (stamp index : ℕ) where
    abbrev Said : Option Reply → Meaning → Type 0
    Said answer meaning = Says begun others (message.Fetch place stamp index) answer meaning

    spoilt : (bytes : List ℕ) (how : Miss) → IsRead (wanted begun stamp) others index bytes (Misses how) → IsMissOf begun others (message.Fetch place stamp index) (Some (reply.Fragment bytes)) how
    spoilt bytes (miss.Spoiled (spoil.Fault fault)) is = (spoil.Fault fault, refl, is)
    spoilt bytes (miss.Spoiled (spoil.Foreign foreign.Name)) is = (spoil.Foreign foreign.Name, refl, is)
    spoilt bytes (miss.Spoiled (spoil.Foreign foreign.Stamp)) is = (spoil.Foreign foreign.Stamp, refl, is)
    spoilt bytes (miss.Spoiled (spoil.Foreign foreign.Index)) is = (spoil.Foreign foreign.Index, refl, is)
    spoilt bytes (miss.Spoiled (spoil.Foreign foreign.Code)) is = (spoil.Foreign foreign.Code, refl, is)
    spoilt bytes (miss.Spoiled (spoil.Foreign foreign.Object)) is = (spoil.Foreign foreign.Object, refl, is)
    spoilt bytes miss.NoReply is = absurd is
    spoilt bytes miss.DiskFault is = absurd is
    spoilt bytes (miss.NoSpace need free) is = absurd is
    spoilt bytes miss.NoMemory is = absurd is
    spoilt bytes miss.Missing is = absurd is
    spoilt bytes miss.Gone is = absurd is
    spoilt bytes miss.Odd is = absurd is

    of_read : (bytes : List ℕ) (meaning : Meaning) → IsRead (wanted begun stamp) others index bytes meaning → Said (Some (reply.Fragment bytes)) meaning
    of_read bytes (Brings archive) is = is.0
    of_read bytes (Misses how) is = spoilt bytes how is
    of_read bytes (Lists listing) is = absurd is
    of_read bytes (Lacks listing) is = absurd is

    of_fetch : (answer : Option Reply) (meaning : Meaning) → IsFetched (wanted begun stamp) others index answer meaning → Said answer meaning
    of_fetch None meaning is = subst (Said None) (sym is) refl
    of_fetch (Some reply.Synced) meaning is = subst (Said (Some reply.Synced)) (sym is) refl
    of_fetch (Some reply.Committed) meaning is = subst (Said (Some reply.Committed)) (sym is) refl
    of_fetch (Some (reply.Deleted existed)) meaning is = subst (Said (Some (reply.Deleted existed))) (sym is) refl
    of_fetch (Some (reply.Superseded floor)) meaning is = subst (Said (Some (reply.Superseded floor))) (sym is) refl
    of_fetch (Some reply.Missing) meaning is = subst (Said (Some reply.Missing)) (sym is) refl
    of_fetch (Some (reply.Held listing)) meaning is = subst (Said (Some (reply.Held listing))) (sym is) refl
    of_fetch (Some (reply.Fragment bytes)) meaning is = of_read bytes meaning is
    of_fetch (Some (reply.Gone listing)) meaning is = subst (Said (Some (reply.Gone listing))) (sym is) refl
    of_fetch (Some (reply.Spoiled how)) meaning is = subst (Said (Some (reply.Spoiled how))) (sym is) refl
    of_fetch (Some reply.Kept) meaning is = subst (Said (Some reply.Kept)) (sym is) refl
    of_fetch (Some reply.Removed) meaning is = subst (Said (Some reply.Removed)) (sym is) refl
    of_fetch (Some (reply.PartList parts)) meaning is = subst (Said (Some (reply.PartList parts))) (sym is) refl
    of_fetch (Some (reply.SuffixList pairs)) meaning is = subst (Said (Some (reply.SuffixList pairs))) (sym is) refl
    of_fetch (Some (reply.PlaceList places)) meaning is = subst (Said (Some (reply.PlaceList places))) (sym is) refl
    of_fetch (Some reply.DiskFault) meaning is = subst (Said (Some reply.DiskFault)) (sym is) refl
    of_fetch (Some (reply.NoSpace need free)) meaning is = subst (Said (Some (reply.NoSpace need free))) (sym is) refl
    of_fetch (Some reply.NoMemory) meaning is = subst (Said (Some reply.NoMemory)) (sym is) refl

says : (begun : Begun) (turns : List Turn) (msg : Msg) (answer : Option Reply) (meaning : Meaning) → IsMeant begun turns msg answer meaning → Says begun (facts_in begun turns).archives msg answer meaning
says begun turns (message.Ask place) answer meaning is = subst (Says begun (facts_in begun turns).archives (message.Ask place) answer) (sym is) (of_ask begun (facts_in begun turns).archives place answer)
says begun turns (message.Fetch place stamp index) answer meaning is = of_fetch begun (facts_in begun turns).archives place stamp index answer meaning is
says begun turns (message.PutFrag place stamp index bytes) answer meaning is = absurd is
says begun turns (message.Commit place stamp index) answer meaning is = absurd is
says begun turns (message.Delete place stamp) answer meaning is = absurd is
says begun turns (message.Remove place stamp index) answer meaning is = absurd is
says begun turns message.Parts answer meaning is = absurd is
says begun turns (message.Suffixes part) answer meaning is = absurd is
says begun turns (message.Places part) answer meaning is = absurd is

-- the turns of a transcript tell what its answers say
pub are_heard : (begun : Begun) (past : List Step) (turns : List Turn) → AreTurns begun past turns → AreHeard begun past turns
are_heard begun [] [] are = tt
are_heard begun [] (turn ∷ turns) are = absurd are
are_heard begun (Gave sent ∷ past) [] are = absurd are
are_heard begun (Gave sent ∷ past) (Sends same ∷ turns) are = (are.0, are_heard begun past turns are.1)
are_heard begun (Gave sent ∷ past) (Hears same meaning ∷ turns) are = absurd are
are_heard begun (Closed sent answer ∷ past) [] are = absurd are
are_heard begun (Closed sent answer ∷ past) (Sends same ∷ turns) are = absurd are
are_heard begun (Closed sent answer ∷ past) (Hears same meaning ∷ turns) are = (are.0, says begun turns sent.msg answer meaning are.1, are_heard begun past turns are.2)
