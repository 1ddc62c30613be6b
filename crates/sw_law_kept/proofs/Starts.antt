-- Requests are made, and with the first of an operation its put or delete is noted.
use Rattle.std.proofs.Common.{◌≡◌, ◌⊎◌, inl, inr, ⊎_elim, ℕ, Contains, List, Option, refl, subst, arith}
use Rattle.std.proofs.lemmas.List.Elements.{Contains-append_cases, Contains-append_left}
use Rattle.sw_diskfile.proofs.Lists.{mapped}
use Rattle.sw_message.specs.declared.sent.Sent.{Sent}
use Rattle.sw_law_scene.specs.Moves.{requests_of, sends}
use Rattle.sw_law_scene.specs.Scene.{Answer, Message, Request, Scene, StartedDelete, StartedPut}
use Rattle.sw_law_scene.specs.Sound.{IsSoundScene}
use Rattle.sw_law_owed.specs.Promise.{Made, WasMade}
use Rattle.sw_law_kept.specs.Kept.{AreMarksStamped}
use Rattle.sw_law_owed.proofs.Replies.{made_before}
use Rattle.sw_law_owed.specs.Decided.{IsMessageBy, Rise}
use Rattle.sw_law_owed.proofs.Draws.{delete_draw, delete_drawn, put_draw, put_drawn}
use Rattle.sw_law_owed.proofs.Grown.{GoesOn, reply_still}
use Rattle.sw_law_kept.proofs.StampNews.{IsKeeping, keeping_on}
use Rattle.sw_law_owed.proofs.Requests.{message_by}

module _ (scene : Scene) (sound : IsSoundScene scene) (keeping : IsKeeping scene) (book : List StartedPut) (marks : List StartedDelete) (last : Option ℕ) (number : ℕ) (sents : List Sent) where
  -- the scene with the puts and deletes that are noted
  abbrev pub noted : Scene
  noted = record scene { book = book; marks = marks; last = last }

  -- and then with the requests
  abbrev pub after : Scene
  after = sends number sents noted

  abbrev more : List Message
  more = requests_of scene.now number sents

  -- a request was made before, or it is one of these
  request_cases : (at operation : ℕ) (sent : Sent) → Contains after.messages (Request at operation sent) → Contains scene.messages (Request at operation sent) ⊎ (scene.now ≡ at)
  request_cases at operation sent has = ⊎_elim
      (λ old. inl old)
      (λ new. let from = mapped (λ (one : Sent). Request scene.now number one) sents (Request at operation sent) new in inr (cc))
      (Contains-append_cases scene.messages more (Request at operation sent) has)

  -- none of them is a reply
  made_old : (made : Made) → WasMade after made → WasMade scene made
  made_old made (operation, sent, there, device, msg) = ⊎_elim
      (λ old. (operation, sent, old, device, msg))
      (λ new. let from = mapped (λ (one : Sent). Request scene.now number one) sents (Answer made.at operation sent made.reply) new in absurd (cc))
      (Contains-append_cases scene.messages more (Answer made.at operation sent made.reply) there)

  module _ (books : (put : StartedPut) → Contains scene.book put → Contains book put) (notes : (delete : StartedDelete) → Contains scene.marks delete → Contains marks delete)
      (stamped : AreMarksStamped noted) (rise : Rise after) (sound_after : IsSoundScene after) where
    goes : GoesOn scene after
    goes = record { cluster = refl; messages = λ messages has. Contains-append_left scene.messages more messages has; book = books; marks = notes; now = omega arith }

    -- a request that was made now is by now
    now_by : (operation : ℕ) (sent : Sent) → Contains after.messages (Request scene.now operation sent) → IsMessageBy after scene.now sent.msg
    now_by operation sent has =
        message_by after sound_after scene.now (λ put there. omega (arith, rise.before (put_draw put) (put_drawn after put there))) (λ delete there. omega (arith, rise.before (delete_draw delete) (delete_drawn after delete there)))
        (λ made was_made. made_before scene sound made (made_old made was_made))
        (λ made place was_made there. reply_still scene after goes made.at made.at (omega arith) place made.reply (keeping.keeps.replies made place (made_old made was_made) there))
        sent.msg (sound_after.messages (Request scene.now operation sent) has).1

    -- what is kept is kept on
    pub sends_keeping : IsKeeping after
    sends_keeping = keeping_on scene after (record {
      goes = goes;
      rise = rise;
      disks = keeping.keeps.disks;
      replies = λ made place was_made there. inl (made_old made was_made);
      requests = λ at operation sent has. ⊎_elim
          (λ old. inl old)
          (λ same. inr (subst (λ (a : ℕ). Contains after.messages (Request a operation sent) → IsMessageBy after a sent.msg) same (now_by operation sent) has))
          (request_cases at operation sent has);
      marks = stamped;
    }) keeping.keeps
