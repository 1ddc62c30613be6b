-- What a scene has to bring about for the stamps of the one before it to be kept.
use Rattle.std.proofs.Common.{◌≡◌, ◌⊎◌, ⊎_elim, ℕ, Contains, Some, arith}
use Rattle.sw_hashpath.specs.Place.{PlaceModel}
use Rattle.sw_message.specs.Message.{place_in}
use Rattle.sw_message.specs.declared.sent.Sent.{Sent}
use Rattle.sw_law_scene.specs.Scene.{Request, Scene}
use Rattle.sw_law_owed.specs.Promise.{Made, OnDisk, WasMade}
use Rattle.sw_law_kept.specs.Kept.{AreMarksStamped}
use Rattle.sw_law_owed.specs.Decided.{AreNamesBy, IsMessageBy, IsReplyBy, KeepsStamps, Rise}
use Rattle.sw_law_owed.proofs.Grown.{GoesOn, message_still, names_still, reply_still}

-- what every scene of a run keeps: that of stamps, and that those of deletes are some that there are
pub record IsKeeping (scene : Scene) : Type 0 where
  pub keeps : KeepsStamps scene
  pub marks : AreMarksStamped scene

-- A scene goes on to another. Stamps rise; whatever a disk may hold has names that are by the step before; so is each new reply by its
-- own step, and each new request.
pub record News (before after : Scene) : Type 0 where
  pub goes : GoesOn before after
  pub rise : Rise after
  pub disks : (device : ℕ) → OnDisk after device (AreNamesBy before before.now)
  pub replies : (made : Made) (place : PlaceModel) → WasMade after made → place_in made.msg ≡ Some place → WasMade before made ⊎ IsReplyBy before place made.at made.reply
  pub requests : (at operation : ℕ) (sent : Sent) → Contains after.messages (Request at operation sent) → Contains before.messages (Request at operation sent) ⊎ IsMessageBy after at sent.msg
  pub marks : AreMarksStamped after

module _ (before after : Scene) (news : News before after) where
  -- a reply is by its step still
  on : (made : Made) (place : PlaceModel) → IsReplyBy before place made.at made.reply → IsReplyBy after place made.at made.reply
  on made place is = reply_still before after news.goes made.at made.at (omega arith) place made.reply is

  -- what is kept is kept on
  pub keeping_on : KeepsStamps before → IsKeeping after
  keeping_on keeps = record {
    keeps = record {
      rise = news.rise;
      disks = λ device side is. names_still before after news.goes before.now after.now news.goes.now side (news.disks device side is);
      replies = λ made place was_made there. ⊎_elim
          (λ old. on made place (keeps.replies made place old there))
          (λ new. on made place new)
          (news.replies made place was_made there);
      requests = λ at operation sent has. ⊎_elim
          (λ old. message_still before after news.goes at at (omega arith) sent.msg (keeps.requests at operation sent old))
          (λ new. new)
          (news.requests at operation sent has);
    };
    marks = news.marks;
  }
