-- There is room for each of those that stay.
use Rattle.std.proofs.Common.{◌≡◌, ℕ, ◌++◌, ◌∷◌, [], List, Option, Some, None, sym, subst, ◌∙◌}
use Rattle.std.specs.Prelude.{MatchOption}
use Rattle.sw_archive.specs.Archive.{ArchiveModel}
use Rattle.sw_gather.proofs.Joins.{HaveRoom, room_front}
use Rattle.sw_gather.proofs.gathered.Gathered.settle.Goals as goal

room_left : (room : ℕ) (removed : Option ArchiveModel) (old new : List ArchiveModel) → HaveRoom room old → MatchOption removed ((old ≡ []) × (new ≡ [])) (λ last. old ≡ new ++ last ∷ []) → HaveRoom room new
room_left room None old new all is = subst (HaveRoom room) (is.0 ∙ sym is.1) all
room_left room (Some last) old new all is = room_front new last room (subst (HaveRoom room) is all)

pub invariant_of-self-in-Err : goal.invariant_of-self-in-Err
invariant_of-self-in-Err c =
    subst (λ room. HaveRoom room c.remove_last.new.self.archives) (sym c.remove_last.ensures.room)
    (room_left c.self.inside.archives.room c.remove_last.result c.self.inside.archives.archives c.remove_last.new.self.archives c.self.invariant c.remove_last.ensures.last)
