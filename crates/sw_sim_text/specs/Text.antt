-- The lines that are printed of what is told.
use Rattle.std.specs.Prelude.{ℕ, ◌==◌, Bool, if◌then◌else◌, nat_lt, codes, List, [], ◌∷◌, ◌++◌, length, map}
use Rattle.std.specs.Fmt.{decimal}
use Rattle.std.specs.List.{concat, join_by}
use Rattle.sw_types.specs.Hex.{hex_text}
use Rattle.sw_types.specs.Stamp.{stamp_text}
use Rattle.sw_message.specs.declared.miss.Miss.{Miss}
use Rattle.sw_message.specs.declared.target.Target.{Target}
use Rattle.sw_delete.specs.declared.end.DeleteEnd.{DeleteEnd}
use Rattle.sw_delete.specs.declared.end.DeleteEnd.TheVariants as deletes
use Rattle.sw_get.specs.declared.end.GetEnd.{GetEnd}
use Rattle.sw_get.specs.declared.end.GetEnd.TheVariants as gets
use Rattle.sw_put.specs.declared.end.PutEnd.{PutEnd}
use Rattle.sw_put.specs.declared.end.PutEnd.TheVariants as puts
use Rattle.sw_recon.specs.declared.revert_end.RevertEnd.{RevertEnd}
use Rattle.sw_recon.specs.declared.revert_end.RevertEnd.TheVariants as reverts
use Rattle.sw_sync.specs.declared.sync_end.SyncEnd.{SyncEnd}
use Rattle.sw_sync.specs.declared.sync_end.SyncEnd.TheVariants as syncs
use Rattle.sw_sim_exchange.specs.declared.lines.EndLine.{EndLine}
use Rattle.sw_operation.specs.declared.end.OpEnd.{OpEnd}
use Rattle.sw_operation.specs.declared.end.OpEnd.TheVariants.{Put, Get, Head, Delete, Sync, Revert}
use Rattle.sw_sim_exchange.specs.declared.kinds.AnswerKind.{AnswerKind}
use Rattle.sw_sim_exchange.specs.declared.kinds.AnswerKind.TheVariants as answers
use Rattle.sw_sim_exchange.specs.declared.kinds.RequestKind.{RequestKind}
use Rattle.sw_sim_exchange.specs.declared.kinds.RequestKind.TheVariants as requests
use Rattle.sw_sim_exchange.specs.declared.lines.SentLine.{SentLine}
use Rattle.sw_sim_exchange.specs.declared.lines.SentLine.TheVariants.{Started, Request, Answered}
use Rattle.sw_sim_world.specs.declared.told.ShowLine.{ShowLine}
use Rattle.sw_sim_world.specs.declared.told.ShowLine.TheVariants.{Stored, Buried, Empty}
use Rattle.sw_sim_world.specs.declared.told.Told.{Told}

abbrev pub existed_text : Bool → List ℕ
existed_text existed = if existed then codes "yes" else codes "no"

-- ---- what was sent

abbrev pub request_text : RequestKind → List ℕ
request_text (requests.Put index) = codes "put " ++ decimal index
request_text (requests.Commit index) = codes "commit " ++ decimal index
request_text requests.Delete = codes "delete"
request_text requests.Ask = codes "ask"
request_text (requests.Fetch index) = codes "fetch " ++ decimal index
request_text (requests.Remove index) = codes "remove " ++ decimal index

abbrev pub answer_text : AnswerKind → List ℕ
answer_text answers.Synced = codes "synced"
answer_text answers.Committed = codes "committed"
answer_text (answers.Deleted existed) = codes "deleted " ++ existed_text existed
answer_text (answers.Superseded stamp) = codes "superseded " ++ stamp_text stamp
answer_text answers.Missing = codes "missing"
answer_text answers.Held = codes "held"
answer_text answers.Fragment = codes "fragment"
answer_text answers.Gone = codes "gone"
answer_text answers.Removed = codes "removed"
answer_text answers.Kept = codes "kept"
answer_text (answers.NoSpace need free) = codes "no-space " ++ decimal need ++ 32 ∷ decimal free
answer_text answers.Spoiled = codes "spoiled"

-- a line of an operation that started, of a message, or of a reply
abbrev pub sent_line : SentLine → List ℕ
sent_line (Started operation) = codes "o " ++ decimal operation ++ 10 ∷ []
sent_line (Request message operation device kind) = codes "m " ++ decimal message ++ 32 ∷ decimal operation ++ 32 ∷ decimal device ++ 32 ∷ request_text kind ++ 10 ∷ []
sent_line (Answered message operation device kind) = codes "r " ++ decimal message ++ 32 ∷ decimal operation ++ 32 ∷ decimal device ++ 32 ∷ answer_text kind ++ 10 ∷ []

-- ---- the devices of misses

-- a device among ascending ones, where it is not yet there
abbrev pub with_device : ℕ → List ℕ → List ℕ
with_device device [] = device ∷ []
with_device device (other ∷ others) =
    if nat_lt device other then device ∷ other ∷ others else if device == other then other ∷ others else other ∷ with_device device others

-- each device that missed once, ascending
abbrev pub devices_of : List (ℕ × Miss) → List ℕ
devices_of [] = []
devices_of (miss ∷ misses) = with_device miss.0 (devices_of misses)

-- ---- ends

-- numbers, with a comma between each two
abbrev pub numbers_text : List ℕ → List ℕ
numbers_text numbers = join_by decimal (codes ",") numbers

-- the sources' indices, in their order
abbrev pub indices_of : List Target → List ℕ
indices_of sources = map (λ (source : Target). source.index) sources

abbrev pub put_text : PutEnd → List ℕ
put_text (puts.Created stamp commits) = codes "created " ++ stamp_text stamp ++ 32 ∷ decimal commits
put_text (puts.Superseded floor) = codes "superseded " ++ stamp_text floor.stamp
put_text (puts.TooFewSynced have misses) = codes "too-few-synced " ++ decimal have
put_text (puts.TooFewCommits have misses) = codes "too-few-commits " ++ decimal have

abbrev pub get_text : GetEnd → List ℕ
get_text (gets.Found stamp object sources) = codes "found " ++ stamp_text stamp ++ 32 ∷ hex_text object.body ++ 32 ∷ numbers_text (indices_of sources)
get_text gets.Absent = codes "absent"
get_text (gets.Buried stamp) = codes "buried " ++ stamp_text stamp
get_text (gets.Unanswered misses) = codes "unanswered " ++ numbers_text (devices_of misses)
get_text (gets.TooFew stamp have) = codes "too-few " ++ stamp_text stamp ++ 32 ∷ decimal have
get_text (gets.Overtaken events) = codes "overtaken"

-- of a found object the length and the MD5 of its body
abbrev pub head_text : GetEnd → List ℕ
head_text (gets.Found stamp object sources) = codes "head " ++ stamp_text stamp ++ 32 ∷ decimal (length object.body) ++ 32 ∷ hex_text object.body_md5
head_text other = get_text other

abbrev pub delete_text : DeleteEnd → List ℕ
delete_text (deletes.Deleted stamp marks existed) = codes "deleted " ++ stamp_text stamp ++ 32 ∷ decimal marks ++ 32 ∷ existed_text existed
delete_text (deletes.Superseded floor) = codes "superseded " ++ stamp_text floor.stamp
delete_text (deletes.TooFewMarks have misses) = codes "too-few-marks " ++ decimal have

abbrev pub sync_text : SyncEnd → List ℕ
sync_text (syncs.Done commits rebuilt tombstones failed) = codes "sync " ++ decimal commits ++ 32 ∷ decimal rebuilt ++ 32 ∷ decimal tombstones ++ 32 ∷ decimal (length failed)
sync_text (syncs.Unanswered device) = codes "unanswered " ++ decimal device
sync_text (syncs.Newer floor) = codes "newer " ++ stamp_text floor.stamp
sync_text (syncs.TooFew stamp have misses) = codes "too-few " ++ stamp_text stamp ++ 32 ∷ decimal have

abbrev pub revert_text : RevertEnd → List ℕ
revert_text (reverts.Done removed kept) = codes "revert " ++ decimal removed ++ 32 ∷ decimal (length kept)
revert_text (reverts.Unanswered device) = codes "unanswered " ++ decimal device

abbrev pub end_text : OpEnd → List ℕ
end_text (Put end) = put_text end
end_text (Get end) = get_text end
end_text (Head end) = head_text end
end_text (Delete end) = delete_text end
end_text (Sync end) = sync_text end
end_text (Revert end) = revert_text end

-- the line of the end of an operation
abbrev pub end_line : EndLine → List ℕ
end_line line = codes "e " ++ decimal line.operation ++ 32 ∷ end_text line.end ++ 10 ∷ []

-- ---- what a device keeps

abbrev pub durable_text : Bool → List ℕ
durable_text durable = if durable then codes "durable" else codes "plain"

-- a line of an entry, of a tombstone, or of none
abbrev pub show_line : ShowLine → List ℕ
show_line (Stored device entry payload) =
    codes "s " ++ decimal device ++ 32 ∷ decimal entry.index ++ 32 ∷ stamp_text entry.stamp ++ 32 ∷ durable_text entry.durable ++ 32 ∷ hex_text payload ++ 10 ∷ []
show_line (Buried device stamp) = codes "s " ++ decimal device ++ codes " - " ++ stamp_text stamp ++ codes " tombstone" ++ 10 ∷ []
show_line (Empty device) = codes "s " ++ decimal device ++ codes " empty" ++ 10 ∷ []

-- ---- all that is told

-- what was sent, then the ends, and then what is shown
abbrev pub told_text : Told → List ℕ
told_text told = concat (map sent_line told.sent) ++ concat (map end_line told.ends) ++ concat (map show_line told.shown)
