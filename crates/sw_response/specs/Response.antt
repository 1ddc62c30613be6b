-- The answers to the ends of operations.
use Rattle.std.specs.Prelude.{ℕ, Bool, true, false, if◌then◌else◌, List, [], ◌∷◌, ◌++◌, codes, map}
use Rattle.std.specs.Fmt.{decimal}
use Rattle.std.specs.List.{list_any}
use Rattle.hex.specs.Hex.{encode_lower}
use Rattle.sw_types.specs.Head.{Pair}
use Rattle.sw_types.specs.Object.{ObjectModel}
use Rattle.sw_types.specs.Stamp.{stamp_text}
use Rattle.sw_httpwrite.specs.Answer.{AnswerModel, Field}
use Rattle.sw_message.specs.declared.miss.Miss.{Miss}
use Rattle.sw_message.specs.declared.miss.Miss.TheVariants as miss
use Rattle.sw_request.specs.Response.{length_field, sent_body, type_field, word_answer}
use Rattle.sw_put.specs.declared.end.PutEnd.{PutEnd}
use Rattle.sw_put.specs.declared.end.PutEnd.TheVariants as put
use Rattle.sw_get.specs.declared.end.GetEnd.{GetEnd}
use Rattle.sw_get.specs.declared.end.GetEnd.TheVariants as get
use Rattle.sw_delete.specs.declared.end.DeleteEnd.{DeleteEnd}
use Rattle.sw_delete.specs.declared.end.DeleteEnd.TheVariants as delete

-- ---- answers of a word

-- a word and a stamp
abbrev pub stamped : List ℕ → ℕ → List ℕ
stamped word stamp = word ++ 32 ∷ stamp_text stamp

abbrev pub is_wanting : Miss → Bool
is_wanting miss.NoMemory = true
is_wanting other = false

-- some device missed because it wanted memory
abbrev pub some_wanting : List (ℕ × Miss) → Bool
some_wanting misses = list_any (λ (one : ℕ × Miss). is_wanting one.1) misses

-- an operation could not be done: the word of its end, or that of want of memory where a device wanted it
abbrev pub unable : (to_head close : Bool) → List ℕ → List (ℕ × Miss) → AnswerModel
unable to_head close word misses = word_answer to_head 503 (if some_wanting misses then codes "NoMemory" else word) [] close

-- no stamp was left
abbrev pub spent_answer : (close : Bool) → AnswerModel
spent_answer close = word_answer false 503 (codes "StampsSpent") [] close

-- memory was wanted; the connection is closed
abbrev pub wanting_answer : (to_head : Bool) → AnswerModel
wanting_answer to_head = word_answer to_head 500 (codes "NoMemory") [] true

-- ---- fields

-- the MD5 of a body, as its entity tag
abbrev pub tag_field : List ℕ → Field
tag_field digest = (codes "ETag", encode_lower digest)

abbrev pub stamp_field : ℕ → Field
stamp_field stamp = (codes "X-Timestamp", stamp_text stamp)

abbrev pub commits_field : ℕ → Field
commits_field commits = (codes "X-Commits", decimal commits)

abbrev pub pair_field : Pair → Field
pair_field pair = (codes "X-Object-Meta-" ++ pair.0, pair.1)

-- ---- puts

-- a body of this MD5 was put, and so many devices have made its archives durable
abbrev pub created : (close : Bool) → (digest : List ℕ) → (stamp commits : ℕ) → AnswerModel
created close digest stamp commits = record {
  status = 201;
  fields = length_field [] ∷ tag_field digest ∷ stamp_field stamp ∷ commits_field commits ∷ [];
  body = [];
  close = close;
}

abbrev pub put_answer : (close : Bool) → (digest : List ℕ) → PutEnd → AnswerModel
put_answer close digest (put.Created stamp commits) = created close digest stamp commits
put_answer close digest (put.Superseded floor) = word_answer false 202 (stamped (codes "Superseded") floor.stamp) [] close
put_answer close digest (put.TooFewSynced have misses) = unable false close (codes "TooFewSynced") misses
put_answer close digest (put.TooFewCommits have misses) = unable false close (codes "TooFewCommits") misses

-- ---- gets

-- an object was found; an answer to HEAD has its fields and no body
abbrev pub found : (to_head close : Bool) → (stamp : ℕ) → ObjectModel → AnswerModel
found to_head close stamp object = record {
  status = 200;
  fields = length_field object.body ∷ type_field object.head.content_type ∷ tag_field object.body_md5 ∷ stamp_field stamp ∷ map pair_field object.head.pairs;
  body = sent_body to_head object.body;
  close = close;
}

abbrev pub get_answer : (to_head close : Bool) → GetEnd → AnswerModel
get_answer to_head close (get.Found stamp object sources) = found to_head close stamp object
get_answer to_head close get.Absent = word_answer to_head 404 (codes "Absent") [] close
get_answer to_head close (get.Buried stamp) = word_answer to_head 404 (stamped (codes "Buried") stamp) [] close
get_answer to_head close (get.Unanswered misses) = unable to_head close (codes "Unanswered") misses
get_answer to_head close (get.TooFew stamp have) = unable to_head close (codes "TooFew") []
get_answer to_head close (get.Overtaken events) = unable to_head close (codes "Overtaken") []

-- ---- deletes

-- a tombstone was put where an object was: an answer without a body (RFC 9110, section 15.3.5)
abbrev pub deleted : (close : Bool) → AnswerModel
deleted close = record { status = 204; fields = []; body = []; close = close }

abbrev pub delete_answer : (close : Bool) → DeleteEnd → AnswerModel
delete_answer close (delete.Deleted stamp marks true) = deleted close
delete_answer close (delete.Deleted stamp marks false) = word_answer false 404 (codes "Missing") [] close
delete_answer close (delete.Superseded floor) = word_answer false 409 (stamped (codes "Superseded") floor.stamp) [] close
delete_answer close (delete.TooFewMarks have misses) = unable false close (codes "TooFewMarks") misses
