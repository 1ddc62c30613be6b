-- How many operations ended in which way.
use Rattle.std.specs.Prelude.{ℕ, ◌+◌, ◌-◌, ◌^◌, min, true, false, codes, List, ◌∷◌, [], ◌++◌, length}
use Rattle.std.specs.Fmt.{decimal}
use Rattle.sw_delete.specs.declared.end.DeleteEnd.{DeleteEnd}
use Rattle.sw_delete.specs.declared.end.DeleteEnd.TheVariants as deleting
use Rattle.sw_get.specs.declared.end.GetEnd.{GetEnd}
use Rattle.sw_get.specs.declared.end.GetEnd.TheVariants as getting
use Rattle.sw_put.specs.declared.end.PutEnd.{PutEnd}
use Rattle.sw_put.specs.declared.end.PutEnd.TheVariants as putting
use Rattle.sw_lab.specs.declared.summary.Summary.{Summary}

-- nothing has ended
abbrev pub empty_summary : Summary
empty_summary = record {
  created = 0;
  superseded = 0;
  too_few_synced = 0;
  too_few_commits = 0;
  found = 0;
  absent = 0;
  buried = 0;
  unanswered = 0;
  too_few = 0;
  overtaken = 0;
  deleted = 0;
  missing = 0;
  too_few_marks = 0;
  jobs = 0;
  bytes = 0;
}

-- a count stays at the greatest number of 64 bits
abbrev pub raised : ℕ → ℕ → ℕ
raised count more = min (count + more) (2 ^ 64 - 1)

abbrev pub with_put : PutEnd → Summary → Summary
with_put (putting.Created stamp commits) summary = record summary { created = raised summary.created 1 }
with_put (putting.Superseded floor) summary = record summary { superseded = raised summary.superseded 1 }
with_put (putting.TooFewSynced have misses) summary = record summary { too_few_synced = raised summary.too_few_synced 1 }
with_put (putting.TooFewCommits have misses) summary = record summary { too_few_commits = raised summary.too_few_commits 1 }

abbrev pub with_get : GetEnd → Summary → Summary
with_get (getting.Found stamp object sources) summary = record summary { found = raised summary.found 1; bytes = raised summary.bytes (length object.body) }
with_get getting.Absent summary = record summary { absent = raised summary.absent 1 }
with_get (getting.Buried stamp) summary = record summary { buried = raised summary.buried 1 }
with_get (getting.Unanswered misses) summary = record summary { unanswered = raised summary.unanswered 1 }
with_get (getting.TooFew stamp have) summary = record summary { too_few = raised summary.too_few 1 }
with_get (getting.Overtaken events) summary = record summary { overtaken = raised summary.overtaken 1 }

abbrev pub with_delete : DeleteEnd → Summary → Summary
with_delete (deleting.Deleted stamp marks true) summary = record summary { deleted = raised summary.deleted 1 }
with_delete (deleting.Deleted stamp marks false) summary = record summary { missing = raised summary.missing 1 }
with_delete (deleting.Superseded floor) summary = record summary { superseded = raised summary.superseded 1 }
with_delete (deleting.TooFewMarks have misses) summary = record summary { too_few_marks = raised summary.too_few_marks 1 }

-- a repair has ended
abbrev pub with_job : Summary → Summary
with_job summary = record summary { jobs = raised summary.jobs 1 }

-- ---- its text

-- a text, and behind it a line of a word and its count
abbrev pub with_line : List ℕ → List ℕ → ℕ → List ℕ
with_line text word count = text ++ (word ++ 32 ∷ decimal count ++ 10 ∷ [])

-- puts, and deletes that were superseded
abbrev pub puts_text : Summary → List ℕ
puts_text summary = with_line (with_line (with_line (with_line [] (codes "created") summary.created) (codes "superseded") summary.superseded) (codes "too-few-synced") summary.too_few_synced) (codes "too-few-commits") summary.too_few_commits

-- gets behind them
abbrev pub gets_text : Summary → List ℕ
gets_text summary = with_line (with_line (with_line (with_line (with_line (with_line (puts_text summary) (codes "found") summary.found) (codes "absent") summary.absent) (codes "buried") summary.buried) (codes "unanswered") summary.unanswered) (codes "too-few") summary.too_few) (codes "overtaken") summary.overtaken

-- and all other counts
abbrev pub summary_text : Summary → List ℕ
summary_text summary = with_line (with_line (with_line (with_line (with_line (gets_text summary) (codes "deleted") summary.deleted) (codes "missing") summary.missing) (codes "too-few-marks") summary.too_few_marks) (codes "jobs") summary.jobs) (codes "bytes") summary.bytes
