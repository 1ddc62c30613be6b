use Rattle.std.proofs.Common.{◌≡◌, string_bytes}
use Rattle.sw_sim_text.specs.Text.{put_text}
use Rattle.sw_sim_text.proofs.end.add_put.Goals as goal
use Rattle.sw_sim_text.proofs.end.add_put.Goals.{in-Created+in_ok-text-in-Created, in-Superseded+in_ok-text-in-Superseded, in-TooFewSynced+in_ok-text-in-TooFewSynced, in-TooFewCommits+in_ok-text-in-TooFewCommits}

pub returns : goal.returns
returns c =
    let text : string_bytes c.match-end.text ≡ put_text c.args.end.now = elim c.match-end.branch [
      | in-Created+in_ok-text-in-Created w ↦ rw (w.text-is, w.in_ok-text-in-Created.ensures.ok, w.in-Created.is)
      | in-Superseded+in_ok-text-in-Superseded w ↦ rw (w.text-is, w.in_ok-text-in-Superseded.ensures.ok, w.in-Superseded.is)
      | in-TooFewSynced+in_ok-text-in-TooFewSynced w ↦ rw (w.text-is, w.in_ok-text-in-TooFewSynced.ensures.ok, w.in-TooFewSynced.is)
      | in-TooFewCommits+in_ok-text-in-TooFewCommits w ↦ rw (w.text-is, w.in_ok-text-in-TooFewCommits.ensures.ok, w.in-TooFewCommits.is)
    ] in
    rw (c.as_bytes.ensures.value, text) at c.extend_from_slice.ensures.ok
