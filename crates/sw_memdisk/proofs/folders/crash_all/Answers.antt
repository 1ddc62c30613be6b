use Rattle.std.proofs.Common.{◌∙◌, ap, rules}
use Rattle.std.proofs.lemmas.Map.Made.{map_same_pairs}
use Rattle.sw_memdisk.specs.Disk.{kept_entries}
use Rattle.sw_memdisk.proofs.Lookups.{crashed_entries, crashed_model, same_folder}
use Rattle.sw_memdisk.proofs.folders.crash_all.Goals as goal

pub returns : goal.returns
returns c =
    let pick = c.args.pick in
    let all = map_same_pairs _ (crashed_model pick) _ (λ k v b w f' t. search (rules, same_folder)) c.args.folders.now.entries c.retain.new.self.entries c.retain.ensures.filtered in
    ap kept_entries all ∙ crashed_entries pick c.args.folders.now.entries
