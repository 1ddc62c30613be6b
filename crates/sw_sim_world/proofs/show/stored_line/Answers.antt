use Rattle.std.proofs.Common.{◌≡◌, List, ℕ, Bor, Some, option_map, sym, ap, subst, ◌∙◌}
use Rattle.std.proofs.lemmas.Option.{same_Some}
use Rattle.sw_archive.specs.Archive.{ArchiveModel, IsArchive}
use Rattle.sw_memdisk.specs.Lent.{bytes_under}
use Rattle.sw_sim_world.specs.declared.told.ShowLine.TheVariants.{Stored}
use Rattle.sw_sim_world.proofs.show.stored_line.Goals as goal
use Rattle.sw_sim_world.proofs.show.stored_line.Goals.{After-lent_under}

-- what is found is the archive
read : (c : After-lent_under) → option_map (λ (bytes : Bor (List ℕ)). bytes.now) c.lent_under.result ≡ Some c.requires.bytes
read c = c.lent_under.ensures ∙ ap (λ (name : List ℕ). bytes_under name c.args.lent.now) (c.as_str.ensures.value ∙ c.in_ok-text.ensures) ∙ c.requires.found

pub unreachable-requires : goal.unreachable-requires
unreachable-requires c =
    let is = read (goal.at.unreachable-requires c).After-lent_under in
    let none = ap (option_map (λ (bytes : Bor (List ℕ)). bytes.now)) c.in_default.is in
    cc

pub payload_of-requires : goal.payload_of-requires
payload_of-requires c =
    let after = (goal.at.payload_of-requires c).After-lent_under in
    let same = same_Some _ _ (sym (ap (option_map (λ (bytes : Bor (List ℕ)). bytes.now)) c.in-Some.is) ∙ read after) in
    subst (λ (bytes : List ℕ). (archive : ArchiveModel) × IsArchive bytes archive) (sym same) (c.requires.archive, c.requires.is_archive)

pub returns : goal.returns
returns c =
    let after = (goal.at.returns c).After-lent_under in
    let same = same_Some _ _ (sym (ap (option_map (λ (bytes : Bor (List ℕ)). bytes.now)) c.in-Some.is) ∙ read after) in
    let payload = c.in_ok-payload.ensures in
    record {
      bytes = c.requires.bytes;
      found = c.requires.found;
      archive = payload.0;
      is_archive = subst (λ (bytes : List ℕ). IsArchive bytes payload.0) same payload.1;
      line_is = ap (Stored c.args.device c.args.entry) payload.2;
    }
