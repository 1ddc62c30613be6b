use Rattle.std.proofs.Common.{◌≡◌, ◌∙◌, Bool, true, not, sym, refl, ap}
use Rattle.std.proofs.lemmas.Bool.{not-false}
use Rattle.sw_archive.specs.declared.assemble.AssembleFault.TheVariants.{BodyMd5}
use Rattle.sw_archive.proofs.Decisions.{Decides-texts}
use Rattle.sw_archive.proofs.assemble.check_body.Goals as goal

-- texts that pass as unequal are
unequal : (test ne : Bool) → ne ≡ not test → ne ≡ true → test ≡ true → ⊥
unequal test ne is_not passes same = absurd (cc)

pub returns-then-ne : goal.returns-then-ne
returns-then-ne c = (
  ap (BodyMd5 c.args.told) c.body_md5-computed.ensures.value,
  λ same. unequal _ c.ne.result c.ne.ensures c.if-ne.true ((Decides-texts c.args.told c.body_md5-computed.result).1 (same ∙ sym c.body_md5-computed.ensures.value)),
)

pub returns : goal.returns
returns c = (refl, (Decides-texts c.args.told c.body_md5-computed.result).0 (not-false _ (sym c.ne.ensures ∙ c.if-ne.false)) ∙ c.body_md5-computed.ensures.kept)
