use Rattle.std.proofs.Common.{◌≡◌, ℕ, Bool, Bor, List, ◌∷◌, ◌++◌, append_assoc, sym, ap, ◌∙◌}
use Rattle.std.specs.Fmt.{decimal}
use Rattle.sw_types.specs.Stamp.{stamp_text}
use Rattle.sw_hashpath.specs.FileName.{ending, file_name_text}
use Rattle.sw_hashpath.specs.declared.file_name.FileName.{FileName}
use Rattle.sw_hashpath.specs.declared.file_name.FileName.TheVariants.{Data}
use Rattle.sw_hashpath.proofs.file_name.FileName.print.Goals as goal
use Rattle.sw_hashpath.proofs.file_name.FileName.print.Goals.{then-durable, else-durable}

-- the text of an archive's name, by what it ends with
printed : (name : FileName) (stamp index : ℕ) (durable : Bool) (text : List ℕ) (end : Bor (List ℕ)) → name ≡ Data stamp index durable → text ≡ stamp_text stamp ++ (35 ∷ decimal index ++ end.now) → end.now ≡ ending durable → text ≡ file_name_text name
printed name stamp index durable text end is shown same =
    shown ∙ sym (append_assoc (stamp_text stamp) (35 ∷ decimal index) end.now) ∙ ap (λ t. stamp_text stamp ++ 35 ∷ decimal index ++ t) same ∙ sym (ap file_name_text is)

pub returns-in_ok-format-in-Data : goal.returns-in_ok-format-in-Data
returns-in_ok-format-in-Data c =
    let shown = printed c.args.self.now c.in-Data.stamp c.in-Data.index c.in-Data.durable _ c.if-durable.ending c.in-Data.is c.in_ok-format-in-Data.ensures.ok in
    elim c.if-durable.branch [
      | then-durable w ↦ shown (ap (λ (end : Bor (List ℕ)). end.now) w.ending-is ∙ sym (ap ending w.if-durable.true))
      | else-durable w ↦ shown (ap (λ (end : Bor (List ℕ)). end.now) w.ending-is ∙ sym (ap ending w.if-durable.false))
    ]
