-- What is known of a head that has no defect, and which defect is the first.
use Rattle.std.proofs.Common.{◌≡◌, ℕ, List, Bool, true, false, cond, not, ◌&&◌, is_none, is_some, if◌then◌else◌, Option, Some, None, refl, sym, ap, ◌∙◌}
use Rattle.std.specs.Option.{option_or}
use Rattle.percent_encoding.specs.Percent.{percent_decode}
use Rattle.sw_words.proofs.Rules.{kept, neither}
use Rattle.sw_types.specs.Head.{HeadModel, Pair, head_fault}
use Rattle.sw_types.specs.Name.{NameModel}
use Rattle.sw_types.specs.declared.head.HeadFault.{HeadFault}
use Rattle.sw_httpread.specs.Request.{RequestHeadModel}
use Rattle.sw_request.specs.Framing.{framing_of}
use Rattle.sw_request.specs.Metadata.{content_type_in, head_in, pairs_in}
use Rattle.sw_request.specs.Refusal.{framing_refusal, head_refusal, host_refusal, is_put, length_refusal, metadata_refusal, method_of, method_refusal, name_in, parts_refusal, target_refusal}
use Rattle.sw_request.specs.Target.{has_whole_escapes, parts_in, path_in}
use Rattle.sw_request.specs.declared.refusal.Refusal.{Refusal}
use Rattle.sw_request.specs.declared.refusal.Refusal.TheVariants.{BadEscape, BadMeta}

-- ---- the first of several

pub first_three : (one two three rest : Option Refusal) (why : Refusal) → option_or one (option_or two three) ≡ Some why → option_or one (option_or two (option_or three rest)) ≡ Some why
first_three (Some x) two three rest why is = is
first_three None (Some x) three rest why is = is
first_three None None (Some x) rest why is = is
first_three None None None rest why is = absurd (cc)

pub none_of_three : (one two three rest : Option Refusal) → option_or one (option_or two three) ≡ None → option_or one (option_or two (option_or three rest)) ≡ rest
none_of_three (Some x) two three rest is = absurd (cc)
none_of_three None (Some x) three rest is = absurd (cc)
none_of_three None None (Some x) rest is = absurd (cc)
none_of_three None None None rest is = refl

-- ---- no defect

record HasNone (head : RequestHeadModel) : Type 0 where
  framing : framing_refusal head ≡ None
  method : method_refusal head ≡ None
  target : target_refusal head.target ≡ None
  metadata : metadata_refusal head ≡ None

has_none : (head : RequestHeadModel) → head_refusal head ≡ None → HasNone head
has_none head none =
    let host = neither (host_refusal head) _ none in
    let framing = neither (framing_refusal head) _ host.1 in
    let method = neither (method_refusal head) _ framing.1 in
    let target = neither (target_refusal head.target) _ method.1 in
    let length = neither (length_refusal (is_put head) (framing_of head)) _ target.1 in
    record { framing = framing.0; method = method.0; target = target.0; metadata = length.1 }

there : {A B : Type 0} (found : Option A) (fault : B) → cond (is_none found) (Some fault) None ≡ None → found ≡ None → ⊥
there None fault none is = absurd (cc)
there (Some x) fault none is = absurd (cc)

-- the framing is told
pub framing_told : (head : RequestHeadModel) → head_refusal head ≡ None → framing_of head ≡ None → ⊥
framing_told head none = there (framing_of head) _ (has_none head none).framing

-- there is such a method
pub method_there : (head : RequestHeadModel) → head_refusal head ≡ None → method_of head.method ≡ None → ⊥
method_there head none = there (method_of head.method) _ (has_none head none).method

some_parts : (parts : Option NameModel) → parts_refusal parts ≡ None → parts ≡ None → ⊥
some_parts None none is = absurd (cc)
some_parts (Some parts) none is = absurd (cc)

-- there is a name
pub name_there : (head : RequestHeadModel) → head_refusal head ≡ None → name_in head ≡ None → ⊥
name_there head none =
    some_parts (name_in head) (kept (not (has_whole_escapes (path_in head.target))) BadEscape (parts_refusal (parts_in (percent_decode (path_in head.target)))) (has_none head none).target).1

no_fault : (put : Bool) (fault : Option HeadFault) → put ≡ true → cond (put && is_some fault) (Some BadMeta) None ≡ None → fault ≡ None
no_fault true None is none = refl
no_fault true (Some fault) is none = absurd (cc)
no_fault false fault is none = absurd (cc)

-- what is put keeps the rules
head_keeps : (head : RequestHeadModel) → head_refusal head ≡ None → is_put head ≡ true → head_fault (head_in head.fields) ≡ None
head_keeps head none put = no_fault (is_put head) (head_fault (head_in head.fields)) put (has_none head none).metadata

pub head_keeps_as : (head : RequestHeadModel) (content_type : List ℕ) (pairs : List Pair) → head_refusal head ≡ None → is_put head ≡ true → content_type ≡ content_type_in head.fields → pairs ≡ pairs_in head.fields
    → head_fault (record { content_type = content_type; pairs = pairs }) ≡ None
head_keeps_as head content_type pairs none put type told =
    ap (λ (t : List ℕ). head_fault (record { content_type = t; pairs = pairs })) type
    ∙ ap (λ (p : List Pair). head_fault (record { content_type = content_type_in head.fields; pairs = p })) told ∙ head_keeps head none put

-- ---- metadata

meta_kept_by : (put : Bool) (fault : Option HeadFault) → fault ≡ None → cond (put && is_some fault) (Some BadMeta) None ≡ None
meta_kept_by true None is = refl
meta_kept_by true (Some fault) is = absurd (cc)
meta_kept_by false fault is = refl

meta_broken_by : (put : Bool) (found : Option HeadFault) (fault : HeadFault) → put ≡ true → found ≡ Some fault → cond (put && is_some found) (Some BadMeta) None ≡ Some BadMeta
meta_broken_by true None fault put is = absurd (cc)
meta_broken_by true (Some other) fault put is = refl
meta_broken_by false found fault put is = absurd (cc)

pub metadata_kept : (head : RequestHeadModel) (made : HeadModel) → made ≡ head_in head.fields → head_fault made ≡ None → None ≡ metadata_refusal head
metadata_kept head made is none = sym (meta_kept_by (is_put head) (head_fault (head_in head.fields)) (ap head_fault (sym is) ∙ none))

pub metadata_broken : (head : RequestHeadModel) (made : HeadModel) (fault : HeadFault) → is_put head ≡ true → made ≡ head_in head.fields → head_fault made ≡ Some fault → Some BadMeta ≡ metadata_refusal head
metadata_broken head made fault put is broken = sym (meta_broken_by (is_put head) (head_fault (head_in head.fields)) fault put (ap head_fault (sym is) ∙ broken))
