use Rattle.std.proofs.Common.{◌≡◌, ◌<◌, ◌+◌, ℕ, List, [], ◌∷◌, ◌++◌, length, map, take, get_or, String, Global, string_bytes, sym, ap, subst, ◌∙◌, arith}
use Rattle.std.specs.Cmp.Lexicographic.{slice_cmp}
use Rattle.std.specs.List.Sorted.{IsPermutation, IsSorted}
use Rattle.std.specs.Ordering.{is_lt, nat_cmp}
use Rattle.std.specs.String.{string_cmp}
use Rattle.std.proofs.lemmas.List.{get_or-map, length-map, map-append, take_all, take_more}
use Rattle.std.proofs.lemmas.List.Sorted.{IsPermutation-map}
use Rattle.sw_disk.specs.Answers.{names_of, texts_of}
use Rattle.sw_memdisk.specs.Log.{files_now}
use Rattle.sw_memdisk.specs.declared.held.Held.{Held}
use Rattle.sw_memdisk.proofs.folder.MemFolder.names.Goals as goal
use Rattle.sw_memdisk.proofs.Readings.{files_now_are, name_of, names_of_is}

one_more : (files : List Held) (i : ℕ) (held : Held) (text : List ℕ) → i < length files → held ≡ get_or files i held → text ≡ name_of held → map name_of (take i files) ++ text ∷ [] ≡ map name_of (take (i + 1) files)
one_more files i held text lt is same =
    ap (λ (t : List ℕ). map name_of (take i files) ++ t ∷ []) (same ∙ ap name_of is)
    ∙ sym (map-append name_of (take i files) (get_or files i held ∷ []))
    ∙ sym (ap (map name_of) (take_more files i held lt))

pub loop-held-preserved : goal.loop-held-preserved
loop-held-preserved c =
    let files = c.deref-held-items.result.now in
    let text : string_bytes c.in_ok-from_str.field-0 ≡ name_of c.held-item.result = c.in_ok-from_str.ensures.ok ∙ c.as_str.ensures.value in
    ap texts_of c.in_ok-push.ensures.items
    ∙ map-append string_bytes c.loop-held.names.items (c.in_ok-from_str.field-0 ∷ [])
    ∙ ap (λ (front : List (List ℕ)). front ++ string_bytes c.in_ok-from_str.field-0 ∷ []) c.loop-held.invariant
    ∙ one_more files c.loop-held.held-index c.held-item.result (string_bytes c.in_ok-from_str.field-0) c.loop-held-test.true c.held-item.is text

-- texts in order are in the order of their bytes
in_order : (texts : List (String Global)) → IsSorted string_cmp texts → IsSorted (slice_cmp nat_cmp) (texts_of texts)
in_order [] up k d low lt = absurd (omega arith)
in_order (text ∷ texts) up k d low lt =
    let short : k + 1 < length (text ∷ texts) = subst (λ (n : ℕ). k + 1 < n) (length-map (text ∷ texts) string_bytes) lt in
    let later : get_or (texts_of (text ∷ texts)) (k + 1) d ≡ string_bytes (get_or (text ∷ texts) (k + 1) text) = get_or-map string_bytes (text ∷ texts) (k + 1) text d short in
    let former : get_or (texts_of (text ∷ texts)) k d ≡ string_bytes (get_or (text ∷ texts) k text) = get_or-map string_bytes (text ∷ texts) k text d (omega arith) in
    ap (λ (t : List ℕ). is_lt (slice_cmp nat_cmp t (get_or (texts_of (text ∷ texts)) k d))) later
    ∙ ap (λ (t : List ℕ). is_lt (slice_cmp nat_cmp (string_bytes (get_or (text ∷ texts) (k + 1) text)) t)) former
    ∙ up k text low short

pub returns : goal.returns
returns c =
    let files = files_now_are c.self.inside c.self.invariant c.args.self.now.log (ap (λ m. m.log) c.self.view_is) in
    let whole = take_all c.loop-held.held-index c.deref-held-items.result.now c.loop-held-test.false ∙ c.deref-held-items.ensures.value in
    let names : texts_of c.loop-held.names.items ≡ names_of (files_now c.args.self.now.log)
    = c.loop-held.invariant ∙ ap (map name_of) whole ∙ sym (ap names_of files ∙ names_of_is c.self.inside.contents.items c.self.inside.files.items) in
    record {
      sorted = in_order c.sort_unstable.new.self.items c.sort_unstable.ensures.sorted;
      permutation = subst (λ (texts : List (List ℕ)). IsPermutation texts (texts_of c.sort_unstable.new.self.items)) names (IsPermutation-map string_bytes _ _ c.sort_unstable.ensures.permutation);
    }
