-- Words that name no command.
use Rattle.std.proofs.Common.{◌≡◌, ◌≤◌, Bool, true, false, List, [], ◌∷◌, None, length, map, refl, ap, ◌∙◌, arith, codes, String, Global, slice_index_or}
use Rattle.std.specs.Prelude.{string_bytes}
use Rattle.std.specs.Cmp.Lexicographic.{bytes_decides}
use Rattle.clap.specs.Words.{Text}
use Rattle.sw_command.specs.Words.{command_in, is_text}

differs : (text other : Text) → ¬ (text ≡ other) → is_text text other ≡ false
differs text other apart = by (is_text text other) refl
  where
    by : (same : Bool) → is_text text other ≡ same → is_text text other ≡ false
    by true is = absurd (apart ((bytes_decides text other).0 is))
    by false is = is

pub none_named : (words : List (String Global)) (word : String Global) → 2 ≤ length words → word ≡ slice_index_or words 1 word → ¬ (string_bytes word ≡ codes "play") → ¬ (string_bytes word ≡ codes "serve") → ¬ (string_bytes word ≡ codes "load")
    → None ≡ command_in (map (λ w. string_bytes w) words)
none_named [] word two at no_play no_serve no_load = absurd (omega (arith, two))
none_named (program ∷ []) word two at no_play no_serve no_load = absurd (omega (arith, two))
none_named (program ∷ name ∷ rest) word two at no_play no_serve no_load =
    let same : word ≡ name = at in
    let play : is_text (string_bytes name) (codes "play") ≡ false = differs (string_bytes name) (codes "play") (λ is. no_play (ap (λ w. string_bytes w) same ∙ is)) in
    let serve : is_text (string_bytes name) (codes "serve") ≡ false = differs (string_bytes name) (codes "serve") (λ is. no_serve (ap (λ w. string_bytes w) same ∙ is)) in
    let load : is_text (string_bytes name) (codes "load") ≡ false = differs (string_bytes name) (codes "load") (λ is. no_load (ap (λ w. string_bytes w) same ∙ is)) in
    rw (play, serve, load) refl
