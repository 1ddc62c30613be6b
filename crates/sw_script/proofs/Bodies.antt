-- Bodies in hex, of which it is told without memory whether there are any.
use Rattle.std.proofs.Common.{◌≡◌, ◌≢◌, ℕ, ◌%◌, Bool, true, false, List, [], ◌∷◌, length, Option, Some, None, Result, Ok, Err, IsOk, IsSome, MatchOption, is_some, refl, sym, ◌∙◌, arith}
use Rattle.std.specs.List.{list_all}
use Rattle.std.proofs.lemmas.List.Sums.{AllPass-from_list_all, list_all-from_AllPass}
use Rattle.hex.specs.Hex.{decode_of, is_hex_digit}
use Rattle.hex.specs.declared.error.FromHexError.{FromHexError}
use Rattle.hex.proofs.HexLemmas.{decode_of-digits, decode_of-ok}
use Rattle.sw_types.specs.Hex.{bytes_of_hex, if_decoded}
use Rattle.sw_types.specs.Name.{NameModel}
use Rattle.sw_types.specs.Object.{ObjectModel}
use Rattle.sw_script.specs.Line.{read_or}
use Rattle.sw_script.specs.declared.event.Job.{Job}
use Rattle.sw_script.specs.declared.event.Job.TheVariants.{Put}
use Rattle.sw_script.specs.declared.fault.LineFault.{LineFault}
use Rattle.sw_script.specs.declared.fault.LineFault.TheVariants.{BadHex, BadName, NoMemory}

pairs_by : (text : List ℕ) (read : Result (List ℕ) FromHexError) (digits : Bool) → length text % 2 ≡ 0 → decode_of text ≡ read → list_all is_hex_digit text ≡ digits → digits ≡ is_some (if_decoded read)
pairs_by text (Ok bytes) digits even is all = sym all ∙ list_all-from_AllPass is_hex_digit text (decode_of-ok text bytes is).1
pairs_by text (Err fault) false even is all = refl
pairs_by text (Err fault) true even is all =
    let decoded = decode_of-digits text even (AllPass-from_list_all is_hex_digit text all) in
    let never : Ok decoded.0 ≡ Err fault = sym decoded.1 ∙ is in
    absurd (cc)

-- of two bytes or more are those of pairs of digits
pub pairs : (word : List ℕ) → length word ≢ 0 → length word % 2 ≡ 0 → list_all is_hex_digit word ≡ is_some (bytes_of_hex word)
pairs [] some even = absurd (some refl)
pairs (first ∷ []) some even = absurd (omega (arith, even))
pairs (first ∷ second ∷ rest) some even = pairs_by (first ∷ second ∷ rest) (decode_of (first ∷ second ∷ rest)) (list_all is_hex_digit (first ∷ second ∷ rest)) even refl refl

-- what is told of a body for which there is no memory
abbrev Told : LineFault → Option ObjectModel → Type 0
Told fault object = MatchOption object (fault ≡ BadHex) (λ _. fault ≡ NoMemory)

-- a put of a name
abbrev put_by : Option NameModel → Option ObjectModel → Result Job LineFault
put_by name object = read_or BadName name (λ n. read_or BadHex object (λ o. Ok (Put n o)))

pub body_fault : (name : Option NameModel) (object : Option ObjectModel) (fault : LineFault) → IsSome name → Told fault object → fault ≢ NoMemory → put_by name object ≡ Err fault
body_fault None object fault named told other = absurd (cc)
body_fault (Some name) None fault named told other = cc
body_fault (Some name) (Some object) fault named told other = absurd (other told)

pub body_there : (name : Option NameModel) (object : Option ObjectModel) (fault : LineFault) → IsSome name → Told fault object → fault ≡ NoMemory → IsOk (put_by name object)
body_there None object fault named told none = absurd (cc)
body_there (Some name) None fault named told none = let both : BadHex ≡ NoMemory = sym told ∙ none in absurd (cc)
body_there (Some name) (Some object) fault named told none = refl
