-- The bytes of responses.
use Rattle.std.specs.Prelude.{ℕ, Bool, List, [], ◌∷◌, ◌++◌, codes, if◌then◌else◌, map, unwrap_or}
use Rattle.std.specs.List.{flat_map}
use Rattle.http.specs.StatusCode.{code_digits, reason_phrase}
use Rattle.sw_httpwrite.specs.Answer.{AnswerModel, Field}

-- the phrase of a status that has one
unfoldable pub phrase_of : ℕ → List ℕ
phrase_of status = unwrap_or (reason_phrase status) []

-- the status line (RFC 9112, section 4)
abbrev pub status_line : ℕ → List ℕ
status_line status = codes "HTTP/1.1 " ++ code_digits status ++ codes " " ++ phrase_of status

-- the line of a field (RFC 9112, section 5)
abbrev pub field_line : Field → List ℕ
field_line field = field.0 ++ (codes ": " ++ field.1)

-- the line that says that the connection is closed (RFC 9112, section 9.6), where it is
abbrev pub close_lines : Bool → List (List ℕ)
close_lines close = if close then codes "Connection: close" ∷ [] else []

-- the lines before the empty one: the status line, the fields in order
abbrev pub head_lines : AnswerModel → List (List ℕ)
head_lines answer = status_line answer.status ∷ map field_line answer.fields ++ close_lines answer.close

-- a line with its end: a carriage return and a line feed
abbrev pub ended : List ℕ → List ℕ
ended line = line ++ 13 ∷ 10 ∷ []

-- the head, with the empty line, and the body (RFC 9112, section 2.1)
unfoldable pub head_bytes : AnswerModel → List ℕ
head_bytes answer = flat_map ended (head_lines answer) ++ ended []

abbrev pub response_bytes : AnswerModel → List ℕ
response_bytes answer = head_bytes answer ++ answer.body

-- the interim response for a client that waits before it sends a body (RFC 9110, section 15.2.1)
abbrev pub continue_bytes : List ℕ
continue_bytes = ended (status_line 100) ++ ended []
