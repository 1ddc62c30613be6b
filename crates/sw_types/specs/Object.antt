-- Objects: a head and a body, with the body's MD5 (RFC 1321).
use Rattle.std.specs.Prelude.{◌≡◌, ◌≤◌, ℕ, List, None, length}
use Rattle.md5.specs.Md5.{md5}
use Rattle.sw_words.specs.Bytes.{IsBytes}
use Rattle.sw_types.specs.Head.{HeadModel, head_fault}

-- what contracts see of an object
pub record ObjectModel : Type 0 where
  pub head : HeadModel
  pub body : List ℕ
  pub body_md5 : List ℕ

-- the greatest number of bytes of a body
abbrev pub greatest_body : ℕ
greatest_body = 16777216

-- the object of a head and a body
abbrev pub object_of : HeadModel → List ℕ → ObjectModel
object_of head body = record { head = head; body = body; body_md5 = md5 body }

-- what always holds of an object
pub record IsObject (object : ObjectModel) : Type 0 where
  pub head : head_fault object.head ≡ None
  pub size : length object.body ≤ greatest_body
  pub bytes : IsBytes object.body
  pub body_md5 : object.body_md5 ≡ md5 object.body
