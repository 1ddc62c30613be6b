-- What an archive tells of its payload.
use Rattle.std.specs.Prelude.{ℕ, List}
use Rattle.sw_archive.specs.Archive.{ArchiveModel, magic, payload_length}
use Rattle.sw_archive.specs.Header.{HeaderModel}
use Rattle.sw_archive.specs.declared.label.Label.{Label}

-- the archive of a payload
abbrev pub labelled : Label → List ℕ → ArchiveModel
labelled label payload = record {
  k = label.code.k;
  m = label.code.m;
  index = label.index;
  segment = label.segment;
  stamp = label.stamp;
  body_length = label.body_length;
  body_md5 = label.body_md5;
  name = label.name.now;
  head = label.head.now;
  payload = payload;
}

-- its header, where the path and the head have so many bytes
abbrev pub header_told : Label → ℕ → ℕ → HeaderModel
header_told label path_length head_length = record {
  magic = magic;
  version = 1;
  k = label.code.k;
  m = label.code.m;
  index = label.index;
  segment = label.segment;
  stamp = label.stamp;
  body_length = label.body_length;
  body_md5 = label.body_md5;
  path_length = path_length;
  head_length = head_length;
  payload_length = payload_length label.code.k label.segment label.body_length;
}
