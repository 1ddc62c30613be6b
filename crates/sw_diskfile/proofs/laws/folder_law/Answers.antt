use Rattle.sw_disk.specs.Folder.{files_of}
use Rattle.sw_hashpath.specs.FileName.{file_name_text}
use Rattle.sw_diskfile.proofs.Directories.{has_content, has_name}
use Rattle.sw_diskfile.proofs.Normal.{one_normal}
use Rattle.sw_diskfile.proofs.NormalForms.{normal_form}
use Rattle.sw_diskfile.proofs.laws.folder_law.Goals as goal

pub returns-clause-names : goal.returns-clause-names
returns-clause-names c = λ folder names is name. (
  λ has. let there = (is name).0 has in (there.0, has_content (files_of folder) (file_name_text name) there.1),
  λ there. (is name).1 (there.0, has_name (files_of folder) (file_name_text name) there.1),
)

pub returns-clause-exists : goal.returns-clause-exists
returns-clause-exists c = normal_form

pub returns-clause-normal : goal.returns-clause-normal
returns-clause-normal c = λ is_primary files a b first second. one_normal is_primary files a b first second
