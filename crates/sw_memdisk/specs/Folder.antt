-- What is kept of a folder in memory.
use Rattle.std.specs.Prelude.{◌≡◌, ◌+◌, ◌≤◌, map, vec_capacity, vec_len}
use Rattle.sw_memdisk.specs.Held.{AllInside, AreInside, all_moved, change_of, files_in}
use Rattle.sw_memdisk.specs.Log.{Log}
use Rattle.sw_memdisk.specs.declared.folder.MemFolder.TheInside.{Inside}

abbrev pub log_of : Inside → Log
log_of f = record {
  base = files_in f.contents.items f.base.items;
  changes = map (change_of f.contents.items) f.changes.items;
  stable_at = f.stable_at.items;
}

-- there is room for the changes so far and for as many more in each list that a change may grow
pub record HasRoom (f : Inside) : Type 0 where
  pub changes : vec_len f.changes + f.room ≤ vec_capacity f.changes
  pub stable_at : vec_len f.changes + f.room ≤ vec_capacity f.stable_at
  pub contents : vec_len f.contents + f.room ≤ vec_capacity f.contents
  pub base : vec_len f.base + (vec_len f.changes + f.room) ≤ vec_capacity f.base
  pub files : vec_len f.base + (vec_len f.changes + f.room) ≤ vec_capacity f.files

pub record IsFolder (f : Inside) : Type 0 where
  pub files : f.files.items ≡ all_moved f.changes.items f.base.items
  pub stable : vec_len f.stable_at ≤ vec_len f.changes
  pub base_inside : AreInside (vec_len f.contents) f.base.items
  pub changes_inside : AllInside (vec_len f.contents) f.changes.items
  pub room : HasRoom f
