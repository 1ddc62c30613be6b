use Rattle.std.proofs.Common.{inl, inr, refl, ◌∙◌}
use Rattle.std.proofs.lemmas.Result.{err_from_is_err_and}
use Rattle.sw_hashpath.specs.Place.{folder_of}
use Rattle.sw_hashpath.specs.declared.file_name.FileName.TheVariants.{Data}
use Rattle.sw_message.specs.Table.{FetchGone, HandlesFetch}
use Rattle.sw_message.specs.declared.reply.Reply.TheVariants.{Gone}
use Rattle.sw_objsrv.proofs.AfterLook.{directory_looked, handles_at_once, has_file, keeps_after}
use Rattle.sw_objsrv.proofs.Fetched.{fetched, stops_read}
use Rattle.sw_hashdir.proofs.Laws.{entry_there}
use Rattle.sw_objsrv.proofs.reading.fetch.Goals as goal

pub returns-in_default-clause-handles : goal.returns-in_default-clause-handles
returns-in_default-clause-handles g c =
    let place = c.args.place.now in
    let dir = c.in_ok-looked.looked.dir in
    let listing = c.in_ok-listing.field-0 in
    let Row = HandlesFetch c.args.cluster.now place c.args.stamp c.args.index in
    inl (handles_at_once g.D.Disk.seen g.D.Disk.left_since (folder_of place) Row dir (Gone listing) c.args.disk.now c.look_at.new.disk c.in_ok-looked.ensures.runs c.in_ok-looked.ensures.directory
    (tt, λ bytes room. FetchGone c.in_default.ensures listing c.in_ok-listing.ensures refl))

pub fetch-requires-clause-index : goal.fetch-requires-clause-index
fetch-requires-clause-index g c =
    let entry = c.in-Some.entry in
    c.in_ok-looked.looked.indexes entry.stamp entry.index entry.durable (entry_there c.in_ok-looked.looked.dir entry.stamp entry.index entry.durable c.in-Some.ensures.2)

pub fetch-requires-clause-there : goal.fetch-requires-clause-there
fetch-requires-clause-there g c =
    let entry = c.in-Some.entry in
    let dir = c.in_ok-looked.looked.dir in
    let name = Data entry.stamp entry.index entry.durable in
    let directory = directory_looked g.D.Disk.seen g.D.Disk.left_since (folder_of c.args.place.now) dir c.args.disk.now c.look_at.new.disk c.in_ok-looked.ensures.runs c.in_ok-looked.ensures.directory in
    rw (c.deref.ensures, c.in_ok-looked.ensures.folder)
    (has_file (g.D.Disk.seen c.look_at.new.disk).told (folder_of c.args.place.now) dir directory name (entry_there dir entry.stamp entry.index entry.durable c.in-Some.ensures.2))

pub returns-clause-handles : goal.returns-clause-handles
returns-clause-handles g c =
    let entry = c.in-Some in
    let place = c.args.place.now in
    inl (inr (fetched c.args.cluster.now place c.args.stamp c.args.index c.in_ok-looked.looked.dir entry.entry entry.ensures.0 entry.ensures.1 entry.ensures.2 g.D.Disk.seen g.D.Disk.left_since c.args.disk.now c.look_at.new.disk c.fetch.new.disk
    c.in_ok-looked.ensures.directory c.in_ok-looked.ensures.runs c.deref.result.now (c.deref.ensures ∙ c.in_ok-looked.ensures.folder) c.in_ok-bytes.bytes c.in_ok-bytes.ensures.bytes c.in_ok-bytes.ensures.runs
    c.reply_of.result (rw c.new.ensures at c.reply_of.ensures)))

pub returns-in_err-bytes-clause-handles : goal.returns-in_err-bytes-clause-handles
returns-in_err-bytes-clause-handles g c =
    let p = err_from_is_err_and c.from_residual-in_err-bytes.result c.from_residual-in_err-bytes.ensures.1 in
    let entry = c.in-Some in
    rw (p.1, p.2) (inr (stops_read c.args.cluster.now c.args.place.now c.args.stamp c.args.index c.in_ok-looked.looked.dir entry.entry entry.ensures.0 entry.ensures.1 entry.ensures.2 g.D.Disk.seen g.D.Disk.left_since c.args.disk.now c.look_at.new.disk c.fetch.new.disk
    c.in_ok-looked.ensures.directory c.in_ok-looked.ensures.runs c.deref.result.now (c.deref.ensures ∙ c.in_ok-looked.ensures.folder) c.in_err-bytes.field-0.0 c.in_err-bytes.ensures.never_full c.in_err-bytes.ensures.runs))

pub returns-in_err-bytes-clause-kept : goal.returns-in_err-bytes-clause-kept
returns-in_err-bytes-clause-kept g c =
    keeps_after g.D.Disk.seen g.D.Disk.left_since (folder_of c.args.place.now) g.D.Disk.tells c.args.disk.now c.look_at.new.disk c.fetch.new.disk (g.met.D.Disk.telling c.args.disk.now) (g.met.D.Disk.telling c.look_at.new.disk)
    c.in_ok-looked.ensures.runs c.in_ok-looked.ensures.kept c.in_err-bytes.ensures.kept

pub returns-clause-kept : goal.returns-clause-kept
returns-clause-kept g c =
    keeps_after g.D.Disk.seen g.D.Disk.left_since (folder_of c.args.place.now) g.D.Disk.tells c.args.disk.now c.look_at.new.disk c.fetch.new.disk (g.met.D.Disk.telling c.args.disk.now) (g.met.D.Disk.telling c.look_at.new.disk)
    c.in_ok-looked.ensures.runs c.in_ok-looked.ensures.kept c.in_ok-bytes.ensures.kept
