use Rattle.std.proofs.Common.{refl}
use Rattle.sw_hashpath.specs.Place.{folder_of}
use Rattle.sw_message.specs.Table.{AskListed, HandlesAsk}
use Rattle.sw_message.specs.declared.reply.Reply.TheVariants.{Held}
use Rattle.sw_objsrv.proofs.AfterLook.{handles_at_once}
use Rattle.sw_objsrv.proofs.reading.ask.Goals as goal

pub returns-clause-handles : goal.returns-clause-handles
returns-clause-handles g c =
    let place = c.args.place.now in
    let dir = c.in_ok-looked.looked.dir in
    let listing = c.in_ok-listing.field-0 in
    handles_at_once g.D.Disk.seen g.D.Disk.left_since (folder_of place) (HandlesAsk place) dir (Held listing) c.args.disk.now c.look_at.new.disk c.in_ok-looked.ensures.runs c.in_ok-looked.ensures.directory
    (tt, λ bytes room. AskListed listing c.in_ok-listing.ensures refl)
