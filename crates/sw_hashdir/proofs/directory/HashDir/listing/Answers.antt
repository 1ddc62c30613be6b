use Rattle.std.proofs.Common.{◌∙◌}
use Rattle.sw_hashdir.proofs.Listings.{listing_is}
use Rattle.sw_hashdir.proofs.directory.HashDir.listing.Goals as goal

pub returns : goal.returns
returns c =
    listing_is c.args.self.now c.deref.result.now c.deref-2.result.now
    (record { entries = c.in_ok-entries_of.field-0.items; tombstones = c.in_ok-tombstones_of.field-0.items })
    (c.deref.ensures.value ∙ c.self.view_is)
    (c.deref-2.ensures.value ∙ c.self.view_is)
    c.in_ok-entries_of.ensures.all
    c.in_ok-entries_of.ensures.ascend
    c.in_ok-tombstones_of.ensures.all
    c.in_ok-tombstones_of.ensures.ascend
