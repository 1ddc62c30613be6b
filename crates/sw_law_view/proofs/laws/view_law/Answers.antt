use Rattle.sw_law_view.proofs.Duties.{duties}
use Rattle.sw_law_view.proofs.Fresh.{empty_sound, guarded}
use Rattle.sw_law_view.proofs.Held.{held_still}
use Rattle.sw_law_view.proofs.Listings.{listings_still}
use Rattle.sw_law_view.proofs.Replies.{replies as all_replies}
use Rattle.sw_law_view.proofs.Stays.{so_within, stays_closed, stays_sound as all_stay}
use Rattle.sw_law_view.proofs.laws.view_law.Goals as goal

pub returns-clause-duties : goal.returns-clause-duties
returns-clause-duties c = duties

pub returns-clause-replies : goal.returns-clause-replies
returns-clause-replies c = all_replies

pub returns-clause-listings : goal.returns-clause-listings
returns-clause-listings c = listings_still

pub returns-clause-stays : goal.returns-clause-stays
returns-clause-stays c = stays_closed

pub returns-clause-held : goal.returns-clause-held
returns-clause-held c = held_still

pub returns-clause-empty : goal.returns-clause-empty
returns-clause-empty c = empty_sound

pub returns-clause-fresh : goal.returns-clause-fresh
returns-clause-fresh c = λ cluster view stamp device mark sound is. guarded cluster view sound stamp is device mark

pub returns-clause-stays_sound : goal.returns-clause-stays_sound
returns-clause-stays_sound c = all_stay

pub returns-clause-within : goal.returns-clause-within
returns-clause-within c = so_within
