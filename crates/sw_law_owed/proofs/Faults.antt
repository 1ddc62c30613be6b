-- A failed disk's reply claims nothing and lists nothing.
use Rattle.std.proofs.Common.{inl, inr, ℕ, Bool}
use Rattle.sw_message.specs.declared.message.Msg.{Msg}
use Rattle.sw_message.specs.declared.message.Msg.TheVariants as message
use Rattle.sw_message.specs.declared.reply.Reply.TheVariants as reply
use Rattle.sw_message.specs.Warrant.{ShowsDurable}
use Rattle.sw_law_claim.specs.Claim.{Claim, Claims, ClaimsChange}

-- it is the reply to no change
no_change : (msg : Msg) (claim : Claim) → ClaimsChange msg reply.DiskFault claim → ⊥
no_change (message.PutFrag place stamp index bytes) claim none = none
no_change (message.Commit place stamp index) claim none = none
no_change (message.Delete place stamp) claim none = none
no_change msg claim none = none

-- it shows no entry durable
none_durable : (stamp index : ℕ) (msg : Msg) → ShowsDurable stamp index msg reply.DiskFault → ⊥
none_durable stamp index (message.Commit place other at) (listing, none, there) = none
none_durable stamp index msg (listing, none, there) = none

-- so it claims nothing
pub no_claim : (primary : Bool) (msg : Msg) (claim : Claim) → Claims primary msg reply.DiskFault claim → ⊥
no_claim primary msg claim (inl change) = no_change msg claim change
no_claim primary msg claim (inr (at_primary, (index, is, inl durable))) = none_durable claim.stamp index msg durable
no_claim primary msg claim (inr (at_primary, (index, is, inr (listing, none, floor, above)))) = none
