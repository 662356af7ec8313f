use Rattle.std.proofs.Common.{◌≡◌, take, true}
use Rattle.msg_host.specs.Listing.{are_meant}
use Rattle.msg_host.proofs.listing.meant.Given as goal

-- each of the first rows means a change
abbrev pub invariant-loop-place : goal.invariant-loop-place
invariant-loop-place l = are_meant (take l.place l.rows) ≡ true
