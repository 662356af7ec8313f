-- What the fields of cursors say.
use Rattle.std.specs.Prelude.{◌≡◌, ℕ, ◌+◌, ◌<◌, ◌≤◌, List, Bool, true, false, nat_lt, length, map, slice_index, slice_index_or, if◌then◌else◌}
use Rattle.std.specs.List.{range_with_len}
use Rattle.msg_cache.specs.declared.cursors.Cursors.TheInside.{Inside}

-- a sender's cursor: its own below the number of those that are known, and else the one that all
-- others have
abbrev pub cursor : List ℕ → ℕ → ℕ → ℕ → ℕ
cursor own known rest n = if nat_lt n known then slice_index own n else rest

-- the cursor of each sender
abbrev pub every_cursor : List ℕ → ℕ → ℕ → List ℕ
every_cursor own known rest = map (cursor own known rest) (range_with_len 0 (length own))

-- the contracts' view of cursors: how many places each sender has passed
abbrev pub cursors_view : Inside → List ℕ
cursors_view s = every_cursor s.own.items s.known s.rest

-- what holds of the fields
pub record IsCursors (s : Inside) : Type 0 where
  pub known : s.known ≤ length s.own.items

-- ---- changes of the first cursors, one of each sender

-- who is out is then at the end, and nobody else has moved
abbrev pub HavePassed : List Bool → ℕ → ℕ → List ℕ → List ℕ → Type 0
HavePassed outs end senders old new = (n : ℕ) → n < senders → slice_index new n ≡ (if slice_index_or outs n false then end else slice_index old n)

-- each is so much nearer
abbrev pub AreCut : ℕ → ℕ → List ℕ → List ℕ → Type 0
AreCut by senders old new = (n : ℕ) → n < senders → slice_index new n + by ≡ slice_index old n

-- each is as it was
abbrev pub SameBelow : ℕ → List ℕ → List ℕ → Type 0
SameBelow senders old new = (n : ℕ) → n < senders → slice_index new n ≡ slice_index old n

-- one of them is there
abbrev pub SomeStandsAt : ℕ → List ℕ → ℕ → Type 0
SomeStandsAt senders cursors place = (n : ℕ) × (n < senders) × (slice_index cursors n ≡ place)

-- all senders from one number up to another are out
abbrev pub AreSeenOut : ℕ → ℕ → List Bool → Type 0
AreSeenOut from until outs = (n : ℕ) → from ≤ n → n < until → slice_index_or outs n false ≡ true
