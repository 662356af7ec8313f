-- What the fields of the keeper's copy of what arrays are for say.
use Rattle.std.specs.Prelude.{◌≡◌, ◌≢◌, ℕ, ◌+◌, ◌-◌, ◌^◌, ◌==◌, ◌&&◌, ◌<◌, ◌≤◌, nat_lt, nat_le, List, Bool, true, false, length, map, take, slice_index, slice_index_or, if◌then◌else◌}
use Rattle.std.specs.List.{range_with_len, position_or_len}
use Rattle.std.specs.VecDeque.{deque_capacity}
use Rattle.msg_tables.specs.declared.limits.TheConstants.{MOST_SENDERS}
use Rattle.msg_cache.specs.declared.standings.Standings.TheInside.{Inside}
use Rattle.msg_cache.specs.Uses.{StandingsView, ArrayUse, free, live, waiting}

-- whom an array at this place of the queue awaits: the senders whose cursors haven't passed it
unfoldable pub awaited_at : ℕ → List ℕ → ℕ → List Bool
awaited_at senders cursors place = map (λ n. nat_lt n senders && nat_le (slice_index cursors n) place) (range_with_len 0 MOST_SENDERS)

-- the place of an array in the queue, or the queue's length
abbrev pub place_of : List ℕ → ℕ → ℕ
place_of queue a = position_or_len (λ b. b == a) queue

-- the note of an array that isn't marked as free, by its place
abbrev pub use_by : ℕ → ℕ → ℕ → List ℕ → ℕ → ArrayUse
use_by end ready senders cursors place =
    if nat_le end place then live
    else if nat_lt place ready then free
    else waiting (awaited_at senders cursors (place - ready))

abbrev pub use_for : List Bool → List ℕ → ℕ → ℕ → List ℕ → ℕ → ArrayUse
use_for marks queue ready senders cursors a =
    if slice_index_or marks a true then free else use_by (length queue) ready senders cursors (place_of queue a)

-- the note of each array
abbrev pub uses : List Bool → List ℕ → ℕ → ℕ → List ℕ → List ArrayUse
uses marks queue ready senders cursors = map (use_for marks queue ready senders cursors) (range_with_len 0 (length marks))

-- how many senders there may be, the notes, and the queue's front that is to be taken out
abbrev pub standings_view : Inside → StandingsView
standings_view s = record {
  senders = s.senders;
  uses = uses s.free s.queue.items s.ready s.senders s.cursors;
  ready = take s.ready s.queue.items;
}

-- what holds of the fields
pub record IsStandings (s : Inside) : Type 0 where
  pub few_arrays : length s.free < 2 ^ 32
  pub few_senders : s.senders ≤ MOST_SENDERS
  pub cursors : length s.cursors ≡ s.senders
  -- the queue has room for all arrays, each once, and has none that is marked as free
  pub room : length s.free ≤ deque_capacity s.queue
  pub unmarked : (p : ℕ) → p < length s.queue.items → slice_index_or s.free (slice_index s.queue.items p) true ≡ false
  pub distinct : (p q : ℕ) → p < q → q < length s.queue.items → slice_index s.queue.items p ≢ slice_index s.queue.items q
  -- nobody has passed more than there is
  pub ends : s.ready ≤ length s.queue.items
  pub within : (n : ℕ) → n < s.senders → s.ready + slice_index s.cursors n ≤ length s.queue.items
