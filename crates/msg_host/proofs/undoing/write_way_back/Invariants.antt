use Rattle.std.proofs.Common.{◌≡◌, ◌-◌, drop, length, take}
use Rattle.msg_tables.specs.Journal.{undo_journal}
use Rattle.msg_host.specs.Listing.{AreMeant}
use Rattle.msg_host.proofs.undoing.write_way_back.Given as goal

-- the first rows mean what takes the last entries back
abbrev pub invariant-loop-place : goal.invariant-loop-place
invariant-loop-place l = record {
  meant : AreMeant (take l.place l.rows) (undo_journal (drop (length l.entries - l.place) l.entries));
  length : length l.rows ≡ length l.fn.rows;
}
