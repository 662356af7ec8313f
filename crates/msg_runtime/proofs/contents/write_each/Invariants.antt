use Rattle.std.proofs.Common.{◌≡◌, ◌++◌, length, drop}
use Rattle.msg_runtime.proofs.contents.write_each.Given as goal

-- the classes so far are written, and others are left to visit
abbrev pub invariant-loop-class : goal.invariant-loop-class
invariant-loop-class l = record {
  place : l.place ≡ length l.yielded;
  room : l.room ≡ l.yielded ++ drop (length l.yielded) l.fn.room;
  all : l.yielded ++ l.class-iterator ≡ l.fn.walk;
}
