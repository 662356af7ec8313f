use Rattle.std.proofs.Common.{◌≡◌, length, take}
use Rattle.msg_host.proofs.config.HostConfig.array_counts.Given as goal

abbrev pub invariant-loop-place : goal.invariant-loop-place
invariant-loop-place l = record {
  long : length l.counts ≡ 9;
  copied : take l.place l.counts ≡ take l.place l.self.arrays;
}
