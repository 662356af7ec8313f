-- A flush leaves the keeper's history as it was.
use Rattle.std.proofs.Common.{◌≡◌, Bool, true, false, cond, ap}
use Rattle.msg_names.specs.declared.value.ClassRef.{ClassRef}
use Rattle.msg_cache.specs.Plays.{flushed}
use Rattle.msg_cache.specs.declared.view.KeeperView.{KeeperView}

pub flushed_history : (b : Bool) (c : ClassRef) (k k' : KeeperView) → k' ≡ cond b (flushed c k) k → k'.history ≡ k.history
flushed_history true c k k' same = ap (λ (j : KeeperView). j.history) same
flushed_history false c k k' same = ap (λ (j : KeeperView). j.history) same
