use Rattle.std.proofs.Common.{ap}
use Rattle.msg_cache.specs.Layout.{layout_of}
use Rattle.msg_cache.specs.Uses.{StandingsView}
use Rattle.msg_cache.specs.Plays.{keeper_of}
use Rattle.msg_cache.proofs.OrderLemmas.{lowest_is}
use Rattle.msg_cache.proofs.keeper.Keeper.free_array.Goals as goal

pub returns-clause-lowest : goal.returns-clause-lowest
returns-clause-lowest c =
    let s = c.args.self.now in
    lowest_is (layout_of c.args.arena.now.key) c.args.capacity (keeper_of s.seat.me.0) c.group-from.result.0 c.group-from.result.1 c.group-from.ensures s.standings.uses (ap (λ (v : StandingsView). v.uses) s.standings_are) c.first_free.result c.first_free.ensures.none c.first_free.ensures.some
