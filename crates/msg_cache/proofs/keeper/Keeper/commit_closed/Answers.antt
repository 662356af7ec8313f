-- one change is a list of it
use Rattle.std.proofs.Common.{◌∙◌}
use Rattle.msg_tables.specs.History.{log}
use Rattle.msg_tables.proofs.SeveralLemmas.{refused-one}
use Rattle.msg_cache.specs.Plays.{keeper_of}
use Rattle.msg_cache.proofs.keeper.Keeper.commit_closed.Goals as goal

pub commit_all-requires-clause-accepted : goal.commit_all-requires-clause-accepted
commit_all-requires-clause-accepted c = rw c.from_ref.ensures.value (refused-one (log (keeper_of c.args.self.now.seat.me.0).history) c.args.change.now ∙ c.requires.accepted)
