use Rattle.std.proofs.Common.{◌∙◌}
use mathlib.Core.Option.{none}
use Rattle.atomic_table.specs.Table.{step}
use Rattle.msg_tables.specs.History.{lookup}
use Rattle.msg_cache.specs.Plays.{keeper_of, Witnesses}
use Rattle.msg_cache.proofs.AllowedKeeper.{witness_allowed, tidied, kept_is}
use Rattle.msg_cache.proofs.steps.witness.Goals as goal

pub load-requires : goal.load-requires
load-requires g c =
    let seat = c.args.seat.now in
    let key = c.args.words.now.key in
    let n = c.args.words.now.table_id.slots in (
      c.requires.table.0,
      c.requires.table.1,
      rw c.requires.about
          (tidied lookup key n seat.id seat.me c.requires.keeper 0 (λ x. x) (Witnesses (step n 0 0 0 none) seat.me)
          (witness_allowed lookup key n seat.id seat.me c.requires.keeper)
          (λ x m' t. kept_is (keeper_of seat.me.0) m' (t.0 ∙ c.requires.keeper))),
    )
