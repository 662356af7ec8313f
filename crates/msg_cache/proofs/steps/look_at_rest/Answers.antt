use mathlib.Core.Option.{none}
use Rattle.atomic_table.specs.Table.{step}
use Rattle.msg_tables.specs.History.{lookup}
use Rattle.msg_cache.specs.Plays.{RestLooks}
use Rattle.msg_cache.proofs.AllowedKeeper.{rest_allowed, tidied, kept_is}
use Rattle.msg_cache.proofs.steps.look_at_rest.Goals as goal

pub load-requires : goal.load-requires
load-requires g c =
    let seat = c.args.seat.now in
    let key = c.args.words.now.key in
    let n = c.args.words.now.table_id.slots in (
      c.requires.table.0,
      c.requires.table.1,
      rw (c.requires.about.0, c.requires.about.1)
          (tidied lookup key n seat.id seat.me c.requires.keeper 0 (λ x. x) (RestLooks c.args._number key.senders (step n 0 0 0 none) seat.me)
          (rest_allowed lookup key n seat.id seat.me c.requires.keeper c.args._number c.requires.number c.requires.nobody)
          (λ x m' t. kept_is _ m' t)),
    )
