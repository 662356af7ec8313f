use mathlib.Core.Option.{none}
use Rattle.atomic_table.specs.Table.{step}
use Rattle.msg_tables.specs.History.{lookup}
use Rattle.msg_cache.specs.Plays.{Commits}
use Rattle.msg_cache.proofs.AllowedKeeper.{commit_allowed, tidied, kept_is}
use Rattle.msg_cache.proofs.steps.store_count.Goals as goal

pub store-requires : goal.store-requires
store-requires g c =
    let seat = c.args.seat.now in
    let key = c.args.words.now.key in
    let n = c.args.words.now.table_id.slots in (
      c.requires.table.0,
      c.requires.table.1,
      rw (c.requires.about.0, c.requires.about.1)
          (tidied lookup key n seat.id seat.me c.requires.keeper 0 (λ _. c.args.count) (λ _. Commits (g.L.ChangeList.changes c.args.changes.now) (step n 0 c.args.count 0 none) seat.me c.args.count)
          (commit_allowed lookup key n seat.id seat.me c.requires.keeper (g.L.ChangeList.changes c.args.changes.now) c.requires.turn.0 c.requires.some c.requires.turn.1 c.requires.accepted c.requires.closed c.requires.agrees c.args.count c.requires.count)
          (λ x m' t. kept_is _ m' t.0)),
    )
