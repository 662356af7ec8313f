use Rattle.std.proofs.Common.{ℕ}
use mathlib.Core.Option.{none}
use Rattle.atomic_table.specs.Table.{step}
use Rattle.msg_tables.specs.History.{lookup}
use Rattle.msg_cache.specs.Layout.{layout_of, stamp_at}
use Rattle.msg_cache.specs.Plays.{Stores}
use Rattle.msg_cache.proofs.AllowedKeeper.{stamp_allowed, tidied, kept_is}
use Rattle.msg_cache.proofs.steps.store_stamp.Goals as goal

pub store-requires : goal.store-requires
store-requires g c =
    let seat = c.args.seat.now in
    let key = c.args.words.now.key in
    let n = c.args.words.now.table_id.slots in
    let w : ℕ = c.args.count in
    let i : ℕ = stamp_at (layout_of key) c.args._class in (
      c.requires.table.0,
      c.requires.table.1,
      rw (c.requires.about, c.requires.place)
          (tidied lookup key n seat.id seat.me c.requires.keeper i (λ _. w) (λ _. Stores (step n i w 0 none) seat.me w)
          (stamp_allowed lookup key n seat.id seat.me c.requires.keeper c.args._class w c.requires.class c.requires.since)
          (λ x m' t. kept_is _ m' t)),
    )
