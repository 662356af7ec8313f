use Rattle.std.proofs.Common.{ℕ, refl}
use mathlib.Core.Option.{none}
use Rattle.atomic_table.specs.Table.{step}
use Rattle.msg_tables.specs.History.{lookup}
use Rattle.msg_cache.specs.Layout.{header_at}
use Rattle.msg_cache.specs.Plays.{keeper_of, Flushes, flushed}
use Rattle.msg_cache.proofs.AllowedKeeper.{flush_allowed, tidied, kept_is}
use Rattle.msg_cache.proofs.steps.store_none.Goals as goal

pub store-requires : goal.store-requires
store-requires g c =
    let seat = c.args.seat.now in
    let key = c.args.words.now.key in
    let n = c.args.words.now.table_id.slots in
    let i : ℕ = header_at c.args.class in
    rw (c.requires.about, c.header_at.ensures) (
      c.requires.table.0,
      c.requires.table.1,
      tidied lookup key n seat.id seat.me c.requires.keeper i (λ _. 0) (λ _. Flushes (step n i 0 0 none) seat.me 0)
          (flush_allowed lookup key n seat.id seat.me c.requires.keeper c.args.class c.args._array c.requires.class c.requires.live)
          (λ x m' t. kept_is (flushed c.args.class (keeper_of seat.me.0)) m' (t c.args.class refl)),
    )
