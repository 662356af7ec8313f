use Rattle.std.proofs.Common.{ℕ, sym, subst}
use mathlib.Core.Option.{none}
use Rattle.atomic_table.specs.Table.{step, Allows}
use Rattle.msg_tables.specs.History.{lookup}
use Rattle.msg_model.specs.declared.state.Whereabouts.TheVariants.{In}
use Rattle.msg_cache.specs.Plays.{Goes}
use Rattle.msg_cache.specs.Rule.{holds}
use Rattle.msg_cache.proofs.AllowedSender.{enter_allowed}
use Rattle.msg_cache.proofs.steps.enter.Goals as goal

pub store-requires : goal.store-requires
store-requires c =
    let seat = c.args.seat.now in
    let key = c.args.words.now.key in
    let n = c.args.words.now.table_id.slots in (
      c.requires.table.0,
      c.requires.table.1,
      subst (λ (i : ℕ). Allows (holds lookup key) n seat.id seat.me i (λ _. 1) (λ _. Goes In (step n i 1 0 none) seat.me 1)) (sym c.requires.word)
          (enter_allowed lookup key n seat.id seat.me c.requires.sender c.requires.out),
    )
