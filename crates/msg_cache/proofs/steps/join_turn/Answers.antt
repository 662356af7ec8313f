use Rattle.std.proofs.Common.{sym, ap, subst}
use Rattle.atomic_table.specs.Table.{Joins}
use Rattle.msg_tables.specs.History.{lookup}
use Rattle.msg_cache.specs.declared.view.View.{View}
use Rattle.msg_cache.specs.declared.view.View.TheVariants.{Spent}
use Rattle.msg_cache.specs.Rule.{holds}
use Rattle.msg_cache.specs.Plays.{Sat, turn_of, joined}
use Rattle.msg_cache.proofs.AllowedKeeper.{home_allowed}
use Rattle.msg_cache.proofs.steps.join_turn.Goals as goal

pub join_seat-requires : goal.join_seat-requires
join_seat-requires c =
    let m = c.args.seat.now.me in
    let o = c.args.other.me in
    let key = c.args.words.now.key in
    let me = c.requires.keeper in
    let it = c.requires.turn in (
      c.requires.table.0,
      c.requires.other,
      ap (λ (x : Sat). x.1) it,
      c.requires.table.1,
      subst (λ (x : View × View). Joins (holds lookup key) c.args.seat.now.id m.0 c.args.other.id x.0 (joined x.1 x.0) Spent) (λ i. ((sym it i).0, (sym me i).0))
          (home_allowed lookup key 0 c.args.seat.now.id m me c.args.other.id (turn_of o.0)),
    )
