use Rattle.std.proofs.Common.{◌≡◌, sym, ◌∙◌, subst}
use Rattle.msg_cache.specs.declared.view.KeeperView.{KeeperView}
use Rattle.msg_cache.specs.Plays.{lent}
use Rattle.msg_cache.specs.Keeping.{InOrder}
use Rattle.std.proofs.Common.{rules}
use Rattle.msg_tables.specs.History.{lookup}
use Rattle.msg_cache.specs.Plays.{keeper_of}
use Rattle.msg_cache.proofs.OrderLemmas.{kept_lent}
use Rattle.msg_cache.proofs.TidyLemmas.{tidy_lent}
use Rattle.msg_cache.proofs.keeper.Keeper.face.Goals as goal

pub returns-clause-arena : goal.returns-clause-arena
returns-clause-arena c =
    let key = c.args.arena.now.key in
    let s = c.args.self.now in
    let k = keeper_of s.seat.me.0 in
    let two : keeper_of c.split_turn.new.seat.me.0 ≡ lent k = search rules in (
      c.split_turn.ensures.seat.0 ∙ c.witness.ensures.seat.0 ∙ c.join_turn.ensures.seat.0 ∙ c.requires.arena.0,
      subst (λ (y : KeeperView). InOrder lookup key y s.remembered.items s.occupied.items) (sym two)
          (kept_lent lookup key k s.remembered.items s.occupied.items c.requires.arena.1 (tidy_lent lookup key k c.requires.arena.1.tidy)),
      c.requires.arena.2,
    )
