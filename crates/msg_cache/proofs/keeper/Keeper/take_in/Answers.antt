use Rattle.std.proofs.Common.{◌≡◌, sym, ◌∙◌, subst}
use Rattle.msg_cache.specs.declared.view.KeeperView.{KeeperView}
use Rattle.msg_cache.specs.Rule.{TidyBy}
use Rattle.msg_cache.specs.Plays.{taken_in}
use Rattle.msg_cache.specs.Keeping.{InOrder}
use Rattle.std.proofs.Common.{rules}
use Rattle.msg_tables.specs.History.{lookup}
use Rattle.msg_cache.specs.Plays.{keeper_of}
use Rattle.msg_cache.proofs.OrderLemmas.{kept_taken}
use Rattle.msg_cache.specs.Layout.{SettingView}
use Rattle.msg_cache.proofs.keeper.Keeper.take_in.Goals as goal

pub returns-clause-arena : goal.returns-clause-arena
returns-clause-arena c =
    let key = c.args.arena.now.key in
    let s = c.args.self.now in
    let k = keeper_of s.seat.me.0 in
    let v = c.args.prober.sender in
    let two : keeper_of c.witness.new.seat.me.0 ≡ taken_in v k = search rules in (
      c.witness.ensures.seat.0 ∙ c.join_sender.ensures.seat.0 ∙ c.requires.arena.0,
      subst (λ (y : KeeperView). InOrder lookup key y s.remembered.items s.occupied.items) (sym two)
          (kept_taken lookup key k s.remembered.items s.occupied.items c.requires.arena.1 v (subst (λ (x : SettingView × KeeperView). TidyBy lookup x.0 x.1) (λ i. (c.shared-shared.ensures.key i, two i)) c.witness.ensures.tidy)),
      c.requires.arena.2,
    )
