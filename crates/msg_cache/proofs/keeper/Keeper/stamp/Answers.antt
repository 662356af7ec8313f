use Rattle.std.proofs.Common.{◌≡◌, ℕ, sym, ap, ◌∙◌, subst}
use Rattle.msg_cache.specs.declared.view.KeeperView.{KeeperView}
use Rattle.msg_cache.specs.Layout.{layout_of, stamp_at, SettingView}
use Rattle.msg_cache.specs.Rule.{TidyBy}
use Rattle.msg_cache.specs.Plays.{Sat, keeper_of, stored}
use Rattle.msg_cache.specs.Keeping.{InOrder}
use Rattle.msg_tables.specs.History.{lookup}
use Rattle.msg_cache.proofs.OrderLemmas.{kept_stamped}
use Rattle.msg_cache.proofs.keeper.Keeper.stamp.Goals as goal

pub returns-clause-arena : goal.returns-clause-arena
returns-clause-arena c =
    let key = c.args.arena.now.key in
    let s = c.args.self.now in
    let k = keeper_of s.seat.me.0 in
    let w : ℕ = c.args.count in
    let kept_is = c.requires.arena.1 in
    let view : keeper_of c.store_stamp.new.seat.me.0 ≡ stored (stamp_at (layout_of key) c.args.class) w k =
    ap (λ (x : Sat). keeper_of x.0) c.store_stamp.ensures.told ∙ ap (λ (i : ℕ). stored i w k) c.stamp_at-place.ensures.place in (
      c.store_stamp.ensures.seat.0 ∙ c.requires.arena.0,
      subst (λ (x : KeeperView). InOrder lookup key x s.remembered.items s.occupied.items) (sym view)
          (kept_stamped lookup key k s.remembered.items s.occupied.items kept_is c.args.class w (subst (λ (x : SettingView × KeeperView). TidyBy lookup x.0 x.1) (λ i. (c.shared-shared.ensures.key i, view i)) c.store_stamp.ensures.tidy)),
      c.requires.arena.2,
    )
