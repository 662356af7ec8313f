use Rattle.std.proofs.Common.{◌≡◌, sym, ap, ◌∙◌, subst, arith}
use Rattle.msg_cache.specs.declared.view.KeeperView.{KeeperView}
use Rattle.msg_cache.specs.Layout.{SettingView}
use Rattle.msg_cache.specs.Rule.{LiveWordsAgreeAfter, StampsAreClosedFor, TidyBy}
use Rattle.msg_cache.specs.Plays.{committed, lent}
use Rattle.msg_cache.specs.Keeping.{InOrder}
use Rattle.msg_tables.specs.History.{lookup}
use Rattle.msg_cache.specs.Plays.{Sat, keeper_of}
use Rattle.msg_cache.proofs.OrderLemmas.{kept_committed}
use Rattle.msg_cache.proofs.PastLemmas.{few_more, lookup-kept_by_all}
use Rattle.msg_cache.specs.Plays.{turn_of}
use Rattle.msg_cache.proofs.TidyLemmas.{tidy_lent, agrees_after}
use Rattle.msg_cache.proofs.keeper.Keeper.commit_all.Goals as goal

pub overflow_add-count : goal.overflow_add-count
overflow_add-count g c =
    let me = c.args.self.now in
    let few = few_more (keeper_of me.seat.me.0).history (g.L.ChangeList.changes c.args.changes.now) c.requires.arena.1.tidy.kept.accepted c.requires.some c.requires.accepted in
    let most = c.requires.arena.1.tidy.kept.accepted.origin.few_changes in
    let is = me.count_is in omega arith

pub store_count-requires-clause-turn : goal.store_count-requires-clause-turn
store_count-requires-clause-turn g c = (turn_of c.into_seat.result.me.0, ap (λ (x : Sat). (keeper_of x.0).turn) c.join_turn.ensures.told)

pub store_count-requires-clause-closed : goal.store_count-requires-clause-closed
store_count-requires-clause-closed g c =
    let key = c.args.arena.now.key in
    let me = c.args.self.now in
    let k = keeper_of me.seat.me.0 in
    let xs = g.L.ChangeList.changes c.args.changes.now in
    let few = few_more k.history xs c.requires.arena.1.tidy.kept.accepted c.requires.some c.requires.accepted in
    let most = c.requires.arena.1.tidy.kept.accepted.origin.few_changes in
    rw c.shared-shared.ensures.key (
    subst (λ (k : KeeperView). StampsAreClosedFor key k xs)
    (sym (ap (λ (x : Sat). keeper_of x.0) c.join_turn.ensures.told)) (λ d lt e. let is = c.requires.closed d lt e in omega arith))

pub store_count-requires-clause-agrees : goal.store_count-requires-clause-agrees
store_count-requires-clause-agrees g c =
    let key = c.args.arena.now.key in
    let k = keeper_of c.args.self.now.seat.me.0 in
    rw c.shared-shared.ensures.key (
    subst (λ (k : KeeperView). LiveWordsAgreeAfter lookup key k (g.L.ChangeList.changes c.args.changes.now))
    (sym (ap (λ (x : Sat). keeper_of x.0) c.join_turn.ensures.told)) (agrees_after lookup key k (g.L.ChangeList.changes c.args.changes.now) (λ d s e. lookup-kept_by_all k.history (g.L.ChangeList.changes c.args.changes.now) d s c.requires.arena.1.tidy.kept.accepted c.requires.accepted e) c.requires.arena.1.tidy c.requires.flushed))

pub returns-clause-arena : goal.returns-clause-arena
returns-clause-arena g c =
    let key = c.args.arena.now.key in
    let s = c.args.self.now in
    let k = keeper_of s.seat.me.0 in
    let x = (g.L.ChangeList.changes c.args.changes.now) in
    let one : keeper_of c.store_count.new.seat.me.0 ≡ committed x k = ap (λ (y : Sat). keeper_of y.0) c.store_count.ensures.told ∙ ap (λ (y : Sat). committed x (keeper_of y.0)) c.join_turn.ensures.told in
    let two : keeper_of c.split_turn.new.seat.me.0 ≡ lent (committed x k) = ap (λ (y : Sat). keeper_of y.0) c.split_turn.ensures.told ∙ ap lent one in (
      c.split_turn.ensures.seat.0 ∙ c.store_count.ensures.seat.0 ∙ c.join_turn.ensures.seat.0 ∙ c.requires.arena.0,
      subst (λ (y : KeeperView). InOrder lookup key y s.remembered.items s.occupied.items) (sym two)
          (kept_committed lookup key k s.remembered.items s.occupied.items c.requires.arena.1 x (tidy_lent lookup key (committed x k) (subst (λ (x : SettingView × KeeperView). TidyBy lookup x.0 x.1) (λ i. (c.shared-shared.ensures.key i, one i)) c.store_count.ensures.tidy))),
      c.requires.arena.2,
    )
