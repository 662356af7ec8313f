use Rattle.std.proofs.Common.{ℕ, List, ap, sym, subst, ◌∙◌, cond}
use Rattle.msg_tables.specs.History.{lookup}
use Rattle.msg_cache.specs.Flushes.{OnlyFlushes}
use Rattle.msg_cache.specs.declared.answer.Report.{Report}
use Rattle.msg_cache.specs.declared.view.KeeperView.{KeeperView}
use Rattle.msg_cache.specs.Layout.{layout_of}
use Rattle.msg_cache.specs.Plays.{flushed, keeper_of}
use Rattle.msg_cache.proofs.ColdLemmas.{Cold, chilled_given, chilled_history, chilled_since, close_stays, flush_stays, flush_chills}
use Rattle.msg_cache.proofs.FlushesLemmas.{only-closed, only-flushed, only-on}
use Rattle.msg_cache.proofs.keeper.Keeper.chill.Goals as goal

pub returns-clause-view : goal.returns-clause-view
returns-clause-view c =
    (c.flush.result, c.flush.ensures.flushed ∙ ap (λ (k : KeeperView). cond c.flush.result (flushed c.args.class k) k) c.close.ensures.view)

pub returns-clause-history : goal.returns-clause-history
returns-clause-history c =
    let z = layout_of c.args.arena.now.key in
    let was = keeper_of c.args.self.now.seat.me.0 in
    ap (λ (k : KeeperView). k.history) (c.flush.ensures.flushed ∙ ap (λ (k : KeeperView). cond c.flush.result (flushed c.args.class k) k) c.close.ensures.view)
    ∙ chilled_history c.flush.result c.args.class z was

pub returns-clause-given : goal.returns-clause-given
returns-clause-given c =
    let z = layout_of c.args.arena.now.key in
    let was = keeper_of c.args.self.now.seat.me.0 in
    ap (λ (k : KeeperView). k.given) (c.flush.ensures.flushed ∙ ap (λ (k : KeeperView). cond c.flush.result (flushed c.args.class k) k) c.close.ensures.view)
    ∙ chilled_given c.flush.result c.args.class z was

pub returns-clause-since : goal.returns-clause-since
returns-clause-since c =
    let z = layout_of c.args.arena.now.key in
    let was = keeper_of c.args.self.now.seat.me.0 in
    ap (λ (k : KeeperView). k.since) (c.flush.ensures.flushed ∙ ap (λ (k : KeeperView). cond c.flush.result (flushed c.args.class k) k) c.close.ensures.view)
    ∙ chilled_since c.flush.result c.args.class z was

pub returns-clause-cold : goal.returns-clause-cold
returns-clause-cold c =
    let z = layout_of c.args.arena.now.key in
    let k = keeper_of c.close.new.self.seat.me.0 in
    subst (λ (x : KeeperView). Cold z x c.args.class) (sym c.flush.ensures.flushed)
    (flush_chills z k c.args.class c.requires.class c.close.ensures.arena.1.tidy.kept.words c.flush.result c.close.ensures.closed c.flush.ensures.none)

pub returns-clause-others : goal.returns-clause-others
returns-clause-others c = λ d is.
    let z = layout_of c.args.arena.now.key in
    let was = keeper_of c.args.self.now.seat.me.0 in
    let k = keeper_of c.close.new.self.seat.me.0 in
    let one : Cold z k d = subst (λ (x : KeeperView). Cold z x d) (sym c.close.ensures.view) (close_stays z was c.args.class c.requires.class c.requires.arena.1.tidy.kept.words d is) in
    subst (λ (x : KeeperView). Cold z x d) (sym c.flush.ensures.flushed)
    (flush_stays z k c.args.class c.requires.class c.close.ensures.arena.1.tidy.kept.words c.flush.result d one)

pub returns-clause-flushes : goal.returns-clause-flushes
returns-clause-flushes c =
    let key = c.args.arena.now.key in
    let z = layout_of key in
    let old = c.args.self.now in
    let mid = c.close.new.self in
    let new = c.flush.new.self in
    let was = keeper_of old.seat.me.0 in
    let k = keeper_of mid.seat.me.0 in
    let closing : OnlyFlushes z was k old.remembered.items mid.remembered.items old.report mid.report =
    subst (λ (x : KeeperView × List ℕ × Report). OnlyFlushes z was x.0 old.remembered.items x.1 old.report x.2)
    (λ i. (sym c.close.ensures.view i, sym c.close.ensures.remembered i, sym c.close.ensures.report i))
    (only-closed z c.args.class was old.remembered.items old.report) in
    let flushing : OnlyFlushes z k (keeper_of new.seat.me.0) mid.remembered.items new.remembered.items mid.report new.report =
    subst (λ (x : KeeperView × List ℕ × Report). OnlyFlushes z k x.0 mid.remembered.items x.1 mid.report x.2)
    (λ i. (sym c.flush.ensures.flushed i, sym c.flush.ensures.remembered i, sym c.flush.ensures.report i))
    (only-flushed lookup key k mid.remembered.items mid.occupied.items c.close.ensures.arena.1 mid.report c.args.class c.requires.class c.flush.result c.flush.ensures.some c.flush.ensures.none) in
    only-on z was k (keeper_of new.seat.me.0) old.remembered.items mid.remembered.items new.remembered.items old.report mid.report new.report closing flushing
