use Rattle.std.proofs.Common.{◌≡◌, ◌∙◌, ap, sym, true}
use Rattle.msg_tables.specs.Affected.{is_affected}
use Rattle.msg_tables.specs.History.{History, log}
use Rattle.msg_tables.specs.Refusal.{refusal}
use Rattle.msg_model.specs.State.{Layout}
use Rattle.msg_cache.specs.declared.view.KeeperView.{KeeperView}
use Rattle.msg_cache.specs.Layout.{layout_of}
use Rattle.msg_cache.specs.Plays.{keeper_of}
use Rattle.msg_cache.specs.Rule.{live_in}
use Rattle.msg_cache.proofs.ColdLemmas.{all_closed-history, all_closed-live}
use Rattle.msg_cache.proofs.keeper.Keeper.commit.Goals as goal

pub commit_closed-requires-clause-accepted : goal.commit_closed-requires-clause-accepted
commit_closed-requires-clause-accepted c =
    let z : Layout = layout_of c.args.arena.now.key in
    let k : KeeperView = keeper_of c.args.self.now.seat.me.0 in
    let some = c.close_all.ensures.view in
    ap (λ (j : KeeperView). refusal (log j.history) c.args.change.now) some.1
    ∙ ap (λ (h : History). refusal (log h) c.args.change.now) (all_closed-history z some.0 k)
    ∙ c.requires.accepted

pub commit_closed-requires-clause-flushed : goal.commit_closed-requires-clause-flushed
commit_closed-requires-clause-flushed c = λ d lt is.
    let z : Layout = layout_of c.args.arena.now.key in
    let k : KeeperView = keeper_of c.args.self.now.seat.me.0 in
    let some = c.close_all.ensures.view in
    let same : (keeper_of c.close_all.new.self.seat.me.0).history ≡ k.history = ap (λ (j : KeeperView). j.history) some.1 ∙ all_closed-history z some.0 k in
    let was : is_affected (log k.history) c.args.change.now d ≡ true = ap (λ (h : History). is_affected (log h) c.args.change.now d) (sym same) ∙ is in
    ap (λ (j : KeeperView). live_in z j.words d) some.1 ∙ ap (λ f. f d) (all_closed-live z some.0 k) ∙ c.requires.flushed d lt was

pub returns-clause-turn_was : goal.returns-clause-turn_was
returns-clause-turn_was c =
    let z : Layout = layout_of c.args.arena.now.key in
    let some = c.close_all.ensures.view in
    c.commit_closed.ensures.turn_was ∙ ap (λ (j : KeeperView). j.history) some.1 ∙ all_closed-history z some.0 (keeper_of c.args.self.now.seat.me.0)
