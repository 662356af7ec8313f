-- the tables are at the longer history
use Rattle.std.proofs.Common.{rules, ◌≡◌, [], ◌∷◌, length, ap, sym, subst, ◌∙◌}
use Rattle.std.specs.Arc.{arc_value}
use Rattle.msg_tables.specs.Log as logs
use Rattle.msg_tables.specs.History.{History, and_then, log}
use Rattle.msg_tables.specs.Stands.{StandsAt}
use Rattle.msg_tables.proofs.HistoryLemmas.{log-one}
use Rattle.msg_cache.proofs.ColdLemmas.{all_closed-history}
use Rattle.msg_cache.specs.Ours.{IsOf, view}
use Rattle.msg_cache.specs.Views.{layout}
use Rattle.msg_cache.specs.declared.view.KeeperView.{KeeperView}
use Rattle.msg_dispatch_tests.proofs.desk.Desk.change.Goals as goal

pub invariant_of-self : goal.invariant_of-self
invariant_of-self g c =
    let x = c.args.change.now in
    let was = c.self.invariant.0 in
    let h = c.self.inside.turn.history in
    let stands : StandsAt c.apply_all.new.self (logs.and_then (log h) x) = search rules in
    let keeper : IsOf (arc_value c.self.inside.arena) c.commit.new.self = search rules in
    let table : c.commit.new.turn.table ≡ (arc_value c.self.inside.arena).table = search rules in
    let same = c.flush_all.ensures.history ∙ ap (λ (k : KeeperView). k.history) c.face.ensures.same ∙ sym c.face.ensures.turn_was in
    let longer : c.commit.new.turn.history ≡ and_then h (x ∷ []) =
    c.commit.ensures.turn_is ∙ ap (λ (k : KeeperView). k.history) c.commit.ensures.committed.1 ∙ ap (λ (g : History). and_then g (x ∷ [])) (all_closed-history (layout c.deref-3.result.now) c.commit.ensures.committed.0 (view c.flush_all.new.keeper) ∙ same) in (
      record {
        keeper = keeper;
        tables = subst (λ g. StandsAt c.apply_all.new.self g) (sym (ap log longer ∙ log-one h x)) stands;
        supers = c.apply_all.ensures.classes ∙ was.supers;
        two = was.two;
      },
      table,
    )
