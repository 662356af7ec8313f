use Rattle.std.proofs.Common.{ap, subst, sym, ◌∙◌}
use Rattle.msg_names.specs.Number.{selector_number, imp_number}
use Rattle.msg_tables.specs.History.{History}
use Rattle.msg_cache.specs.Views.{ArenaView, classes, layout}
use Rattle.msg_cache.specs.declared.view.KeeperView.{KeeperView}
use Rattle.msg_runtime.specs.Calls.{CachesAnswer}
use Rattle.msg_reader.specs.Notes.{StayStamped}
use Rattle.msg_runtime.specs.View.{RuntimeView}
use Rattle.msg_host.specs.Config.{IsHostOrigin}
use Rattle.msg_host.proofs.runtime.HostedRuntime.answer.Goals as goal

-- a fill leaves the turn away
pub invariant_of-self : goal.invariant_of-self
invariant_of-self c =
    let was = c.self.inside.runtime in
    let e = c.answer_noted.ensures in
    let (filled, (answer, fills, counts), now) = e.cached in
    let open_kept = c.an_opening_changes_a_stamp_alone.ensures (layout was.arena) c.args.class filled in
    let kept = c.a_fill_changes_caches_alone.ensures (layout was.arena) was.remembered c.args.class (selector_number c.args.sel) (imp_number c.answer_noted.result) was.keeper filled answer fills in
    record {
      arena = c.self.invariant.arena ∙ sym e.arena;
      turn = c.self.invariant.turn ∙ ap (λ (a : ArenaView). a.table) (sym e.arena);
      away = ap (λ (k : KeeperView). k.turn) now ∙ open_kept.3 ∙ kept.2 ∙ c.self.invariant.away;
      classes = c.self.invariant.classes ∙ ap classes (sym e.arena);
      few_classes = c.self.invariant.few_classes;
      history = ap (λ (h : History). h.origin) e.history ∙ c.self.invariant.history ∙ ap (λ (a : ArenaView). a.key.origin) (sym e.arena);
      hosts = subst (λ (a : ArenaView). IsHostOrigin a.key.origin) (sym e.arena) c.self.invariant.hosts;
    }

pub returns-clause-cached : goal.returns-clause-cached
returns-clause-cached c =
    let cached = subst (λ (v : RuntimeView). CachesAnswer c.args.class c.args.sel c.answer_noted.result c.sender.inside.reader.sender v c.answer_noted.new.self) c.self.view_is c.answer_noted.ensures.cached in
    subst (λ v. CachesAnswer c.args.class c.args.sel c.answer_noted.result v.seen c.args.self.now c.answer_noted.new.self) c.sender.view_is cached

pub returns-clause-stamped : goal.returns-clause-stamped
returns-clause-stamped c = subst (λ (v : RuntimeView). StayStamped (layout v.arena) c.args.notes.now c.answer_noted.new.notes) c.self.view_is c.answer_noted.ensures.stamped
