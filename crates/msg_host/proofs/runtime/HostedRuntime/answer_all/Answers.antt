use Rattle.std.proofs.Common.{ap, subst, sym, ◌∙◌}
use Rattle.msg_tables.specs.History.{History}
use Rattle.msg_cache.specs.Views.{ArenaView, classes, layout}
use Rattle.msg_reader.specs.Notes.{StayStamped}
use Rattle.msg_reader.specs.Several.{AreNotedOrAt}
use Rattle.msg_runtime.specs.View.{RuntimeView}
use Rattle.msg_host.specs.View.{SenderView}
use Rattle.msg_host.specs.Config.{IsHostOrigin}
use Rattle.msg_host.proofs.runtime.HostedRuntime.answer_all.Goals as goal

pub invariant_of-self : goal.invariant_of-self
invariant_of-self g c =
    let e = c.answer_all.ensures in
    record {
      arena = c.self.invariant.arena ∙ sym e.arena;
      turn = e.turn ∙ ap (λ (a : ArenaView). a.table) (sym e.arena);
      away = e.away;
      classes = c.self.invariant.classes ∙ ap classes (sym e.arena);
      few_classes = c.self.invariant.few_classes;
      history = ap (λ (h : History). h.origin) e.history ∙ c.self.invariant.history ∙ ap (λ (a : ArenaView). a.key.origin) (sym e.arena);
      hosts = subst (λ (a : ArenaView). IsHostOrigin a.key.origin) (sym e.arena) c.self.invariant.hosts;
    }

pub returns-clause-stamped : goal.returns-clause-stamped
returns-clause-stamped g c = subst (λ (v : RuntimeView). StayStamped (layout v.arena) c.args.notes.now c.answer_all.new.notes) c.self.view_is c.answer_all.ensures.stamped

pub returns-clause-noted : goal.returns-clause-noted
returns-clause-noted g c =
    let ks = g.L.LookupList.lookups c.args.lookups.now in
    subst (λ (x : RuntimeView × SenderView). AreNotedOrAt x.0.keeper.history c.answer_all.new.notes x.1.seen c.answer_all.new.reader.sender ks c.answer_all.new.imps) (λ k. (c.self.view_is k, c.sender.view_is k)) c.answer_all.ensures.noted
