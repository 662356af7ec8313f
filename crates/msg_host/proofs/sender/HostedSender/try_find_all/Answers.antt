use Rattle.std.proofs.Common.{◌≡◌, ap, length, subst, sym, ◌∙◌}
use Rattle.msg_cache.specs.Views.{ArenaView, layout}
use Rattle.msg_reader.specs.Cost.{ProbesAtMost}
use Rattle.msg_reader.specs.Notes.{StayStamped}
use Rattle.msg_reader.specs.Several.{AreNoted, LackOne, MissOne}
use Rattle.msg_host.specs.View.{SenderView}
use Rattle.msg_host.proofs.LookupLemmas.{if_found, if_lacking}
use Rattle.msg_host.proofs.sender.HostedSender.try_find_all.Goals as goal

pub returns-clause-found : goal.returns-clause-found
returns-clause-found g c = λ is.
    rw (← c.self.view_is) (if_found c.self.inside.reader.sender c.try_find_all.new.self.sender (g.L.LookupList.lookups c.args.lookups.now) c.try_find_all.new.imps c.try_find_all.result c.try_find_all.ensures.begins (sym c.is_some.ensures ∙ is) c.try_find_all.ensures.found)

pub returns-clause-recalled : goal.returns-clause-recalled
returns-clause-recalled g c = λ none.
    rw (← c.self.view_is) (if_lacking (LackOne c.args.notes.now (g.L.LookupList.lookups c.args.lookups.now) c.self.inside.reader.sender c.try_find_all.new.self.sender) c.try_find_all.result (sym c.is_some.ensures ∙ none) c.try_find_all.ensures.recalled)

pub returns-clause-missed : goal.returns-clause-missed
returns-clause-missed g c = λ none.
    let arena : c.deref.result.now ≡ c.args.self.now.arena = c.deref.ensures ∙ ap (λ (v : SenderView). v.arena) c.self.view_is in
    let missed = if_lacking (MissOne c.deref.result.now (g.L.LookupList.lookups c.args.lookups.now) c.self.inside.reader.sender c.try_find_all.new.self.sender) c.try_find_all.result (sym c.is_some.ensures ∙ none) c.try_find_all.ensures.missed in
    let here = subst (λ (a : ArenaView). MissOne a (g.L.LookupList.lookups c.args.lookups.now) c.self.inside.reader.sender c.try_find_all.new.self.sender) arena missed in
    subst (λ (v : SenderView). MissOne c.args.self.now.arena (g.L.LookupList.lookups c.args.lookups.now) v.seen c.try_find_all.new.self.sender) c.self.view_is here

pub returns-clause-stamped : goal.returns-clause-stamped
returns-clause-stamped g c =
    subst (λ (a : ArenaView). StayStamped (layout a) c.args.notes.now c.try_find_all.new.notes) (c.deref.ensures ∙ ap (λ (v : SenderView). v.arena) c.self.view_is) c.try_find_all.ensures.stamped

pub returns-clause-noted : goal.returns-clause-noted
returns-clause-noted g c = λ is.
    let noted = c.try_find_all.ensures.noted (sym c.is_some.ensures ∙ is) in
    subst (λ (v : SenderView). AreNoted c.try_find_all.new.notes v.seen c.try_find_all.new.self.sender (g.L.LookupList.lookups c.args.lookups.now) c.try_find_all.new.imps) c.self.view_is noted

pub returns-clause-probed : goal.returns-clause-probed
returns-clause-probed g c =
    subst (λ (v : SenderView). ProbesAtMost (length (g.L.LookupList.lookups c.args.lookups.now)) v.seen c.try_find_all.new.self.sender) c.self.view_is c.try_find_all.ensures.probed
