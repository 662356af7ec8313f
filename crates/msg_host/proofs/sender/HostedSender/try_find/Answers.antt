use Rattle.std.proofs.Common.{◌<◌, ◌^◌, ap, subst, ◌∙◌, arith}
use Rattle.msg_names.specs.ClassRef.{slot_of}
use Rattle.msg_names.specs.Number.{selector_number}
use Rattle.msg_cache.specs.Views.{ArenaView, classes, layout}
use Rattle.msg_reader.specs.Notes.{StayStamped}
use Rattle.msg_reader.specs.Cost.{ProbesOnceAtMost}
use Rattle.msg_reader.specs.Kept.{IsNotedFound}
use Rattle.msg_reader.proofs.ReaderLemmas.{if_some}
use Rattle.msg_host.specs.Named.{HaveNotedLast}
use Rattle.msg_host.specs.View.{SenderView}
use Rattle.msg_host.proofs.sender.HostedSender.try_find.Goals as goal

-- an arena's classes are few, so what is noted of one is recalled
pub returns-clause-noted : goal.returns-clause-noted
returns-clause-noted c =
    let short : slot_of c.args.class < 2 ^ 26 =
    c.a_slot_of_few_classes_is_short.ensures c.args.class (omega (arith, c.requires.class, ap (λ (v : SenderView). classes v.arena) c.self.view_is, c.self.invariant.classes, c.self.invariant.few_classes)) in
    let is : SenderView = record { arena = c.args.self.now.arena; seen = c.try_find_counted.new.self.sender } in
    if_some (IsNotedFound c.try_find_counted.new.notes c.args.class c.args.sel is.seen) (HaveNotedLast c.try_find_counted.new.notes is c.args.class c.args.sel) c.try_find_counted.result
    (λ i noted. (noted.0, noted.1, noted.2 short)) c.try_find_counted.ensures.noted

pub returns-clause-stamped : goal.returns-clause-stamped
returns-clause-stamped c =
    subst (λ (a : ArenaView). StayStamped (layout a) c.args.notes.now c.try_find_counted.new.notes) (c.deref.ensures ∙ ap (λ (v : SenderView). v.arena) c.self.view_is) c.try_find_counted.ensures.stamped

pub returns-clause-probed : goal.returns-clause-probed
returns-clause-probed c =
    let at : ArenaView = c.args.self.now.arena in
    let here = subst (λ (a : ArenaView). ProbesOnceAtMost a c.args.class (selector_number c.args.sel) c.self.inside.reader.sender c.try_find_counted.new.self.sender) (c.deref.ensures ∙ ap (λ (v : SenderView). v.arena) c.self.view_is) c.try_find_counted.ensures.probed in
    subst (λ (v : SenderView). ProbesOnceAtMost at c.args.class (selector_number c.args.sel) v.seen c.try_find_counted.new.self.sender) c.self.view_is here
