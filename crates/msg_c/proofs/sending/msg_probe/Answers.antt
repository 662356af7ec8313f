use Rattle.std.proofs.Common.{◌≡◌, rules, subst}
use Rattle.std.specs.Prelude.{OnOk}
use Rattle.msg_reader.specs.Cost.{ProbesOnceAtMost}
use Rattle.msg_reader.specs.Kept.{MissesUnlessChanged}
use Rattle.msg_host.specs.Named.{ref_of}
use Rattle.msg_host.specs.View.{SenderView}
use Rattle.msg_c.proofs.NoteLemmas.{notes_left}
use Rattle.msg_c.proofs.sending.msg_probe.Goals as goal

pub probe-found-requires : goal.probe-found-requires
probe-found-requires c = record { notes = c.args.sender.now.noted.seen c.deref_mut.result.now.seen.front (search rules) }

pub invariant_of-sender-clause-noted : goal.invariant_of-sender-clause-noted
invariant_of-sender-clause-noted c =
    notes_left c.args.sender.now.held.state c.put.new.self.state c.take-asker.result.value c.deref_mut.result.now c.probe-found.new.self c.args.sender.now.notes c.probe-found.new.notes
    c.args.sender.now.noted c.take-asker.ensures.taken c.deref_mut.ensures.value c.probe-found.ensures.arena c.probe-found.ensures.notes c.probe-found.ensures.stamped c.put.ensures

pub returns-in-Ok-None-clause-probed : goal.returns-in-Ok-None-clause-probed
returns-in-Ok-None-clause-probed c u w was is =
    let before : c.deref_mut.result.now ≡ u = search rules in
    let after : c.probe-found.new.self ≡ w = search rules in
    let probed = subst (λ r. OnOk r (ProbesOnceAtMost c.deref_mut.result.now.arena (ref_of c.args.class c.args.meta) c.args.sel c.deref_mut.result.now.seen c.probe-found.new.self.seen)) c.in-Ok-None.is c.probe-found.ensures.probed in
    subst (λ (v : SenderView). ProbesOnceAtMost v.arena (ref_of c.args.class c.args.meta) c.args.sel v.seen w.seen) before
    (subst (λ (v : SenderView). ProbesOnceAtMost c.deref_mut.result.now.arena (ref_of c.args.class c.args.meta) c.args.sel c.deref_mut.result.now.seen v.seen) after probed)

pub returns-in-Ok-None-clause-missed : goal.returns-in-Ok-None-clause-missed
returns-in-Ok-None-clause-missed c none u w was is =
    let before : c.deref_mut.result.now ≡ u = search rules in
    let after : c.probe-found.new.self ≡ w = search rules in
    let missed : MissesUnlessChanged c.deref_mut.result.now.arena (ref_of c.args.class c.args.meta) c.args.sel c.deref_mut.result.now.seen c.probe-found.new.self.seen = search rules in
    subst (λ (v : SenderView). MissesUnlessChanged v.arena (ref_of c.args.class c.args.meta) c.args.sel v.seen w.seen) before
    (subst (λ (v : SenderView). MissesUnlessChanged c.deref_mut.result.now.arena (ref_of c.args.class c.args.meta) c.args.sel c.deref_mut.result.now.seen v.seen) after missed)
