use Rattle.std.proofs.Common.{◌≡◌, ◌∙◌, Some, ap, length, rules, subst, sym}
use Rattle.std.specs.Prelude.{Option, unwrap_or}
use Rattle.msg_cache.specs.Views.{ArenaView, classes}
use Rattle.msg_host.specs.Lookups.{AreRefusedLookups, RowsAreNoted, RowsKeepOthers, RowsLackOne, RowsMissOne}
use Rattle.msg_host.specs.View.{SenderView}
use Rattle.msg_c.specs.Answers.{sender_arena}
use Rattle.msg_c.proofs.NoteLemmas.{notes_left}
use Rattle.msg_c.proofs.lookups.msg_probe_all.Goals as goal

pub probe_all-found-requires : goal.probe_all-found-requires
probe_all-found-requires c = record { notes = c.args.sender.now.noted.seen c.deref_mut.result.now.seen.front (search rules) }

pub invariant_of-sender-clause-noted : goal.invariant_of-sender-clause-noted
invariant_of-sender-clause-noted c =
    notes_left c.args.sender.now.held.state c.put.new.self.state c.take-asker.result.value c.deref_mut.result.now c.probe_all-found.new.self c.args.sender.now.notes c.probe_all-found.new.notes
    c.args.sender.now.noted c.take-asker.ensures.taken c.deref_mut.ensures.value c.probe_all-found.ensures.arena c.probe_all-found.ensures.notes c.probe_all-found.ensures.stamped c.put.ensures

pub returns-in-Ok-false-clause-recalled : goal.returns-in-Ok-false-clause-recalled
returns-in-Ok-false-clause-recalled c missed u w was is =
    let before : c.deref_mut.result.now ≡ u = search rules in
    let after : c.probe_all-found.new.self ≡ w = search rules in
    subst (λ (v : SenderView). RowsLackOne v.arena c.args.sender.now.notes c.args.lookups.now v.seen w.seen) before
    (subst (λ (v : SenderView). RowsLackOne c.deref_mut.result.now.arena c.args.sender.now.notes c.args.lookups.now c.deref_mut.result.now.seen v.seen) after
    (c.probe_all-found.ensures.recalled (search rules)))

pub returns-in-Ok-false-clause-missed : goal.returns-in-Ok-false-clause-missed
returns-in-Ok-false-clause-missed c missed u w was is =
    let before : c.deref_mut.result.now ≡ u = search rules in
    let after : c.probe_all-found.new.self ≡ w = search rules in
    subst (λ (v : SenderView). RowsMissOne v.arena c.args.lookups.now v.seen w.seen) before
    (subst (λ (v : SenderView). RowsMissOne c.deref_mut.result.now.arena c.args.lookups.now c.deref_mut.result.now.seen v.seen) after
    (c.probe_all-found.ensures.missed (search rules)))

pub returns-in-Ok-true-clause-others : goal.returns-in-Ok-true-clause-others
returns-in-Ok-true-clause-others c a arena =
    let sender : sender_arena c.args.sender.now.held.state ≡ Some c.deref_mut.result.now.arena = ap sender_arena c.take-asker.ensures.taken ∙ ap (λ (v : SenderView). Some v.arena) (sym c.deref_mut.ensures.value) in
    let same : c.deref_mut.result.now.arena ≡ a = ap (λ (o : Option ArenaView). unwrap_or o a) (sym sender ∙ arena) in
    subst (λ (b : ArenaView). RowsKeepOthers b c.args.sender.now.notes c.probe_all-found.new.notes c.args.lookups.now) same (search rules)

pub returns-in-Ok-false-clause-others : goal.returns-in-Ok-false-clause-others
returns-in-Ok-false-clause-others c a arena =
    let sender : sender_arena c.args.sender.now.held.state ≡ Some c.deref_mut.result.now.arena = ap sender_arena c.take-asker.ensures.taken ∙ ap (λ (v : SenderView). Some v.arena) (sym c.deref_mut.ensures.value) in
    let same : c.deref_mut.result.now.arena ≡ a = ap (λ (o : Option ArenaView). unwrap_or o a) (sym sender ∙ arena) in
    subst (λ (b : ArenaView). RowsKeepOthers b c.args.sender.now.notes c.probe_all-found.new.notes c.args.lookups.now) same (search rules)

pub returns-in-Ok-true-clause-noted : goal.returns-in-Ok-true-clause-noted
returns-in-Ok-true-clause-noted c done u w was is =
    let before : c.deref_mut.result.now ≡ u = search rules in
    let after : c.probe_all-found.new.self ≡ w = search rules in
    subst (λ (v : SenderView). RowsAreNoted v.arena c.probe_all-found.new.notes v.seen w.seen c.args.lookups.now c.probe_all-found.new.imps) before
    (subst (λ (v : SenderView). RowsAreNoted c.deref_mut.result.now.arena c.probe_all-found.new.notes c.deref_mut.result.now.seen v.seen c.args.lookups.now c.probe_all-found.new.imps) after
    (c.probe_all-found.ensures.noted (search rules)))

pub returns-in-Err-clause-fault : goal.returns-in-Err-clause-fault
returns-in-Err-clause-fault c some other a arena =
    let sender : sender_arena c.args.sender.now.held.state ≡ Some c.deref_mut.result.now.arena = ap sender_arena c.take-asker.ensures.taken ∙ ap (λ (v : SenderView). Some v.arena) (sym c.deref_mut.ensures.value) in
    let same : c.deref_mut.result.now.arena ≡ a = ap (λ (o : Option ArenaView). unwrap_or o a) (sym sender ∙ arena) in
    subst (λ (b : ArenaView). AreRefusedLookups (classes b) c.args.lookups.now (length c.args.imps.now) c.args.place.now c.probe_all-found.new.place c.in-Err.number) same c.in-Err.ensures.err
