use Rattle.std.proofs.Common.{◌≡◌, Some, ap, subst, sym, ◌∙◌, rules, length}
use Rattle.std.specs.Prelude.{Option, unwrap_or}
use Rattle.msg_cache.specs.Views.{ArenaView, classes, layout}
use Rattle.msg_tables.specs.History.{History}
use Rattle.msg_host.specs.Lookups.{AreRefusedLookups, AreTakenLookups, RowsAreNotedOrAt, RowsKeepOthers}
use Rattle.msg_reader.specs.Notes.{StayStamped}
use Rattle.msg_host.specs.View.{SenderView}
use Rattle.msg_runtime.specs.View.{RuntimeView}
use Rattle.msg_c.specs.Answers.{runtime_arena, runtime_history, sender_arena, sender_front}
use Rattle.msg_c.proofs.NoteLemmas.{notes_left}
use Rattle.msg_c.proofs.lookups.msg_fill_all.Goals as goal

pub fill_all-found-requires-clause-notes : goal.fill_all-found-requires-clause-notes
fill_all-found-requires-clause-notes c = c.args.sender.now.noted.seen c.deref_mut-2.result.now.seen.front
    (ap sender_front c.take-asker.ensures.taken ∙ ap (λ (v : SenderView). Some v.seen.front) (sym c.deref_mut-2.ensures.value))

pub invariant_of-sender-clause-noted : goal.invariant_of-sender-clause-noted
invariant_of-sender-clause-noted c =
    let runtime : runtime_arena c.args.runtime.now.held.state ≡ Some c.deref_mut.result.now.arena = ap runtime_arena (sym c.in-Some.ensures.taken) ∙ ap (λ (v : RuntimeView). Some v.arena) (sym c.deref_mut.ensures.value) in
    let sender : sender_arena c.args.sender.now.held.state ≡ Some c.deref_mut-2.result.now.arena = ap sender_arena c.take-asker.ensures.taken ∙ ap (λ (v : SenderView). Some v.arena) (sym c.deref_mut-2.ensures.value) in
    let together = sym (c.requires.together c.deref_mut.result.now.arena c.deref_mut-2.result.now.arena runtime sender) in
    let stay = subst (λ (a : ArenaView). StayStamped (layout a) c.args.sender.now.notes c.fill_all-found.new.notes) together c.fill_all-found.ensures.stamped in
    notes_left c.args.sender.now.held.state c.put.new.self.state c.take-asker.result.value c.deref_mut-2.result.now c.fill_all-found.new.sender c.args.sender.now.notes c.fill_all-found.new.notes
    c.args.sender.now.noted c.take-asker.ensures.taken c.deref_mut-2.ensures.value c.fill_all-found.ensures.arena c.fill_all-found.ensures.notes stay c.put.ensures

pub returns-in-Ok-clause-taken : goal.returns-in-Ok-clause-taken
returns-in-Ok-clause-taken c done a arena =
    let runtime : runtime_arena c.args.runtime.now.held.state ≡ Some c.deref_mut.result.now.arena = ap runtime_arena (sym c.in-Some.ensures.taken) ∙ ap (λ (v : RuntimeView). Some v.arena) (sym c.deref_mut.ensures.value) in
    let sender : sender_arena c.args.sender.now.held.state ≡ Some c.deref_mut-2.result.now.arena = ap sender_arena c.take-asker.ensures.taken ∙ ap (λ (v : SenderView). Some v.arena) (sym c.deref_mut-2.ensures.value) in
    let same : c.deref_mut.result.now.arena ≡ a = sym (c.requires.together c.deref_mut.result.now.arena c.deref_mut-2.result.now.arena runtime sender) ∙ ap (λ (o : Option ArenaView). unwrap_or o a) (sym sender ∙ arena) in
    subst (λ (b : ArenaView). AreTakenLookups (classes b) c.args.lookups.now (length c.args.imps.now) c.args.place.now c.fill_all-found.new.place) same (search rules)

pub returns-in-Err-clause-fault : goal.returns-in-Err-clause-fault
returns-in-Err-clause-fault c has fault a arena =
    let runtime : runtime_arena c.args.runtime.now.held.state ≡ Some c.deref_mut.result.now.arena = ap runtime_arena (sym c.in-Some.ensures.taken) ∙ ap (λ (v : RuntimeView). Some v.arena) (sym c.deref_mut.ensures.value) in
    let sender : sender_arena c.args.sender.now.held.state ≡ Some c.deref_mut-2.result.now.arena = ap sender_arena c.take-asker.ensures.taken ∙ ap (λ (v : SenderView). Some v.arena) (sym c.deref_mut-2.ensures.value) in
    let same : c.deref_mut.result.now.arena ≡ a = sym (c.requires.together c.deref_mut.result.now.arena c.deref_mut-2.result.now.arena runtime sender) ∙ ap (λ (o : Option ArenaView). unwrap_or o a) (sym sender ∙ arena) in
    subst (λ (b : ArenaView). AreRefusedLookups (classes b) c.args.lookups.now (length c.args.imps.now) c.args.place.now c.fill_all-found.new.place c.in-Err.number) same (search rules)

pub returns-in-Ok-clause-others : goal.returns-in-Ok-clause-others
returns-in-Ok-clause-others c a arena =
    let runtime : runtime_arena c.args.runtime.now.held.state ≡ Some c.deref_mut.result.now.arena = ap runtime_arena (sym c.in-Some.ensures.taken) ∙ ap (λ (v : RuntimeView). Some v.arena) (sym c.deref_mut.ensures.value) in
    let sender : sender_arena c.args.sender.now.held.state ≡ Some c.deref_mut-2.result.now.arena = ap sender_arena c.take-asker.ensures.taken ∙ ap (λ (v : SenderView). Some v.arena) (sym c.deref_mut-2.ensures.value) in
    let same : c.deref_mut.result.now.arena ≡ a = sym (c.requires.together c.deref_mut.result.now.arena c.deref_mut-2.result.now.arena runtime sender) ∙ ap (λ (o : Option ArenaView). unwrap_or o a) (sym sender ∙ arena) in
    subst (λ (b : ArenaView). RowsKeepOthers b c.args.sender.now.notes c.fill_all-found.new.notes c.args.lookups.now) same (search rules)

pub returns-in-Ok-clause-noted : goal.returns-in-Ok-clause-noted
returns-in-Ok-clause-noted c done h history u w was is =
    let runtime : runtime_arena c.args.runtime.now.held.state ≡ Some c.deref_mut.result.now.arena = ap runtime_arena (sym c.in-Some.ensures.taken) ∙ ap (λ (v : RuntimeView). Some v.arena) (sym c.deref_mut.ensures.value) in
    let sender : sender_arena c.args.sender.now.held.state ≡ Some c.deref_mut-2.result.now.arena = ap sender_arena c.take-asker.ensures.taken ∙ ap (λ (v : SenderView). Some v.arena) (sym c.deref_mut-2.ensures.value) in
    let one = sym (c.requires.together c.deref_mut.result.now.arena c.deref_mut-2.result.now.arena runtime sender) in
    let at : runtime_history c.args.runtime.now.held.state ≡ Some c.deref_mut.result.now.keeper.history = ap runtime_history (sym c.in-Some.ensures.taken) ∙ ap (λ (v : RuntimeView). Some v.keeper.history) (sym c.deref_mut.ensures.value) in
    let point : c.deref_mut.result.now.keeper.history ≡ h = ap (λ (o : Option History). unwrap_or o h) (sym at ∙ history) in
    let before : c.deref_mut-2.result.now ≡ u = search rules in
    let after : c.fill_all-found.new.sender ≡ w = search rules in
    let noted : RowsAreNotedOrAt c.deref_mut.result.now.arena c.deref_mut.result.now.keeper.history c.fill_all-found.new.notes c.deref_mut-2.result.now.seen c.fill_all-found.new.sender.seen c.args.lookups.now c.fill_all-found.new.imps = search rules in
    let here = subst (λ (t : ArenaView × History). RowsAreNotedOrAt t.0 t.1 c.fill_all-found.new.notes c.deref_mut-2.result.now.seen c.fill_all-found.new.sender.seen c.args.lookups.now c.fill_all-found.new.imps) (λ z. (one z, point z)) noted in
    subst (λ (t : SenderView × SenderView). RowsAreNotedOrAt t.0.arena h c.fill_all-found.new.notes t.0.seen t.1.seen c.args.lookups.now c.fill_all-found.new.imps) (λ z. (before z, after z)) here
