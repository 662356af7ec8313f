use Rattle.std.proofs.Common.{◌≡◌, subst}
use Rattle.std.proofs.lemmas.Option.{same_Some}
use Rattle.msg_host.specs.Named.{ref_of}
use Rattle.msg_c.proofs.RuntimeLemmas.{cached_so}
use Rattle.std.proofs.Common.{ap, ◌∙◌, sym, Some}
use Rattle.msg_cache.specs.Views.{ArenaView, layout}
use Rattle.msg_reader.specs.Notes.{StayStamped}
use Rattle.msg_host.specs.View.{SenderView}
use Rattle.msg_runtime.specs.View.{RuntimeView}
use Rattle.msg_c.specs.Answers.{runtime_arena, sender_arena, sender_front}
use Rattle.msg_c.proofs.NoteLemmas.{notes_left}
use Rattle.msg_c.proofs.sending.msg_fill.Goals as goal

pub fill-found-requires-clause-notes : goal.fill-found-requires-clause-notes
fill-found-requires-clause-notes c = c.args.sender.now.noted.seen c.deref_mut-2.result.now.seen.front
    (ap sender_front c.take-asker.ensures.taken ∙ ap (λ (v : SenderView). Some v.seen.front) (sym c.deref_mut-2.ensures.value))

pub returns-in-Ok-clause-cached : goal.returns-in-Ok-clause-cached
returns-in-Ok-clause-cached c done v w u was is of =
    let before : c.deref_mut.result.now ≡ v = c.deref_mut.ensures.value ∙ same_Some c.in-Some.held.value v (c.in-Some.ensures.taken ∙ was) in
    let after : c.fill-found.new.self ≡ w = same_Some c.fill-found.new.self w (sym c.of-2.ensures ∙ is) in
    let sender : c.deref_mut-2.result.now ≡ u = c.deref_mut-2.ensures.value ∙ same_Some c.take-asker.result.value u (sym c.take-asker.ensures.taken ∙ of) in
    cached_so (ref_of c.args.class c.args.meta) c.args.sel c.in-Ok.found c.deref_mut.result.now v c.fill-found.new.self w c.deref_mut-2.result.now u before after sender c.in-Ok.ensures.cached

pub invariant_of-sender-clause-noted : goal.invariant_of-sender-clause-noted
invariant_of-sender-clause-noted c =
    let runtime : runtime_arena c.args.runtime.now.held.state ≡ Some c.deref_mut.result.now.arena = ap runtime_arena (sym c.in-Some.ensures.taken) ∙ ap (λ (v : RuntimeView). Some v.arena) (sym c.deref_mut.ensures.value) in
    let sender : sender_arena c.args.sender.now.held.state ≡ Some c.deref_mut-2.result.now.arena = ap sender_arena c.take-asker.ensures.taken ∙ ap (λ (v : SenderView). Some v.arena) (sym c.deref_mut-2.ensures.value) in
    let together = sym (c.requires.together c.deref_mut.result.now.arena c.deref_mut-2.result.now.arena runtime sender) in
    let stay = subst (λ (a : ArenaView). StayStamped (layout a) c.args.sender.now.notes c.fill-found.new.notes) together c.fill-found.ensures.stamped in
    notes_left c.args.sender.now.held.state c.put.new.self.state c.take-asker.result.value c.deref_mut-2.result.now c.fill-found.new.sender c.args.sender.now.notes c.fill-found.new.notes
    c.args.sender.now.noted c.take-asker.ensures.taken c.deref_mut-2.ensures.value c.fill-found.ensures.arena c.fill-found.ensures.notes stay c.put.ensures
