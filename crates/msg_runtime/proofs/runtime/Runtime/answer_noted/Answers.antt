use Rattle.std.proofs.Common.{rules, ◌≡◌, ℕ, length, ap, subst, sym, ◌∙◌, arith}
use Rattle.msg_names.specs.Number.{selector_number, imp_number}
use Rattle.msg_tables.specs.History.{lookup}
use Rattle.msg_model.specs.State.{first}
use Rattle.msg_model.proofs.KeepLemmas.{first_all}
use Rattle.msg_cache.specs.Views.{ArenaView, layout}
use Rattle.msg_reader.specs.Notes.{StayStamped}
use Rattle.msg_runtime.proofs.runtime.Runtime.answer_noted.Goals as goal

pub returns-clause-notes : goal.returns-clause-notes
returns-clause-notes c =
    let h = c.args.self.now.keeper.history in
    let n : ℕ = c.count.result in
    let all : n ≡ length h.changes = search rules in
    let before = c.notes_are_of_longer_histories.ensures h c.args.reader.now.sender.front c.args.notes.now c.answer-imp.ensures.begins c.requires.notes in
    let then : imp_number c.answer-imp.result ≡ lookup (first n h) c.args.class (selector_number c.args.sel) = c.answer-imp.ensures.found ∙ ap (λ q. lookup q c.args.class (selector_number c.args.sel)) (first_all h n (sym all)) in
    c.keep.ensures.notes h before (omega (arith, all)) then (search rules)

pub returns-clause-noted : goal.returns-clause-noted
returns-clause-noted c = λ short.
    let h = c.args.self.now.keeper.history in
    let all : c.count.result ≡ length h.changes = search rules in
    c.keep.ensures.kept (length h.changes) (omega (arith, all)) short

pub returns-clause-stamped : goal.returns-clause-stamped
returns-clause-stamped c = subst (λ (a : ArenaView). StayStamped (layout a) c.args.notes.now c.keep.new.self) c.requires.arena c.keep.ensures.stamped
