use Rattle.std.proofs.Common.{◌<◌, ◌∙◌, ◌∷◌, [], ℕ, ap, inl, inr, subst, sym}
use Rattle.std.specs.Prelude.{Option, option_map}
use Rattle.msg_names.specs.Number.{imp_number}
use Rattle.msg_names.specs.declared.value.ClassRef.{ClassRef}
use Rattle.msg_names.specs.declared.value.ImpRef.{ImpRef}
use Rattle.msg_tables.specs.History.{BeginsWith, History}
use Rattle.msg_tables.proofs.BeginsLemmas.{begins_trans}
use Rattle.msg_cache.specs.Views.{ArenaView, IsFoundAt, IsSenderOf, classes}
use Rattle.msg_cache.specs.declared.view.SenderView.{SenderView}
use Rattle.msg_reader.specs.Notes.{AreNotesOf}
use Rattle.msg_reader.proofs.ReaderLemmas.{stamps_are}
use Rattle.msg_runtime.proofs.runtime.Runtime.recall_or_answer.Goals as goal

pub recall-requires-clause-reader : goal.recall-requires-clause-reader
recall-requires-clause-reader c = subst (λ (a : ArenaView). IsSenderOf a c.args.reader.now) (sym c.requires.arena) c.requires.reader

pub recall-requires-clause-class : goal.recall-requires-clause-class
recall-requires-clause-class c = subst (λ (a : ArenaView). c.args.lookup.class.class < classes a) (sym c.requires.arena) c.requires.class

pub answer_noted-requires-clause-reader : goal.answer_noted-requires-clause-reader
answer_noted-requires-clause-reader c = subst (λ (a : ArenaView). IsSenderOf a c.recall.new.self) c.requires.arena c.recall.ensures.reader

pub returns-in-Some-clause-reader : goal.returns-in-Some-clause-reader
returns-in-Some-clause-reader c = subst (λ (a : ArenaView). IsSenderOf a c.recall.new.self) c.requires.arena c.recall.ensures.reader

pub returns-in-Some-clause-number : goal.returns-in-Some-clause-number
returns-in-Some-clause-number c = ap (λ (u : SenderView). u.number) c.recall.ensures.exact.1

pub returns-in-None-clause-number : goal.returns-in-None-clause-number
returns-in-None-clause-number c = c.answer_noted.ensures.number ∙ ap (λ (u : SenderView). u.number) c.recall.ensures.exact.1

pub returns-in-None-clause-begins : goal.returns-in-None-clause-begins
returns-in-None-clause-begins c =
    let h = c.args.self.now.keeper.history in
    let saw = c.args.reader.now.sender.front in
    let on = begins_trans h c.recall.new.self.sender.front saw c.answer_noted.ensures.begins c.recall.ensures.begins in
    subst (λ (f : History). BeginsWith f saw) (sym c.answer_noted.ensures.front) on

pub returns-in-None-clause-found : goal.returns-in-None-clause-found
returns-in-None-clause-found c =
    subst (λ (f : History). IsFoundAt f c.args.lookup.class c.args.lookup.sel c.answer_noted.result) (sym c.answer_noted.ensures.front) c.answer_noted.ensures.found

pub returns-in-None-clause-notes : goal.returns-in-None-clause-notes
returns-in-None-clause-notes c = subst (λ (f : History). AreNotesOf f c.answer_noted.new.notes) (sym c.answer_noted.ensures.front) c.answer_noted.ensures.notes

pub returns-in-Some-clause-stamps : goal.returns-in-Some-clause-stamps
returns-in-Some-clause-stamps c =
    let (since, loaded, is) = c.recall.ensures.exact in
    let one : ClassRef × ℕ = (c.args.lookup.class, since) in
    (one ∷ [], stamps_are c.args.lookup.class since c.args.reader.now.sender c.recall.new.self.sender loaded)

pub returns-in-None-clause-stamps : goal.returns-in-None-clause-stamps
returns-in-None-clause-stamps c =
    let (since, loaded, is) = c.recall.ensures.exact in
    let one : ClassRef × ℕ = (c.args.lookup.class, since) in
    (one ∷ [], c.answer_noted.ensures.stamps ∙ stamps_are c.args.lookup.class since c.args.reader.now.sender c.recall.new.self.sender loaded)

pub returns-in-Some-clause-noted : goal.returns-in-Some-clause-noted
returns-in-Some-clause-noted c =
    let (since, loaded, is) = c.recall.ensures.exact in
    inl (since, ([], [], stamps_are c.args.lookup.class since c.args.reader.now.sender c.recall.new.self.sender loaded), λ low. sym is ∙ ap (λ (o : Option ImpRef). option_map imp_number o) c.in-Some.is)

pub returns-in-None-clause-noted : goal.returns-in-None-clause-noted
returns-in-None-clause-noted c = inr c.answer_noted.ensures.noted
