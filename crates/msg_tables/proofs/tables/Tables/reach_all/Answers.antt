use Rattle.std.proofs.Common.{List, length, sym, subst, take}
use Rattle.std.specs.Prelude.{All}
use Rattle.std.proofs.lemmas.Result.{IfErr-weaker}
use Rattle.msg_tables.specs.declared.change.Change.{Change}
use Rattle.msg_tables.specs.Journal.{NamesListed}
use Rattle.msg_tables.specs.Making.{IsMade, MarksTold}
use Rattle.msg_tables.proofs.NoteLemmas.{listed-all}
use Rattle.msg_tables.proofs.ReachLemmas.{either-way, reaches-told}
use Rattle.msg_rows.proofs.ReservedLemmas.{if_ok}
use Rattle.msg_tables.proofs.SeveralLemmas.{accepted-none}
use Rattle.msg_tables.proofs.tables.Tables.reach_all.Goals as goal

pub mark_written-requires-clause-listed : goal.mark_written-requires-clause-listed
mark_written-requires-clause-listed g c =
    let es = c.apply_each-outcome.new.journal.items in
    let all = λ (xs : List Change) (made : IsMade xs es c.args.self.now c.apply_each-outcome.new.self). subst (λ n. All (NamesListed n) es) (sym made.beside.count) (listed-all (length c.args.self.now.supers) es made.listed) in
    let listed = either-way c.apply_each-outcome.result c.apply_each-outcome.ensures.ok c.apply_each-outcome.ensures.err (λ made. all _ made) (λ r err. all _ err.1) in
    subst (λ ys. All (NamesListed (length c.apply_each-outcome.new.self.supers)) ys) (sym c.deref.ensures.value) listed

pub returns-clause-ok : goal.returns-clause-ok
returns-clause-ok g c =
    if_ok c.apply_each-outcome.result c.apply_each-outcome.ensures.ok (λ made h stands. accepted-none h (g.L.ChangeList.changes c.args.changes.now) 0 (made.stands h stands).0)

pub returns-clause-before : goal.returns-clause-before
returns-clause-before g c =
    IfErr-weaker c.apply_each-outcome.result _ _ (λ r err h stands. accepted-none h (take r.place (g.L.ChangeList.changes c.args.changes.now)) 0 (err.1.stands h stands).0) c.apply_each-outcome.ensures.err

pub returns-clause-marks : goal.returns-clause-marks
returns-clause-marks g c =
    let es = c.apply_each-outcome.new.journal.items in
    let marks = subst (λ ys. MarksTold c.apply_each-outcome.new.self ys c.args.marked.now c.mark_written.new.marked) c.deref.ensures.value c.mark_written.ensures.marks in
    if_ok c.apply_each-outcome.result c.apply_each-outcome.ensures.ok (λ made. reaches-told (g.L.ChangeList.changes c.args.changes.now) es c.args.self.now c.apply_each-outcome.new.self c.args.marked.now c.mark_written.new.marked c.args.self.now.order c.start-start.ensures.sound.order made marks)

pub returns-clause-kept : goal.returns-clause-kept
returns-clause-kept g c =
    let es = c.apply_each-outcome.new.journal.items in
    let marks = subst (λ ys. MarksTold c.apply_each-outcome.new.self ys c.args.marked.now c.mark_written.new.marked) c.deref.ensures.value c.mark_written.ensures.marks in
    IfErr-weaker c.apply_each-outcome.result _ _ (λ r err other. reaches-told (take r.place (g.L.ChangeList.changes c.args.changes.now)) es c.args.self.now c.apply_each-outcome.new.self c.args.marked.now c.mark_written.new.marked c.args.self.now.order c.start-start.ensures.sound.order err.1 marks) c.apply_each-outcome.ensures.err
