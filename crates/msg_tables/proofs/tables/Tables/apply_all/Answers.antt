use Rattle.std.proofs.Common.{length, take, sym, subst}
use Rattle.std.specs.Prelude.{All}
use Rattle.std.proofs.lemmas.Result.{IfErr-weaker}
use Rattle.msg_tables.specs.Journal.{NamesListed}
use Rattle.msg_tables.proofs.NoteLemmas.{listed-all}
use Rattle.msg_tables.proofs.AffectedAllLemmas.{told-all}
use Rattle.msg_tables.proofs.PresenceLemmas.{ordered}
use Rattle.msg_rows.proofs.ReservedLemmas.{if_ok}
use Rattle.msg_tables.proofs.SeveralLemmas.{accepted-none}
use Rattle.msg_tables.proofs.tables.Tables.apply_all.Goals as goal

pub returns-else-is_err-clause-ok : goal.returns-else-is_err-clause-ok
returns-else-is_err-clause-ok g c =
    let xs = g.L.ChangeList.changes c.args.changes.now in
    if_ok c.apply_each-outcome.result c.apply_each-outcome.ensures.ok (λ made h stands. (accepted-none h xs 0 (made.stands h stands).0, (made.stands h stands).1))

pub returns-then-is_err-clause-before : goal.returns-then-is_err-clause-before
returns-then-is_err-clause-before g c =
    IfErr-weaker c.apply_each-outcome.result _ _ (λ r err h stands. accepted-none h (take r.place (g.L.ChangeList.changes c.args.changes.now)) 0 (err.1.stands h stands).0) c.apply_each-outcome.ensures.err

pub returns-else-is_err-clause-affected : goal.returns-else-is_err-clause-affected
returns-else-is_err-clause-affected g c =
    let xs = g.L.ChangeList.changes c.args.changes.now in
    if_ok c.apply_each-outcome.result c.apply_each-outcome.ensures.ok (λ made h sound stands d affected.
    told-all h xs c.apply_each-outcome.new.journal.items d (ordered h sound stands.log) (made.stands h stands).0 made.made (made.places h stands) affected)

pub returns-else-is_err-clause-listed : goal.returns-else-is_err-clause-listed
returns-else-is_err-clause-listed g c =
    if_ok c.apply_each-outcome.result c.apply_each-outcome.ensures.ok (λ made.
    subst (λ n. All (NamesListed n) c.apply_each-outcome.new.journal.items) (sym made.beside.count) (listed-all (length c.args.self.now.supers) c.apply_each-outcome.new.journal.items made.listed))
