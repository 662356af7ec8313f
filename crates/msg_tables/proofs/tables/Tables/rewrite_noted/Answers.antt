use Rattle.std.proofs.Common.{[], ◌∷◌, refl}
use Rattle.msg_tables.specs.declared.entry.Entry.TheVariants.{Rewrote}
use Rattle.msg_tables.proofs.UndoJournalLemmas.{undone-own}
use Rattle.msg_tables.proofs.NoteLemmas.{places-equal}
use Rattle.msg_tables.proofs.tables.Tables.rewrite_noted.Goals as goal

pub returns-clause-journals : goal.returns-clause-journals
returns-clause-journals c =
    let was = c.rewrite-was.result in
    let is = c.rewrite-was.ensures.was in
    record {
      writes = c.rewrite-was.ensures.writes;
      entries = Rewrote c.args.row.class c.args.row.sel was ∷ [];
      is = c.note_rewritten.ensures.items;
      back = c.rewrite-was.ensures.back was is;
      places = places-equal _ [] _ refl;
      made = refl;
      undone = undone-own c.args.self.now c.args.row was is;
      listed = (c.requires.own.class, tt);
    }
