use Rattle.std.proofs.Common.{[], ◌∷◌, refl}
use Rattle.msg_tables.specs.declared.entry.Entry.TheVariants.{Added}
use Rattle.msg_tables.proofs.NoteLemmas.{places-equal}
use Rattle.msg_tables.proofs.tables.Tables.append_noted.Goals as goal

pub returns-clause-ok : goal.returns-clause-ok
returns-clause-ok c = record {
  writes = c.in_ok-append.ensures.ok;
  entries = Added c.args.row.class c.args.row.sel ∷ [];
  is = c.note_row.ensures.items;
  back = c.in_ok-append.ensures.back;
  places = places-equal _ [] _ refl;
  made = refl;
  undone = refl;
  listed = (c.requires.fits.named.0, tt);
}
