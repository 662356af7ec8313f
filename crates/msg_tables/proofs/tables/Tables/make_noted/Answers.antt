use Rattle.std.proofs.Common.{[], ◌∷◌, refl}
use Rattle.msg_tables.specs.declared.entry.Entry.TheVariants.{Made}
use Rattle.msg_tables.proofs.NoteLemmas.{places-equal}
use Rattle.msg_tables.proofs.tables.Tables.make_noted.Goals as goal

pub returns-clause-journals : goal.returns-clause-journals
returns-clause-journals c = record {
  writes = c.make.ensures.writes;
  entries = Made c.args.class ∷ [];
  is = c.note.ensures.items;
  back = c.make.ensures.back;
  places = places-equal _ (c.args.class ∷ []) _ refl;
  made = refl;
  undone = refl;
  listed = (c.requires.fits.named.0, tt);
}
