use Rattle.std.proofs.Common.{[], ◌∷◌, sym, ap, ◌∙◌, length, subst}
use Rattle.std.specs.Option.{option_map_or}
use Rattle.msg_names.specs.Number.{selector_number}
use Rattle.msg_tables.specs.Journal.{AllNameListed, classes_of, places_of, undo_journal}
use Rattle.msg_tables.specs.Undo.{covering}
use Rattle.msg_tables.proofs.NoteLemmas.{places-equal}
use Rattle.msg_tables.proofs.tables.Tables.remove_noted.Goals as goal

pub returns-clause-journals : goal.returns-clause-journals
returns-clause-journals c =
    let e = c.remove-removed.result in
    let was = c.remove-removed.ensures.was in
    record {
      writes = c.remove-removed.ensures.writes;
      entries = e ∷ [];
      is = c.note.ensures.items;
      back = c.remove-removed.ensures.back;
      places = places-equal (c.args.class ∷ []) [] (places_of (e ∷ [])) (ap (λ x. places_of (x ∷ [])) was.is);
      made = ap (λ x. classes_of (x ∷ [])) was.is;
      undone = ap (λ x. undo_journal (x ∷ [])) was.is ∙ sym (ap (λ o. option_map_or (λ i. covering c.args.class (selector_number c.args.sel) i ∷ []) o []) was.own);
      listed = subst (λ x. AllNameListed (length c.args.self.now.supers) (x ∷ [])) (sym was.is) (c.requires.own.0, tt);
    }
