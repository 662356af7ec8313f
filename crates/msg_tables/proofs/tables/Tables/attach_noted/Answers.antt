use Rattle.std.proofs.Common.{[], ◌++◌, append_assoc, length, sym, ap, ap₂, ◌∙◌}
use Rattle.std.specs.Prelude.{reverse}
use Rattle.msg_tables.specs.After.{of_class, of_meta}
use Rattle.msg_tables.specs.Affected.{if_any}
use Rattle.msg_tables.specs.Journal.{ArePlacesOf, added_all, places_of}
use Rattle.std.proofs.Common.{subst}
use Rattle.msg_tables.proofs.NoteLemmas.{classes-added, classes-append, listed-added, listed-append, places-added, places-append, places-both}
use Rattle.msg_tables.proofs.UndoJournalLemmas.{undo_journal-append, undone-added}
use Rattle.msg_tables.proofs.tables.Tables.attach_noted.Goals as goal

pub returns-clause-ok : goal.returns-clause-ok
returns-clause-ok c =
    let k = c.args.class in
    let ms = c.args.own.now in
    let cs = c.args.meta.now in
    let xs = added_all (of_class k) (reverse ms) in
    let ys = added_all (of_meta k) (reverse cs) in
    let first = c.note_added.ensures.items ∙ ap (λ ns. c.args.journal.now.items ++ added_all (of_class k) (reverse ns)) c.as_slice.ensures in
    let second = c.note_added-2.ensures.items ∙ ap (λ ns. c.note_added.new.journal.items ++ added_all (of_meta k) (reverse ns)) c.as_slice-2.ensures in
    let n = length c.args.self.now.supers in
    record {
      writes = c.in_ok-attach.ensures.ok;
      entries = xs ++ ys;
      is = second ∙ ap (λ es. es ++ ys) first ∙ append_assoc c.args.journal.now.items xs ys;
      back = c.in_ok-attach.ensures.back;
      places = subst (ArePlacesOf (if_any ms (of_class k) ++ if_any cs (of_meta k)) []) (sym (places-append xs ys))
          (places-both (if_any ms (of_class k)) (if_any cs (of_meta k)) [] [] (places_of xs) (places_of ys) (places-added (of_class k) ms) (places-added (of_meta k) cs));
      made = classes-append xs ys ∙ ap₂ (λ a b. a ++ b) (classes-added (of_class k) (reverse ms)) (classes-added (of_meta k) (reverse cs));
      undone = undo_journal-append xs ys ∙ ap₂ (λ a b. a ++ b) (undone-added (of_meta k) cs) (undone-added (of_class k) ms);
      listed = listed-append n xs ys (listed-added n (of_class k) (reverse ms) c.requires.fits.named.0) (listed-added n (of_meta k) (reverse cs) c.requires.fits.named.0);
    }
