use Rattle.std.proofs.Common.{[], ◌∷◌, ◌++◌, append_assoc, option_map, refl, sym, ap, ◌∙◌}
use Rattle.msg_names.specs.Number.{imp_number}
use Rattle.msg_tables.specs.declared.entry.Entry.TheVariants.{Rewrote}
use Rattle.msg_tables.proofs.UndoJournalLemmas.{undone-both}
use Rattle.msg_tables.proofs.NoteLemmas.{places-equal}
use Rattle.msg_tables.proofs.tables.Tables.rewrite_both_noted.Goals as goal

pub returns-clause-journals : goal.returns-clause-journals
returns-clause-journals c =
    let one = c.unwrap-one.result in
    let two = c.unwrap-two.result in
    let first = c.args.first in
    let second = c.args.second in
    let is = sym c.own.ensures.own ∙ ap (option_map imp_number) c.unwrap-one.ensures in
    let js = sym c.own-2.ensures.own ∙ ap (option_map imp_number) c.unwrap-two.ensures in
    let b = Rewrote second.class second.sel two ∷ [] in
    record {
      writes = c.rewrite_both.ensures.writes;
      entries = Rewrote first.class first.sel one ∷ b;
      is = c.note_rewritten-2.ensures.items ∙ ap (λ es. es ++ b) c.note_rewritten.ensures.items ∙ append_assoc c.args.journal.now.items (Rewrote first.class first.sel one ∷ []) b;
      back = c.rewrite_both.ensures.back one two is js;
      places = places-equal _ [] _ refl;
      made = refl;
      undone = undone-both c.args.self.now first second one two is js;
      listed = (c.requires.first.class, (c.requires.second.class, tt));
    }
