use Rattle.std.proofs.Common.{◌≡◌, ◌*◌, length, sym, subst, ◌∙◌}
use Rattle.msg_names.proofs.ClassRefLemmas.{slot_of-inside}
use Rattle.msg_tables.specs.After.{of_meta}
use Rattle.msg_tables.specs.Journal.{Journals}
use Rattle.msg_tables.specs.declared.edit.Edit.TheVariants.{Dispose}
use Rattle.msg_tables.proofs.DisposeLemmas.{dispose-noted}
use Rattle.msg_tables.proofs.OrderLemmas.{present-inside}
use Rattle.msg_tables.proofs.PutLemmas.{length-rows_of}
use Rattle.msg_tables.proofs.tables.Tables.dispose_noted.Goals as goal

pub returns-clause-journals : goal.returns-clause-journals
returns-clause-journals c =
    let k = c.args.class in
    let now = c.args.self.now in
    let there = present-inside now.supers k c.requires.leaf.0 in
    let count : length now.lists ≡ 2 * length now.supers = rw (← c.self.view_is) (length-rows_of c.self.inside.lists ∙ c.self.invariant.lists) in
    let inside = slot_of-inside (of_meta k) (length now.supers) (length now.lists) count there in
    subst (λ es. Journals (Dispose k) c.args.journal.now.items es now c.unmake-disposed.new.self) (sym c.note.ensures.items)
    (dispose-noted k c.args.journal.now.items c.empty_noted.new.journal.items c.empty_noted-2.new.journal.items now c.empty_noted.new.self c.empty_noted-2.new.self c.unmake-disposed.new.self c.unmake-disposed.result
    inside there c.empty_noted.ensures.takes c.empty_noted.ensures.none c.empty_noted-2.ensures.takes c.empty_noted-2.ensures.none c.unmake-disposed.ensures.value c.unmake-disposed.ensures.was c.unmake-disposed.ensures.back)
