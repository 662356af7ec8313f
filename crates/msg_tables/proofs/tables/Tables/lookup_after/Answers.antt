use Rattle.std.proofs.Common.{◌≡◌, false, subst, sym, ◌∙◌}
use Rattle.msg_names.specs.Number.{selector_number}
use Rattle.msg_tables.specs.After.{supers_after}
use Rattle.msg_tables.specs.Chain.{is_present}
use Rattle.msg_tables.proofs.ForeseeLemmas.{comes_nowhere}
use Rattle.msg_tables.proofs.tables.Tables.lookup_after.Goals as goal

pub returns-else-is_present_after : goal.returns-else-is_present_after
returns-else-is_present_after c = λ h stands.
    let absent = sym c.is_present_after.ensures ∙ c.if-is_present_after.false in
    sym (comes_nowhere h c.args.change.now c.args.class (selector_number c.args.sel) (subst (λ supers. is_present (supers_after supers c.args.change.now) c.args.class.class ≡ false) stands.supers absent))
