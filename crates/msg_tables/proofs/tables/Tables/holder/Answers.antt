use Rattle.std.proofs.Common.{ℕ, option_map, ap, sym, ◌∙◌}
use Rattle.msg_names.specs.declared.value.ClassRef.{ClassRef}
use Rattle.msg_names.specs.Number.{selector_number}
use Rattle.msg_tables.proofs.LookupLemmas.{holder-stands}
use Rattle.msg_tables.proofs.tables.Tables.holder.Goals as goal

pub returns-in_err-method-clause-meaning : goal.returns-in_err-method-clause-meaning
returns-in_err-method-clause-meaning c = λ h stands.
    c.from_residual.ensures ∙ ap (λ o. option_map (λ (m : ClassRef × ℕ). m.0) o) c.in_err-method.ensures.method ∙ sym (holder-stands c.args.self.now h stands c.args.class (selector_number c.args.sel))

pub returns-clause-meaning : goal.returns-clause-meaning
returns-clause-meaning c = λ h stands.
    ap (λ o. option_map (λ (m : ClassRef × ℕ). m.0) o) c.in_ok-method.ensures.method ∙ sym (holder-stands c.args.self.now h stands c.args.class (selector_number c.args.sel))
