use Rattle.std.proofs.Common.{ap, sym, ◌∙◌}
use Rattle.std.specs.Option.{option_map_or}
use Rattle.msg_names.specs.declared.value.ClassRef.{ClassRef}
use Rattle.msg_names.specs.Number.{selector_number}
use Rattle.std.proofs.Common.{ℕ}
use Rattle.msg_tables.proofs.LookupLemmas.{lookup-stands}
use Rattle.msg_tables.proofs.tables.Tables.lookup.Goals as goal

pub returns-in-Some-clause-meaning : goal.returns-in-Some-clause-meaning
returns-in-Some-clause-meaning c = λ h stands.
    ap (λ o. option_map_or (λ (m : ClassRef × ℕ). m.1) o 0) c.in-Some.ensures.method ∙ sym (lookup-stands c.args.self.now h stands c.args.class (selector_number c.args.sel))

pub returns-in-None-clause-meaning : goal.returns-in-None-clause-meaning
returns-in-None-clause-meaning c = λ h stands.
    ap (λ o. option_map_or (λ (m : ClassRef × ℕ). m.1) o 0) c.in-None.ensures.method ∙ sym (lookup-stands c.args.self.now h stands c.args.class (selector_number c.args.sel))
