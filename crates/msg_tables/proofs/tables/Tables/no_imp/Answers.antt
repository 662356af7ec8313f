use Rattle.std.proofs.Common.{◌≡◌, ap, ◌∙◌, refl, arith, false}
use Rattle.std.specs.Prelude.{◌==◌}
use Rattle.std.proofs.lemmas.Bool.Decides.{nat_tests}
use Rattle.msg_names.specs.Number.{imp_number}
use Rattle.msg_tables.specs.Origin.{last_imp}
use Rattle.msg_tables.specs.Refusal.{no_imp}
use Rattle.msg_tables.proofs.tables.Tables.no_imp.Goals as goal

pub returns-then-number-eq0-clause-meaning : goal.returns-then-number-eq0-clause-meaning
unfolding no_imp
returns-then-number-eq0-clause-meaning c = λ h stands. rw (← c.number.ensures, c.if-number-eq0.true) refl

pub returns-else-number-eq0-clause-meaning : goal.returns-else-number-eq0-clause-meaning
unfolding no_imp
returns-else-number-eq0-clause-meaning c = λ h stands.
    let count : c.last_imp.result ≡ last_imp h.origin.counts = c.last_imp.ensures ∙ ap (λ t. last_imp t.counts) c.self.view_is ∙ ap last_imp stands.counts in
    let some : (imp_number c.args.imp == 0) ≡ false = grind (arith, nat_tests, c.if-number-eq0.false, c.number.ensures) in
    rw (count, c.number-else-number-eq0.ensures, some) refl
