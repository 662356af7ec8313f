use Rattle.std.proofs.Common.{◌≡◌, ◌∙◌, ap, refl, length, arith, true, false}
use Rattle.std.specs.Prelude.{nat_le}
use Rattle.std.proofs.lemmas.Bool.Decides.{nat_tests}
use Rattle.msg_tables.specs.Log.{table}
use Rattle.msg_tables.specs.Refusal.{is_full}
use Rattle.msg_tables.proofs.tables.Tables.is_full.Goals as goal

pub returns-then-self-clause-meaning : goal.returns-then-self-clause-meaning
unfolding is_full
returns-then-self-clause-meaning c = λ h stands.
    let count : c.self.inside.change_count ≡ length h.changes = ap (λ v. v.change_count) c.self.view_is ∙ stands.changes in
    let limits : c.self.inside.limits ≡ h.origin.limits = ap (λ v. v.limits) c.self.view_is ∙ stands.limits in
    let all : nat_le c.self.inside.limits.changes c.self.inside.change_count ≡ true = grind (arith, nat_tests) in
    rw (← count, ← limits, all) refl

pub returns-else-self-clause-meaning : goal.returns-else-self-clause-meaning
unfolding is_full
returns-else-self-clause-meaning c = λ h stands.
    let count : c.self.inside.change_count ≡ length h.changes = ap (λ v. v.change_count) c.self.view_is ∙ stands.changes in
    let limits : c.self.inside.limits ≡ h.origin.limits = ap (λ v. v.limits) c.self.view_is ∙ stands.limits in
    let rows : c.self.inside.row_count ≡ length (table h).rows = ap (λ v. v.row_count) c.self.view_is ∙ stands.row_count in
    let fewer : nat_le c.self.inside.limits.changes c.self.inside.change_count ≡ false = grind (arith, nat_tests) in
    let within = c.self.invariant.few_rows in
    rw (← count, ← rows, ← limits, fewer) (grind (arith, nat_tests))
