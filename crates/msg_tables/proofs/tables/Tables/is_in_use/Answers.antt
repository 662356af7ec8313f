use Rattle.std.proofs.Common.{◌≡◌, true, false, sym, ap, ◌∙◌, arith}
use Rattle.std.specs.Prelude.{◌||◌, nat_lt}
use Rattle.std.proofs.lemmas.Bool.Decides.{nat_tests}
use Rattle.msg_tables.specs.Chain.{has_subclass}
use Rattle.msg_tables.specs.View.{TablesView}
use Rattle.msg_tables.proofs.StandsLemmas.{in-use}
use Rattle.msg_tables.proofs.tables.Tables.is_in_use.Goals as goal

pub returns-then-class-self-clause-meaning : goal.returns-then-class-self-clause-meaning
returns-then-class-self-clause-meaning c h stands =
    let less = c.if-class-self.true in
    let listed : nat_lt c.args.class c.self.inside.listed ≡ true = grind (arith, nat_tests) in
    in-use c.args.self.now h stands c.args.class (nat_lt c.args.class c.self.inside.listed)
    (ap (λ (v : TablesView). nat_lt c.args.class v.listed || has_subclass v.supers c.args.class) (sym c.self.view_is) ∙ ap (λ b. b || has_subclass c.self.inside.supers.items c.args.class) listed ∙ sym listed)

pub returns-else-class-self-clause-meaning : goal.returns-else-class-self-clause-meaning
returns-else-class-self-clause-meaning c h stands =
    let most = c.if-class-self.false in
    let made : nat_lt c.args.class c.self.inside.listed ≡ false = grind (arith, nat_tests) in
    in-use c.args.self.now h stands c.args.class c.has_subclass.result
    (ap (λ (v : TablesView). nat_lt c.args.class v.listed || has_subclass v.supers c.args.class) (sym c.self.view_is) ∙ ap (λ b. b || has_subclass c.self.inside.supers.items c.args.class) made
    ∙ ap (λ ss. has_subclass ss c.args.class) (sym c.deref.ensures.value) ∙ sym c.has_subclass.ensures)
