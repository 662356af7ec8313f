use Rattle.std.proofs.Common.{◌++◌, ap, sym, ◌∙◌, append-nil}
use Rattle.msg_form.specs.ExprView.{expr_view}
use Rattle.msg_form.specs.Text.{texts_view}
use Rattle.msg_form.proofs.SilentLemmas.{silent}
use Rattle.msg_form.proofs.walk.ImpHasSelectors.push_selectors.Goals as goal

pub returns-then-not-self : goal.returns-then-not-self
returns-then-not-self c =
    let imp = c.args.self.now in
    let old = texts_view c.args.texts.now.items in
    sym (ap (λ ts. old ++ ts) (silent (expr_view imp.body) (sym imp.selects_of ∙ c.if-not-self.true)) ∙ append-nil old)
