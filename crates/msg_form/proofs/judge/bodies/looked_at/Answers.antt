use Rattle.std.proofs.Common.{ap, refl, ◌∙◌}
use Rattle.std.specs.Prelude.{nat_le}
use Rattle.std.specs.List.{list_any}
use Rattle.msg_form.specs.Parts.{classes_in, indices_in, objects_in}
use Rattle.msg_form.specs.ExprView.{expr_view}
use Rattle.msg_form.specs.Text.{is_unknown}
use Rattle.msg_form.proofs.FoundLemmas.{found-above, found-class, found-object, found-count, found-index, found-deep, found-selects}
use Rattle.msg_form.proofs.judge.bodies.looked_at.Goals as goal

pub returns-clause-worst : goal.returns-clause-worst
returns-clause-worst c =
    let body = expr_view c.args.body.now in
    record {
      sends_above = ap (λ r. r.faults.sends_above) c.found.ensures ∙ found-above _ _ _ _ _ _ body;
      unknown_class = ap (λ r. r.faults.unknown_class) c.found.ensures ∙ found-class _ _ _ _ _ _ body ∙ ap (λ names. list_any (is_unknown names) (classes_in body)) c.new-none.ensures;
      unknown_object = ap (λ r. r.faults.unknown_object) c.found.ensures ∙ found-object _ _ _ _ _ _ body ∙ ap (λ names. list_any (is_unknown names) (objects_in body)) c.new-none.ensures;
      argument_count = ap (λ r. r.faults.argument_count) c.found.ensures ∙ found-count _ _ _ _ _ _ body;
      argument_index = ap (λ r. r.faults.argument_index) c.found.ensures ∙ found-index _ _ _ _ _ _ body ∙ ap (λ n. list_any (nat_le n) (indices_in body)) c.from.ensures;
      too_deep = ap (λ r. r.faults.too_deep) c.found.ensures ∙ found-deep _ _ _ _ _ body refl;
    }

pub returns-clause-selects : goal.returns-clause-selects
returns-clause-selects c = ap (λ r. r.selects) c.found.ensures ∙ found-selects _ _ _ _ _ _ (expr_view c.args.body.now)
