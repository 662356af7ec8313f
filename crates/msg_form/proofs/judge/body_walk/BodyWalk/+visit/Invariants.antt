use Rattle.std.proofs.Common.{◌≡◌, map, drop}
use Rattle.std.specs.Prelude.{fold}
use Rattle.msg_form.specs.BodyWalk.{all_parts_at, with_part}
use Rattle.msg_form.specs.Expression.{expressions}
use Rattle.msg_form.specs.ExprView.{expr_view}
use Rattle.msg_form.proofs.judge.body_walk.BodyWalk.+visit.Given as goal

abbrev pub invariant-visit_all-loop-expr : goal.invariant-visit_all-loop-expr
invariant-visit_all-loop-expr l =
    fold (with_part l.self.above l.self.classes.now l.self.objects.now l.self.args) l.found (all_parts_at l.levels (expressions (map expr_view (drop l.expr-index l.exprs))))
    ≡ fold (with_part l.self.above l.self.classes.now l.self.objects.now l.self.args) l.initial.found (all_parts_at l.levels (expressions (map expr_view l.exprs)))
