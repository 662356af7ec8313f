use Rattle.std.proofs.Common.{rules, IfOk, ◌≡◌, ◌<◌, ◌≤◌, ◌+◌, ◌-◌, List, length, sym, ap, ◌∙◌, subst, arith}
use Rattle.std.proofs.lemmas.Result.{err_from_is_err_and}
use Rattle.msg_names.specs.Number.{imp_number}
use Rattle.msg_image.specs.Parts.{Send, Super}
use Rattle.msg_image.specs.Plain.{plain, plain_all}
use Rattle.msg_image.specs.Sizes.{count, count_all}
use Rattle.msg_image.specs.Sound.{IsExpressionOf, IsOf}
use Rattle.msg_image.specs.declared.expr.Expr.{Expr}
use Rattle.msg_eval.specs.Evaluated.{dispatched}
use Rattle.msg_eval.specs.Evaluation.{bodies}
use Rattle.msg_eval.proofs.ExprLemmas.{arity-plain_all, plain-Send, plain-Super}
use Rattle.msg_eval.specs.Operation.{op_of}
use Rattle.msg_eval.proofs.OperationLemmas.{result_is_of}
use Rattle.msg_eval.proofs.DispatchLemmas.{lookup_fails, body_gives, forwarding_fails, starts_again, no_body, body_of}
use Rattle.msg_eval.proofs.eval.+eval.Goals as goal

pub dispatch-returns-in_err-imp-clause-meaning : goal.dispatch-returns-in_err-imp-clause-meaning
dispatch-returns-in_err-imp-clause-meaning g t c = λ h st.
    let (u, le, so_far) = c.loop-imp.invariant.rest h st in
    let e = err_from_is_err_and c.from_residual.result c.from_residual.ensures.1 in
    rw (e.1, e.2) (lookup_fails c.args.message.now.image.now (bodies c.args.message.now.image.now c.args.message.now.depth) c.loop-imp.me c.loop-imp.class c.loop-imp.from c.args.message.now.sel c.args.message.now.args.now.items
    g.F.Finder.step (g.F.Finder.is_in c.loop-imp.finder) (g.F.Finder.is_in c.ask.new.finder) h (dispatched c.args.message.now c.args.left.now c.args.me c.args.class c.args.from c.args.left.now) u c.loop-imp.left le so_far _ _ c.in_err-imp.ensures.meaning)

pub dispatch-returns-then-number-ne0-clause-meaning : goal.dispatch-returns-then-number-ne0-clause-meaning
dispatch-returns-then-number-ne0-clause-meaning g t c = λ h st.
    let (u, le, so_far) = c.loop-imp.invariant.rest h st in
    let real : 0 < imp_number c.in_ok-imp.imp = omega (arith, c.number.ensures, c.if-number-ne0.true) in
    body_gives c.args.message.now.image.now (bodies c.args.message.now.image.now c.args.message.now.depth) c.loop-imp.me c.loop-imp.class c.loop-imp.from c.args.message.now.sel c.args.message.now.args.now.items
    g.F.Finder.step (g.F.Finder.is_in c.loop-imp.finder) (g.F.Finder.is_in c.ask.new.finder) h (dispatched c.args.message.now c.args.left.now c.args.me c.args.class c.args.from c.args.left.now) u c.loop-imp.left le so_far (g.F.Finder.is_in c.enter.new.finder) (imp_number c.in_ok-imp.imp) c.ask.new.left c.enter.new.left c.enter.result real c.in_ok-imp.ensures.meaning c.enter.ensures.meaning

pub dispatch-returns-in_err-target-clause-meaning : goal.dispatch-returns-in_err-target-clause-meaning
dispatch-returns-in_err-target-clause-meaning g t c = λ h st.
    let (u, le, so_far) = c.loop-imp.invariant.rest h st in
    let e = err_from_is_err_and c.from_residual-in_err-target.result c.from_residual-in_err-target.ensures.1 in
    let none : imp_number c.in_ok-imp.imp ≡ 0 = omega (arith, c.number.ensures, c.if-number-ne0.false) in
    rw (e.1, e.2) (forwarding_fails c.args.message.now.image.now (bodies c.args.message.now.image.now c.args.message.now.depth) c.loop-imp.me c.loop-imp.class c.loop-imp.from c.args.message.now.sel c.args.message.now.args.now.items
    g.F.Finder.step (g.F.Finder.is_in c.loop-imp.finder) (g.F.Finder.is_in c.ask.new.finder) h (dispatched c.args.message.now c.args.left.now c.args.me c.args.class c.args.from c.args.left.now) u c.loop-imp.left le so_far (g.F.Finder.is_in c.forward.new.finder) (imp_number c.in_ok-imp.imp) c.ask.new.left c.forward.new.left _ none c.in_ok-imp.ensures.meaning c.in_err-target.ensures.meaning)

pub dispatch-loop-imp-preserved : goal.dispatch-loop-imp-preserved
dispatch-loop-imp-preserved g t c = record {
  kept = c.forward.ensures.kept ∙ c.ask.ensures.kept ∙ c.loop-imp.invariant.kept;
  me_of = c.in_ok-target.ensures.target_of.0;
  class_listed = c.in_ok-target.ensures.target_of.1;
  from_listed = c.in_ok-target.ensures.target_of.1;
  no_more = omega (arith, c.in_ok-imp.ensures.fewer);
  rest = λ h st.
      let (u, le, so_far) = c.loop-imp.invariant.rest h st in
      let none : imp_number c.in_ok-imp.imp ≡ 0 = omega (arith, c.number.ensures, c.if-number-ne0.false) in
      starts_again c.args.message.now.image.now (bodies c.args.message.now.image.now c.args.message.now.depth) c.loop-imp.me c.loop-imp.class c.loop-imp.from c.args.message.now.sel c.args.message.now.args.now.items
      g.F.Finder.step (g.F.Finder.is_in c.loop-imp.finder) (g.F.Finder.is_in c.ask.new.finder) h (dispatched c.args.message.now c.args.left.now c.args.me c.args.class c.args.from c.args.left.now) u c.loop-imp.left le so_far (g.F.Finder.is_in c.forward.new.finder) (imp_number c.in_ok-imp.imp) c.ask.new.left c.forward.new.left (c.in_ok-target.target, c.in_ok-target.target_class) none c.in_ok-imp.ensures.fewer c.forward.ensures.no_more c.in_ok-imp.ensures.meaning c.in_ok-target.ensures.meaning;
}

pub enter-returns-then-message-eq0-clause-meaning : goal.enter-returns-then-message-eq0-clause-meaning
enter-returns-then-message-eq0-clause-meaning g t c = λ h st.
    record { state = h; there = st; follows = λ k q r x. rw (no_body c.args.message.now.image.now c.args.message.now.depth (imp_number c.args.imp) c.args.me c.args.message.now.args.now.items c.args.left.now k c.if-message-eq0.true) x }

pub enter-returns-clause-meaning : goal.enter-returns-clause-meaning
enter-returns-clause-meaning g t c = λ h st.
    let x = c.eval_expr.ensures.meaning h st in
    record { state = x.state; there = x.there; follows = λ k q r y. rw (body_of c.args.message.now.image.now c.args.message.now.depth (c.args.message.now.depth - 1) (imp_number c.args.imp) c.args.me c.args.message.now.args.now.items c.args.left.now _ k (omega (arith, c.if-message-eq0.false)) c.imp-imp.ensures.imp) (x.follows k q r y) }

pub eval_expr-eval_send-requires : goal.eval_expr-eval_send-requires
eval_expr-eval_send-requires g t c κs within =
    let is : plain c.args.expr.now ≡ Send (plain c.deref-in-Send.result.now) c.in-Send.sel (plain_all c.deref-in-Send-2.result.now) =
    ap plain c.in-Send.is ∙ plain-Send c.in-Send.receiver c.in-Send.sel c.in-Send.args
    ∙ ap (λ (e : Expr). Send (plain e) c.in-Send.sel (plain_all c.in-Send.args.items)) (sym c.deref-in-Send.ensures)
    ∙ ap (λ (es : List Expr). Send (plain c.deref-in-Send.result.now) c.in-Send.sel (plain_all es)) (sym c.deref-in-Send-2.ensures.value) in
    let all : IsExpressionOf c.args.frame.now.image.now (Send (plain c.deref-in-Send.result.now) c.in-Send.sel (plain_all c.deref-in-Send-2.result.now)) = subst (IsExpressionOf c.args.frame.now.image.now) is c.requires.expr_of in
    let smaller : count (plain c.args.expr.now) ≡ 1 + count (plain c.deref-in-Send.result.now) + count_all (plain_all c.deref-in-Send-2.result.now) = ap count is in
    let few : length c.deref-in-Send-2.result.now ≤ 4 = subst (λ n. n ≤ 4) (arity-plain_all c.deref-in-Send-2.result.now) all.2 in
    search rules

pub eval_expr-eval_super-requires : goal.eval_expr-eval_super-requires
eval_expr-eval_super-requires g t c κs within =
    let is : plain c.args.expr.now ≡ Super c.in-Super.sel (plain_all c.deref-in-Super.result.now) =
    ap plain c.in-Super.is ∙ plain-Super c.in-Super.sel c.in-Super.args
    ∙ ap (λ (es : List Expr). Super c.in-Super.sel (plain_all es)) (sym c.deref-in-Super.ensures.value) in
    let all : IsExpressionOf c.args.frame.now.image.now (Super c.in-Super.sel (plain_all c.deref-in-Super.result.now)) = subst (IsExpressionOf c.args.frame.now.image.now) is c.requires.expr_of in
    let smaller : count (plain c.args.expr.now) ≡ 1 + count_all (plain_all c.deref-in-Super.result.now) = ap count is in
    let few : length c.deref-in-Super.result.now ≤ 4 = subst (λ n. n ≤ 4) (arity-plain_all c.deref-in-Super.result.now) all.1 in
    search rules

pub eval_two-returns-clause-value_of : goal.eval_two-returns-clause-value_of
eval_two-returns-clause-value_of g t c = subst (λ r. IfOk r (IsOf c.args.frame.now.image.now)) (sym c.operate.ensures) (result_is_of c.args.frame.now.image.now (op_of c.args.op) _ _)
