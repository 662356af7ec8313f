use Rattle.std.proofs.Common.{◌≡◌, ◌<◌, ◌≤◌, ◌+◌, ◌*◌, ℕ, length, List, [], drop, All}
use Rattle.msg_image.specs.Parts.{class_total}
use Rattle.msg_names.specs.declared.value.Value.{Value}
use Rattle.msg_image.specs.Plain.{plain, plain_all}
use Rattle.msg_image.specs.Sizes.{count, count_all}
use Rattle.msg_image.specs.Sound.{IsOf, AreExpressionsOf}
use Rattle.msg_eval.specs.Evaluated.{dispatched, all_evaluated}
use Rattle.msg_eval.specs.Step.{ComesTo}
use Rattle.msg_eval.proofs.eval.+eval.Given as goal

abbrev pub decreases-dispatch : goal.decreases-dispatch
decreases-dispatch g l = l.message.now.depth * 2048 + 2

abbrev pub decreases-enter : goal.decreases-enter
decreases-enter g l = l.message.now.depth * 2048

abbrev pub decreases-eval_expr : goal.decreases-eval_expr
decreases-eval_expr g l = l.frame.now.depth * 2048 + 3 + 4 * count (plain l.expr.now)

abbrev pub decreases-eval_args : goal.decreases-eval_args
decreases-eval_args g l = l.frame.now.depth * 2048 + 4 + 4 * count_all (plain_all l.exprs.now)

abbrev pub decreases-eval_two : goal.decreases-eval_two
decreases-eval_two g l = l.frame.now.depth * 2048 + 5 + 4 * (count (plain l.a.now) + count (plain l.b.now))

abbrev pub decreases-eval_if : goal.decreases-eval_if
decreases-eval_if g l = l.frame.now.depth * 2048 + 5 + 4 * (count (plain l.test.now) + count (plain l.yes.now) + count (plain l.no.now))

abbrev pub decreases-eval_send : goal.decreases-eval_send
decreases-eval_send g l = l.frame.now.depth * 2048 + 5 + 4 * (count (plain l.receiver.now) + count_all (plain_all l.args.now))

abbrev pub decreases-eval_super : goal.decreases-eval_super
decreases-eval_super g l = l.frame.now.depth * 2048 + 5 + 4 * count_all (plain_all l.args.now)

abbrev pub decreases-forward : goal.decreases-forward
decreases-forward g l = l.message.now.depth * 2048 + 1

abbrev pub decreases-send_super : goal.decreases-send_super
decreases-send_super g l = l.message.now.depth * 2048 + 3

abbrev pub decreases-send_to : goal.decreases-send_to
decreases-send_to g l = l.message.now.depth * 2048 + 3

-- the dispatch comes to one of the receiver that is asked now
abbrev pub invariant-dispatch-loop-imp : goal.invariant-dispatch-loop-imp
invariant-dispatch-loop-imp g l = record {
  kept : g.F.Finder.kept l.finder ≡ g.F.Finder.kept l.fn.finder;
  me_of : IsOf l.message.image.now l.me;
  class_listed : l.class.class < class_total l.message.image.now;
  from_listed : l.from.class < class_total l.message.image.now;
  no_more : l.left ≤ l.fn.left;
  rest : (h : g.F.Finder.State) → g.F.Finder.is_in l.fn.finder h → (t : ℕ) × (l.left ≤ t) × ComesTo {A = Value} g.F.Finder.step (g.F.Finder.is_in l.finder) h
      (dispatched l.message l.fn.left l.fn.me l.fn.class l.fn.from l.fn.left)
      (dispatched l.message t l.me l.class l.from l.left);
}

abbrev pub decreases-dispatch-loop-imp : goal.decreases-dispatch-loop-imp
decreases-dispatch-loop-imp g l = l.left

-- the arguments come to those that are left, after the values of the others
abbrev pub invariant-eval_args-loop-expr : goal.invariant-eval_args-loop-expr
invariant-eval_args-loop-expr g l = record {
  kept : g.F.Finder.kept l.finder ≡ g.F.Finder.kept l.fn.finder;
  no_more : l.left ≤ l.fn.left;
  values_of : All (IsOf l.frame.image.now) l.values.items;
  as_many : length l.values.items ≡ l.expr-index;
  rest_of : AreExpressionsOf l.frame.image.now (plain_all (drop l.expr-index l.exprs));
  smaller : count_all (plain_all (drop l.expr-index l.exprs)) ≤ count_all (plain_all l.exprs);
  rest : (h : g.F.Finder.State) → g.F.Finder.is_in l.fn.finder h → ComesTo {A = List Value} g.F.Finder.step (g.F.Finder.is_in l.finder) h
      (all_evaluated l.frame (plain_all l.exprs) [] l.fn.left)
      (all_evaluated l.frame (plain_all (drop l.expr-index l.exprs)) l.values.items l.left);
}
