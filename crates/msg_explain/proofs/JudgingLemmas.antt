-- Sends and superclasses that are judged.
use Rattle.std.proofs.Common.{◌≡◌, ℕ, suc, ◌+◌, ◌-◌, ◌<◌, ◌||◌, List, length, map, false, Option, Some, Bor, bytes_eq, rules, sym, ap, ◌∙◌, arith}
use Rattle.std.specs.List.{list_any}
use Rattle.msg_form.specs.Expression.{expressions, count_of, send, super_send}
use Rattle.msg_form.specs.ExprView.{expr_view}
use Rattle.msg_form.specs.Faults.{is_miscounted_send}
use Rattle.msg_form.specs.Form.{ClassForm}
use Rattle.msg_form.specs.Parts.{own_sends}
use Rattle.msg_form.specs.Text.{Text}
use Rattle.msg_form.specs.declared.form.Expr.{Expr, Send, Super, the_lemmas}
use Rattle.msg_form.specs.declared.form.SendExpr.{SendExpr, out-SendExpr}
use Rattle.msg_form.specs.declared.form.SuperExpr.{SuperExpr, out-SuperExpr}
use Rattle.msg_form.proofs.CountLemmas.{counted}
use Rattle.msg_form.proofs.TextLemmas.{or-false}
use Rattle.msg_explain.specs.Judging.{is_met, superclass_named}

-- what a send sends, and with how many arguments
pub send_is : (x : Expr) (s : Bor SendExpr) → x ≡ Send s → is_miscounted_send ((out-SendExpr s.now).selector.now, length (out-SendExpr s.now).args.now) ≡ list_any is_miscounted_send (own_sends (expr_view x))
send_is x s is =
    let fields = out-SendExpr s.now in
    let es = expressions (map expr_view fields.args.now) in
    let seen : expr_view x ≡ send (expr_view fields.receiver) fields.selector.now es = ap expr_view is ∙ search (rules, the_lemmas) in
    ap (λ n. is_miscounted_send (fields.selector.now, n)) (sym (counted fields.args.now)) ∙ sym (or-false (is_miscounted_send (fields.selector.now, count_of es))) ∙ sym (ap (λ e. list_any is_miscounted_send (own_sends e)) seen)

-- and a super send
pub super_is : (x : Expr) (s : Bor SuperExpr) → x ≡ Super s → is_miscounted_send ((out-SuperExpr s.now).selector.now, length (out-SuperExpr s.now).args.now) ≡ list_any is_miscounted_send (own_sends (expr_view x))
super_is x s is =
    let fields = out-SuperExpr s.now in
    let es = expressions (map expr_view fields.args.now) in
    let seen : expr_view x ≡ super_send fields.selector.now es = ap expr_view is ∙ search (rules, the_lemmas) in
    ap (λ n. is_miscounted_send (fields.selector.now, n)) (sym (counted fields.args.now)) ∙ sym (or-false (is_miscounted_send (fields.selector.now, count_of es))) ∙ sym (ap (λ e. list_any is_miscounted_send (own_sends e)) seen)

-- a class is met above another, or not
pub met_on : (n step : ℕ) (cs : List ClassForm) (name a : Text) (above next : Option Text) → step < n → above ≡ Some a → bytes_eq name a ≡ false → next ≡ superclass_named cs a → is_met (n - (step + 1)) cs name next ≡ is_met (n - step) cs name above
met_on n step cs name a above next lt is other then =
    let left : n - step ≡ suc (n - (step + 1)) = omega (arith, lt) in
    ap (is_met (n - (step + 1)) cs name) then ∙ sym (ap (λ b. b || is_met (n - (step + 1)) cs name (superclass_named cs a)) other) ∙ ap (λ k. is_met k cs name (Some a)) (sym left) ∙ ap (is_met (n - step) cs name) (sym is)
