-- The texts that a walk over a body pushes, step by step.
use Rattle.std.proofs.Common.{◌≡◌, ℕ, suc, ◌+◌, ◌<◌, ◌≤◌, List, [], ◌∷◌, ◌++◌, length, map, drop, get_or, Bor, ◌⊎◌, inl, inr, sym, ap, ◌∙◌, append_assoc, append-nil, drop-cons, add-one, rules}
use Rattle.std.specs.Prelude.{ℤ}
use Rattle.std.proofs.lemmas.List.{drop_all}
use Rattle.msg_form.specs.Expression as plain
use Rattle.msg_form.specs.Expression.{constant, me, arg, binary, choice, send, super_send, expressions}
use Rattle.msg_form.specs.ExprView.{constant_view, expr_view}
use Rattle.msg_form.specs.Parts.{own_selector}
use Rattle.msg_form.specs.Text.{Text}
use Rattle.msg_form.specs.Walk.{texts_in, all_texts_in}
use Rattle.msg_form.specs.declared.form.BinaryExpr.{BinaryExpr, out-BinaryExpr}
use Rattle.msg_form.specs.declared.form.Constant.{Constant}
use Rattle.msg_form.specs.declared.form.Expr.{Expr, Whole, Const, Me, Arg, Binary, If, Send, Super, the_lemmas}
use Rattle.msg_form.specs.declared.form.IfExpr.{IfExpr, out-IfExpr}
use Rattle.msg_form.specs.declared.form.SendExpr.{SendExpr, out-SendExpr}
use Rattle.msg_form.specs.declared.form.SuperExpr.{SuperExpr, out-SuperExpr}

-- ---- the texts of an expression of the program

pub texts-Const : (x : Expr) (c : Bor Constant) → x ≡ Const c → texts_in (expr_view x) ≡ own_selector (constant_view c.now)
texts-Const x c at = let seen : expr_view x ≡ constant (constant_view c.now) = ap expr_view at ∙ search (rules, the_lemmas) in ap texts_in seen

pub texts-Whole : (x : Expr) {z : ℤ} → x ≡ Whole z → texts_in (expr_view x) ≡ []
texts-Whole x {z} at = let seen : expr_view x ≡ constant (plain.whole z) = ap expr_view at ∙ search (rules, the_lemmas) in ap texts_in seen

texts-leaf : (x : Expr) → (x ≡ Me) ⊎ ((k : ℕ) × (x ≡ Arg k)) → texts_in (expr_view x) ≡ []
texts-leaf x (inl at) = let seen : expr_view x ≡ me = ap expr_view at ∙ search (rules, the_lemmas) in ap texts_in seen
texts-leaf x (inr k) = let seen : expr_view x ≡ arg k.0 = ap expr_view k.1 ∙ search (rules, the_lemmas) in ap texts_in seen

pub texts-Binary : (x : Expr) (b : Bor BinaryExpr) → x ≡ Binary b → texts_in (expr_view x) ≡ texts_in (expr_view (out-BinaryExpr b.now).left) ++ texts_in (expr_view (out-BinaryExpr b.now).right)
texts-Binary x b at =
    let fields = out-BinaryExpr b.now in
    let seen : expr_view x ≡ binary fields.operator (expr_view fields.left) (expr_view fields.right) = ap expr_view at ∙ search (rules, the_lemmas) in
    ap texts_in seen

pub texts-If : (x : Expr) (b : Bor IfExpr) → x ≡ If b
    → texts_in (expr_view x) ≡ texts_in (expr_view (out-IfExpr b.now).condition) ++ (texts_in (expr_view (out-IfExpr b.now).then) ++ texts_in (expr_view (out-IfExpr b.now).otherwise))
texts-If x b at =
    let fields = out-IfExpr b.now in
    let seen : expr_view x ≡ choice (expr_view fields.condition) (expr_view fields.then) (expr_view fields.otherwise) = ap expr_view at ∙ search (rules, the_lemmas) in
    ap texts_in seen

pub texts-Send : (x : Expr) (b : Bor SendExpr) → x ≡ Send b
    → texts_in (expr_view x) ≡ texts_in (expr_view (out-SendExpr b.now).receiver) ++ ((out-SendExpr b.now).selector.now ∷ all_texts_in (expressions (map expr_view (out-SendExpr b.now).args.now)))
texts-Send x b at =
    let fields = out-SendExpr b.now in
    let seen : expr_view x ≡ send (expr_view fields.receiver) fields.selector.now (expressions (map expr_view fields.args.now)) = ap expr_view at ∙ search (rules, the_lemmas) in
    ap texts_in seen

pub texts-Super : (x : Expr) (b : Bor SuperExpr) → x ≡ Super b → texts_in (expr_view x) ≡ (out-SuperExpr b.now).selector.now ∷ all_texts_in (expressions (map expr_view (out-SuperExpr b.now).args.now))
texts-Super x b at =
    let fields = out-SuperExpr b.now in
    let seen : expr_view x ≡ super_send fields.selector.now (expressions (map expr_view fields.args.now)) = ap expr_view at ∙ search (rules, the_lemmas) in
    ap texts_in seen

-- ---- pushes

pub leaf_pushed : (x : Expr) (old : List Text) → (x ≡ Me) ⊎ ((k : ℕ) × (x ≡ Arg k)) → old ≡ old ++ texts_in (expr_view x)
leaf_pushed x old is = sym (ap (λ ts. old ++ ts) (texts-leaf x is) ∙ append-nil old)

pub none_pushed : (old all : List Text) → all ≡ [] → old ≡ old ++ all
none_pushed old all is = sym (ap (λ ts. old ++ ts) is ∙ append-nil old)

pub one_pushed : (old new all a : List Text) → all ≡ a → new ≡ old ++ a → new ≡ old ++ all
one_pushed old new all a is e = e ∙ ap (λ ts. old ++ ts) (sym is)

pub two_pushed : (old mid new all a b : List Text) → all ≡ a ++ b → mid ≡ old ++ a → new ≡ mid ++ b → new ≡ old ++ all
two_pushed old mid new all a b is e f = f ∙ ap (λ ts. ts ++ b) e ∙ append_assoc old a b ∙ ap (λ ts. old ++ ts) (sym is)

pub three_pushed : (old mid more new all a b c : List Text) → all ≡ a ++ (b ++ c) → mid ≡ old ++ a → more ≡ mid ++ b → new ≡ more ++ c → new ≡ old ++ all
three_pushed old mid more new all a b c is e f g = two_pushed old mid new all a (b ++ c) is e (two_pushed mid more new (b ++ c) b c (λ i. b ++ c) f g)

-- a selector, and what comes after it
pub selector_pushed : (selector : Text) (old mid new all rest : List Text) → all ≡ selector ∷ rest → mid ≡ old ++ selector ∷ [] → new ≡ mid ++ rest → new ≡ old ++ all
selector_pushed selector old mid new all rest is e f = two_pushed old mid new all (selector ∷ []) rest is e f

-- the same after a receiver
pub send_pushed : (selector : Text) (old first mid new all a rest : List Text) → all ≡ a ++ (selector ∷ rest) → first ≡ old ++ a → mid ≡ first ++ selector ∷ [] → new ≡ mid ++ rest → new ≡ old ++ all
send_pushed selector old first mid new all a rest is e f g = two_pushed old first new all a (selector ∷ rest) is e (selector_pushed selector first mid new (selector ∷ rest) rest (λ i. selector ∷ rest) f g)

-- ---- the loop over expressions

pub pushed_on : (xs : List Expr) (i : ℕ) (x : Expr) (old new whole : List Text) → i < length xs → x ≡ get_or xs i x → new ≡ old ++ texts_in (expr_view x)
    → old ++ all_texts_in (expressions (map expr_view (drop i xs))) ≡ whole → new ++ all_texts_in (expressions (map expr_view (drop (i + 1) xs))) ≡ whole
pushed_on xs i x old new whole lt at e so_far =
    let first : drop i xs ≡ x ∷ drop (i + 1) xs = rw add-one (drop-cons xs i x lt ∙ ap (λ y. y ∷ drop (suc i) xs) (sym at)) in
    let rest = all_texts_in (expressions (map expr_view (drop (i + 1) xs))) in
    ap (λ ts. ts ++ rest) e ∙ append_assoc old (texts_in (expr_view x)) rest ∙ sym (ap (λ ys. old ++ all_texts_in (expressions (map expr_view ys))) first) ∙ so_far

pub pushed_all : (xs : List Expr) (i : ℕ) (old whole : List Text) → length xs ≤ i → old ++ all_texts_in (expressions (map expr_view (drop i xs))) ≡ whole → old ≡ whole
pushed_all xs i old whole past so_far = sym (append-nil old) ∙ sym (ap (λ ys. old ++ all_texts_in (expressions (map expr_view ys))) (drop_all i xs past)) ∙ so_far
