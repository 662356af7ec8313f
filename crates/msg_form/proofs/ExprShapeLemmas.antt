-- What the values of a list spell as constants and expressions.
use Rattle.std.proofs.Common.{◌≡◌, ℕ, ◌-◌, ◌<◌, ◌≤◌, List, [], ◌∷◌, map, take, drop, get_or, length, slice_get, Option, None, Some, option_map, Bor, ◌==◌, true, eq-eqb, refl, sym, ap, ◌∙◌, arith, length-drop}
use Rattle.std.proofs.lemmas.List.{drop-map, length-map, take_all}
use Rattle.std.proofs.lemmas.Option.{slice_get-map}
use Rattle.serde_json.specs.Find.{as_str}
use Rattle.serde_json.specs.Data.{Data, Items, no_items, item, array}
use Rattle.msg_json.specs.declared.tree.Tree.{Tree, Array}
use Rattle.msg_json.proofs.ViewLemmas.{view-Array}
use Rattle.msg_json.specs.View.{view, items_view}
use Rattle.msg_form.specs.Text.{Text}
use Rattle.msg_form.specs.declared.form.Operator.{Operator}
use Rattle.msg_form.specs.Expression.{Expression, binary, choice, send, expressions}
use Rattle.msg_form.specs.ExprShape.{at, two_at, constant_of, listed_constant_of, expression_of, readings_of, listed_of, all_from, binary_of, choice_of, send_expression_of, super_expression_of}
use Rattle.msg_form.specs.Gives.{Fails}
use Rattle.msg_form.specs.Json.{◌>>=◌, each, value_of, values_of}
use Rattle.msg_form.specs.ExprView.{expr_view}
use Rattle.msg_form.specs.declared.faults.ReadFault.{ReadFault}
use Rattle.msg_form.specs.declared.faults.ReadFault.TheVariants as faults
use Rattle.msg_form.specs.declared.form.Expr.{Expr}
use Rattle.msg_form.proofs.JsonLemmas.{values_of-items_view, value_there, with_first, starts}

pub constant_of-array : (v : Tree) (values : Bor (List Tree)) → v ≡ Array values → constant_of (view v) ≡ listed_constant_of (map view values.now)
unfolding constant_of
constant_of-array v values is = rw (is, view-Array, values_of-items_view)

readings_of-map : (ds : Items) → readings_of ds ≡ map expression_of (values_of ds)
readings_of-map no_items = refl
readings_of-map (item d ds) = ap (λ es. expression_of d ∷ es) (readings_of-map ds)

listed_of-items : (vs : List Tree) → expression_of (array (items_view vs)) ≡ listed_of (map view vs) (map expression_of (map view vs))
listed_of-items vs =
    let values = values_of-items_view vs in
    let readings = readings_of-map (items_view vs) ∙ ap (map expression_of) values in
    (λ i. listed_of (values i) (readings i))

pub expression_of-array : (v : Tree) (values : Bor (List Tree)) → v ≡ Array values → expression_of (view v) ≡ listed_of (map view values.now) (map expression_of (map view values.now))
expression_of-array v values is = ap (λ w. expression_of (view w)) is ∙ ap expression_of (view-Array values) ∙ listed_of-items values.now

-- what the value at a place spells
pub reading_there : (vs : List Tree) (i : ℕ) (v : Tree) → i < length vs → v ≡ get_or vs i v → slice_get (map expression_of (map view vs)) i ≡ Some (expression_of (view v))
reading_there vs i v lt at = slice_get-map expression_of (map view vs) i ∙ ap (option_map expression_of) (value_there vs i v lt at)

pub reading_is : (vs : List Tree) (i : ℕ) (v : Tree) → i < length vs → v ≡ get_or vs i v → at i (map expression_of (map view vs)) ≡ expression_of (view v)
reading_is vs i v lt there = ap (λ o. o >>= λ e. e) (reading_there vs i v lt there)

so_many : (vs : List Tree) (n : ℕ) → length vs ≡ n → (length (map expression_of (map view vs)) == n) ≡ true
so_many vs n e = eq-eqb (length (map expression_of (map view vs))) n (length-map (map view vs) expression_of ∙ length-map vs view ∙ e)

-- if there are n values and the first expression was read, the rest decides
pub binary_left : (operator : Operator) (vs : List Tree) (left : Expression) → length vs ≡ 3 → at 1 (map expression_of (map view vs)) ≡ Some left
    → binary_of operator (map expression_of (map view vs)) ≡ (at 2 (map expression_of (map view vs)) >>= λ right. Some (binary operator left right))
unfolding binary_of
binary_left operator vs left len is = rw (so_many vs 3 len, is) refl

pub choice_left : (vs : List Tree) (condition : Expression) → length vs ≡ 4 → at 1 (map expression_of (map view vs)) ≡ Some condition
    → choice_of (map expression_of (map view vs)) ≡ (two_at 2 3 (map expression_of (map view vs)) >>= λ es. Some (choice condition es.0 es.1))
unfolding choice_of
choice_left vs condition len is = rw (so_many vs 4 len, is) (branches (at 2 (map expression_of (map view vs))) (at 3 (map expression_of (map view vs))))
  where
    branches : (a b : Option Expression) → (a >>= λ y. b >>= λ n. Some (choice condition y n)) ≡ ◌>>=◌ {A = Expression × Expression} (a >>= λ y. b >>= λ n. Some (y, n)) (λ es. Some (choice condition es.0 es.1))
    branches None b = refl
    branches (Some y) None = refl
    branches (Some y) (Some n) = refl

pub send_left : (vs : List Tree) (receiver : Expression) (selector : Text) → value_of as_str 2 (map view vs) ≡ Some selector → at 1 (map expression_of (map view vs)) ≡ Some receiver
    → send_expression_of (map view vs) (map expression_of (map view vs)) ≡ (all_from 3 (map expression_of (map view vs)) >>= λ args. Some (send receiver selector (expressions args)))
unfolding send_expression_of
send_left vs receiver selector is_selector is = rw (is, is_selector) refl

-- if an expression inside is not read, the value spells none
pub binary_fails : (operator : Operator) (vs : List Tree) (e : ReadFault) → length vs ≡ 3 → Fails e (at 1 (map expression_of (map view vs))) → Fails e (binary_of operator (map expression_of (map view vs)))
unfolding binary_of
binary_fails operator vs faults.Memory len fails = tt
binary_fails operator vs faults.Shape len none = rw (so_many vs 3 len, none) refl

pub choice_fails : (vs : List Tree) (e : ReadFault) → length vs ≡ 4 → Fails e (at 1 (map expression_of (map view vs))) → Fails e (choice_of (map expression_of (map view vs)))
unfolding choice_of
choice_fails vs faults.Memory len fails = tt
choice_fails vs faults.Shape len none = rw (so_many vs 4 len, none) refl

pub send_fails : (vs : List Tree) (e : ReadFault) → Fails e (at 1 (map expression_of (map view vs))) → Fails e (send_expression_of (map view vs) (map expression_of (map view vs)))
unfolding send_expression_of
send_fails vs faults.Memory fails = tt
send_fails vs faults.Shape none = rw none refl

pub super_fails : (vs : List Tree) (selector : Text) (e : ReadFault) → Some selector ≡ value_of as_str 1 (map view vs) → Fails e (all_from 2 (map expression_of (map view vs))) → Fails e (super_expression_of (map view vs) (map expression_of (map view vs)))
unfolding super_expression_of
super_fails vs selector faults.Memory is fails = tt
super_fails vs selector faults.Shape is none = rw (← is, none) refl

-- without a selector there is no send
pub unselected : (ds : List Data) (es : List (Option Expression)) → value_of as_str 2 ds ≡ None → send_expression_of ds es ≡ None
unfolding send_expression_of
unselected ds es none = rw none (nowhere (at 1 es) (λ r. None) (λ r. refl))
  where
    nowhere : (o : Option Expression) (f : Expression → Option Expression) → ((r : Expression) → f r ≡ None) → (o >>= f) ≡ None
    nowhere None f none = refl
    nowhere (Some r) f none = none r

each-map : {A B : Type 0} (f : A → Option B) (xs : List A) → each (λ o. o) (map f xs) ≡ each f xs
each-map f [] = refl
each-map f (x ∷ xs) = ap (λ r. f x >>= λ y. option_map (λ ys. y ∷ ys) r) (each-map f xs)

all_from-map : (i : ℕ) (vs : List Tree) → all_from i (map expression_of (map view vs)) ≡ each expression_of (map view (drop i vs))
all_from-map i vs = ap (each (λ o. o)) (drop-map expression_of i (map view vs) ∙ ap (map expression_of) (drop-map view i vs)) ∙ each-map expression_of (map view (drop i vs))

-- a loop over the values from a place on begins
pub exprs_start : (exprs : List Expr) (vs : List Tree) (i : ℕ) → exprs ≡ [] → i ≤ length vs → with_first (map expr_view exprs) (each expression_of (map view (take (length vs - i) (drop i vs)))) ≡ all_from i (map expression_of (map view vs))
exprs_start exprs vs i none le =
    let rest : take (length vs - i) (drop i vs) ≡ drop i vs = take_all (length vs - i) (drop i vs) (omega (arith, length-drop i vs)) in
    rw (none, rest) (starts (each expression_of (map view (drop i vs))) ∙ sym (all_from-map i vs))
