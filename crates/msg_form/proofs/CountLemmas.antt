-- Argument counts.
use Rattle.std.proofs.Common.{◌≡◌, ℕ, suc, ◌-◌, arith, Bool, true, false, cond, List, [], ◌∷◌, length, map, Option, None, Some, option_map, slice_get, bytes_eq, Bor, refl, ap, ◌∙◌}
use Rattle.std.specs.List.{find, flat_map, list_any}
use Rattle.msg_names.specs.Numbering.{number_of}
use Rattle.msg_form.specs.Expression.{expressions, count_of}
use Rattle.msg_form.specs.ExprView.{expr_view}
use Rattle.msg_form.specs.Faults.{args_named, differs, is_miscounted}
use Rattle.msg_form.specs.Form.{PairForm, ImpForm}
use Rattle.msg_form.specs.ImpArgs.{args_at, is_miscounted_by}
use Rattle.msg_form.specs.Json.{◌>>=◌}
use Rattle.msg_form.specs.Text.{Text}
use Rattle.msg_form.specs.Views.{pair_view, lists_view}
use Rattle.msg_form.specs.declared.form.Expr.{Expr}
use Rattle.msg_form.specs.declared.form.Pair.{Pair}
use Rattle.msg_form.proofs.AnyLemmas.{any_listed}

pub counted : (es : List Expr) → count_of (expressions (map expr_view es)) ≡ length es
counted [] = refl
counted (e ∷ es) = ap suc (counted es)

-- ---- implementations by the places of their names

-- the place of a name, from 0
abbrev place_of : List Text → Text → Option ℕ
place_of [] name = None
place_of (n ∷ ns) name = cond (bytes_eq name n) (Some 0) (option_map suc (place_of ns name))

number_of-place : (names : List Text) (name : Text) → number_of names name ≡ option_map suc (place_of names name)
number_of-place [] name = refl
number_of-place (n ∷ ns) name = at_test (bytes_eq name n) (number_of-place ns name)
  where
    at_test : (b : Bool) → number_of ns name ≡ option_map suc (place_of ns name) → cond b (Some 1) (option_map suc (number_of ns name)) ≡ option_map suc (cond b (Some 0) (option_map suc (place_of ns name)))
    at_test true e = refl
    at_test false e = ap (option_map suc) e

there : (imps : List ImpForm) (o : Option ℕ) → (option_map suc o >>= λ n. option_map (λ (i : ImpForm). i.args) (slice_get imps (n - 1))) ≡ (o >>= λ n. option_map (λ (i : ImpForm). i.args) (slice_get imps n))
there imps None = refl
there imps (Some n) = let before : suc n - 1 ≡ n = omega arith in ap (λ m. option_map (λ (i : ImpForm). i.args) (slice_get imps m)) before

further : (i : ImpForm) (imps : List ImpForm) (o : Option ℕ) → (option_map suc o >>= λ n. option_map (λ (j : ImpForm). j.args) (slice_get (i ∷ imps) n)) ≡ (o >>= λ n. option_map (λ (j : ImpForm). j.args) (slice_get imps n))
further i imps None = refl
further i imps (Some n) = refl

at_place : (imps : List ImpForm) (name : Text) → (place_of (map (λ (i : ImpForm). i.name) imps) name >>= λ n. option_map (λ (i : ImpForm). i.args) (slice_get imps n)) ≡ args_named imps name
at_place [] name = refl
at_place (i ∷ imps) name = at_test (bytes_eq name i.name) (at_place imps name)
  where
    at_test : (b : Bool) → (place_of (map (λ (j : ImpForm). j.name) imps) name >>= λ n. option_map (λ (j : ImpForm). j.args) (slice_get imps n)) ≡ args_named imps name
        → (cond b (Some 0) (option_map suc (place_of (map (λ (j : ImpForm). j.name) imps) name)) >>= λ n. option_map (λ (j : ImpForm). j.args) (slice_get (i ∷ imps) n)) ≡ option_map (λ (j : ImpForm). j.args) (cond b (Some i) (find (λ (j : ImpForm). bytes_eq name j.name) imps))
    at_test true e = refl
    at_test false e = further i imps (place_of (map (λ (j : ImpForm). j.name) imps) name) ∙ e

-- if the names are those of the implementations, the place gives the first with a name
pub args_at-names : (imps : List ImpForm) (name : Text) → args_at (map (λ (i : ImpForm). i.name) imps) imps name ≡ args_named imps name
args_at-names imps name =
    let names = map (λ (i : ImpForm). i.name) imps in
    ap (λ o. o >>= λ n. option_map (λ (i : ImpForm). i.args) (slice_get imps (n - 1))) (number_of-place names name) ∙ there imps (place_of names name) ∙ at_place imps name

-- the implementations' names find the pairs that are miscounted
pub miscounted : (names : List Text) (imps : List ImpForm) (lists : List (Bor (List Pair))) (all : List (List PairForm)) (r : Bool) → names ≡ map (λ (i : ImpForm). i.name) imps → lists_view lists ≡ all
    → r ≡ list_any (λ l. list_any (is_miscounted_by names imps) l.now) lists → r ≡ list_any (is_miscounted imps) (flat_map (λ l. l) all)
miscounted names imps lists all r same are e =
    let args : (name : Text) → args_at names imps name ≡ args_named imps name = λ name. ap (λ ns. args_at ns imps name) same ∙ args_at-names imps name in
    let tests : list_any (λ l. list_any (is_miscounted_by names imps) l.now) lists ≡ list_any (λ l. list_any (λ p. is_miscounted imps (pair_view p)) l.now) lists = λ i. list_any (λ l. list_any (λ p. differs (args p.imp.now i) p.selector.now) l.now) lists in
    e ∙ tests ∙ any_listed (is_miscounted imps) pair_view lists ∙ ap (λ ls. list_any (is_miscounted imps) (flat_map (λ l. l) ls)) are
