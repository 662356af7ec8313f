-- What is in an expression is what is in its form.
use Rattle.std.proofs.Common.{◌≡◌, ◌<◌, ℕ, List, [], ◌∷◌, ◌++◌, map, Bool, false, ◌||◌, refl, sym, ap, ◌∙◌, arith}
use Rattle.std.specs.Prelude.{All, min, nat_le}
use Rattle.std.specs.List.{list_any, flat_map}
use Rattle.std.proofs.Math.Nat.{min-le_left}
use Rattle.std.proofs.lemmas.Bool.Decides.{nat_tests}
use Rattle.std.proofs.lemmas.Grind.{flat_map-append}
use Rattle.std.proofs.lemmas.List.{map-append}
use Rattle.std.proofs.lemmas.List.Elements.{All-map}
use Rattle.std.proofs.lemmas.List.Folds.{list_any-append}
use Rattle.msg_names.specs.declared.value.Selector.{Selector}
use Rattle.msg_form.specs.Expression as form
use Rattle.msg_form.specs.Parts as inner
use Rattle.msg_form.specs.Text.{Text}
use Rattle.msg_form.specs.Walk.{texts_in, all_texts_in}
use Rattle.msg_image.specs.Contents.{own_selector, selectors_in, all_selectors_in, arguments_in, all_arguments_in, has_super_send, have_super_send}
use Rattle.msg_image.specs.Document.{constant, expression, expressions}
use Rattle.msg_image.specs.Numbers.{Numbers, selector_named}
use Rattle.msg_image.proofs.NoneLemmas.{each-none}

-- ---- selectors

pub own_selector-constant : (n : Numbers) (c : form.Constant) → own_selector (constant n c) ≡ map (selector_named n) (inner.own_selector c)
own_selector-constant n (form.whole z) = refl
own_selector-constant n form.nil = refl
own_selector-constant n (form.object_named name) = refl
own_selector-constant n (form.class_named name) = refl
own_selector-constant n (form.selector_named s) = refl

pub own_selectors : (n : Numbers) (cs : List form.Constant) → flat_map own_selector (map (constant n) cs) ≡ map (selector_named n) (flat_map inner.own_selector cs)
own_selectors n [] = refl
own_selectors n (c ∷ cs) = (λ i. own_selector-constant n c i ++ own_selectors n cs i) ∙ sym (map-append (selector_named n) (inner.own_selector c) (flat_map inner.own_selector cs))

module _ (n : Numbers) where
  two : (xs ys : List Selector) (ts us : List Text) → xs ≡ map (selector_named n) ts → ys ≡ map (selector_named n) us → (xs ++ ys) ≡ map (selector_named n) (ts ++ us)
  two xs ys ts us e h = (λ i. e i ++ h i) ∙ sym (map-append (selector_named n) ts us)

  mutual
    pub selectors-expression : (e : form.Expression) → selectors_in (expression n e) ≡ map (selector_named n) (texts_in e)
    selectors-expression (form.constant c) = own_selector-constant n c
    selectors-expression form.me = refl
    selectors-expression (form.arg k) = refl
    selectors-expression (form.binary o a b) = two _ _ (texts_in a) (texts_in b) (selectors-expression a) (selectors-expression b)
    selectors-expression (form.choice a b c) = two _ _ (texts_in a) (texts_in b ++ texts_in c) (selectors-expression a) (two _ _ (texts_in b) (texts_in c) (selectors-expression b) (selectors-expression c))
    selectors-expression (form.send r s es) = two _ _ (texts_in r) (s ∷ all_texts_in es) (selectors-expression r) (ap (λ ss. selector_named n s ∷ ss) (selectors-expressions es))
    selectors-expression (form.super_send s es) = ap (λ ss. selector_named n s ∷ ss) (selectors-expressions es)

    selectors-expressions : (es : form.Expressions) → all_selectors_in (expressions n es) ≡ map (selector_named n) (all_texts_in es)
    selectors-expressions form.no_more = refl
    selectors-expressions (form.more e es) = two _ _ (texts_in e) (all_texts_in es) (selectors-expression e) (selectors-expressions es)

-- ---- arguments

-- the arguments that these parts read, each as an expression has it
abbrev read_by : List form.Expression → List ℕ
read_by ps = map (λ k. min k 255) (flat_map inner.own_indices ps)

read_by-append : (ps qs : List form.Expression) → read_by (ps ++ qs) ≡ read_by ps ++ read_by qs
read_by-append ps qs = ap (map (λ k. min k 255)) (flat_map-append inner.own_indices ps qs) ∙ map-append (λ k. min k 255) (flat_map inner.own_indices ps) (flat_map inner.own_indices qs)

both : (xs ys : List ℕ) (ps qs : List form.Expression) → xs ≡ read_by ps → ys ≡ read_by qs → (xs ++ ys) ≡ read_by (ps ++ qs)
both xs ys ps qs e h = (λ i. e i ++ h i) ∙ sym (read_by-append ps qs)

mutual
  arguments-expression : (n : Numbers) (e : form.Expression) → arguments_in (expression n e) ≡ read_by (inner.parts e)
  arguments-expression n (form.constant c) = refl
  arguments-expression n form.me = refl
  arguments-expression n (form.arg k) = refl
  arguments-expression n (form.binary o a b) = both _ _ (inner.parts a) (inner.parts b) (arguments-expression n a) (arguments-expression n b)
  arguments-expression n (form.choice a b c) = both _ _ (inner.parts a) (inner.parts b ++ inner.parts c) (arguments-expression n a) (both _ _ (inner.parts b) (inner.parts c) (arguments-expression n b) (arguments-expression n c))
  arguments-expression n (form.send r s es) = both _ _ (inner.parts r) (inner.all_parts es) (arguments-expression n r) (arguments-expressions n es)
  arguments-expression n (form.super_send s es) = arguments-expressions n es

  arguments-expressions : (n : Numbers) (es : form.Expressions) → all_arguments_in (expressions n es) ≡ read_by (inner.all_parts es)
  arguments-expressions n form.no_more = refl
  arguments-expressions n (form.more e es) = both _ _ (inner.parts e) (inner.all_parts es) (arguments-expression n e) (arguments-expressions n es)

below : (args k : ℕ) → nat_le args k ≡ false → min k 255 < args
below args k e = let lt : k < args = grind (arith, nat_tests) in omega (arith, lt, min-le_left k 255)

-- an expression that reads no argument past the last
pub arguments_below : (n : Numbers) (args : ℕ) (e : form.Expression) → list_any (nat_le args) (inner.indices_in e) ≡ false → All (λ k. k < args) (arguments_in (expression n e))
arguments_below n args e none = rw (arguments-expression n e) (All-map (λ k. k < args) (λ k. min k 255) (inner.indices_in e) (each-none (λ k. min k 255 < args) (nat_le args) (inner.indices_in e) (below args) none))

-- ---- super sends

any : (a b : Bool) (ps qs : List form.Expression) → a ≡ list_any inner.is_super_send ps → b ≡ list_any inner.is_super_send qs → (a || b) ≡ list_any inner.is_super_send (ps ++ qs)
any a b ps qs e h = (λ i. e i || h i) ∙ sym (list_any-append inner.is_super_send ps qs)

mutual
  pub super-expression : (n : Numbers) (e : form.Expression) → has_super_send (expression n e) ≡ list_any inner.is_super_send (inner.parts e)
  super-expression n (form.constant c) = refl
  super-expression n form.me = refl
  super-expression n (form.arg k) = refl
  super-expression n (form.binary o a b) = any _ _ (inner.parts a) (inner.parts b) (super-expression n a) (super-expression n b)
  super-expression n (form.choice a b c) = any _ _ (inner.parts a) (inner.parts b ++ inner.parts c) (super-expression n a) (any _ _ (inner.parts b) (inner.parts c) (super-expression n b) (super-expression n c))
  super-expression n (form.send r s es) = any _ _ (inner.parts r) (inner.all_parts es) (super-expression n r) (super-expressions n es)
  super-expression n (form.super_send s es) = refl

  super-expressions : (n : Numbers) (es : form.Expressions) → have_super_send (expressions n es) ≡ list_any inner.is_super_send (inner.all_parts es)
  super-expressions n form.no_more = refl
  super-expressions n (form.more e es) = any _ _ (inner.parts e) (inner.all_parts es) (super-expression n e) (super-expressions n es)
