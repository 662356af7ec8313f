-- Expressions of a document without fault: what they name is listed, and they are as large as their
-- forms.
use Rattle.std.proofs.Common.{◌≡◌, ◌<◌, ◌≤◌, ◌+◌, ℕ, suc, List, [], ◌∷◌, ◌++◌, length, length-append, Bool, true, false, not, refl, sym, ap, ◌∙◌, arith}
use Rattle.std.specs.Prelude.{max, ◌==◌}
use Rattle.std.specs.List.{list_any, flat_map}
use Rattle.std.proofs.lemmas.Bool.Decides.{nat_tests}
use Rattle.msg_names.specs.Name.{colons_of, is_selector_name}
use Rattle.msg_names.proofs.NumberLemmas.{few_colons}
use Rattle.msg_form.specs.Expression as form
use Rattle.msg_form.specs.Faults.{is_miscounted_send}
use Rattle.msg_form.specs.Parts as inner
use Rattle.msg_form.specs.Text.{Text, is_unknown}
use Rattle.msg_form.specs.Walk.{texts_in, all_texts_in}
use Rattle.msg_image.specs.Document.{constant, expression, expressions}
use Rattle.msg_image.specs.Numbers.{Numbers, class_named, object_named}
use Rattle.msg_image.specs.Parts.{class_total, ImageParts}
use Rattle.msg_image.specs.Sizes.{count, count_all, depth, depth_all, arity}
use Rattle.msg_image.specs.Sound.{IsOf, IsExpressionOf, AreExpressionsOf}
use Rattle.msg_image.proofs.NoneLemmas.{neither, none-append}

-- ---- sizes

mutual
  pub count-expression : (n : Numbers) (e : form.Expression) → count (expression n e) ≡ length (inner.parts e)
  count-expression n (form.constant c) = refl
  count-expression n form.me = refl
  count-expression n (form.arg k) = refl
  count-expression n (form.binary o a b) = omega (arith, count-expression n a, count-expression n b, length-append (inner.parts a) (inner.parts b))
  count-expression n (form.choice a b c) = omega (arith, count-expression n a, count-expression n b, count-expression n c, length-append (inner.parts a) (inner.parts b ++ inner.parts c), length-append (inner.parts b) (inner.parts c))
  count-expression n (form.send r s es) = omega (arith, count-expression n r, count-expressions n es, length-append (inner.parts r) (inner.all_parts es))
  count-expression n (form.super_send s es) = omega (arith, count-expressions n es)

  count-expressions : (n : Numbers) (es : form.Expressions) → count_all (expressions n es) ≡ length (inner.all_parts es)
  count-expressions n form.no_more = refl
  count-expressions n (form.more e es) = omega (arith, count-expression n e, count-expressions n es, length-append (inner.parts e) (inner.all_parts es))

deeper : (m n : ℕ) → m ≡ n → 1 + m ≡ suc n
deeper m n e = omega (arith, e)

mutual
  pub depth-expression : (n : Numbers) (e : form.Expression) → depth (expression n e) ≡ inner.depth e
  depth-expression n (form.constant c) = refl
  depth-expression n form.me = refl
  depth-expression n (form.arg k) = refl
  depth-expression n (form.binary o a b) = deeper _ _ (λ i. max (depth-expression n a i) (depth-expression n b i))
  depth-expression n (form.choice a b c) = deeper _ _ (λ i. max (depth-expression n a i) (max (depth-expression n b i) (depth-expression n c i)))
  depth-expression n (form.send r s es) = deeper _ _ (λ i. max (depth-expression n r i) (depth-expressions n es i))
  depth-expression n (form.super_send s es) = deeper _ _ (depth-expressions n es)

  depth-expressions : (n : Numbers) (es : form.Expressions) → depth_all (expressions n es) ≡ inner.greatest_depth es
  depth-expressions n form.no_more = refl
  depth-expressions n (form.more e es) = λ i. max (depth-expression n e i) (depth-expressions n es i)

pub arity-expressions : (n : Numbers) (es : form.Expressions) → arity (expressions n es) ≡ form.count_of es
arity-expressions n form.no_more = refl
arity-expressions n (form.more e es) = ap suc (arity-expressions n es)

-- ---- selectors

not_false : (b : Bool) → not b ≡ false → b ≡ true
not_false true e = refl
not_false false e = cc

pub same_count : (n : ℕ) (s : Text) → is_miscounted_send (s, n) ≡ false → n ≡ colons_of s
same_count n s e = let same : (n == colons_of s) ≡ true = not_false (n == colons_of s) e in grind (arith, nat_tests)

-- a send that is counted right has at most four arguments
pub few_arguments : (n : ℕ) (s : Text) → (list_any is_miscounted_send ((s, n) ∷ [])) ≡ false → not (is_selector_name s) ≡ false → n ≤ 4
few_arguments n s counted good = let same : n ≡ colons_of s = same_count n s (neither (is_miscounted_send (s, n)) false counted).0 in omega (arith, same, few_colons s (not_false (is_selector_name s) good))

-- ---- parts of a body, where the classes and objects have the names

abbrev pub names_unknown_class : List Text → form.Expression → Bool
names_unknown_class names e = list_any (is_unknown names) (flat_map inner.own_class (inner.own_constants e))

abbrev pub names_unknown_object : List Text → form.Expression → Bool
names_unknown_object names e = list_any (is_unknown names) (flat_map inner.own_object (inner.own_constants e))

abbrev pub sends_miscounted : form.Expression → Bool
sends_miscounted e = list_any is_miscounted_send (inner.own_sends e)

abbrev pub is_bad : Text → Bool
is_bad t = not (is_selector_name t)

module _ (image : ImageParts) (n : Numbers) (class_names object_names : List Text)
    (class_in : (name : Text) → is_unknown class_names name ≡ false → class_named n name < class_total image)
    (object_in : (name : Text) → is_unknown object_names name ≡ false → (object_named n name).object < length image.objects) where
  -- parts, and the texts of their selectors
  pub record AreGood (parts : List form.Expression) (texts : List Text) : Type 0 where
    pub classes : list_any (names_unknown_class class_names) parts ≡ false
    pub objects : list_any (names_unknown_object object_names) parts ≡ false
    pub sends : list_any sends_miscounted parts ≡ false
    pub selectors : list_any is_bad texts ≡ false

  both : (ps qs : List form.Expression) (ts us : List Text) → AreGood (ps ++ qs) (ts ++ us) → AreGood ps ts × AreGood qs us
  both ps qs ts us g =
      let c = none-append (names_unknown_class class_names) ps qs g.classes in
      let o = none-append (names_unknown_object object_names) ps qs g.objects in
      let s = none-append sends_miscounted ps qs g.sends in
      let t = none-append is_bad ts us g.selectors in
      (record { classes = c.0; objects = o.0; sends = s.0; selectors = t.0 }, record { classes = c.1; objects = o.1; sends = s.1; selectors = t.1 })

  inside : (p : form.Expression) (ps : List form.Expression) (ts : List Text) → AreGood (p ∷ ps) ts → AreGood ps ts
  inside p ps ts g = record {
    classes = (neither (names_unknown_class class_names p) (list_any (names_unknown_class class_names) ps) g.classes).1;
    objects = (neither (names_unknown_object object_names p) (list_any (names_unknown_object object_names) ps) g.objects).1;
    sends = (neither (sends_miscounted p) (list_any sends_miscounted ps) g.sends).1;
    selectors = g.selectors;
  }

  after : (t : Text) (ps : List form.Expression) (ts : List Text) → AreGood ps (t ∷ ts) → AreGood ps ts
  after t ps ts g = record { classes = g.classes; objects = g.objects; sends = g.sends; selectors = (neither (is_bad t) (list_any is_bad ts) g.selectors).1 }

  pub constant_of_image : (c : form.Constant) → list_any (is_unknown class_names) (inner.own_class c) ≡ false → list_any (is_unknown object_names) (inner.own_object c) ≡ false → IsOf image (constant n c)
  constant_of_image (form.whole z) g h = tt
  constant_of_image form.nil g h = tt
  constant_of_image (form.object_named name) g h = object_in name (neither (is_unknown object_names name) false h).0
  constant_of_image (form.class_named name) g h = class_in name (neither (is_unknown class_names name) false g).0
  constant_of_image (form.selector_named s) g h = tt

  own_constant : (c : form.Constant) → AreGood (form.constant c ∷ []) (inner.own_selector c) → IsOf image (constant n c)
  own_constant c g =
      constant_of_image c
      (none-append (is_unknown class_names) (inner.own_class c) [] (neither (names_unknown_class class_names (form.constant c)) false g.classes).0).0
      (none-append (is_unknown object_names) (inner.own_object c) [] (neither (names_unknown_object object_names (form.constant c)) false g.objects).0).0

  few : (p : form.Expression) (ps : List form.Expression) (s : Text) (ts : List Text) (es : form.Expressions) → inner.own_sends p ≡ (s, form.count_of es) ∷ [] → list_any sends_miscounted (p ∷ ps) ≡ false → list_any is_bad (s ∷ ts) ≡ false → arity (expressions n es) ≤ 4
  few p ps s ts es own sends selectors =
      let counted : list_any is_miscounted_send ((s, form.count_of es) ∷ []) ≡ false = ap (list_any is_miscounted_send) (sym own) ∙ (neither (sends_miscounted p) (list_any sends_miscounted ps) sends).0 in
      let good : not (is_selector_name s) ≡ false = (neither (is_bad s) (list_any is_bad ts) selectors).0 in
      omega (arith, arity-expressions n es, few_arguments (form.count_of es) s counted good)

  mutual
    pub expression_of_image : (e : form.Expression) → AreGood (inner.parts e) (texts_in e) → IsExpressionOf image (expression n e)
    expression_of_image (form.constant c) g = own_constant c g
    expression_of_image form.me g = tt
    expression_of_image (form.arg k) g = tt
    expression_of_image (form.binary o a b) g =
        let rest = both (inner.parts a) (inner.parts b) (texts_in a) (texts_in b) (inside (form.binary o a b) (inner.parts a ++ inner.parts b) (texts_in a ++ texts_in b) g) in
        (expression_of_image a rest.0, expression_of_image b rest.1)
    expression_of_image (form.choice a b c) g =
        let rest = both (inner.parts a) (inner.parts b ++ inner.parts c) (texts_in a) (texts_in b ++ texts_in c) (inside (form.choice a b c) (inner.parts a ++ (inner.parts b ++ inner.parts c)) (texts_in a ++ (texts_in b ++ texts_in c)) g) in
        let last = both (inner.parts b) (inner.parts c) (texts_in b) (texts_in c) rest.1 in
        (expression_of_image a rest.0, expression_of_image b last.0, expression_of_image c last.1)
    expression_of_image (form.send r s es) g =
        let rest = both (inner.parts r) (inner.all_parts es) (texts_in r) (s ∷ all_texts_in es) (inside (form.send r s es) (inner.parts r ++ inner.all_parts es) (texts_in r ++ (s ∷ all_texts_in es)) g) in
        (expression_of_image r rest.0, expressions_of_image es (after s (inner.all_parts es) (all_texts_in es) rest.1), few (form.send r s es) (inner.parts r ++ inner.all_parts es) s (all_texts_in es) es refl g.sends rest.1.selectors)
    expression_of_image (form.super_send s es) g =
        let rest = inside (form.super_send s es) (inner.all_parts es) (s ∷ all_texts_in es) g in
        (expressions_of_image es (after s (inner.all_parts es) (all_texts_in es) rest), few (form.super_send s es) (inner.all_parts es) s (all_texts_in es) es refl g.sends g.selectors)

    pub expressions_of_image : (es : form.Expressions) → AreGood (inner.all_parts es) (all_texts_in es) → AreExpressionsOf image (expressions n es)
    expressions_of_image form.no_more g = tt
    expressions_of_image (form.more e es) g =
        let rest = both (inner.parts e) (inner.all_parts es) (texts_in e) (all_texts_in es) g in
        (expression_of_image e rest.0, expressions_of_image es rest.1)
