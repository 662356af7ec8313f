-- What a walk over a body finds.
use Rattle.std.proofs.Common.{◌≡◌, ℕ, suc, ◌-◌, Bool, true, false, ◌||◌, ◌&&◌, List, [], ◌∷◌, ◌++◌, length, map, Bor, refl, sym, ap, ◌∙◌, arith, rules}
use Rattle.std.specs.Prelude.{◌==◌, fold, max, nat_le, nat_lt}
use Rattle.std.specs.List.{flat_map, list_any}
use Rattle.std.proofs.lemmas.Bool.Decides.{nat_tests}
use Rattle.std.proofs.lemmas.List.{length-map, map-append}
use Rattle.std.proofs.lemmas.List.Folds.{list_any-append}
use Rattle.msg_form.specs.BodyWalk.{parts_at, all_parts_at, entered, with_own, with_part}
use Rattle.msg_form.specs.Expression.{whole, nil, object_named, class_named, selector_named, Expression, Expressions, constant, me, arg, binary, choice, send, super_send, no_more, more, expressions, count_of}
use Rattle.msg_form.specs.ExprView.{expr_view}
use Rattle.msg_form.specs.Faults.{is_miscounted_send, is_too_deep}
use Rattle.msg_form.specs.Parts.{parts, all_parts, depth, greatest_depth, own_constants, own_indices, own_sends, own_class, own_object, is_super_send, names_text, has_texts, classes_in, objects_in, sends_in, indices_in}
use Rattle.msg_form.specs.Text.{Text, is_unknown}
use Rattle.msg_form.specs.declared.limits.TheConstants.{MAX_DEPTH, MAX_EXPRESSIONS}
use Rattle.msg_form.specs.declared.judge.bodies.BodyFaults.{BodyFaults}
use Rattle.msg_form.specs.declared.judge.body_walk.Found.{Found}
use Rattle.msg_form.specs.declared.form.Expr.{Expr, Send, Super, the_lemmas}
use Rattle.msg_form.specs.declared.form.SendExpr.{SendExpr, out-SendExpr}
use Rattle.msg_form.specs.declared.form.SuperExpr.{SuperExpr, out-SuperExpr}
use Rattle.msg_form.proofs.AnyLemmas.{list_any-map, list_any-flat_map}
use Rattle.msg_form.proofs.CountLemmas.{counted}
use Rattle.msg_form.proofs.TextLemmas.{or-false, or-assoc}

-- ---- tests of numbers

max_test : (l a b : ℕ) → nat_lt l (max a b) ≡ (nat_lt l a || nat_lt l b)
max_test l a b = at_test (nat_lt l a) (nat_lt l b) (nat_lt l (max a b)) refl refl refl
  where
    at_test : (x y z : Bool) → nat_lt l a ≡ x → nat_lt l b ≡ y → nat_lt l (max a b) ≡ z → z ≡ (x || y)
    at_test true y true e f g = refl
    at_test false true true e f g = refl
    at_test false false false e f g = refl
    at_test true y false e f g = absurd (grind (arith, nat_tests))
    at_test false true false e f g = absurd (grind (arith, nat_tests))
    at_test false false true e f g = absurd (grind (arith, nat_tests))

none_test : (l : ℕ) → nat_lt l 0 ≡ false
none_test l = at_test (nat_lt l 0) refl
  where
    at_test : (a : Bool) → nat_lt l 0 ≡ a → a ≡ false
    at_test false e = refl
    at_test true e = absurd (grind (arith, nat_tests))

-- no room at all, or less than the rest needs
one_less : (l d : ℕ) → ((l == 0) || nat_lt (l - 1) d) ≡ nat_lt l (suc d)
one_less l d = at_test (l == 0) (nat_lt (l - 1) d) (nat_lt l (suc d)) refl refl refl
  where
    at_test : (x y z : Bool) → (l == 0) ≡ x → nat_lt (l - 1) d ≡ y → nat_lt l (suc d) ≡ z → (x || y) ≡ z
    at_test true y true e f g = refl
    at_test false true true e f g = refl
    at_test false false false e f g = refl
    at_test true y false e f g = absurd (grind (arith, nat_tests))
    at_test false true false e f g = absurd (grind (arith, nat_tests))
    at_test false false true e f g = absurd (grind (arith, nat_tests))

-- ---- the parts and their levels

two : (ps qs : List (ℕ × Expression)) (left right : List Expression) → map (λ p. p.1) ps ≡ left → map (λ p. p.1) qs ≡ right → map (λ p. p.1) (ps ++ qs) ≡ left ++ right
two ps qs left right a b = map-append (λ p. p.1) ps qs ∙ (λ i. a i ++ b i)

mutual
  parts_at-parts : (l : ℕ) (e : Expression) → map (λ p. p.1) (parts_at l e) ≡ parts e
  parts_at-parts l (constant c) = refl
  parts_at-parts l me = refl
  parts_at-parts l (arg k) = refl
  parts_at-parts l (binary o a b) = ap (λ ps. binary o a b ∷ ps) (two (parts_at (l - 1) a) (parts_at (l - 1) b) (parts a) (parts b) (parts_at-parts (l - 1) a) (parts_at-parts (l - 1) b))
  parts_at-parts l (choice a b c) =
      ap (λ ps. choice a b c ∷ ps) (two (parts_at (l - 1) a) (parts_at (l - 1) b ++ parts_at (l - 1) c) (parts a) (parts b ++ parts c) (parts_at-parts (l - 1) a) (two (parts_at (l - 1) b) (parts_at (l - 1) c) (parts b) (parts c) (parts_at-parts (l - 1) b) (parts_at-parts (l - 1) c)))
  parts_at-parts l (send r s es) = ap (λ ps. send r s es ∷ ps) (two (parts_at (l - 1) r) (all_parts_at (l - 1) es) (parts r) (all_parts es) (parts_at-parts (l - 1) r) (all_parts_at-parts (l - 1) es))
  parts_at-parts l (super_send s es) = ap (λ ps. super_send s es ∷ ps) (all_parts_at-parts (l - 1) es)

  all_parts_at-parts : (l : ℕ) (es : Expressions) → map (λ p. p.1) (all_parts_at l es) ≡ all_parts es
  all_parts_at-parts l no_more = refl
  all_parts_at-parts l (more e es) = two (parts_at l e) (all_parts_at l es) (parts e) (all_parts es) (parts_at-parts l e) (all_parts_at-parts l es)

-- some part has no level left exactly if the expression is too deep
either : (l a b : ℕ) (ps qs : List (ℕ × Expression)) → list_any (λ p. p.0 == 0) ps ≡ nat_lt l a → list_any (λ p. p.0 == 0) qs ≡ nat_lt l b → list_any (λ p. p.0 == 0) (ps ++ qs) ≡ nat_lt l (max a b)
either l a b ps qs e f = list_any-append (λ p. p.0 == 0) ps qs ∙ (λ i. e i || f i) ∙ sym (max_test l a b)

around : (l d : ℕ) (ps : List (ℕ × Expression)) → list_any (λ p. p.0 == 0) ps ≡ nat_lt (l - 1) d → ((l == 0) || list_any (λ p. p.0 == 0) ps) ≡ nat_lt l (suc d)
around l d ps e = ap (λ b. (l == 0) || b) e ∙ one_less l d

mutual
  levels : (l : ℕ) (e : Expression) → list_any (λ p. p.0 == 0) (parts_at l e) ≡ nat_lt l (depth e)
  levels l (constant c) = around l 0 [] (sym (none_test (l - 1)))
  levels l me = around l 0 [] (sym (none_test (l - 1)))
  levels l (arg k) = around l 0 [] (sym (none_test (l - 1)))
  levels l (binary o a b) = around l (max (depth a) (depth b)) (parts_at (l - 1) a ++ parts_at (l - 1) b) (either (l - 1) (depth a) (depth b) (parts_at (l - 1) a) (parts_at (l - 1) b) (levels (l - 1) a) (levels (l - 1) b))
  levels l (choice a b c) =
      around l (max (depth a) (max (depth b) (depth c))) (parts_at (l - 1) a ++ (parts_at (l - 1) b ++ parts_at (l - 1) c))
      (either (l - 1) (depth a) (max (depth b) (depth c)) (parts_at (l - 1) a) (parts_at (l - 1) b ++ parts_at (l - 1) c) (levels (l - 1) a) (either (l - 1) (depth b) (depth c) (parts_at (l - 1) b) (parts_at (l - 1) c) (levels (l - 1) b) (levels (l - 1) c)))
  levels l (send r s es) = around l (max (depth r) (greatest_depth es)) (parts_at (l - 1) r ++ all_parts_at (l - 1) es) (either (l - 1) (depth r) (greatest_depth es) (parts_at (l - 1) r) (all_parts_at (l - 1) es) (levels (l - 1) r) (all_levels (l - 1) es))
  levels l (super_send s es) = around l (greatest_depth es) (all_parts_at (l - 1) es) (all_levels (l - 1) es)

  all_levels : (l : ℕ) (es : Expressions) → list_any (λ p. p.0 == 0) (all_parts_at l es) ≡ nat_lt l (greatest_depth es)
  all_levels l no_more = sym (none_test l)
  all_levels l (more e es) = either l (depth e) (greatest_depth es) (parts_at l e) (all_parts_at l es) (levels l e) (all_levels l es)

-- ---- what each expression adds

module _ (above : Bool) (classes objects : List Text) (args : ℕ) where
  -- a fault that each expression adds by a test is found by the same test of the body
  found_by : (fault : BodyFaults → Bool) (test : Expression → Bool) → ((l : ℕ) (f : Found) (e : Expression) → fault (with_own above classes objects args (entered l f).faults e) ≡ (fault f.faults || test e)) → (f : Found) (ps : List (ℕ × Expression))
      → fault (fold (with_part above classes objects args) f ps).faults ≡ (fault f.faults || list_any (λ p. test p.1) ps)
  found_by fault test own f [] = sym (or-false (fault f.faults))
  found_by fault test own f (p ∷ ps) =
      found_by fault test own (with_part above classes objects args f p) ps
      ∙ ap (λ b. b || list_any (λ q. test q.1) ps) (own p.0 f p.1)
      ∙ or-assoc (fault f.faults) (test p.1) (list_any (λ q. test q.1) ps)

  by_parts : (fault : BodyFaults → Bool) (test : Expression → Bool) → ((l : ℕ) (f : Found) (e : Expression) → fault (with_own above classes objects args (entered l f).faults e) ≡ (fault f.faults || test e)) → (l : ℕ) (f : Found) (e : Expression)
      → fault (fold (with_part above classes objects args) f (parts_at l e)).faults ≡ (fault f.faults || list_any test (parts e))
  by_parts fault test own l f e =
      found_by fault test own f (parts_at l e) ∙ ap (λ b. fault f.faults || b) (sym (list_any-map test (λ p. p.1) (parts_at l e)) ∙ ap (list_any test) (parts_at-parts l e))

  selects_by : (f : Found) (ps : List (ℕ × Expression)) → (fold (with_part above classes objects args) f ps).selects ≡ (f.selects || list_any (λ p. names_text p.1) ps)
  selects_by f [] = sym (or-false f.selects)
  selects_by f (p ∷ ps) = selects_by (with_part above classes objects args f p) ps ∙ or-assoc f.selects (names_text p.1) (list_any (λ q. names_text q.1) ps)

  still : (b : Bool) → b ≡ (b || false)
  still b = sym (or-false b)

  own_above : (l : ℕ) (f : Found) (e : Expression) → (with_own above classes objects args (entered l f).faults e).sends_above ≡ (f.faults.sends_above || (is_super_send e && above))
  own_above l f (constant (whole z)) = still f.faults.sends_above
  own_above l f (constant nil) = still f.faults.sends_above
  own_above l f (constant (object_named n)) = still f.faults.sends_above
  own_above l f (constant (class_named n)) = still f.faults.sends_above
  own_above l f (constant (selector_named s)) = still f.faults.sends_above
  own_above l f me = still f.faults.sends_above
  own_above l f (arg k) = still f.faults.sends_above
  own_above l f (binary o a b) = still f.faults.sends_above
  own_above l f (choice a b c) = still f.faults.sends_above
  own_above l f (send r s es) = still f.faults.sends_above
  own_above l f (super_send s es) = refl

  one : (b t : Bool) → (b || t) ≡ (b || (t || false))
  one b t = ap (λ x. b || x) (still t)

  own_unknown_class : (l : ℕ) (f : Found) (e : Expression) → (with_own above classes objects args (entered l f).faults e).unknown_class ≡ (f.faults.unknown_class || list_any (λ c. list_any (is_unknown classes) (own_class c)) (own_constants e))
  own_unknown_class l f (constant (whole z)) = still f.faults.unknown_class
  own_unknown_class l f (constant nil) = still f.faults.unknown_class
  own_unknown_class l f (constant (object_named n)) = still f.faults.unknown_class
  own_unknown_class l f (constant (class_named n)) = one f.faults.unknown_class (is_unknown classes n) ∙ ap (λ x. f.faults.unknown_class || x) (still (is_unknown classes n || false))
  own_unknown_class l f (constant (selector_named s)) = still f.faults.unknown_class
  own_unknown_class l f me = still f.faults.unknown_class
  own_unknown_class l f (arg k) = still f.faults.unknown_class
  own_unknown_class l f (binary o a b) = still f.faults.unknown_class
  own_unknown_class l f (choice a b c) = still f.faults.unknown_class
  own_unknown_class l f (send r s es) = still f.faults.unknown_class
  own_unknown_class l f (super_send s es) = still f.faults.unknown_class

  own_unknown_object : (l : ℕ) (f : Found) (e : Expression) → (with_own above classes objects args (entered l f).faults e).unknown_object ≡ (f.faults.unknown_object || list_any (λ c. list_any (is_unknown objects) (own_object c)) (own_constants e))
  own_unknown_object l f (constant (whole z)) = still f.faults.unknown_object
  own_unknown_object l f (constant nil) = still f.faults.unknown_object
  own_unknown_object l f (constant (object_named n)) = one f.faults.unknown_object (is_unknown objects n) ∙ ap (λ x. f.faults.unknown_object || x) (still (is_unknown objects n || false))
  own_unknown_object l f (constant (class_named n)) = still f.faults.unknown_object
  own_unknown_object l f (constant (selector_named s)) = still f.faults.unknown_object
  own_unknown_object l f me = still f.faults.unknown_object
  own_unknown_object l f (arg k) = still f.faults.unknown_object
  own_unknown_object l f (binary o a b) = still f.faults.unknown_object
  own_unknown_object l f (choice a b c) = still f.faults.unknown_object
  own_unknown_object l f (send r s es) = still f.faults.unknown_object
  own_unknown_object l f (super_send s es) = still f.faults.unknown_object

  own_argument_count : (l : ℕ) (f : Found) (e : Expression) → (with_own above classes objects args (entered l f).faults e).argument_count ≡ (f.faults.argument_count || list_any is_miscounted_send (own_sends e))
  own_argument_count l f (constant (whole z)) = still f.faults.argument_count
  own_argument_count l f (constant nil) = still f.faults.argument_count
  own_argument_count l f (constant (object_named n)) = still f.faults.argument_count
  own_argument_count l f (constant (class_named n)) = still f.faults.argument_count
  own_argument_count l f (constant (selector_named s)) = still f.faults.argument_count
  own_argument_count l f me = still f.faults.argument_count
  own_argument_count l f (arg k) = still f.faults.argument_count
  own_argument_count l f (binary o a b) = still f.faults.argument_count
  own_argument_count l f (choice a b c) = still f.faults.argument_count
  own_argument_count l f (send r s es) = one f.faults.argument_count (is_miscounted_send (s, count_of es))
  own_argument_count l f (super_send s es) = one f.faults.argument_count (is_miscounted_send (s, count_of es))

  own_argument_index : (l : ℕ) (f : Found) (e : Expression) → (with_own above classes objects args (entered l f).faults e).argument_index ≡ (f.faults.argument_index || list_any (nat_le args) (own_indices e))
  own_argument_index l f (constant (whole z)) = still f.faults.argument_index
  own_argument_index l f (constant nil) = still f.faults.argument_index
  own_argument_index l f (constant (object_named n)) = still f.faults.argument_index
  own_argument_index l f (constant (class_named n)) = still f.faults.argument_index
  own_argument_index l f (constant (selector_named s)) = still f.faults.argument_index
  own_argument_index l f me = still f.faults.argument_index
  own_argument_index l f (arg k) = one f.faults.argument_index (nat_le args k)
  own_argument_index l f (binary o a b) = still f.faults.argument_index
  own_argument_index l f (choice a b c) = still f.faults.argument_index
  own_argument_index l f (send r s es) = still f.faults.argument_index
  own_argument_index l f (super_send s es) = still f.faults.argument_index

  own_too_deep : (f : BodyFaults) (e : Expression) → (with_own above classes objects args f e).too_deep ≡ f.too_deep
  own_too_deep f (constant (whole z)) = refl
  own_too_deep f (constant nil) = refl
  own_too_deep f (constant (object_named n)) = refl
  own_too_deep f (constant (class_named n)) = refl
  own_too_deep f (constant (selector_named s)) = refl
  own_too_deep f me = refl
  own_too_deep f (arg k) = refl
  own_too_deep f (binary o a b) = refl
  own_too_deep f (choice a b c) = refl
  own_too_deep f (send r s es) = refl
  own_too_deep f (super_send s es) = refl

  -- no level, or no room
  full : (f : Found) (ps : List (ℕ × Expression)) → (fold (with_part above classes objects args) f ps).faults.too_deep ≡ (f.faults.too_deep || (list_any (λ p. p.0 == 0) ps || nat_lt f.room (length ps)))
  full f [] = sym (ap (λ b. f.faults.too_deep || b) (none_test f.room) ∙ or-false f.faults.too_deep)
  full f (p ∷ ps) =
      full (with_part above classes objects args f p) ps
      ∙ ap (λ b. b || (list_any (λ q. q.0 == 0) ps || nat_lt (f.room - 1) (length ps))) (own_too_deep (entered p.0 f).faults p.1)
      ∙ shuffle f.faults.too_deep (p.0 == 0) (f.room == 0) (list_any (λ q. q.0 == 0) ps) (nat_lt (f.room - 1) (length ps))
      ∙ ap (λ b. f.faults.too_deep || (((p.0 == 0) || list_any (λ q. q.0 == 0) ps) || b)) (one_less f.room (length ps))
    where
      shuffle : (a z q x y : Bool) → ((a || (z || q)) || (x || y)) ≡ (a || ((z || x) || (q || y)))
      shuffle true z q x y = refl
      shuffle false true q x y = refl
      shuffle false false true true y = refl
      shuffle false false true false y = refl
      shuffle false false false x y = refl

  -- a send is noted
  pub note_send : (x : Expr) (s : Bor SendExpr) (r : Bool) (f : BodyFaults) → x ≡ Send s → r ≡ is_miscounted_send ((out-SendExpr s.now).selector.now, length (out-SendExpr s.now).args.now)
      → record { sends_above = f.sends_above; unknown_class = f.unknown_class; unknown_object = f.unknown_object; argument_count = f.argument_count || r; argument_index = f.argument_index; too_deep = f.too_deep } ≡ with_own above classes objects args f (expr_view x)
  note_send x s r f is e =
      let fields = out-SendExpr s.now in
      let es = expressions (map expr_view fields.args.now) in
      let seen : expr_view x ≡ send (expr_view fields.receiver) fields.selector.now es = ap expr_view is ∙ search (rules, the_lemmas) in
      let count : length fields.args.now ≡ count_of es = sym (counted fields.args.now) in
      let wrong : r ≡ is_miscounted_send (fields.selector.now, count_of es) = e ∙ ap (λ n. is_miscounted_send (fields.selector.now, n)) count in
      (λ i. record { sends_above = f.sends_above; unknown_class = f.unknown_class; unknown_object = f.unknown_object; argument_count = f.argument_count || wrong i; argument_index = f.argument_index; too_deep = f.too_deep })
      ∙ sym (ap (with_own above classes objects args f) seen)

  -- and a super send
  pub note_super : (x : Expr) (s : Bor SuperExpr) (r : Bool) (f : BodyFaults) → x ≡ Super s → r ≡ is_miscounted_send ((out-SuperExpr s.now).selector.now, length (out-SuperExpr s.now).args.now)
      → record { sends_above = f.sends_above || above; unknown_class = f.unknown_class; unknown_object = f.unknown_object; argument_count = f.argument_count || r; argument_index = f.argument_index; too_deep = f.too_deep } ≡ with_own above classes objects args f (expr_view x)
  note_super x s r f is e =
      let fields = out-SuperExpr s.now in
      let es = expressions (map expr_view fields.args.now) in
      let seen : expr_view x ≡ super_send fields.selector.now es = ap expr_view is ∙ search (rules, the_lemmas) in
      let count : length fields.args.now ≡ count_of es = sym (counted fields.args.now) in
      let wrong : r ≡ is_miscounted_send (fields.selector.now, count_of es) = e ∙ ap (λ n. is_miscounted_send (fields.selector.now, n)) count in
      (λ i. record { sends_above = f.sends_above || above; unknown_class = f.unknown_class; unknown_object = f.unknown_object; argument_count = f.argument_count || wrong i; argument_index = f.argument_index; too_deep = f.too_deep })
      ∙ sym (ap (with_own above classes objects args f) seen)

  -- ---- what the walk over a body finds

  module _ (l : ℕ) (f : Found) (body : Expression) where
    pub found-class : (fold (with_part above classes objects args) f (parts_at l body)).faults.unknown_class ≡ (f.faults.unknown_class || list_any (is_unknown classes) (classes_in body))
    found-class =
        by_parts (λ b. b.unknown_class) (λ e. list_any (λ c. list_any (is_unknown classes) (own_class c)) (own_constants e)) own_unknown_class l f body
        ∙ ap (λ b. f.faults.unknown_class || b) (sym (list_any-flat_map (is_unknown classes) own_class (flat_map own_constants (parts body)) ∙ list_any-flat_map (λ c. list_any (is_unknown classes) (own_class c)) own_constants (parts body)))

    pub found-object : (fold (with_part above classes objects args) f (parts_at l body)).faults.unknown_object ≡ (f.faults.unknown_object || list_any (is_unknown objects) (objects_in body))
    found-object =
        by_parts (λ b. b.unknown_object) (λ e. list_any (λ c. list_any (is_unknown objects) (own_object c)) (own_constants e)) own_unknown_object l f body
        ∙ ap (λ b. f.faults.unknown_object || b) (sym (list_any-flat_map (is_unknown objects) own_object (flat_map own_constants (parts body)) ∙ list_any-flat_map (λ c. list_any (is_unknown objects) (own_object c)) own_constants (parts body)))

    pub found-selects : (fold (with_part above classes objects args) f (parts_at l body)).selects ≡ (f.selects || has_texts body)
    found-selects = selects_by f (parts_at l body) ∙ ap (λ b. f.selects || b) (sym (list_any-map names_text (λ p. p.1) (parts_at l body)) ∙ ap (list_any names_text) (parts_at-parts l body))

    pub found-count : (fold (with_part above classes objects args) f (parts_at l body)).faults.argument_count ≡ (f.faults.argument_count || list_any is_miscounted_send (sends_in body))
    found-count =
        by_parts (λ b. b.argument_count) (λ e. list_any is_miscounted_send (own_sends e)) own_argument_count l f body
        ∙ ap (λ b. f.faults.argument_count || b) (sym (list_any-flat_map is_miscounted_send own_sends (parts body)))

    pub found-index : (fold (with_part above classes objects args) f (parts_at l body)).faults.argument_index ≡ (f.faults.argument_index || list_any (nat_le args) (indices_in body))
    found-index =
        by_parts (λ b. b.argument_index) (λ e. list_any (nat_le args) (own_indices e)) own_argument_index l f body
        ∙ ap (λ b. f.faults.argument_index || b) (sym (list_any-flat_map (nat_le args) own_indices (parts body)))

    pub found-above : (fold (with_part above classes objects args) f (parts_at l body)).faults.sends_above ≡ (f.faults.sends_above || (above && list_any is_super_send (parts body)))
    found-above = by_parts (λ b. b.sends_above) (λ e. is_super_send e && above) own_above l f body ∙ ap (λ b. f.faults.sends_above || b) (gate above (parts body))
      where
        never : (ps : List Expression) → list_any (λ _. false) ps ≡ false
        never [] = refl
        never (p ∷ ps) = never ps

        and-true : (b : Bool) → (b && true) ≡ b
        and-true true = refl
        and-true false = refl

        and-false : (b : Bool) → (b && false) ≡ false
        and-false true = refl
        and-false false = refl

        gate : (a : Bool) (ps : List Expression) → list_any (λ e. is_super_send e && a) ps ≡ (a && list_any is_super_send ps)
        gate true ps = λ i. list_any (λ e. and-true (is_super_send e) i) ps
        gate false ps = (λ i. list_any (λ e. and-false (is_super_send e) i) ps) ∙ never ps

  pub found-deep : (f : Found) (body : Expression) → f.room ≡ MAX_EXPRESSIONS → (fold (with_part above classes objects args) f (parts_at MAX_DEPTH body)).faults.too_deep ≡ (f.faults.too_deep || is_too_deep body)
  found-deep f body room =
      let count : length (parts_at MAX_DEPTH body) ≡ length (parts body) = sym (length-map (parts_at MAX_DEPTH body) (λ p. p.1)) ∙ ap length (parts_at-parts MAX_DEPTH body) in
      full f (parts_at MAX_DEPTH body) ∙ (λ i. f.faults.too_deep || (levels MAX_DEPTH body i || nat_lt (room i) (count i)))

-- a super send in a method of a root class looks above that class
pub above_root : (r m a s : Bool) → r ≡ (m && a) → (r && s) ≡ (m && a && s)
above_root r m a s is = ap (λ b. b && s) is ∙ at_test m a
  where
    at_test : (x y : Bool) → ((x && y) && s) ≡ (x && y && s)
    at_test true y = refl
    at_test false y = refl

-- a body that names nothing has no unknown name
pub none_named : (p : Text → Bool) (names : List Text) → list_any (is_unknown []) names ≡ false → list_any p names ≡ false
none_named p [] h = refl
none_named p (name ∷ names) h = cc
