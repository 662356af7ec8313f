-- A code for expressions, by which a proof tells them apart. No clause cites it.
use Rattle.std.specs.Prelude.{◌≡◌, ◌<◌, ℕ, zero, suc, pos, negsuc, refl}
use Rattle.std.proofs.Common.{ap, arith, zero-le, suc-le-suc}
use Rattle.std.specs.Coded.{le_prop}
use Rattle.msg_names.specs.Number.{selector_of}
use Rattle.std.specs.Coded.{Coded, code_by}
use base.Stored.{Gv, gnil, gnum, gcons}
use Rattle.msg_names.specs.declared.value.Value.{Value}
use Rattle.msg_names.specs.declared.value.Value.TheVariants.{Number, Object, Class, Sel, Nil}
use Rattle.msg_image.specs.Parts.{Op, Add, Sub, Mul, Eq, Lt, Expression, Expressions, Const, Me, Arg, Two, If, Send, Super, NoMore, More}

abbrev pub coded_Gv : Coded Gv
coded_Gv = record { code = λ x. x; inj = λ x y p. p }

abbrev pub op_to : Op → Gv
op_to Add = gnum 0
op_to Sub = gnum 1
op_to Mul = gnum 2
op_to Eq = gnum 3
op_to Lt = gnum 4

abbrev pub op_from : Gv → Op
op_from (gnum zero) = Add
op_from (gnum (suc zero)) = Sub
op_from (gnum (suc (suc zero))) = Mul
op_from (gnum (suc (suc (suc zero)))) = Eq
op_from _ = Lt

pub op_back : (o : Op) → op_from (op_to o) ≡ o
op_back Add = refl
op_back Sub = refl
op_back Mul = refl
op_back Eq = refl
op_back Lt = refl

pub selector_back : (n : ℕ) (h : 0 < n) → selector_of n ≡ record { number = n; positive = h }
selector_back zero h = absurd (omega arith)
selector_back (suc k) h = λ i. record { number = suc k; positive = le_prop (suc-le-suc zero-le) h i }

abbrev pub value_to : Value → Gv
value_to (Number (pos n)) = gcons (gnum 0) (gnum n)
value_to (Number (negsuc n)) = gcons (gnum 1) (gnum n)
value_to (Object o) = gcons (gnum 2) (gnum o.object)
value_to (Class c) = gcons (gnum 3) (gnum c)
value_to (Sel s) = gcons (gnum 4) (gnum s.number)
value_to Nil = gnil

abbrev pub value_from : Gv → Value
value_from (gcons (gnum zero) (gnum n)) = Number (pos n)
value_from (gcons (gnum (suc zero)) (gnum n)) = Number (negsuc n)
value_from (gcons (gnum (suc (suc zero))) (gnum n)) = Object (record { object = n })
value_from (gcons (gnum (suc (suc (suc zero)))) (gnum n)) = Class n
value_from (gcons (gnum (suc (suc (suc (suc zero))))) (gnum n)) = Sel (selector_of n)
value_from _ = Nil

pub value_back : (v : Value) → value_from (value_to v) ≡ v
value_back (Number (pos n)) = refl
value_back (Number (negsuc n)) = refl
value_back (Object o) = refl
value_back (Class c) = refl
value_back (Sel s) = ap Sel (selector_back s.number s.positive)
value_back Nil = refl

abbrev mutual
  pub to : Expression → Gv
  to (Const v) = gcons (gnum 0) (value_to v)
  to Me = gcons (gnum 1) gnil
  to (Arg k) = gcons (gnum 2) (gnum k)
  to (Two o a b) = gcons (gnum 3) (gcons (op_to o) (gcons (to a) (to b)))
  to (If c a b) = gcons (gnum 4) (gcons (to c) (gcons (to a) (to b)))
  to (Send a s es) = gcons (gnum 5) (gcons (to a) (gcons (gnum s.number) (all_to es)))
  to (Super s es) = gcons (gnum 6) (gcons (gnum s.number) (all_to es))

  pub all_to : Expressions → Gv
  all_to NoMore = gnil
  all_to (More e es) = gcons (to e) (all_to es)

abbrev mutual
  pub from : Gv → Expression
  from (gcons (gnum zero) v) = Const (value_from v)
  from (gcons (gnum (suc (suc zero))) (gnum k)) = Arg k
  from (gcons (gnum (suc (suc (suc zero)))) (gcons o (gcons a b))) = Two (op_from o) (from a) (from b)
  from (gcons (gnum (suc (suc (suc (suc zero))))) (gcons c (gcons a b))) = If (from c) (from a) (from b)
  from (gcons (gnum (suc (suc (suc (suc (suc zero)))))) (gcons a (gcons (gnum s) es))) = Send (from a) (selector_of s) (all_from es)
  from (gcons (gnum (suc (suc (suc (suc (suc (suc zero))))))) (gcons (gnum s) es)) = Super (selector_of s) (all_from es)
  from _ = Me

  pub all_from : Gv → Expressions
  all_from (gcons e es) = More (from e) (all_from es)
  all_from _ = NoMore

mutual
  pub back : (e : Expression) → from (to e) ≡ e
  back (Const v) = ap Const (value_back v)
  back Me = refl
  back (Arg k) = refl
  back (Two o a b) = λ i. Two (op_back o i) (back a i) (back b i)
  back (If c a b) = λ i. If (back c i) (back a i) (back b i)
  back (Send a s es) = λ i. Send (back a i) (selector_back s.number s.positive i) (all_back es i)
  back (Super s es) = λ i. Super (selector_back s.number s.positive i) (all_back es i)

  pub all_back : (es : Expressions) → all_from (all_to es) ≡ es
  all_back NoMore = refl
  all_back (More e es) = λ i. More (back e i) (all_back es i)

-- expressions have codes, so that views which hold them are sets
abbrev pub coded_expression : Coded Expression
coded_expression = code_by Gv coded_Gv to from back
