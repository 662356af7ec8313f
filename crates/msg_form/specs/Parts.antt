-- The parts of an expression.
use Rattle.std.specs.Prelude.{ℕ, suc, max, List, [], ◌∷◌, ◌++◌, Bool, true, false}
use Rattle.std.specs.List.{flat_map, list_any}
use Rattle.msg_form.specs.Expression.{Constant, whole, nil, object_named, class_named, selector_named, Expression, Expressions, constant, me, arg, binary, choice, send, super_send, no_more, more, count_of}
use Rattle.msg_form.specs.Text.{Text}

-- the expression and those inside it
abbrev mutual
  pub parts : Expression → List Expression
  parts (constant c) = constant c ∷ []
  parts me = me ∷ []
  parts (arg k) = arg k ∷ []
  parts (binary o a b) = binary o a b ∷ (parts a ++ parts b)
  parts (choice a b c) = choice a b c ∷ (parts a ++ (parts b ++ parts c))
  parts (send r s es) = send r s es ∷ (parts r ++ all_parts es)
  parts (super_send s es) = super_send s es ∷ all_parts es

  pub all_parts : Expressions → List Expression
  all_parts no_more = []
  all_parts (more e es) = parts e ++ all_parts es

-- one more than the greatest depth of the expressions inside
abbrev mutual
  pub depth : Expression → ℕ
  depth (constant c) = 1
  depth me = 1
  depth (arg k) = 1
  depth (binary o a b) = suc (max (depth a) (depth b))
  depth (choice a b c) = suc (max (depth a) (max (depth b) (depth c)))
  depth (send r s es) = suc (max (depth r) (greatest_depth es))
  depth (super_send s es) = suc (greatest_depth es)

  pub greatest_depth : Expressions → ℕ
  greatest_depth no_more = 0
  greatest_depth (more e es) = max (depth e) (greatest_depth es)

-- ---- what a part is, without the expressions inside it

-- the constant that a part is, if it is one
abbrev pub own_constants : Expression → List Constant
own_constants (constant c) = c ∷ []
own_constants me = []
own_constants (arg k) = []
own_constants (binary o a b) = []
own_constants (choice a b c) = []
own_constants (send r s es) = []
own_constants (super_send s es) = []

-- the argument that a part reads
abbrev pub own_indices : Expression → List ℕ
own_indices (constant c) = []
own_indices me = []
own_indices (arg k) = k ∷ []
own_indices (binary o a b) = []
own_indices (choice a b c) = []
own_indices (send r s es) = []
own_indices (super_send s es) = []

-- the selector that a part sends, and the number of its arguments
abbrev pub own_sends : Expression → List (Text × ℕ)
own_sends (constant c) = []
own_sends me = []
own_sends (arg k) = []
own_sends (binary o a b) = []
own_sends (choice a b c) = []
own_sends (send r s es) = (s, count_of es) ∷ []
own_sends (super_send s es) = (s, count_of es) ∷ []

-- a message to super
abbrev pub is_super_send : Expression → Bool
is_super_send (constant c) = false
is_super_send me = false
is_super_send (arg k) = false
is_super_send (binary o a b) = false
is_super_send (choice a b c) = false
is_super_send (send r s es) = false
is_super_send (super_send s es) = true

-- a part has a text at a place of a selector
abbrev pub names_text : Expression → Bool
names_text (constant (whole z)) = false
names_text (constant nil) = false
names_text (constant (object_named n)) = false
names_text (constant (class_named n)) = false
names_text (constant (selector_named s)) = true
names_text me = false
names_text (arg k) = false
names_text (binary o a b) = false
names_text (choice a b c) = false
names_text (send r s es) = true
names_text (super_send s es) = true

-- ---- what is anywhere in an expression

abbrev pub constants_in : Expression → List Constant
constants_in e = flat_map own_constants (parts e)

abbrev pub indices_in : Expression → List ℕ
indices_in e = flat_map own_indices (parts e)

abbrev pub sends_in : Expression → List (Text × ℕ)
sends_in e = flat_map own_sends (parts e)

-- there is a text at a place of a selector
abbrev pub has_texts : Expression → Bool
has_texts e = list_any names_text (parts e)

-- ---- names in constants

-- the class that a constant names, if it names one
abbrev pub own_class : Constant → List Text
own_class (whole z) = []
own_class nil = []
own_class (object_named n) = []
own_class (class_named n) = n ∷ []
own_class (selector_named s) = []

-- the object that a constant names, if it names one
abbrev pub own_object : Constant → List Text
own_object (whole z) = []
own_object nil = []
own_object (object_named n) = n ∷ []
own_object (class_named n) = []
own_object (selector_named s) = []

-- the selector that a constant names, if it names one
abbrev pub own_selector : Constant → List Text
own_selector (whole z) = []
own_selector nil = []
own_selector (object_named n) = []
own_selector (class_named n) = []
own_selector (selector_named s) = s ∷ []

abbrev pub classes_in : Expression → List Text
classes_in e = flat_map own_class (constants_in e)

abbrev pub objects_in : Expression → List Text
objects_in e = flat_map own_object (constants_in e)
