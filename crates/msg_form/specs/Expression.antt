-- Constants and expressions, with names as texts.
use Rattle.std.specs.Prelude.{ℕ, suc, ℤ, List, [], ◌∷◌}
use Rattle.msg_form.specs.declared.form.Operator.{Operator}
use Rattle.msg_form.specs.Text.{Text}

-- a value that a document writes down, with names as texts
pub data Constant : Type 0 where
  whole : ℤ → Constant
  nil : Constant
  object_named : Text → Constant
  class_named : Text → Constant
  selector_named : Text → Constant

mutual
  -- a body, or a part of one
  pub data Expression : Type 0 where
    constant : Constant → Expression
    -- the receiver
    me : Expression
    arg : ℕ → Expression
    binary : Operator → Expression → Expression → Expression
    -- condition, the result if it holds, and the result if not
    choice : Expression → Expression → Expression → Expression
    -- receiver, selector, arguments
    send : Expression → Text → Expressions → Expression
    super_send : Text → Expressions → Expression

  pub data Expressions : Type 0 where
    no_more : Expressions
    more : Expression → Expressions → Expressions

abbrev pub expressions : List Expression → Expressions
expressions [] = no_more
expressions (e ∷ es) = more e (expressions es)

-- the number of expressions
abbrev pub count_of : Expressions → ℕ
count_of no_more = 0
count_of (more e es) = suc (count_of es)
