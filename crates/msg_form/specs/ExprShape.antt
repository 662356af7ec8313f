-- Which JSON values spell constants and expressions.
use Rattle.std.specs.Prelude.{ℕ, ◌==◌, ℤ, pos, negsuc, List, [], ◌∷◌, length, drop, codes, Bool, if◌then◌else◌, Option, Some, None, option_map, slice_get}
use Rattle.std.specs.Str.{bytes_eq}
use Rattle.serde_json.specs.Data.{Data, null, boolean, number, string, array, object, Items, no_items, item}
use Rattle.serde_json.specs.Find.{as_str}
use Rattle.msg_form.specs.declared.form.Operator.{Operator}
use Rattle.msg_form.specs.declared.form.Operator.TheVariants.{Add, Sub, Mul, Eq, Lt}
use Rattle.msg_form.specs.Expression.{Constant, whole, nil, object_named, class_named, selector_named, Expression, constant, me, arg, binary, choice, send, super_send, expressions}
use Rattle.msg_form.specs.Json.{◌>>=◌, only_if, each, value_of, values_of, name_of, whole_of}
use Rattle.msg_form.specs.Text.{Text}

abbrev pub is_word : Text → Text → Bool
is_word = bytes_eq

-- ---- constants

-- `["obj",N]`, `["class",N]` or `["sel",S]`, with that word
unfoldable pub named_of : Text → List Data → Option Constant
named_of word ds = do
  _ ← only_if (length ds == 2)
  if is_word word (codes "obj") then option_map object_named (value_of name_of 1 ds) else
      (if is_word word (codes "class") then option_map class_named (value_of name_of 1 ds) else
      (if is_word word (codes "sel") then option_map selector_named (value_of as_str 1 ds) else
      None))

unfoldable pub whole_constant_of : Data → Option Constant
whole_constant_of d = option_map whole (whole_of d)

unfoldable pub listed_constant_of : List Data → Option Constant
listed_constant_of ds = value_of as_str 0 ds >>= λ word. named_of word ds

-- a whole number, `null` or a list as above
unfoldable pub constant_of : Data → Option Constant
constant_of null = Some nil
constant_of (boolean b) = None
constant_of (number n) = whole_constant_of (number n)
constant_of (string s) = None
constant_of (array ds) = listed_constant_of (values_of ds)
constant_of (object ms) = None

-- ---- a list that begins with a word: ds are its values, and es is what each of them spells as an
-- expression

-- the expression at a place
abbrev pub at : ℕ → List (Option Expression) → Option Expression
at i es = slice_get es i >>= λ e. e

-- the expressions at two places
abbrev pub two_at : ℕ → ℕ → List (Option Expression) → Option (Expression × Expression)
two_at i j es = do
  first ← at i es
  second ← at j es
  Some (first, second)

-- the expressions from a place on
abbrev pub all_from : ℕ → List (Option Expression) → Option (List Expression)
all_from i es = each (λ e. e) (drop i es)

unfoldable pub operator_of : Text → Option Operator
operator_of word =
    if is_word word (codes "add") then Some Add else
    (if is_word word (codes "sub") then Some Sub else
    (if is_word word (codes "mul") then Some Mul else
    (if is_word word (codes "eq") then Some Eq else
    (if is_word word (codes "lt") then Some Lt else
    None))))

abbrev pub natural : ℤ → Option ℕ
natural (pos n) = Some n
natural (negsuc n) = None

-- `["self"]`
unfoldable pub me_of : List Data → Option Expression
me_of ds = do
  _ ← only_if (length ds == 1)
  Some me

-- `["arg",k]`
unfoldable pub arg_of : List Data → Option Expression
arg_of ds = do
  _ ← only_if (length ds == 2)
  k ← value_of whole_of 1 ds
  option_map arg (natural k)

-- `[operator,E,E]`
unfoldable pub binary_of : Operator → List (Option Expression) → Option Expression
binary_of operator es = do
  _ ← only_if (length es == 3)
  left ← at 1 es
  right ← at 2 es
  Some (binary operator left right)

-- `["if",E,E,E]`
unfoldable pub choice_of : List (Option Expression) → Option Expression
choice_of es = do
  _ ← only_if (length es == 4)
  condition ← at 1 es
  yes' ← at 2 es
  no' ← at 3 es
  Some (choice condition yes' no')

-- `["send",E,S,E,..]`
unfoldable pub send_expression_of : List Data → List (Option Expression) → Option Expression
send_expression_of ds es = do
  receiver ← at 1 es
  selector ← value_of as_str 2 ds
  args ← all_from 3 es
  Some (send receiver selector (expressions args))

-- `["super",S,E,..]`
unfoldable pub super_expression_of : List Data → List (Option Expression) → Option Expression
super_expression_of ds es = do
  selector ← value_of as_str 1 ds
  args ← all_from 2 es
  Some (super_send selector (expressions args))

-- an operation if the word is an operator, and else a constant
abbrev pub operation_of : Option Operator → Text → List Data → List (Option Expression) → Option Expression
operation_of (Some operator) word ds es = binary_of operator es
operation_of None word ds es = option_map constant (named_of word ds)

unfoldable pub worded_of : Text → List Data → List (Option Expression) → Option Expression
worded_of word ds es =
    if is_word word (codes "self") then me_of ds else
    (if is_word word (codes "arg") then arg_of ds else
    (if is_word word (codes "if") then choice_of es else
    (if is_word word (codes "send") then send_expression_of ds es else
    (if is_word word (codes "super") then super_expression_of ds es else
    operation_of (operator_of word) word ds es))))

unfoldable pub listed_of : List Data → List (Option Expression) → Option Expression
listed_of ds es = value_of as_str 0 ds >>= λ word. worded_of word ds es

-- ---- any value

abbrev mutual
  -- the expression that a JSON value spells: a constant, or a list that begins with one of the
  -- words
  pub expression_of : Data → Option Expression
  expression_of null = option_map constant (constant_of null)
  expression_of (boolean b) = option_map constant (constant_of (boolean b))
  expression_of (number n) = option_map constant (constant_of (number n))
  expression_of (string s) = option_map constant (constant_of (string s))
  expression_of (array ds) = listed_of (values_of ds) (readings_of ds)
  expression_of (object ms) = option_map constant (constant_of (object ms))

  -- what each value of a list spells
  pub readings_of : Items → List (Option Expression)
  readings_of no_items = []
  readings_of (item d ds) = expression_of d ∷ readings_of ds
