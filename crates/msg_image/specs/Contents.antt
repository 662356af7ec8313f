-- What is in an expression and in an item.
use Rattle.std.specs.Prelude.{ℕ, List, [], ◌∷◌, ◌++◌, Bool, true, false, ◌||◌}
use Rattle.msg_names.specs.declared.value.Selector.{Selector}
use Rattle.msg_names.specs.declared.value.Value.{Value}
use Rattle.msg_names.specs.declared.value.Value.TheVariants.{Number, Object, Class, Sel, Nil}
use Rattle.msg_image.specs.Parts.{Expression, Expressions, Const, Me, Arg, Two, If, Send, Super, NoMore, More}

-- the selector that a constant is
abbrev pub own_selector : Value → List Selector
own_selector (Number n) = []
own_selector (Object o) = []
own_selector (Class c) = []
own_selector (Sel s) = s ∷ []
own_selector Nil = []

abbrev mutual
  -- the selectors that it sends, and those that it has as constants
  pub selectors_in : Expression → List Selector
  selectors_in (Const v) = own_selector v
  selectors_in Me = []
  selectors_in (Arg k) = []
  selectors_in (Two o a b) = selectors_in a ++ selectors_in b
  selectors_in (If c a b) = selectors_in c ++ (selectors_in a ++ selectors_in b)
  selectors_in (Send a s es) = selectors_in a ++ (s ∷ all_selectors_in es)
  selectors_in (Super s es) = s ∷ all_selectors_in es

  pub all_selectors_in : Expressions → List Selector
  all_selectors_in NoMore = []
  all_selectors_in (More e es) = selectors_in e ++ all_selectors_in es

abbrev mutual
  -- the arguments that it reads
  pub arguments_in : Expression → List ℕ
  arguments_in (Const v) = []
  arguments_in Me = []
  arguments_in (Arg k) = k ∷ []
  arguments_in (Two o a b) = arguments_in a ++ arguments_in b
  arguments_in (If c a b) = arguments_in c ++ (arguments_in a ++ arguments_in b)
  arguments_in (Send a s es) = arguments_in a ++ all_arguments_in es
  arguments_in (Super s es) = all_arguments_in es

  pub all_arguments_in : Expressions → List ℕ
  all_arguments_in NoMore = []
  all_arguments_in (More e es) = arguments_in e ++ all_arguments_in es

abbrev mutual
  -- whether there is a super send in it
  pub has_super_send : Expression → Bool
  has_super_send (Const v) = false
  has_super_send Me = false
  has_super_send (Arg k) = false
  has_super_send (Two o a b) = has_super_send a || has_super_send b
  has_super_send (If c a b) = has_super_send c || (has_super_send a || has_super_send b)
  has_super_send (Send a s es) = has_super_send a || have_super_send es
  has_super_send (Super s es) = true

  pub have_super_send : Expressions → Bool
  have_super_send NoMore = false
  have_super_send (More e es) = has_super_send e || have_super_send es
