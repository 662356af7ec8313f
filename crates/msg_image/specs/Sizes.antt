-- How large an expression is.
use Rattle.std.specs.Prelude.{ℕ, suc, ◌+◌, max}
use Rattle.msg_image.specs.Parts.{Expression, Expressions, Const, Me, Arg, Two, If, Send, Super, NoMore, More}

abbrev mutual
  -- how many expressions it has, itself included
  pub count : Expression → ℕ
  count (Const v) = 1
  count Me = 1
  count (Arg k) = 1
  count (Two o a b) = 1 + count a + count b
  count (If c a b) = 1 + count c + count a + count b
  count (Send a s es) = 1 + count a + count_all es
  count (Super s es) = 1 + count_all es

  pub count_all : Expressions → ℕ
  count_all NoMore = 0
  count_all (More e es) = count e + count_all es

abbrev mutual
  -- how deep it nests: 1 where it has no parts
  pub depth : Expression → ℕ
  depth (Const v) = 1
  depth Me = 1
  depth (Arg k) = 1
  depth (Two o a b) = 1 + max (depth a) (depth b)
  depth (If c a b) = 1 + max (depth c) (max (depth a) (depth b))
  depth (Send a s es) = 1 + max (depth a) (depth_all es)
  depth (Super s es) = 1 + depth_all es

  pub depth_all : Expressions → ℕ
  depth_all NoMore = 0
  depth_all (More e es) = max (depth e) (depth_all es)

-- how many there are
abbrev pub arity : Expressions → ℕ
arity NoMore = 0
arity (More e es) = suc (arity es)
