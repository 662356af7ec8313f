-- Expressions without their pointers, by their parts as the code has them at hand.
use Rattle.std.specs.Prelude.{List}
use Rattle.msg_names.specs.declared.value.Selector.{Selector}
use Rattle.msg_image.specs.Parts.{Expression, Two, If, Send, Super}
use Rattle.msg_image.specs.Plain.{plain, plain_all}
use Rattle.msg_image.specs.declared.expr.Expr.{Expr}
use Rattle.msg_eval.specs.Operation.{op_of}
use Rattle.msg_eval.specs.declared.operation.Operation.{Operation}

-- an operation on two operands
abbrev pub plain_two : Operation → Expr → Expr → Expression
plain_two op a b = Two (op_of op) (plain a) (plain b)

-- a choice by a test
abbrev pub plain_if : Expr → Expr → Expr → Expression
plain_if test a b = If (plain test) (plain a) (plain b)

-- a send to what an expression comes to
abbrev pub plain_send : Expr → Selector → List Expr → Expression
plain_send receiver s args = Send (plain receiver) s (plain_all args)

-- a super send
abbrev pub plain_super : Selector → List Expr → Expression
plain_super s args = Super s (plain_all args)
