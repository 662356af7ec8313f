-- Sends of the code.
use Rattle.std.proofs.Common.{◌≡◌, suc, List, [], ◌∷◌, length, refl, sym, ap, ◌∙◌}
use Rattle.std.specs.declared.vec.Vec.{Vec}
use Rattle.std.specs.declared.alloc.Global.{Global}
use Rattle.std.specs.declared.boxed.Box.{Box}
use Rattle.msg_names.specs.declared.value.Selector.{Selector}
use Rattle.msg_image.specs.Parts.{Expression, Send, Super}
use Rattle.msg_image.specs.Plain.{plain, plain_all, expr_step}
use Rattle.msg_image.specs.Sizes.{arity}
use Rattle.msg_image.specs.declared.expr.Expr.{Expr}
use Rattle.msg_image.specs.declared.expr.Expr.TheFolds.{fold-roll-Expr}
use Rattle.msg_image.specs.declared.expr.Expr.TheVariants as code
use Rattle.msg_image.specs.declared.expr.Expr.TheVariants.{rolls-Send, rolls-Super}

pub arity-plain_all : (es : List Expr) → arity (plain_all es) ≡ length es
arity-plain_all [] = refl
arity-plain_all (e ∷ es) = ap suc (arity-plain_all es)

pub plain-Send : (a : Box Expr Global) (s : Selector) (es : Vec Expr Global) → plain (code.Send a s es) ≡ Send (plain a.value) s (plain_all es.items)
plain-Send a s es = ap plain (sym (rolls-Send a s es)) ∙ fold-roll-Expr Expression expr_step _

pub plain-Super : (s : Selector) (es : Vec Expr Global) → plain (code.Super s es) ≡ Super s (plain_all es.items)
plain-Super s es = ap plain (sym (rolls-Super s es)) ∙ fold-roll-Expr Expression expr_step _
