use Rattle.std.proofs.Common.{◌++◌, [], ◌∷◌, sym, ap, ◌∙◌}
use Rattle.msg_tables.proofs.TakeLemmas.{take-next}
use Rattle.msg_tables.proofs.opening.superclasses.Goals as goal

pub loop-class-preserved : goal.loop-class-preserved
loop-class-preserved c =
    c.in_ok-push.ensures.items ∙ ap (λ xs. xs ++ c.superclass.result ∷ []) c.loop-class.invariant ∙ sym (take-next c.args.origin.now.superclasses c.loop-class.class c.superclass.result c.superclass.ensures)
