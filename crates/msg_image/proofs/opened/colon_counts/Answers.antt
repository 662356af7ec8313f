use Rattle.std.proofs.Common.{◌++◌, [], ◌∷◌, sym, ap, ◌∙◌}
use Rattle.msg_names.specs.Name.{colons_of}
use Rattle.msg_tables.proofs.TakeLemmas.{take-next-map}
use Rattle.msg_image.proofs.opened.colon_counts.Goals as goal

pub loop-index-preserved : goal.loop-index-preserved
loop-index-preserved c =
    c.in_ok-push.ensures.items ∙ ap (λ xs. xs ++ c.colons_at.result ∷ []) c.loop-index.invariant
    ∙ sym (take-next-map colons_of c.args.names.now c.loop-index.index c.colons_at.result c.colons_at.ensures)
