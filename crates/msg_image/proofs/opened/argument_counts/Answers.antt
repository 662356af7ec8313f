use Rattle.std.proofs.Common.{◌++◌, [], ◌∷◌, length, option_map, refl, sym, ap, ◌∙◌}
use Rattle.std.proofs.lemmas.Option.{slice_get_read}
use Rattle.msg_tables.proofs.TakeLemmas.{take-next-map}
use Rattle.msg_image.specs.declared.image.Imp.{Imp}
use Rattle.msg_image.proofs.opened.argument_counts.Goals as goal

pub loop-imp-preserved : goal.loop-imp-preserved
loop-imp-preserved c =
    let imps = c.args.imps.now in
    let place = c.loop-imp.imp-index in
    let at = slice_get_read imps (length imps) place c.imp-item.result refl c.loop-imp-test.true c.imp-item.is in
    c.in_ok-push.ensures.items ∙ ap (λ xs. xs ++ c.imp-item.result.args ∷ []) c.loop-imp.invariant
    ∙ sym (take-next-map (λ (m : Imp). m.args) imps place c.imp-item.result.args (ap (option_map (λ (m : Imp). m.args)) at))
