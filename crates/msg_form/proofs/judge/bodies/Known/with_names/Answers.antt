use Rattle.std.proofs.Common.{not, ◌||◌, ap, refl, ◌∙◌}
use Rattle.std.specs.Prelude.{nat_le}
use Rattle.std.specs.List.{list_any}
use Rattle.msg_form.specs.Parts.{indices_in, is_super_send, parts}
use Rattle.msg_form.specs.ExprView.{expr_view}
use Rattle.msg_form.specs.Text.{is_among}
use Rattle.msg_form.proofs.FoundLemmas.{found-above, found-class, found-object, found-count, found-index, found-deep, above_root}
use Rattle.msg_form.proofs.judge.bodies.Known.with_names.Goals as goal

pub returns : goal.returns
returns c =
    let imp = c.args.imp.now in
    let body = expr_view imp.body in
    let old = c.args.faults in
    record {
      sends_above =
          ap (λ r. r.faults.sends_above) c.found.ensures ∙ found-above _ _ _ _ _ _ body
          ∙ ap (λ b. old.sends_above || b) (above_root c.looks_above.result (not imp.meta) (is_among imp.class.now c.args.self.now.roots.now) (list_any is_super_send (parts body)) c.looks_above.ensures);
      unknown_class = ap (λ r. r.faults.unknown_class) c.found.ensures ∙ found-class _ _ _ _ _ _ body;
      unknown_object = ap (λ r. r.faults.unknown_object) c.found.ensures ∙ found-object _ _ _ _ _ _ body;
      argument_count = ap (λ r. r.faults.argument_count) c.found.ensures ∙ found-count _ _ _ _ _ _ body;
      argument_index = ap (λ r. r.faults.argument_index) c.found.ensures ∙ found-index _ _ _ _ _ _ body ∙ ap (λ n. old.argument_index || list_any (nat_le n) (indices_in body)) c.from.ensures;
      too_deep = ap (λ r. r.faults.too_deep) c.found.ensures ∙ found-deep _ _ _ _ _ body refl;
    }
