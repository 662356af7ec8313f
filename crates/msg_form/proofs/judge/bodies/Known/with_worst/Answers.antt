use Rattle.std.proofs.Common.{not, ◌||◌, ◌&&◌, ap, sym, ◌∙◌}
use Rattle.std.specs.List.{list_any}
use Rattle.msg_form.specs.Parts.{classes_in, is_super_send, objects_in, parts}
use Rattle.msg_form.specs.ExprView.{expr_view}
use Rattle.msg_form.specs.Text.{is_among, is_unknown}
use Rattle.msg_form.proofs.FoundLemmas.{above_root, none_named}
use Rattle.msg_form.proofs.TextLemmas.{or-false}
use Rattle.msg_form.proofs.judge.bodies.Known.with_worst.Goals as goal

pub returns : goal.returns
returns c =
    let imp = c.args.imp.now in
    let body = expr_view imp.body in
    let old = c.args.faults in
    let known = c.args.self.now in
    record {
      sends_above =
          ap (λ b. old.sends_above || (c.looks_above.result && b)) imp.worst_of.sends_above
          ∙ ap (λ b. old.sends_above || b) (above_root c.looks_above.result (not imp.meta) (is_among imp.class.now known.roots.now) (list_any is_super_send (parts body)) c.looks_above.ensures);
      unknown_class = sym (ap (λ b. old.unknown_class || b) (none_named (is_unknown known.classes.now) (classes_in body) (sym imp.worst_of.unknown_class ∙ c.requires.class)) ∙ or-false old.unknown_class);
      unknown_object = sym (ap (λ b. old.unknown_object || b) (none_named (is_unknown known.objects.now) (objects_in body) (sym imp.worst_of.unknown_object ∙ c.requires.object)) ∙ or-false old.unknown_object);
      argument_count = ap (λ b. old.argument_count || b) imp.worst_of.argument_count;
      argument_index = ap (λ b. old.argument_index || b) imp.worst_of.argument_index;
      too_deep = ap (λ b. old.too_deep || b) imp.worst_of.too_deep;
    }
