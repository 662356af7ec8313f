use Rattle.std.proofs.Common.{ap, ◌∙◌}
use Rattle.std.specs.List.{flat_map, list_any}
use Rattle.msg_form.specs.Faults.{has_unknown_object}
use Rattle.msg_form.specs.Lists.{body_objects, object_names, item_objects}
use Rattle.msg_form.specs.Text.{is_unknown}
use Rattle.msg_form.specs.Views.{item_view, form_view}
use Rattle.msg_form.proofs.AnyLemmas.{found, not_found, any_mapped}
use Rattle.msg_form.proofs.BodyLemmas.{is_unknown-distinct}
use Rattle.msg_form.proofs.judge.names.has_unknown_object.Goals as goal

pub returns-then-bodies : goal.returns-then-bodies
unfolding has_unknown_object
returns-then-bodies c =
    let f = form_view c.args.form.now in
    c.if-bodies.true ∙ found (is_unknown (object_names f)) (body_objects f) (flat_map item_objects f.items) c.args.bodies.unknown_object c.requires.bodies.unknown_object c.if-bodies.true

pub returns-else-bodies : goal.returns-else-bodies
unfolding has_unknown_object
returns-else-bodies c =
    let f = form_view c.args.form.now in
    let names = c.args.names.now in
    let items = (rw c.deref.ensures.value at c.any.ensures) ∙ any_mapped (is_unknown names.objects) item_objects item_view c.args.form.now.items.items in
    let cited = items ∙ ap (λ p. list_any p (flat_map item_objects f.items)) (ap is_unknown c.requires.names.objects ∙ is_unknown-distinct (object_names f)) in
    not_found (is_unknown (object_names f)) (body_objects f) (flat_map item_objects f.items) c.args.bodies.unknown_object c.any.result c.requires.bodies.unknown_object c.if-bodies.false cited
