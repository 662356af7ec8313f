use Rattle.std.proofs.Common.{map, ap, ◌∙◌}
use Rattle.msg_form.specs.Text.{texts_view}
use Rattle.msg_form.specs.Views.{class_view}
use Rattle.msg_image.specs.Document as spec
use Rattle.msg_image.specs.Numbers.{numbers_by}
use Rattle.msg_image.proofs.ImageLemmas.{resolved_own}
use Rattle.msg_image.proofs.image.classes_of.Goals as goal

pub returns-clause-names : goal.returns-clause-names
returns-clause-names c = (rw c.in_ok-texts.ensures.0 at c.each-texts.ensures) ∙ ap (map (λ k. (class_view k).name)) c.deref.ensures.value

pub returns-clause-listed : goal.returns-clause-listed
returns-clause-listed c =
    let rest = rw c.in_ok-texts.ensures.1 at c.both.ensures in
    resolved_own class_view (spec.listed (numbers_by c.args.names.now)) c.in_ok-texts.listed.items c.deref-2.result.now c.args.form.now.classes.items c.deref-2.ensures.value (rw rest.0 at c.each-listed.ensures)

pub returns-clause-made : goal.returns-clause-made
returns-clause-made c =
    let rest = rw c.in_ok-texts.ensures.1 at c.both.ensures in
    (rw rest.1 at c.each-made.ensures) ∙ ap texts_view c.deref-3.ensures.value
