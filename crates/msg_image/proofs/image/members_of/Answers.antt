use Rattle.msg_form.specs.Views.{category_view, imp_view, object_view}
use Rattle.msg_image.specs.Document as spec
use Rattle.msg_image.specs.Numbers.{numbers_by}
use Rattle.msg_image.specs.Plain.{imp_parts, object_parts}
use Rattle.msg_image.proofs.ImageLemmas.{resolved, resolved_own}
use Rattle.msg_image.proofs.image.members_of.Goals as goal

pub returns-clause-categories : goal.returns-clause-categories
returns-clause-categories c = resolved_own category_view (spec.category (numbers_by c.args.names.now)) c.in_ok-categories.categories.items c.deref.result.now c.args.form.now.categories.items c.deref.ensures.value (rw c.in_ok-categories.ensures.0 at c.each-categories.ensures)

pub returns-clause-objects : goal.returns-clause-objects
returns-clause-objects c =
    let rest = rw c.in_ok-categories.ensures.1 at c.both.ensures in
    resolved object_parts object_view (spec.object (numbers_by c.args.names.now)) c.in_ok-categories.objects.items c.deref-2.result.now c.args.form.now.objects.items c.deref-2.ensures.value (rw rest.0 at c.each-objects.ensures)

pub returns-clause-imps : goal.returns-clause-imps
returns-clause-imps c =
    let rest = rw c.in_ok-categories.ensures.1 at c.both.ensures in
    resolved imp_parts imp_view (spec.imp (numbers_by c.args.names.now)) c.in_ok-categories.imps.items c.deref-3.result.now c.args.form.now.imps.items c.deref-3.ensures.value (rw rest.1 at c.each-imps.ensures)
