use Rattle.std.proofs.Common.{map}
use Rattle.msg_form.specs.Views.{form_view}
use Rattle.msg_image.specs.Numbers.{numbers_by}
use Rattle.msg_image.specs.Plain.{item_parts}
use Rattle.msg_image.proofs.ImageLemmas.{numbers_are, items_are, document_is, sound_items, few_items}
use Rattle.msg_image.proofs.document.numbered.Goals as goal

pub returns-clause-document : goal.returns-clause-document
returns-clause-document c = document_is c.args.form.now c.in_ok-image.image (map item_parts c.in_ok-items.items.items) c.in_ok-image.ensures (items_are (numbers_by c.args.names.now) c.args.form.now c.in_ok-items.items.items c.deref.result.now (numbers_are (form_view c.args.form.now) c.args.names.now c.requires.fault c.requires.names) c.deref.ensures.value c.in_ok-items.ensures)

pub returns-clause-sound : goal.returns-clause-sound
returns-clause-sound c = sound_items c.args.form.now c.in_ok-image.image (map item_parts c.in_ok-items.items.items) c.requires.fault c.in_ok-image.ensures (items_are (numbers_by c.args.names.now) c.args.form.now c.in_ok-items.items.items c.deref.result.now (numbers_are (form_view c.args.form.now) c.args.names.now c.requires.fault c.requires.names) c.deref.ensures.value c.in_ok-items.ensures)

pub returns-clause-few : goal.returns-clause-few
returns-clause-few c = few_items c.args.form.now c.in_ok-items.items.items c.deref.result.now (numbers_by c.args.names.now) c.requires.fault c.deref.ensures.value c.in_ok-items.ensures
