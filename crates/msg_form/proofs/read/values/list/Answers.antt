use Rattle.std.proofs.Common.{refl}
use Rattle.msg_json.proofs.ViewLemmas.{view-Array}
use Rattle.msg_form.proofs.JsonLemmas.{values_of-items_view}
use Rattle.msg_form.proofs.read.values.list.Goals as goal

pub returns-in-Array : goal.returns-in-Array
returns-in-Array c = rw (c.in-Array.is, view-Array, values_of-items_view) refl
