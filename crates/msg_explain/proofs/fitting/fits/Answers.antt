use Rattle.msg_json.proofs.ViewLemmas.{view-Array}
use Rattle.msg_form.proofs.JsonLemmas.{values_of-items_view}
use Rattle.msg_explain.specs.Fitting.{fits}
use Rattle.msg_explain.proofs.fitting.fits.Goals as goal

pub returns-in-Array : goal.returns-in-Array
unfolding fits
returns-in-Array c = rw (c.in-Many.is, c.in-Array.is, view-Array, values_of-items_view) c.are_parts.ensures
