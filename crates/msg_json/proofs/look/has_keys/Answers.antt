use Rattle.msg_json.proofs.ViewLemmas.{view-Object}
use Rattle.msg_json.proofs.look.has_keys.Goals as goal

pub returns-in-Object : goal.returns-in-Object
returns-in-Object c = rw (c.in-Object.is, view-Object) c.are_keys.ensures
