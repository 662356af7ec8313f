use Rattle.msg_tables.specs.Log.{table}
use Rattle.msg_tables.specs.Undo.{undo_all}
use Rattle.msg_tables.proofs.WayBackAllLemmas.{lookups-back, way-accepted}
use Rattle.msg_tables.proofs.list_laws.every_list_has_a_way_back.Goals as goal

pub returns : goal.returns
returns c = λ h xs is. (undo_all (table h) xs, way-accepted h xs is, λ d s. lookups-back h xs d s is)
