use Rattle.msg_tables.specs.Log.{table}
use Rattle.msg_tables.specs.Several.{and_all}
use Rattle.msg_tables.specs.Undo.{undo_all}
use Rattle.msg_tables.proofs.SeveralLemmas.{accepted-none}
use Rattle.msg_tables.proofs.WayBackAllLemmas.{way-accepted}
use Rattle.msg_tables.proofs.list_laws.a_way_back_is_accepted.Goals as goal

pub returns : goal.returns
returns c = λ h xs is few. accepted-none (and_all h xs) (undo_all (table h) xs) 0 (way-accepted h xs is few)
