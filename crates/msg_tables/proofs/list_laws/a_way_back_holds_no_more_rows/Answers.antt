use Rattle.msg_tables.proofs.RoomBackLemmas.{holds-back}
use Rattle.msg_tables.proofs.list_laws.a_way_back_holds_no_more_rows.Goals as goal

pub returns : goal.returns
returns c = λ h xs d n is w. holds-back d n h xs is w
