use Rattle.msg_tables.proofs.SeveralLemmas.{kept-all, none-accepted}
use Rattle.msg_tables.proofs.list_laws.a_change_of_parts_affects_no_more.Goals as goal

pub returns : goal.returns
returns c h xs d s sound is none = kept-all h xs d s sound is (none-accepted h xs 0 none)
