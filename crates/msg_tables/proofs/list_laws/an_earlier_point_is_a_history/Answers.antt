use Rattle.msg_tables.specs.History.{log}
use Rattle.msg_tables.proofs.HistoryLemmas.{log-begins}
use Rattle.msg_tables.proofs.LogLemmas.{log-before}
use Rattle.msg_tables.proofs.list_laws.an_earlier_point_is_a_history.Goals as goal

pub returns : goal.returns
returns c = λ h g begins is. log-before (log h) (log g) (log-begins h g begins) is
