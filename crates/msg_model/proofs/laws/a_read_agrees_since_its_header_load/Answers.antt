use Rattle.msg_model.specs.Runs.{opening}
use Rattle.msg_model.proofs.RunLemmas.{sound_opening}
use Rattle.msg_model.proofs.ReadLemmas.{read_holds, read_entry, read_law}
use Rattle.msg_model.proofs.laws.a_read_agrees_since_its_header_load.Goals as goal

pub returns-clause-holds : goal.returns-clause-holds
returns-clause-holds c look z origin es n p legal = read_holds look z origin es n p legal

pub returns-clause-entry : goal.returns-clause-entry
returns-clause-entry c look z origin es n p some_sender = read_entry look z some_sender (opening origin) es n p (sound_opening look z some_sender origin)

pub returns-clause-agrees : goal.returns-clause-agrees
returns-clause-agrees c look z origin before mid n d p some_sender = read_law look z some_sender (opening origin) before mid n d p (sound_opening look z some_sender origin)
