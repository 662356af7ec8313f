use Rattle.msg_model.specs.Runs.{opening}
use Rattle.msg_model.proofs.RunLemmas.{sound_opening}
use Rattle.msg_model.proofs.ReadLemmas.{unheld_install, unheld_clear}
use Rattle.msg_model.proofs.laws.nobody_holds_what_is_given_again.Goals as goal

pub returns-clause-install : goal.returns-clause-install
returns-clause-install c look z origin es d a some_sender = unheld_install look z some_sender (opening origin) es d a (sound_opening look z some_sender origin)

pub returns-clause-clear : goal.returns-clause-clear
returns-clause-clear c look z origin es a p some_sender = unheld_clear look z some_sender (opening origin) es a p (sound_opening look z some_sender origin)
