use Rattle.msg_model.specs.Runs.{opening}
use Rattle.msg_model.proofs.RunLemmas.{sound_run, sound_opening}
use Rattle.msg_model.proofs.laws.a_legal_run_is_lawful.Goals as goal

pub returns-clause-lawful : goal.returns-clause-lawful
returns-clause-lawful c look z origin es some_sender legal = (sound_run look z some_sender (opening origin) es (sound_opening look z some_sender origin) legal).lawful

pub returns-clause-sound : goal.returns-clause-sound
returns-clause-sound c look z origin es some_sender legal = sound_run look z some_sender (opening origin) es (sound_opening look z some_sender origin) legal
