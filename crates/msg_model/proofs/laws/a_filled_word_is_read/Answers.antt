use Rattle.msg_model.specs.Runs.{opening}
use Rattle.msg_model.proofs.RunLemmas.{sound_opening}
use Rattle.msg_model.proofs.FilledLemmas.{filled_law}
use Rattle.msg_model.proofs.laws.a_filled_word_is_read.Goals as goal

pub returns : goal.returns
returns c look z origin before mid more n d p w some_sender = filled_law look z some_sender (opening origin) before mid more n d p w (sound_opening look z some_sender origin)
