use Rattle.msg_model.proofs.RunLemmas.{sound_after}
use Rattle.msg_model.proofs.laws.an_event_keeps_a_state_sound.Goals as goal

pub returns : goal.returns
returns c look z m e some_sender = sound_after look z some_sender m e
