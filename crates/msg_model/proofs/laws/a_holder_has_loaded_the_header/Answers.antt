use Rattle.msg_model.proofs.ReadLemmas.{loaded_law}
use Rattle.msg_model.proofs.laws.a_holder_has_loaded_the_header.Goals as goal

pub returns : goal.returns
returns c z origin es n d a = loaded_law z n d a origin es
