use Rattle.msg_reader.proofs.NoteLemmas.{notes_begin}
use Rattle.msg_reader.proofs.laws.notes_are_of_longer_histories.Goals as goal

pub returns : goal.returns
returns c = notes_begin
