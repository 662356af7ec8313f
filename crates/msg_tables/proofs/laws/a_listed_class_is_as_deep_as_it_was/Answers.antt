use Rattle.msg_tables.proofs.DepthLemmas.{listed-depth}
use Rattle.msg_tables.proofs.laws.a_listed_class_is_as_deep_as_it_was.Goals as goal

pub returns : goal.returns
returns c = λ h k sound log inside. listed-depth h sound log k inside
