use Rattle.msg_tables.proofs.LawLemmas.{found-first, found-second}
use Rattle.msg_tables.proofs.laws.exchanged_methods_are_seen_below.Goals as goal

pub returns-clause-first : goal.returns-clause-first
returns-clause-first c = λ h c d e p s u. found-first h c d s u e p

pub returns-clause-second : goal.returns-clause-second
returns-clause-second c = λ h c d e p q s u. found-second h c d s u e p q
