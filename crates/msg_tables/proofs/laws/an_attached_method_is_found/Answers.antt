use Rattle.msg_tables.proofs.LawLemmas.{found-attached, found-attached-meta}
use Rattle.msg_tables.proofs.laws.an_attached_method_is_found.Goals as goal

pub returns-clause-class : goal.returns-clause-class
returns-clause-class c = found-attached

pub returns-clause-metaclass : goal.returns-clause-metaclass
returns-clause-metaclass c = found-attached-meta
