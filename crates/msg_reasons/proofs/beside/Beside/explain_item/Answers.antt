use Rattle.msg_reasons.proofs.beside.Beside.explain_item.Goals as goal

pub returns-in-Send-clause-item : goal.returns-in-Send-clause-item
returns-in-Send-clause-item c = rw c.in-Send.is c.explain_send.ensures.item
