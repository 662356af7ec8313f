use Rattle.std.proofs.Common.{◌∙◌}
use Rattle.msg_explain.proofs.JudgingLemmas.{send_is, super_is}
use Rattle.msg_explain.proofs.judging.sends_other_count.Goals as goal

pub returns-in-Send : goal.returns-in-Send
returns-in-Send c = c.is_miscounted_send.ensures ∙ send_is c.args.body.now c.in-Send.send c.in-Send.is

pub returns-in-Super : goal.returns-in-Super
returns-in-Super c = c.is_miscounted_send-in-Super.ensures ∙ super_is c.args.body.now c.in-Super.send c.in-Super.is
