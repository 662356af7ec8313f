use Rattle.msg_reasons.proofs.MovingLemmas.{none_of, stays_on}
use Rattle.msg_reasons.proofs.moving.Moving.move_on.Goals as goal

pub returns-in_default-clause-moved : goal.returns-in_default-clause-moved
returns-in_default-clause-moved c = λ k on. stays_on c.args.self.now k (none_of c.args.self.now.versions.now c.in_default.ensures.variant.1) on
