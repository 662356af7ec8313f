use Rattle.msg_runner.proofs.workers.+work_beside.Given as goal

abbrev pub decreases-work_beside : goal.decreases-work_beside
decreases-work_beside g l = l.workers
