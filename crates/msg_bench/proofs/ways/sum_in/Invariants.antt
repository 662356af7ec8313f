use Rattle.msg_bench.proofs.ways.sum_in.Given as goal

abbrev pub ghosts-sum_over : goal.ghosts-sum_over
ghosts-sum_over g a = record { arena = a.arena }
