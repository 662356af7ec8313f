use Rattle.msg_dispatch_tests.proofs.opening.open.Given as goal

abbrev pub ghosts-runs : goal.ghosts-runs
ghosts-runs g a = record { arena = a.arena }
