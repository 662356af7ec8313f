use Rattle.msg_dispatch_tests.proofs.memory.is_answered.Given as goal

abbrev pub ghosts-opens_and_answers : goal.ghosts-opens_and_answers
ghosts-opens_and_answers g a = record { arena = a.arena }
