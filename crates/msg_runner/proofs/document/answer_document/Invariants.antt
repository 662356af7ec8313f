use Rattle.msg_runner.proofs.document.answer_document.Given as goal

abbrev pub ghosts-over_dispatcher : goal.ghosts-over_dispatcher
ghosts-over_dispatcher g a = record { arena = a.arena }
