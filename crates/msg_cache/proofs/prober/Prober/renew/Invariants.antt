use Rattle.msg_cache.specs.Plays.{no_changes}
use Rattle.msg_cache.proofs.prober.Prober.renew.Given as goal

abbrev pub ghosts-witness : goal.ghosts-witness
ghosts-witness a = record { key = a.words.now.key; changes = no_changes; number = 0 }

abbrev pub ghosts-split_again : goal.ghosts-split_again
ghosts-split_again a = record { number = a.number; stamps = a._before.now.value.sender.stamps }
