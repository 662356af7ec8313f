use Rattle.msg_cache.specs.Plays.{no_changes}
use Rattle.msg_cache.proofs.keeper.Keeper.flush.Given as goal

abbrev pub ghosts-store_none : goal.ghosts-store_none
ghosts-store_none a = record { key = a.words.now.key; changes = no_changes; number = 0 }
