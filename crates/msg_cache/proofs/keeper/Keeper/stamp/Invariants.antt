use Rattle.msg_cache.specs.Plays.{no_changes}
use Rattle.msg_cache.proofs.keeper.Keeper.stamp.Given as goal

abbrev pub ghosts-store_stamp : goal.ghosts-store_stamp
ghosts-store_stamp a = record { key = a.words.now.key; changes = no_changes; number = 0 }
