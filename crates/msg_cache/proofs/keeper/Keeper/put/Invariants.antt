use Rattle.msg_cache.specs.Plays.{no_changes}
use Rattle.msg_cache.proofs.keeper.Keeper.put.Given as goal

abbrev pub ghosts-store_entry : goal.ghosts-store_entry
ghosts-store_entry a = record { key = a.words.now.key; changes = no_changes; number = 0 }
