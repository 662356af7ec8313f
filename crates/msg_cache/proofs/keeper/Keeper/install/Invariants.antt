use Rattle.msg_cache.specs.Plays.{no_changes}
use Rattle.msg_cache.proofs.keeper.Keeper.install.Given as goal

abbrev pub ghosts-store_array : goal.ghosts-store_array
ghosts-store_array a = record { key = a.words.now.key; changes = no_changes; number = 0 }
