use Rattle.msg_cache.specs.Plays.{no_changes}
use Rattle.msg_cache.proofs.keeper.Keeper.face.Given as goal

abbrev pub ghosts-witness : goal.ghosts-witness
ghosts-witness a = record { key = a.words.now.key; changes = no_changes; number = 0 }
