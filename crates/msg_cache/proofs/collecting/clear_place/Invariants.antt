use Rattle.msg_cache.specs.Plays.{no_changes}
use Rattle.msg_cache.proofs.collecting.clear_place.Given as goal

abbrev pub ghosts-clear_word : goal.ghosts-clear_word
ghosts-clear_word a = record { key = a.words.now.key; changes = no_changes; number = 0 }
