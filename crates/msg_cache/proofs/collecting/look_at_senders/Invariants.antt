use Rattle.msg_cache.specs.Plays.{no_changes}
use Rattle.msg_cache.proofs.collecting.look_at_senders.Given as goal

abbrev pub ghosts-look_at_rest : goal.ghosts-look_at_rest
ghosts-look_at_rest a = record { key = a.words.now.key; changes = no_changes; number = a._number }
