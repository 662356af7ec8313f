use Rattle.msg_cache.specs.Plays.{no_stamps}
use Rattle.msg_cache.proofs.keeper.Keeper.give_out.Given as goal

abbrev pub ghosts-split_sender : goal.ghosts-split_sender
ghosts-split_sender a = record { number = a.number; stamps = no_stamps }
