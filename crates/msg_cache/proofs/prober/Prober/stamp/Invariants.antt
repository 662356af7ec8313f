use Rattle.msg_cache.proofs.prober.Prober.stamp.Given as goal

abbrev pub ghosts-load_stamp : goal.ghosts-load_stamp
ghosts-load_stamp a = record { class = a._class; sel = 0; arrays = 0 }
