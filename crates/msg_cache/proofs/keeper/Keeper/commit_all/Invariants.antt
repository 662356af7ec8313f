use Rattle.msg_cache.proofs.keeper.Keeper.commit_all.Given as goal

abbrev pub ghosts-store_count : goal.ghosts-store_count
ghosts-store_count g a = record { key = a.words.now.key; changes = g.L.ChangeList.changes a.changes.now; number = 0 }
