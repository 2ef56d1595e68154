use Rattle.verifier_cache.proofs.cache.Cache.entry.Given as goal

abbrev pub ghosts-entry_by : goal.ghosts-entry_by
ghosts-entry_by a = record { name = a.blank.name; parts = a.blank.parts }
