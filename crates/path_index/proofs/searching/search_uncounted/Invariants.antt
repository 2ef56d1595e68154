use Rattle.path_index.proofs.searching.search_uncounted.Given as goal

abbrev pub ghosts-search_by : goal.ghosts-search_by
ghosts-search_by a = record { name = a.blank.name; parts = a.blank.parts }
