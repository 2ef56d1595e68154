use Rattle.verifier_tests.proofs.look_ups.few_entries_take_few_steps.Given as goal

abbrev pub ghosts-has_by : goal.ghosts-has_by
ghosts-has_by g a = record { name = a.blank.name; parts = a.blank.parts }
