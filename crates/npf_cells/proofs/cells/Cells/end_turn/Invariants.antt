use Rattle.npf_cells.proofs.cells.Cells.end_turn.Given as goal

abbrev pub ghosts-end_turn_as : goal.ghosts-end_turn_as
ghosts-end_turn_as g a = record { act = a.act.now }
