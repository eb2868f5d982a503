use Rattle.npf_oneturn.proofs.turn.end.Given as goal

abbrev pub ghosts-end_as : goal.ghosts-end_as
ghosts-end_as g a = record { ending = a.ending }
