use Rattle.npf_reass.proofs.turn.end.Given as goal

abbrev pub ghosts-end_as : goal.ghosts-end_as
ghosts-end_as a = record { offered = a.offered }
