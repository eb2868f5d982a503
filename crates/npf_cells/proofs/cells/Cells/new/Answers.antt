use Rattle.npf_cells_rule.proofs.OpenLemmas.{opens}
use Rattle.npf_cells.proofs.cells.Cells.new.Goals as goal

pub new-requires : goal.new-requires
new-requires g c = opens _ g.L.Law.meaning g.H.KeyHash.digest c.in_ok-words.words.now c.in_ok-homes.homes.items c.in_ok-words.ensures c.in_ok-homes.ensures
