use Rattle.npf_ruleset.proofs.row.EndRow.of.Goals as goal

pub returns : goal.returns
returns c = record { addrs = c.addr_hull.ensures; ports = c.port_hull.ensures }
