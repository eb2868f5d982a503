use Rattle.npf_turn.proofs.KillLemmas.{kills_bare}
use Rattle.npf_turn.proofs.laws.kill_law.Goals as goal

pub returns : goal.returns
returns g c = record { bare = kills_bare g.L.Law.meaning }
