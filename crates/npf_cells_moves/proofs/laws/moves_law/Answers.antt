use Rattle.npf_cells_moves.proofs.{KeepLemmas.{may_load, may_pin, may_protect, may_unpin, may_scan, may_advance}, MoveLemmas.{splits, gets_born, joins, reads}}
use Rattle.npf_cells_moves.proofs.laws.moves_law.Goals as goal

pub returns : goal.returns
returns g c = record {
  keeps = λ layout. record {
    splits = splits g.L.Law.meaning g.H.KeyHash.digest layout;
    born = gets_born g.L.Law.meaning g.H.KeyHash.digest layout;
    joins = joins g.L.Law.meaning g.H.KeyHash.digest layout;
    reads = reads g.L.Law.meaning g.H.KeyHash.digest layout;
    loads = may_load g.L.Law.meaning g.H.KeyHash.digest layout;
    pins = may_pin g.L.Law.meaning g.H.KeyHash.digest layout;
    protects = may_protect g.L.Law.meaning g.H.KeyHash.digest layout;
    unpins = may_unpin g.L.Law.meaning g.H.KeyHash.digest layout;
    scans = may_scan g.L.Law.meaning g.H.KeyHash.digest layout;
    advances = may_advance g.L.Law.meaning g.H.KeyHash.digest layout;
  };
}
