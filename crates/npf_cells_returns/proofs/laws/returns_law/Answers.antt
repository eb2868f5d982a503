use Rattle.npf_cells_returns.proofs.{FreeingKeepLemmas.may_free_node, LearnKeepLemmas.{may_load_cell, may_load_parent, may_load_state}}
use Rattle.npf_cells_returns.proofs.{MarkingKeepLemmas.may_mark_node, PlacingKeepLemmas.may_mark_place, RegainKeepLemmas.may_regain}
use Rattle.npf_cells_returns.proofs.laws.returns_law.Goals as goal

pub returns : goal.returns
returns g c = record {
  keeps = λ layout. record {
    loads_cell = may_load_cell g.L.Law.meaning g.H.KeyHash.digest layout;
    loads_parent = may_load_parent g.L.Law.meaning g.H.KeyHash.digest layout;
    loads_state = may_load_state g.L.Law.meaning g.H.KeyHash.digest layout;
    marks_node = may_mark_node g.L.Law.meaning g.H.KeyHash.digest layout;
    marks_place = may_mark_place g.L.Law.meaning g.H.KeyHash.digest layout;
    regains_node = may_regain g.L.Law.meaning g.H.KeyHash.digest layout;
    frees_node = may_free_node g.L.Law.meaning g.H.KeyHash.digest layout;
  };
}
