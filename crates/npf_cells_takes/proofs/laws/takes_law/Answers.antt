use Rattle.npf_cells_takes.proofs.{ClearLemmas.may_clear, FreeKeepLemmas.may_free_slot, PoolKeepLemmas.{may_sweep, may_claim_node, may_return_node}}
use Rattle.npf_cells_takes.proofs.{PrivateKeepLemmas.{may_load_inc, may_store, may_store_ahead}, SlotKeepLemmas.may_claim_slot}
use Rattle.npf_cells_takes.proofs.laws.takes_law.Goals as goal

pub returns : goal.returns
returns g c = record {
  keeps = λ layout. record {
    sweeps = may_sweep g.L.Law.meaning g.H.KeyHash.digest layout;
    claims_node = may_claim_node g.L.Law.meaning g.H.KeyHash.digest layout;
    returns_node = may_return_node g.L.Law.meaning g.H.KeyHash.digest layout;
    claims_slot = may_claim_slot g.L.Law.meaning g.H.KeyHash.digest layout;
    loads_inc = may_load_inc g.L.Law.meaning g.H.KeyHash.digest layout;
    stores = may_store g.L.Law.meaning g.H.KeyHash.digest layout;
    stores_ahead = may_store_ahead g.L.Law.meaning g.H.KeyHash.digest layout;
    clears = may_clear g.L.Law.meaning g.H.KeyHash.digest layout;
    frees_slot = may_free_slot g.L.Law.meaning g.H.KeyHash.digest layout;
  };
}
