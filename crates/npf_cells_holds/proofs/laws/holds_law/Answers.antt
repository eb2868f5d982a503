use Rattle.npf_cells_holds.proofs.{AgainKeepLemmas.may_store_again, HoldKeepLemmas.may_load_for_hold, LockKeepLemmas.{may_lock, may_store_state}}
use Rattle.npf_cells_holds.proofs.{LookKeepLemmas.{may_look, may_load_key}, PublishKeepLemmas.may_publish_for, UnlinkKeepLemmas.may_unlink}
use Rattle.npf_cells_holds.proofs.laws.holds_law.Goals as goal

pub returns : goal.returns
returns g c = record {
  keeps = λ layout. record {
    looks = may_look g.L.Law.meaning g.H.KeyHash.digest layout;
    loads_key = may_load_key g.L.Law.meaning g.H.KeyHash.digest layout;
    loads_for_hold = may_load_for_hold g.L.Law.meaning g.H.KeyHash.digest layout;
    tries_lock = may_lock g.L.Law.meaning g.H.KeyHash.digest layout;
    stores_state = may_store_state g.L.Law.meaning g.H.KeyHash.digest layout;
    stores_again = may_store_again g.L.Law.meaning g.H.KeyHash.digest layout;
    publishes = may_publish_for g.L.Law.meaning g.H.KeyHash.digest layout;
    unlinks = may_unlink g.L.Law.meaning g.H.KeyHash.digest layout;
  };
}
