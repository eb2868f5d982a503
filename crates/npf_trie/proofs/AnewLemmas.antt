-- New stays of a hold: what it is building stays.
use Rattle.std.{proofs.Common.{◌≡◌, ℕ, ◌+◌, ◌≤◌, Bool, None, [], refl, sym, ap, ◌∙◌, subst, arith}, specs.List.Contains}
use Rattle.atomic_table.specs.Table.{Me}
use Rattle.npf_types.specs.declared.key.Way.{Way}
use Rattle.npf_core.specs.{declared.conn_id.ConnId.ConnId, History.state_of, Machine.HoldsNone, Meaning.Meaning}
use Rattle.npf_cells_words.specs.declared.layout.Layout.{Layout}
use Rattle.npf_cells_rule.specs.{declared.view.CellView.CellView, Passes.IsProtected, Views.with_epochs}
use Rattle.npf_cells_pins.specs.{declared.pin.EpochSide.EpochSide, Pinning.loading}
use Rattle.npf_cells_moves.specs.Kinds.{unpinned}
use Rattle.npf_connections.specs.Worn.{last_epoch}
use Rattle.npf_epoch.specs.Stays.{HasEntered}
use Rattle.npf_turn.specs.TakingOff.{HasNoNodes, ReturnsNode}
use Rattle.npf_trie.specs.HoldKey.{CanHold, HoldsOn, StaysAnew, IsInNewStay, having_held}

-- who can hold a key may clear a mark
pub nodeless : {S A R : Type 0} {m : Meaning S A R} {layout : Layout} {v : CellView S A R} {id : ConnId} {way : Way} → CanHold m layout v id way → HasNoNodes v.pools
nodeless can = record { nodes = can.nodes; unfreed = can.unfreed }

module _ {S A R F : Type 0} where
  pub anew_self : (a : Me F (CellView S A R)) → IsProtected a.0.epochs.pin → StaysAnew a a
  anew_self a protected = record {
    is = refl;
    history = refl;
    sweeps = omega arith;
    unpublished = refl;
    noted = refl;
    places = omega arith;
    protected = protected;
    greatest = omega arith;
    known = omega arith;
    most = λ low. low;
  }

  pub anew_after : (a b c : Me F (CellView S A R)) → StaysAnew a b → StaysAnew b c → StaysAnew a c
  anew_after a b c ab bc =
      let last : CellView S A R = c.0 in
      record {
        is = bc.is ∙ ap (λ (y : Me F (CellView S A R)). let z : Me F (CellView S A R) = (record (having_held y.0 last) { epochs = last.epochs }, y.1) in z) ab.is;
        history = bc.history ∙ ab.history;
        sweeps = let x = ab.sweeps in let y = bc.sweeps in omega (arith, x, y);
        unpublished = bc.unpublished ∙ ab.unpublished;
        noted = bc.noted ∙ ab.noted;
        places = let x = ab.places in let y = bc.places in omega (arith, x, y);
        protected = bc.protected;
        greatest = let x = ab.greatest in let y = bc.greatest in omega (arith, x, y);
        known = let x = ab.known in let y = bc.known in omega (arith, x, y);
        most = λ low. bc.most (ab.most low);
      }

  same_epochs : (b c : Me F (CellView S A R)) → HoldsOn b c → c.0.epochs ≡ b.0.epochs
  same_epochs b c on = ap (λ (y : Me F (CellView S A R)). y.0.epochs) on.is

  -- a step that holds nothing yet
  stays_on : (b c : Me F (CellView S A R)) → HoldsOn b c → IsProtected b.0.epochs.pin → b.0.trie.places ≤ c.0.trie.places → StaysAnew b c
  stays_on b c on protected more =
      let same = same_epochs b c on in
      record {
        is = on.is ∙ (λ i. (record (having_held b.0 c.0) { epochs = sym same i }, b.1));
        history = on.history;
        sweeps = on.sweeps;
        unpublished = on.unpublished;
        noted = on.noted;
        places = more;
        protected = subst (λ (e : EpochSide). IsProtected e.pin) (sym same) protected;
        greatest = let e = ap (λ (side : EpochSide). side.greatest) same in omega (arith, e);
        known = let e = ap (λ (side : EpochSide). side.known) same in omega (arith, e);
        most = λ low. let e = ap (λ (side : EpochSide). side.greatest) same in omega (arith, e, low);
      }

  pub anew_on : (a b c : Me F (CellView S A R)) → StaysAnew a b → HoldsOn b c → b.0.trie.places + 1 ≤ c.0.trie.places → StaysAnew a c
  anew_on a b c ab on loaded = anew_after a b c ab (stays_on b c on ab.protected (omega (arith, loaded)))

  pub can_anew : (m : Meaning S A R) (layout : Layout) (a b : Me F (CellView S A R)) (id : ConnId) (way : Way) → StaysAnew a b → CanHold m layout a.0 id way → CanHold m layout b.0 id way
  can_anew m layout a b id way anew can = record {
    may = record {
      built = subst (λ builds. Contains builds id) (sym (ap (λ (y : Me F (CellView S A R)). y.0.pools.builds) anew.is)) can.may.built;
      bare = subst (λ h. HoldsNone (state_of m h) id way) (sym anew.history) can.may.bare;
    };
    exists = can.exists;
    stored = λ inside. can.stored (subst (λ slots. Contains slots id.slot) (ap (λ (y : Me F (CellView S A R)). y.0.pools.unstored) anew.is) inside);
    nodes = ap (λ (y : Me F (CellView S A R)). y.0.pools.nodes) anew.is ∙ can.nodes;
    unfreed = ap (λ (y : Me F (CellView S A R)). y.0.pools.unfreed) anew.is ∙ can.unfreed;
    locks = ap (λ (y : Me F (CellView S A R)). y.0.trie.locks) anew.is ∙ can.locks;
    turnless = ap (λ (y : Me F (CellView S A R)). y.0.turn) anew.is ∙ can.turnless;
  }

  -- a stay is ended and another begun, in which a mark may have been cleared
  module _ (a left tried entered loaded now : Me F (CellView S A R)) (epoch : ℕ) (freed : Bool) (leaves : left ≡ unpinned a)
      (tries : tried ≡ with_epochs left tried.0.epochs) (enters : entered ≡ with_epochs tried entered.0.epochs)
      (loads : loaded ≡ with_epochs entered (loading entered.0.epochs epoch)) (returns : ReturnsNode freed loaded now) (same : now.0.epochs ≡ loaded.0.epochs) where
    abbrev side : EpochSide
    side = loading entered.0.epochs epoch

    stays_loaded : loaded ≡ with_epochs (unpinned a) side
    stays_loaded = loads ∙ (ap (λ (y : Me F (CellView S A R)). with_epochs y side) enters
        ∙ (ap (λ (y : Me F (CellView S A R)). with_epochs y side) tries ∙ ap (λ (y : Me F (CellView S A R)). with_epochs y side) leaves))

    stays_is : now ≡ (
      record a.0 {
        epochs = now.0.epochs;
        pools = record a.0.pools { found = now.0.pools.found; stored = now.0.pools.stored };
        trie = record a.0.trie {
          stands = None;
          leaf = None;
          seen = now.0.trie.seen;
          meets = now.0.trie.meets;
          answered = [];
          emptied = now.0.trie.emptied;
          met_mark = now.0.trie.met_mark;
          regained = now.0.trie.regained;
        };
      },
      a.1,
    )
    stays_is =
        let last : CellView S A R = now.0 in
        returns.is ∙ ap (λ (y : Me F (CellView S A R)). let z : Me F (CellView S A R) = (
          record y.0 {
            epochs = last.epochs;
            pools = record y.0.pools { found = last.pools.found; stored = last.pools.stored };
            trie = record y.0.trie { seen = last.trie.seen; meets = last.trie.meets; emptied = last.trie.emptied; met_mark = last.trie.met_mark; regained = last.trie.regained };
          },
          y.1,
        ) in z) stays_loaded

    pub in_new_stay : IsProtected entered.0.epochs.pin → IsInNewStay now.0
    in_new_stay protected = record {
      protected = subst (λ (e : EpochSide). IsProtected e.pin) (sym (same ∙ ap (λ (y : Me F (CellView S A R)). y.0.epochs) loads)) protected;
      stands = ap (λ (y : Me F (CellView S A R)). y.0.trie.stands) stays_is;
      leaf = ap (λ (y : Me F (CellView S A R)). y.0.trie.leaf) stays_is;
      answered = ap (λ (y : Me F (CellView S A R)). y.0.trie.answered) stays_is;
    }

    pub stays_anew : HasEntered tried.0.epochs entered.0.epochs → IsProtected entered.0.epochs.pin → left.0.epochs.greatest ≤ tried.0.epochs.greatest → left.0.epochs.known ≤ tried.0.epochs.known →
        (left.0.epochs.greatest ≤ last_epoch → tried.0.epochs.greatest ≤ last_epoch) → epoch ≤ last_epoch → StaysAnew a now
    stays_anew has protected greatest known most low =
        let first_g = ap (λ (y : Me F (CellView S A R)). y.0.epochs.greatest) leaves in
        let first_k = ap (λ (y : Me F (CellView S A R)). y.0.epochs.known) leaves in
        let then_g = ap (λ (e : EpochSide). e.greatest) has.is in
        let then_k = ap (λ (e : EpochSide). e.known) has.is in
        let load_g = ap (λ (y : Me F (CellView S A R)). y.0.epochs.greatest) loads in
        let load_k = ap (λ (y : Me F (CellView S A R)). y.0.epochs.known) loads in
        let last_g = ap (λ (e : EpochSide). e.greatest) same in
        let last_k = ap (λ (e : EpochSide). e.known) same in
        let swept : now.0.pools.sweeps ≡ a.0.pools.sweeps = ap (λ (y : Me F (CellView S A R)). y.0.pools.sweeps) stays_is in
        let walked : now.0.trie.places ≡ a.0.trie.places = ap (λ (y : Me F (CellView S A R)). y.0.trie.places) stays_is in
        record {
          is = settles_so;
          history = ap (λ (y : Me F (CellView S A R)). y.0.seats.history) stays_is;
          sweeps = omega (arith, swept);
          unpublished = ap (λ (y : Me F (CellView S A R)). y.0.trie.published) stays_is;
          noted = ap (λ (y : Me F (CellView S A R)). y.0.pools.notes) stays_is;
          places = omega (arith, walked);
          protected = subst (λ (e : EpochSide). IsProtected e.pin) (sym (same ∙ ap (λ (y : Me F (CellView S A R)). y.0.epochs) loads)) protected;
          greatest = omega (arith, first_g, greatest, then_g, load_g, last_g);
          known = omega (arith, first_k, known, then_k, load_k, last_k);
          most = λ below. let tried_low = most (omega (arith, first_g, below)) in let order = has.order in let last = has.most in omega (arith, tried_low, order, last, then_g, load_g, last_g, low);
        }
      where
        settles_so : now ≡ (record (having_held a.0 now.0) { epochs = now.0.epochs }, a.1)
        settles_so = subst (λ (y : Me F (CellView S A R)). y ≡ (record (having_held a.0 y.0) { epochs = y.0.epochs }, a.1)) (sym stays_is) refl
