-- A pass gets nodes back in a stay of its own.
use Rattle.std.proofs.Common.{◌≡◌, ℕ, ◌≤◌, Bool, false, max, sym, ap, ◌∙◌, subst, arith}
use Rattle.atomic_table.specs.Table.{Me}
use Rattle.npf_core.specs.Meaning.{Meaning}
use Rattle.npf_connections.specs.{Pass.IsPass, Worn.last_epoch}
use Rattle.npf_cells_pins.specs.{declared.pin.{EpochSide.EpochSide, Pin.TheVariants.Idle}, Pinning.{IsMet, loading}}
use Rattle.npf_cells_moves.specs.Kinds.{unpinned}
use Rattle.npf_cells_rule.specs.{declared.view.CellView.CellView, Passes.{IsProtected, cell_pass, is_pinned}, Views.with_epochs}
use Rattle.npf_epoch.specs.Stays.{HasEntered}
use Rattle.npf_turn.specs.TakingOff.{HasNoNodes, HasReached, ReturnsNode}
use Rattle.npf_conndb.{specs.Between.{IsBetweenCalls, StaysBetween}, proofs.PassLemmas.{hands, goes_between, adds_nothing, begins}}
use Rattle.npf_conndb.proofs.VisitLemmas.{stays_more, visit_goes, visit_pass, visit_between}

-- who only knows of a later epoch is between calls as it was
module _ {S A R F : Type 0} (m : Meaning S A R) (old now : Me F (CellView S A R)) (seats : now.0.seats ≡ old.0.seats) (shows : cell_pass now.0 ≡ record
    (cell_pass old.0) { epoch = now.0.epochs.greatest }) (same : hands now.0 ≡ hands old.0) (builds : now.0.pools.builds ≡ old.0.pools.builds) (notes : now.0.pools.notes ≡ old.0.pools.notes)
    (pin : now.0.epochs.pin ≡ old.0.epochs.pin) (later : old.0.epochs.greatest ≤ now.0.epochs.greatest) (most : old.0.epochs.greatest ≤ last_epoch →
    now.0.epochs.greatest ≤ last_epoch) (pass : IsPass m (cell_pass old.0)) (between : IsBetweenCalls m old.0) where
  later_pass : IsPass m (cell_pass now.0)
  later_pass = subst (IsPass m) (sym shows) (record {
    legal = pass.legal;
    stays = pass.stays;
    building = pass.building;
    unanswered = pass.unanswered;
    idle = pass.idle;
    alone = pass.alone;
    most = most pass.most;
  })

  later_stays : StaysBetween m old.0 now.0
  later_stays = record {
    goes = record { view = shows ∙ (λ i. record (cell_pass old.0) { history = sym (ap (λ s. s.history) seats) i; epoch = now.0.epochs.greatest }); epoch = later };
    between = goes_between m old.0 now.0 same builds notes pass later_pass
        (begins (cell_pass old.0) now.0.seats.history _ (adds_nothing (cell_pass old.0) now.0.seats.history (ap (λ s. s.history) seats))) between;
    legal = later_pass;
    pin = pin;
  }

module _ {S A R F : Type 0} (m : Meaning S A R) (old now : Me F (CellView S A R)) (pass : IsPass m (cell_pass old.0)) (between : IsBetweenCalls m old.0) where
  -- an epoch was loaded
  loaded_stays : (epoch : ℕ) → IsMet old.0.epochs epoch → now ≡ with_epochs old (loading old.0.epochs epoch) → StaysBetween m old.0 now.0
  loaded_stays epoch met is = later_stays m old now
      (ap (λ (y : Me F (CellView S A R)). y.0.seats) is)
      (ap (λ (y : Me F (CellView S A R)). cell_pass y.0) is ∙ (λ i. record (cell_pass old.0) { epoch = sym greatest i }))
      (ap (λ (y : Me F (CellView S A R)). hands y.0) is)
      (ap (λ (y : Me F (CellView S A R)). y.0.pools.builds) is)
      (ap (λ (y : Me F (CellView S A R)). y.0.pools.notes) is)
      (ap (λ (y : Me F (CellView S A R)). y.0.epochs.pin) is)
      (let rose = greatest in omega (arith, rose))
      (λ most. let rose = greatest in let last = met.most in omega (arith, rose, most, last))
      pass between
    where
      greatest : now.0.epochs.greatest ≡ max old.0.epochs.greatest epoch
      greatest = ap (λ (y : Me F (CellView S A R)). y.0.epochs.greatest) is

  -- or a node may have been got back
  returned_stays : (freed : Bool) → ReturnsNode freed old now → StaysBetween m old.0 now.0
  returned_stays freed so = later_stays m old now
      (ap (λ (y : Me F (CellView S A R)). y.0.seats) so.is)
      (ap (λ (y : Me F (CellView S A R)). cell_pass y.0) so.is ∙ (λ i. record (cell_pass old.0) { entered = is_pinned (so.epochs.pin i); epoch = now.0.epochs.greatest }))
      (ap (λ (y : Me F (CellView S A R)). hands y.0) so.is ∙ (λ i. (
        so.epochs.pin i,
        old.0.trie.locks,
        old.0.turn,
        old.0.pools.nodes,
        old.0.pools.unstored,
        old.0.pools.kills,
        old.0.pools.gave_up,
        old.0.pools.reclaims,
        old.0.pools.cleared,
        old.0.pools.unfreed,
      )))
      (ap (λ (y : Me F (CellView S A R)). y.0.pools.builds) so.is)
      (ap (λ (y : Me F (CellView S A R)). y.0.pools.notes) so.is)
      so.epochs.pin so.epochs.greatest so.epochs.most pass between

-- the pass is in a stay of its own, in which it loaded this epoch and may have got nodes back
pub record Regains {S A R F : Type 0} (m : Meaning S A R) (epoch : ℕ) (old now : Me F (CellView S A R)) : Type 0 where
  pub inside : Me F (CellView S A R)
  pub same : inside ≡ with_epochs old inside.0.epochs
  pub protected : IsProtected inside.0.epochs.pin
  pub entered : HasEntered old.0.epochs inside.0.epochs
  pub stays : StaysBetween m inside.0 now.0
  pub seats : now.0.seats ≡ old.0.seats
  pub reached : HasReached now.0.epochs epoch

module _ {S A R F : Type 0} (m : Meaning S A R) (epoch : ℕ) (old : Me F (CellView S A R)) where
  -- it has entered and loaded the epoch
  pub regains_none : (inside now : Me F (CellView S A R)) → inside ≡ with_epochs old inside.0.epochs → IsProtected inside.0.epochs.pin → HasEntered old.0.epochs inside.0.epochs →
      IsPass m (cell_pass inside.0) → IsBetweenCalls m inside.0 → IsMet inside.0.epochs epoch → now ≡ with_epochs inside (loading inside.0.epochs epoch) → Regains m epoch old now
  regains_none inside now same protected entered pass between met is = record {
    inside = inside;
    same = same;
    protected = protected;
    entered = entered;
    stays = loaded_stays m inside now pass between epoch met is;
    seats = ap (λ (y : Me F (CellView S A R)). y.0.seats) is ∙ ap (λ (y : Me F (CellView S A R)). y.0.seats) same;
    reached = subst (λ (side : EpochSide). HasReached side epoch) (sym (ap (λ (y : Me F (CellView S A R)). y.0.epochs) is)) (record { loaded = omega arith; known = omega arith });
  }

  module _ (now : Me F (CellView S A R)) (so : Regains m epoch old now) where
    -- what each try asks for
    pub still_protected : IsProtected now.0.epochs.pin
    still_protected = subst IsProtected (sym so.stays.pin) so.protected

    pub still_nodeless : HasNoNodes now.0.pools
    still_nodeless = record { nodes = so.stays.between.nodeless; unfreed = so.stays.between.returned }

    -- one node more
    pub regains_more : (next : Me F (CellView S A R)) (freed : Bool) → ReturnsNode freed now next → Regains m epoch old next
    regains_more next freed more = record {
      inside = so.inside;
      same = so.same;
      protected = so.protected;
      entered = so.entered;
      stays = stays_more m 0 0 0 0 so.inside.0 now.0 next.0 so.stays (returned_stays m now next so.stays.legal so.stays.between freed more);
      seats = ap (λ (y : Me F (CellView S A R)). y.0.seats) more.is ∙ so.seats;
      reached = more.reaches epoch so.reached;
    }

    -- and it leaves
    pub regained_stays : (next : Me F (CellView S A R)) → IsPass m (cell_pass old.0) → old.0.epochs.pin ≡ Idle → next ≡ unpinned now → StaysBetween m old.0 next.0
    regained_stays next pass idle leaves =
        let out : (cell_pass old.0).entered ≡ false = ap is_pinned idle in
        record {
          goes = visit_goes m old so.inside now next pass out so.same so.protected so.entered so.stays leaves;
          between = visit_between m old so.inside now next pass out so.same so.protected so.entered so.stays leaves;
          legal = visit_pass m old so.inside now next pass out so.same so.protected so.entered so.stays leaves;
          pin = ap (λ (y : Me F (CellView S A R)). y.0.epochs.pin) leaves ∙ sym idle;
        }

    pub regained_seats : (next : Me F (CellView S A R)) → next ≡ unpinned now → next.0.seats ≡ old.0.seats
    regained_seats next leaves = ap (λ (y : Me F (CellView S A R)). y.0.seats) leaves ∙ so.seats
