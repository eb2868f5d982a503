-- Passes that enter and leave.
use Rattle.std.{proofs.Common.{◌≡◌, ◌≤◌, Bool, true, false, true≢false, [], max, refl, sym, ap, ◌∙◌, subst, arith}, specs.List.Contains}
use Rattle.atomic_table.specs.Table.{Me}
use Rattle.npf_core.specs.{declared.entry.Entry.Entry, Meaning.Meaning}
use Rattle.npf_connections.specs.{Pass.{Pass, IsPass}, Worn.last_epoch}
use Rattle.npf_seats.proofs.PrefixLemmas.{none_listed}
use Rattle.npf_cells_moves.specs.Kinds.{unpinned}
use Rattle.npf_cells_pins.specs.declared.pin.EpochSide.{EpochSide}
use Rattle.npf_cells_rule.{specs.{declared.view.CellView.CellView, Passes.{IsProtected, cell_pass}, Views.with_epochs}, proofs.PassLemmas.pinned_in}
use Rattle.npf_epoch.specs.Stays.{HasEntered}
use Rattle.npf_conndb.specs.Between.{IsBetweenCalls}

module _ {S A R F : Type 0} (m : Meaning S A R) (old now : Me F (CellView S A R)) (same : now ≡ with_epochs old now.0.epochs)
    (protected : IsProtected now.0.epochs.pin) (entered : HasEntered old.0.epochs now.0.epochs) where
  -- a pass that entered shows that, and the epoch that it loaded
  pub entered_shows : cell_pass now.0 ≡ record (cell_pass old.0) { entered = true; epoch = now.0.epochs.greatest }
  entered_shows = ap (λ (y : Me F (CellView S A R)). cell_pass y.0) same ∙ ap shows (pinned_in now.0.epochs.pin protected)
    where
      shows : Bool → Pass (Entry S A R)
      shows pinned = record (cell_pass old.0) { entered = pinned; epoch = now.0.epochs.greatest }

  greatest_is : now.0.epochs.greatest ≡ max (max old.0.epochs.greatest entered.pinned) entered.protecting_epoch
  greatest_is = ap (λ (side : EpochSide). side.greatest) entered.is

  pub entered_later : old.0.epochs.greatest ≤ now.0.epochs.greatest
  entered_later = let is = greatest_is in omega (arith, is)

  entered_most : IsPass m (cell_pass old.0) → now.0.epochs.greatest ≤ last_epoch
  entered_most pass = let is = greatest_is in let most = pass.most in let order = entered.order in let last = entered.most in omega (arith, is, most, order, last)

  pub entered_pass : IsPass m (cell_pass old.0) → IsPass m (cell_pass now.0)
  entered_pass pass = subst (IsPass m) (sym entered_shows) (record {
    legal = pass.legal;
    stays = pass.stays;
    building = pass.building;
    unanswered = λ out. absurd (true≢false out);
    idle = λ out. absurd (true≢false out);
    alone = pass.alone;
    most = entered_most pass;
  })

  -- it is between calls with what it had
  pub entered_between : old.0.pools.builds ≡ [] → IsBetweenCalls m old.0 → IsBetweenCalls m now.0
  entered_between idle between = record {
    protected = λ _. protected;
    unlocked = ap (λ (y : Me F (CellView S A R)). y.0.trie.locks) same ∙ between.unlocked;
    turnless = ap (λ (y : Me F (CellView S A R)). y.0.turn) same ∙ between.turnless;
    nodeless = ap (λ (y : Me F (CellView S A R)). y.0.pools.nodes) same ∙ between.nodeless;
    stored = ap (λ (y : Me F (CellView S A R)). y.0.pools.unstored) same ∙ between.stored;
    noted = λ id built. absurd (none_listed id (subst (λ ids. Contains ids id) (ap (λ (y : Me F (CellView S A R)). y.0.pools.builds) same ∙ idle) built));
    let_go = ap (λ (y : Me F (CellView S A R)). y.0.pools.kills) same ∙ between.let_go;
    given_up = ap (λ (y : Me F (CellView S A R)). y.0.pools.gave_up) same ∙ between.given_up;
    reclaimed = ap (λ (y : Me F (CellView S A R)). y.0.pools.reclaims) same ∙ between.reclaimed;
    freed = ap (λ (y : Me F (CellView S A R)). y.0.pools.cleared) same ∙ between.freed;
    returned = ap (λ (y : Me F (CellView S A R)). y.0.pools.unfreed) same ∙ between.returned;
  }

module _ {S A R F : Type 0} (m : Meaning S A R) (old now : Me F (CellView S A R)) (next : now ≡ unpinned old) where
  -- a pass that left shows that, and was answered nothing
  pub left_shows : cell_pass now.0 ≡ record (cell_pass old.0) { entered = false; answered = [] }
  left_shows = ap (λ (y : Me F (CellView S A R)). cell_pass y.0) next

  pub left_pass : IsPass m (cell_pass old.0) → old.0.pools.builds ≡ [] → IsPass m (cell_pass now.0)
  left_pass pass idle = subst (IsPass m) (sym left_shows) (record {
    legal = pass.legal;
    stays = λ id listed. absurd (none_listed id listed);
    building = pass.building;
    unanswered = λ _. refl;
    idle = λ _. idle;
    alone = pass.alone;
    most = pass.most;
  })

  pub left_between : IsBetweenCalls m old.0 → IsBetweenCalls m now.0
  left_between between = subst (λ (y : Me F (CellView S A R)). IsBetweenCalls m y.0) (sym next) (record {
    protected = λ entered. absurd (true≢false (sym entered));
    unlocked = between.unlocked;
    turnless = between.turnless;
    nodeless = between.nodeless;
    stored = between.stored;
    noted = between.noted;
    let_go = between.let_go;
    given_up = between.given_up;
    reclaimed = between.reclaimed;
    freed = between.freed;
    returned = between.returned;
  })
