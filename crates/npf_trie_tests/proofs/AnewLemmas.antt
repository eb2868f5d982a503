-- A hold that is done may have ended in a later stay: its entry is one of the pass before it.
use Rattle.std.proofs.Common.{◌≡◌, Bool, List, sym, ap, ◌∙◌, subst}
use Rattle.atomic_table.specs.Table.{Me}
use Rattle.npf_types.specs.declared.key.{Key.Key, Way.Way}
use Rattle.npf_core.specs.{declared.{conn_id.ConnId.ConnId, entry.Entry.Entry, held.Held.Held}, Meaning.Meaning}
use Rattle.npf_connections.specs.{Adding.AddsOwn, Entries.hold_entries, Pass.Pass}
use Rattle.npf_cells_words.specs.declared.layout.Layout.{Layout}
use Rattle.npf_cells_rule.{specs.{declared.view.CellView.CellView, Passes.{IsProtected, cell_pass}}, proofs.PassLemmas.pinned_in}
use Rattle.npf_trie.specs.HoldKey.{SettlesAnew, StaysAnew}

module _ {S A R F : Type 0} (m : Meaning S A R) (layout : Layout) (id : ConnId) (key : Key) (way : Way) (old now : Me F (CellView S A R))
    (protected : IsProtected old.0.epochs.pin) (answers : SettlesAnew m layout id key way Held.Done old now) where
  abbrev mid : Me F (CellView S A R)
  mid = answers.between

  anew : StaysAnew old mid
  anew = answers.anew

  -- the pass shows in the stay in which the hold ends what it showed before
  anew_shows : cell_pass mid.0 ≡ record (cell_pass old.0) { answered = mid.0.trie.answered; sweeps = mid.0.pools.sweeps; epoch = mid.0.epochs.greatest }
  anew_shows = ap (λ (y : Me F (CellView S A R)). cell_pass y.0) anew.is ∙ (λ i. shows ((pinned_in mid.0.epochs.pin anew.protected ∙ sym (pinned_in old.0.epochs.pin protected)) i) (anew.history i))
    where
      shows : Bool → List (Entry S A R) → Pass (Entry S A R)
      shows pinned history = record (cell_pass old.0) { history = history; entered = pinned; answered = mid.0.trie.answered; sweeps = mid.0.pools.sweeps; epoch = mid.0.epochs.greatest }

  pub held_adds : AddsOwn (cell_pass old.0) now.0.seats.history (hold_entries (cell_pass old.0) id key way Held.Done)
  held_adds =
      let same = ap (λ (p : Pass (Entry S A R)). hold_entries p id key way Held.Done) anew_shows in
      let mine = subst (AddsOwn (cell_pass mid.0) now.0.seats.history) same answers.settles.adds in
      let own = subst (λ (p : Pass (Entry S A R)). AddsOwn p now.0.seats.history (hold_entries (cell_pass old.0) id key way Held.Done)) anew_shows mine in
      record { adds = record { rest = own.adds.rest; goes_on = own.adds.goes_on; own = own.adds.own; listed = own.adds.listed }; ends = own.ends }

  -- and the pass is in a stay, with what it had
  pub still_protected : IsProtected now.0.epochs.pin
  still_protected = subst IsProtected (sym (ap (λ (y : Me F (CellView S A R)). y.0.epochs.pin) answers.settles.is)) anew.protected

  pub keeps_builds : now.0.pools.builds ≡ old.0.pools.builds
  keeps_builds = ap (λ (y : Me F (CellView S A R)). y.0.pools.builds) answers.settles.is ∙ ap (λ (y : Me F (CellView S A R)). y.0.pools.builds) anew.is

  pub keeps_unstored : now.0.pools.unstored ≡ old.0.pools.unstored
  keeps_unstored = ap (λ (y : Me F (CellView S A R)). y.0.pools.unstored) answers.settles.is ∙ ap (λ (y : Me F (CellView S A R)). y.0.pools.unstored) anew.is

  pub keeps_nodes : now.0.pools.nodes ≡ old.0.pools.nodes
  keeps_nodes = ap (λ (y : Me F (CellView S A R)). y.0.pools.nodes) answers.settles.is ∙ ap (λ (y : Me F (CellView S A R)). y.0.pools.nodes) anew.is

  pub keeps_unfreed : now.0.pools.unfreed ≡ old.0.pools.unfreed
  keeps_unfreed = ap (λ (y : Me F (CellView S A R)). y.0.pools.unfreed) answers.settles.is ∙ ap (λ (y : Me F (CellView S A R)). y.0.pools.unfreed) anew.is

  pub keeps_locks : now.0.trie.locks ≡ old.0.trie.locks
  keeps_locks = ap (λ (y : Me F (CellView S A R)). y.0.trie.locks) answers.settles.is ∙ ap (λ (y : Me F (CellView S A R)). y.0.trie.locks) anew.is

  pub keeps_turn : now.0.turn ≡ old.0.turn
  keeps_turn = ap (λ (y : Me F (CellView S A R)). y.0.turn) answers.settles.is ∙ ap (λ (y : Me F (CellView S A R)). y.0.turn) anew.is

  pub keeps_seats : now.0.seats.about ≡ old.0.seats.about
  keeps_seats = ap (λ (y : Me F (CellView S A R)). y.0.seats.about) answers.settles.is ∙ ap (λ (y : Me F (CellView S A R)). y.0.seats.about) anew.is
