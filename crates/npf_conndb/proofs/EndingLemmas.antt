-- A connection is killed, gives its keys up, and is let go: the pass is between calls again.
use Rattle.std.{proofs.Common.{◌≡◌, ◌↔◌, ℕ, Bool, true, List, [], ◌∷◌, refl, sym, ap, ◌∙◌, subst, arith}, specs.List.Contains}
use Rattle.atomic_table.specs.Table.{Me}
use Rattle.npf_types.specs.declared.key.{Key.Key, Way.Way}
use Rattle.npf_core.specs.declared.{act.{Act.TheVariants.Kill, Why.{Why, TheVariants.{Abandoned, Expired}}}, conn_id.ConnId.ConnId, entry.Entry.Entry}
use Rattle.npf_core.specs.{declared.{found.Found.Found, reply.Reply.TheVariants.Nothing, stage.Stage.TheVariants.Dead}, History.{state_of, IsPrefix}}
use Rattle.npf_core.specs.{Machine.{stage_of, Holds, HoldsSome}, Meaning.Meaning}
use Rattle.npf_connections.specs.{Abandoning.Abandons, Adding.AddsOwn, Answered.without, Entries.{entry_of, end_entries}, Pass.{Pass, IsPass}, Stay.GoesOn}
use Rattle.npf_connections.proofs.AddLemmas.{AddsLast, adds_last}
use Rattle.npf_cells_lives.specs.{declared.pools.PoolSide.PoolSide, Turns.Running}
use Rattle.npf_cells_pins.specs.declared.pin.Pin.{Pin}
use Rattle.npf_cells_rule.specs.{declared.view.CellView.CellView, Passes.{IsProtected, cell_pass, is_pinned}, Views.unloaded}
use Rattle.npf_cells_turns.specs.EndKinds.{HasBareNotes, with_kill, without_build}
use Rattle.npf_turn.specs.Done.{HasDone, HasKilled, LeavesIdle}
use Rattle.npf_conndb.specs.{Between.{IsBetweenCalls, StaysBetween}, Ends.{HasKilledOne, EndsKilled, letting_one_go}, Expiries.ExpiresIn}
use Rattle.npf_conndb.proofs.{BuildLemmas.noted_less, ExpiryLemmas.{expires_idle, expires_one}, KillLemmas.{killed_dead, killed_keys}}
use Rattle.npf_conndb.proofs.PassLemmas.{hands, goes_between, goes_on, begins, noted_on}

-- what a pass has of the pools but for what it builds and knows of slots
abbrev Rest : Type 0
Rest = List ℕ × List ℕ × List ConnId × List Found × List ConnId × List ConnId × ℕ × List ℕ

abbrev rest : PoolSide → Rest
rest side = (side.nodes, side.unstored, side.kills, side.gave_up, side.reclaims, side.cleared, side.sweeps, side.unfreed)

abbrev rest_with : ConnId → PoolSide → Rest
rest_with id side = (side.nodes, side.unstored, id ∷ side.kills, side.gave_up, side.reclaims, side.cleared, side.sweeps, side.unfreed)

-- a pass that killed a connection, and what it has of the pools besides
module _ {S A R : Type 0} (m : Meaning S A R) (id : ConnId) (why : Why) (side : PoolSide) (old killed : Me (Running S) (CellView S A R))
    (pass : IsPass m (cell_pass old.0)) (between : IsBetweenCalls m old.0)
    (has : rest side ≡ rest_with id old.0.pools)
    (done : HasDone m (Kill id why) Nothing (unloaded old.0.epochs) side old killed) where
  pub kill_legal : IsPass m (cell_pass killed.0)
  kill_legal = done.legal pass

  pub killed_one : HasKilledOne id killed.0
  killed_one = record {
    killed = ap (λ (y : Me (Running S) (CellView S A R)). y.0.pools.kills) done.is ∙ (ap (λ (r : Rest). r.2) has ∙ ap (λ ids. id ∷ ids) between.let_go);
    given = ap (λ (y : Me (Running S) (CellView S A R)). y.0.pools.gave_up) done.is ∙ (ap (λ (r : Rest). r.3) has ∙ between.given_up);
    unlocked = ap (λ (y : Me (Running S) (CellView S A R)). y.0.trie.locks) done.is ∙ between.unlocked;
    turnless = ap (λ (y : Me (Running S) (CellView S A R)). y.0.turn) done.is ∙ between.turnless;
  }

  last : AddsLast (cell_pass old.0) killed.0.seats.history (entry_of (cell_pass old.0) (Kill id why) Nothing)
  last = adds_last (cell_pass old.0) killed.0.seats.history (entry_of (cell_pass old.0) (Kill id why) Nothing) done.adds refl

  pub is_dead : stage_of (state_of m killed.0.seats.history) id ≡ Dead
  is_dead = killed_dead m killed.0.seats.about (cell_pass old.0) killed.0.seats.history id why kill_legal.legal last

  -- and once it was let go
  module _ (now : Me (Running S) (CellView S A R)) (ends : EndsKilled m id killed now) where
    abbrev view : CellView S A R
    view = record old.0 {
      seats = record old.0.seats { history = now.0.seats.history };
      epochs = now.0.epochs;
      pools = record side { kills = []; gave_up = []; dated = now.0.pools.dated };
      trie = now.0.trie;
    }

    now_is : now.0 ≡ view
    now_is = ends.is ∙ ap (λ (y : Me (Running S) (CellView S A R)). letting_one_go y.0 now.0) done.is

    pub end_pin : now.0.epochs.pin ≡ old.0.epochs.pin
    end_pin = ends.pin ∙ ap (λ (y : Me (Running S) (CellView S A R)). y.0.epochs.pin) done.is

    pub end_builds : now.0.pools.builds ≡ side.builds
    end_builds = ap (λ (v : CellView S A R). v.pools.builds) now_is

    pub end_notes : now.0.pools.notes ≡ side.notes
    end_notes = ap (λ (v : CellView S A R). v.pools.notes) now_is

    number : killed.0.seats.number ≡ old.0.seats.number
    number = ap (λ (y : Me (Running S) (CellView S A R)). y.0.seats.number) done.is

    joined : killed.0.seats.joined ≡ old.0.seats.joined
    joined = ap (λ (y : Me (Running S) (CellView S A R)). y.0.seats.joined) done.is

    pub end_adds : AddsOwn (cell_pass old.0) now.0.seats.history (end_entries (cell_pass old.0) id why ends.held)
    end_adds = ends.ends (cell_pass old.0) why number joined done.adds

    pub end_prefix : IsPrefix old.0.seats.history now.0.seats.history
    end_prefix = begins (cell_pass old.0) now.0.seats.history (end_entries (cell_pass old.0) id why ends.held) end_adds.adds

    pub end_shows : cell_pass now.0 ≡ record (cell_pass old.0) { builds = side.builds; history = now.0.seats.history; epoch = now.0.epochs.greatest }
    end_shows = ap cell_pass now_is ∙ (λ i. shows (is_pinned (end_pin i)) (answered i) ((ap (λ (r : Rest). r.6) has) i))
      where
        answered : now.0.trie.answered ≡ old.0.trie.answered
        answered = ends.answered ∙ ap (λ (y : Me (Running S) (CellView S A R)). y.0.trie.answered) done.is

        shows : Bool → List ConnId → ℕ → Pass (Entry S A R)
        shows pinned ids sweeps = record (cell_pass old.0) { entered = pinned; answered = ids; builds = side.builds; sweeps = sweeps; history = now.0.seats.history; epoch = now.0.epochs.greatest }

    pub end_goes : GoesOn (record (cell_pass old.0) { builds = side.builds }) (cell_pass now.0)
    end_goes = goes_on (record (cell_pass old.0) { builds = side.builds }) (cell_pass now.0) now.0.seats.history now.0.epochs.greatest end_shows
        (let later = ends.later in let same : killed.0.epochs.greatest ≡ old.0.epochs.greatest =
        ap (λ (y : Me (Running S) (CellView S A R)). y.0.epochs.greatest) done.is in omega (arith, later, same))

    pub end_between : ((other : ConnId) → Contains now.0.pools.builds other → HasBareNotes m now.0 other) → IsBetweenCalls m now.0
    end_between noted = record {
      protected = subst (λ (pin : Pin). is_pinned pin ≡ true → IsProtected pin) (sym end_pin) between.protected;
      unlocked = ends.unlocked;
      turnless = ap (λ (v : CellView S A R). v.turn) now_is ∙ between.turnless;
      nodeless = ap (λ (v : CellView S A R). v.pools.nodes) now_is ∙ (ap (λ (r : Rest). r.0) has ∙ between.nodeless);
      stored = ap (λ (v : CellView S A R). v.pools.unstored) now_is ∙ (ap (λ (r : Rest). r.1) has ∙ between.stored);
      noted = noted;
      let_go = ap (λ (v : CellView S A R). v.pools.kills) now_is;
      given_up = ap (λ (v : CellView S A R). v.pools.gave_up) now_is;
      reclaimed = ap (λ (v : CellView S A R). v.pools.reclaims) now_is ∙ (ap (λ (r : Rest). r.4) has ∙ between.reclaimed);
      freed = ap (λ (v : CellView S A R). v.pools.cleared) now_is ∙ (ap (λ (r : Rest). r.5) has ∙ between.freed);
      returned = ap (λ (v : CellView S A R). v.pools.unfreed) now_is ∙ (ap (λ (r : Rest). r.7) has ∙ between.returned);
    }

-- a connection that the pass was building is abandoned
module _ {S A R : Type 0} (m : Meaning S A R) (id : ConnId) (old killed now : Me (Running S) (CellView S A R)) (pass : IsPass m (cell_pass old.0))
    (between : IsBetweenCalls m old.0) (builds : Contains old.0.pools.builds id) (done : HasKilled m id old killed) (ends : EndsKilled m id killed now) where
  abbrev side : PoolSide
  side = with_kill id (without_build id old.0.pools)

  keys : (way : Way) (key : Key) → Holds (state_of m old.0.seats.history) id way key ↔ Holds (state_of m killed.0.seats.history) id way key
  keys = killed_keys m killed.0.seats.about (cell_pass old.0) killed.0.seats.history id Abandoned (done.legal pass).legal
      (last m id Abandoned side old killed pass between refl done) (pass.building id builds)

  some : (way : Way) → HoldsSome (state_of m old.0.seats.history) id way ↔ HoldsSome (state_of m killed.0.seats.history) id way
  some way = (λ held. (held.0, (keys way held.0).0 held.1), λ held. (held.0, (keys way held.0).1 held.1))

  pub abandons : Abandons m (cell_pass old.0) now.0.seats.history id
  abandons = record {
    held = ends.held;
    holds = λ way. (λ held. (ends.holds way).0 ((some way).0 held), λ no. (some way).1 ((ends.holds way).1 no));
    adds = end_adds m id Abandoned side old killed pass between refl done now ends;
  }

  pub abandoned_between : IsBetweenCalls m now.0
  abandoned_between = end_between m id Abandoned side old killed pass between refl done now ends
      (noted_less m old.0 now.0 pass ends.legal (end_prefix m id Abandoned side old killed pass between refl done now ends) between.noted id builds
      (end_builds m id Abandoned side old killed pass between refl done now ends) (end_notes m id Abandoned side old killed pass between refl done now ends))

  pub abandoned_pin : now.0.epochs.pin ≡ old.0.epochs.pin
  abandoned_pin = end_pin m id Abandoned side old killed pass between refl done now ends

  pub abandoned_goes : GoesOn (record (cell_pass old.0) { builds = without id old.0.pools.builds }) (cell_pass now.0)
  abandoned_goes = end_goes m id Abandoned side old killed pass between refl done now ends

-- the connection of a slot was due, and has ended
module _ {S A R : Type 0} (m : Meaning S A R) (id : ConnId) (slot time : ℕ) (old killed now : Me (Running S) (CellView S A R)) (pass : IsPass m (cell_pass old.0))
    (between : IsBetweenCalls m old.0) (there : id.slot ≡ slot) (done : HasDone m (Kill id (Expired time)) Nothing (unloaded old.0.epochs) (with_kill id old.0.pools) old killed)
    (ends : EndsKilled m id killed now) where
  abbrev its : PoolSide
  its = with_kill id old.0.pools

  pub expired_stays : StaysBetween m old.0 now.0
  expired_stays = record {
    goes = end_goes m id (Expired time) its old killed pass between refl done now ends;
    between = end_between m id (Expired time) its old killed pass between refl done now ends
        (noted_on m old.0 now.0 pass ends.legal (end_prefix m id (Expired time) its old killed pass between refl done now ends)
        (end_builds m id (Expired time) its old killed pass between refl done now ends) (end_notes m id (Expired time) its old killed pass between refl done now ends) between.noted);
    legal = ends.legal;
    pin = end_pin m id (Expired time) its old killed pass between refl done now ends;
  }

  pub expired_one : ExpiresIn m time (λ s. s ≡ slot) 1 (cell_pass old.0) (cell_pass now.0)
  expired_one = subst (λ (n : ℕ). ExpiresIn m time (λ s. s ≡ n) 1 (cell_pass old.0) (cell_pass now.0)) there
      (expires_one m time killed.0.seats.about id ends.held (cell_pass old.0) (cell_pass killed.0) (cell_pass now.0) (done.legal pass).legal done.adds
      (end_adds m id (Expired time) its old killed pass between refl done now ends) ends.on ends.dead ends.keyless)

-- none of a slot was due
module _ {S A R : Type 0} (m : Meaning S A R) (slot time : ℕ) (old now : Me (Running S) (CellView S A R)) (pass : IsPass m (cell_pass old.0))
    (between : IsBetweenCalls m old.0) (leaves : LeavesIdle m slot time old now) where
  pub left_stays : StaysBetween m old.0 now.0
  left_stays = record {
    goes = goes_on (cell_pass old.0) (cell_pass now.0) now.0.seats.history old.0.epochs.greatest (ap (λ (y : Me (Running S) (CellView S A R)). cell_pass y.0) leaves.is) (omega arith);
    between = goes_between m old.0 now.0 (ap (λ (y : Me (Running S) (CellView S A R)). hands y.0) leaves.is) (ap (λ (y : Me (Running S) (CellView S A R)). y.0.pools.builds) leaves.is)
        (ap (λ (y : Me (Running S) (CellView S A R)). y.0.pools.notes) leaves.is) pass (leaves.legal pass)
        (begins (cell_pass old.0) now.0.seats.history [] leaves.adds) between;
    legal = leaves.legal pass;
    pin = ap (λ (y : Me (Running S) (CellView S A R)). y.0.epochs.pin) leaves.is;
  }

  pub left_idle : ExpiresIn m time (λ s. s ≡ slot) 0 (cell_pass old.0) (cell_pass now.0)
  left_idle = expires_idle m time (λ s. s ≡ slot) (cell_pass old.0) (cell_pass now.0) leaves.adds leaves.idle
