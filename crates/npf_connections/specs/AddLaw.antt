-- How what calls add fits together.
use Rattle.std.specs.Prelude.{◌≡◌, List, ◌++◌}
use Rattle.npf_core.specs.declared.entry.Entry.{Entry}
use Rattle.npf_core.specs.History.{IsPrefix, by}
use Rattle.npf_core.specs.Meaning.{Meaning}
use Rattle.npf_connections.specs.Adding.{Adds}
use Rattle.npf_connections.specs.Pass.{Pass, IsPass, all_places}

-- the history begins with what it was
abbrev pub BeginsWithOld : (S A R : Type 0) → Type 0
BeginsWithOld S A R = (old : Pass (Entry S A R)) (new mine : List (Entry S A R)) → Adds old new mine → IsPrefix old.history new

-- the entries of the pass are those that it had, and then these
abbrev pub GoesOnByOwn : (S A R : Type 0) → Type 0
GoesOnByOwn S A R =
    (old : Pass (Entry S A R)) (new mine : List (Entry S A R)) →
    Adds old new mine → by old.number new ≡ by old.number old.history ++ mine

-- what two calls add is what the first adds and then what the second does
abbrev pub AddsMore : (S A R : Type 0) → Type 0
AddsMore S A R =
    (old mid : Pass (Entry S A R)) (new first second : List (Entry S A R)) → mid.number ≡ old.number → mid.joined ≡ old.joined →
    Adds old mid.history first → Adds mid new second → Adds old new (first ++ second)

-- a pass that owns all reader places, before a call and after it, adds its own entries alone
abbrev pub AddsAlone : {S A R : Type 0} → Meaning S A R → Type 0
AddsAlone {S} {A} {R} m =
    (old now : Pass (Entry S A R)) (mine : List (Entry S A R)) → IsPass m now → now.places ≡ all_places →
    now.number ≡ old.number → now.joined ≡ old.joined → Adds old now.history mine → now.history ≡ old.history ++ mine
