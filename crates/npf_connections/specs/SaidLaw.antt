-- How what a pass said fits together.
use Rattle.std.specs.Prelude.{List, [], ◌++◌}
use Rattle.npf_core.specs.declared.act.Why.TheVariants.{Abandoned}
use Rattle.npf_core.specs.declared.conn_id.ConnId.{ConnId}
use Rattle.npf_core.specs.declared.entry.Entry.{Entry}
use Rattle.npf_core.specs.Meaning.{Meaning}
use Rattle.npf_connections.specs.Abandoning.{Abandons}
use Rattle.npf_connections.specs.Pass.{Pass}
use Rattle.npf_connections.specs.Said.{Said, Did, ends_said}
use Rattle.npf_connections.specs.Stay.{GoesOn}

-- a pass that is as it was did nothing
abbrev pub DidNothing : (S A R : Type 0) → Type 0
DidNothing S A R = (pass : Pass (Entry S A R)) → Did pass pass []

-- what was done goes on
abbrev pub DidMore : (S A R : Type 0) → Type 0
DidMore S A R =
    (old mid new : Pass (Entry S A R)) (first second : List (Said S A R)) →
    Did old mid first → Did mid new second → Did old new (first ++ second)

-- who abandoned a connection said its end, with the keys that it held
abbrev pub DidAbandon : {S A R : Type 0} → Meaning S A R → Type 0
DidAbandon {S} {A} {R} m =
    (old new : Pass (Entry S A R)) (id : ConnId) (builds : List ConnId) →
    GoesOn (record old { builds = builds }) new →
    (a : Abandons m old new.history id) → Did old new (ends_said id Abandoned a.held)
