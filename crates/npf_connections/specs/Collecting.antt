-- What is freed, and when no Dead connection is left.
use Rattle.std.specs.Prelude.{◌≡◌, ◌≢◌, ◌⊎◌, List}
use Rattle.npf_core.specs.declared.conn_id.ConnId.{ConnId}
use Rattle.npf_core.specs.declared.entry.Entry.{Entry}
use Rattle.npf_core.specs.declared.stage.Stage.TheVariants.{Dead}
use Rattle.npf_core.specs.History.{state_of}
use Rattle.npf_core.specs.Machine.{Machine, stage_of}
use Rattle.npf_core.specs.Meaning.{Meaning}
use Rattle.npf_connections.specs.Adding.{AddsOwn}
use Rattle.npf_connections.specs.Entries.{free_entries}
use Rattle.npf_connections.specs.Pass.{Pass, all_places}
use Rattle.npf_connections.specs.Worn.{ClaimsLast, last_epoch}

-- the call frees these identities and adds nothing else
pub record FreesAlone {S A R : Type 0} (old : Pass (Entry S A R)) (new : List (Entry S A R)) : Type 0 where
  pub ids : List ConnId
  pub adds : AddsOwn old new (free_entries old ids)

-- no connection is Dead
abbrev pub HasNoDead : {S : Type 0} → Machine S → Type 0
HasNoDead k = (id : ConnId) → stage_of k id ≢ Dead

-- a pass is worn, so that a Dead connection may stay: it loaded the last epoch, or its history claims a last incarnation
abbrev pub IsWorn : {S A R : Type 0} → Pass (Entry S A R) → Type 0
IsWorn pass = (pass.epoch ≡ last_epoch) ⊎ ClaimsLast pass.history

-- where the pass owns all reader places and isn't worn, no connection is Dead
abbrev pub IsClean : {S A R : Type 0} → Meaning S A R → Pass (Entry S A R) → Type 0
IsClean m pass = pass.places ≡ all_places → ¬ IsWorn pass → HasNoDead (state_of m pass.history)
