-- What the work on one packet does: for its pass, for the reader of configurations' numbers, and in a longer history.
use Rattle.std.specs.Prelude.{◌≡◌, ◌≢◌, ℕ, false, Option, Some, None, List, [], ◌++◌, Contains, filter, map}
use Rattle.npf_core.specs.History.{Legal, IsPrefix, by}
use Rattle.npf_connections.specs.Pass.{Pass, IsPass}
use Rattle.npf_connections.specs.Said.{Did, under}
use Rattle.npf_flow.specs.Flows.{flow_law}
use Rattle.npf_model.specs.Configuration.{Configuration}
use Rattle.npf_publish.specs.declared.conf_reader.ConfReader.{ConfReader}
use Rattle.npf_publish.specs.ConfReader.{reader_range, least_number, Reads}
use Rattle.npf_ruleset.specs.declared.config.Config.{Config}
use Rattle.npf_ruleset.specs.Configuration.{configuration}
use Rattle.npf_engine.specs.declared.outcome.Outcome.{Outcome}
use Rattle.npf_engine.specs.Arrival.{Arrival}
use Rattle.npf_engine.specs.Explains.{Explains, Sight}
use Rattle.npf_engine_opening.specs.Saying.{FlowSaid}
use Rattle.npf_engine.specs.Histories.{FlowEntry, History, carries, entries_of, told}

-- the configurations by their numbers, from 0
abbrev pub configurations : List Config → List Configuration
configurations = map configuration

-- the reader read this number, or what it may read is as it was
abbrev pub Asks : ConfReader → ConfReader → Option ℕ → Type 0
Asks old new None = (reader_range new ≡ reader_range old) × (least_number new ≡ least_number old)
Asks old new (Some number) = Reads old new number

-- what a pass saw from one moment to another
abbrev pub sight_of : Pass FlowEntry → Pass FlowEntry → Sight
sight_of old new = record { slots = old.slots; seat = old.number; before = old.history; after = new.history }

-- A packet was handled: the pass said what explains its outcome, and nothing else.
pub record Handles (configs : List Configuration) (old new : Pass FlowEntry) (reader next : ConfReader) (arrival : Arrival) (outcome : Outcome) (sent : Option (List ℕ)) : Type 0 where
  pub asked : Option ℕ
  pub said : List FlowSaid
  pub asks : Asks reader next asked
  pub did : Did old new said
  pub explains : Explains configs (sight_of old new) arrival asked said outcome sent

-- A packet's outcome is explained by a history, in which its phase ends at this point: its entries there are those that one pass made
-- for it in a part of the history that ends within the phase, and no others.
pub record IsExplained (configs : List Configuration) (slots : ℕ) (history end : History) (arrival : Arrival) (asked : Option ℕ) (outcome : Outcome) (sent : Option (List ℕ)) : Type 0 where
  pub seat : ℕ
  pub before : History
  pub after : History
  pub said : List FlowSaid
  pub begins : IsPrefix before after
  pub within : IsPrefix after end
  pub ends : IsPrefix end history
  pub own : by seat after ≡ by seat before ++ under seat said
  pub entries : entries_of arrival.number history ≡ under seat (told said)
  pub explains : Explains configs (record { slots = slots; seat = seat; before = before; after = after }) arrival asked said outcome sent

-- the entries that carry a packet's number
abbrev pub carried : ℕ → History → History
carried n = filter (λ entry. carries n entry.act)

-- Of a history that goes on from a pass's, the entries that carry the packet's number are the pass's own, from one moment to another.
pub record CarryHereAlone (n : ℕ) (old new : Pass FlowEntry) (history : History) : Type 0 where
  pub later : History
  pub goes_on : history ≡ new.history ++ later
  pub before : carried n old.history ≡ []
  pub behind : carried n later ≡ []
  pub others : (entry : FlowEntry) → Contains new.history entry → entry.seat ≢ old.number → carries n entry.act ≡ false

-- so what explains a packet's outcome to its pass explains it in a longer history
abbrev pub ExplainsInLonger : Type 0
ExplainsInLonger =
    (configs : List Configuration) (old new : Pass FlowEntry) (reader next : ConfReader) (arrival : Arrival) (outcome : Outcome) (sent : Option (List ℕ))
    (history end : History) → IsPass flow_law old → IsPass flow_law new → Legal flow_law old.slots history →
    CarryHereAlone arrival.number old new history → IsPrefix new.history end → IsPrefix end history →
    (h : Handles configs old new reader next arrival outcome sent) →
    IsExplained configs old.slots history end arrival h.asked outcome sent
