-- What follows of what a saved text is.
use Rattle.std.specs.Prelude.{◌≡◌, ℕ, List}
use Rattle.npf_types.specs.declared.name.Name.{Name}
use Rattle.npf_core.specs.History.{Legal, state_of}
use Rattle.npf_flow.specs.Flows.{flow_law}
use Rattle.npf_connsave.specs.Loads.{FlowEntry, LoadsSaved, View}
use Rattle.npf_connsave.specs.Saves.{IsSavedText}

-- after each legal history a table has one text
abbrev pub OneSavedText : Type 0
OneSavedText =
    (slots : ℕ) (history : List FlowEntry) (names : List Name) (text other : List ℕ) → Legal flow_law slots history →
    IsSavedText (state_of flow_law history) names text → IsSavedText (state_of flow_law history) names other → text ≡ other

-- so what is saved after a text was loaded is that text
abbrev pub SavesAsLoaded : Type 0
SavesAsLoaded =
    (slots : ℕ) (names : List Name) (text saved : List ℕ) (old new : View) → Legal flow_law slots new.history →
    LoadsSaved names text old new → IsSavedText (state_of flow_law new.history) names saved → saved ≡ text
