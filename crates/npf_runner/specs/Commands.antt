-- What the control task does.
use Rattle.std.specs.Prelude.{◌≡◌, ℕ, List, [], ◌∷◌}
use Rattle.npf_connections.specs.Collecting.{FreesAlone, IsClean}
use Rattle.npf_connections.specs.Expiring.{Expires}
use Rattle.npf_connections.specs.Pass.{Pass}
use Rattle.npf_connections.specs.Stay.{GoesOn}
use Rattle.npf_flow.specs.Flows.{flow_law}
use Rattle.npf_engine.specs.Histories.{FlowEntry}
use Rattle.npf_traffic.specs.declared.phase.Command.{Command}
use Rattle.npf_traffic.specs.declared.phase.Command.TheVariants.{Publish, Expire}
use Rattle.npf_runner.specs.Works.{IsRested}

-- the pass freed what may be freed
pub record Collects (old new : Pass FlowEntry) : Type 0 where
  pub frees : FreesAlone old new.history
  pub clean : IsClean flow_law new
  pub view : GoesOn old new

-- what is due at the time was expired, and then what may be freed was freed, three times over
pub record ExpiresDue (time : ℕ) (old new : Pass FlowEntry) : Type 0 where
  pub count : ℕ
  pub due : Pass FlowEntry
  pub expires : Expires flow_law old due.history time count
  pub rested : IsRested old due
  pub once : Pass FlowEntry
  pub twice : Pass FlowEntry
  pub collects : Collects due once
  pub collects_again : Collects once twice
  pub collects_last : Collects twice new

-- the commands were done one after the other, as far as the pass shows: a publication says nothing there
abbrev pub Runs : List Command → Pass FlowEntry → Pass FlowEntry → Type 0
Runs [] old new = old ≡ new
Runs (Publish place ∷ commands) old new = Runs commands old new
Runs (Expire time ∷ commands) old new = (mid : Pass FlowEntry) × ExpiresDue time old mid × Runs commands mid new
