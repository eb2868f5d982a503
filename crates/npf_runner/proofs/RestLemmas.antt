-- Passes that rest as before, and what a control task does with one.
use Rattle.std.proofs.Common.{◌≡◌, ◌+◌, ℕ, List, [], ◌∷◌, refl, sym, ap, ◌∙◌, subst, arith}
use Rattle.npf_core.specs.History.{IsPrefix}
use Rattle.npf_connections.{specs.{Expiring.Expires, Pass.{Pass, IsPass}, Stay.GoesOn}, proofs.SaidLemmas.{did_nothing, later_more, later_so}}
use Rattle.npf_flow.specs.Flows.{flow_law}
use Rattle.npf_engine.specs.Histories.{FlowEntry}
use Rattle.npf_traffic.specs.{declared.phase.Command.{Command, TheVariants.{Publish, Expire}}, Phases.published_by}
use Rattle.npf_runner.specs.{Commands.{Collects, ExpiresDue, Runs}, Works.IsRested}

pub rested_self : (pass : Pass FlowEntry) → IsPass flow_law pass → IsRested pass pass
rested_self pass legal = record { later = (did_nothing pass).later; joined = refl; legal = legal }

pub rested_more : (old mid new : Pass FlowEntry) → IsRested old mid → IsRested mid new → IsRested old new
rested_more old mid new p q = record {
  later = later_more old mid new p.later q.later;
  joined = q.joined ∙ p.joined;
  legal = q.legal;
}

-- what a call says that leaves the pass but for what it has seen
rested_on : (old new : Pass FlowEntry) → GoesOn old new → IsPrefix old.history new.history → IsPass flow_law new → IsRested old new
rested_on old new on begins legal = record {
  later = later_so old new on begins;
  joined = ap (λ (p : Pass FlowEntry). p.joined) on.view;
  legal = legal;
}

-- what the call of an expiry says
pub rested_expired : (old new : Pass FlowEntry) (time count : ℕ) → Expires flow_law old new.history time count → IsPass flow_law new →
    GoesOn old new → IsRested old new
rested_expired old new time count e legal view =
    rested_on old new view (record { rest = e.adds.rest; goes_on = e.adds.goes_on }) legal

-- what the call of a collection says
pub rested_collected : (old new : Pass FlowEntry) → Collects old new → IsPass flow_law new → IsRested old new
rested_collected old new c legal =
    let adds = c.frees.adds.adds in
    rested_on old new c.view (record { rest = adds.rest; goes_on = adds.goes_on }) legal

pub runs_expiry : (old new : Pass FlowEntry) (time : ℕ) → ExpiresDue time old new → Runs (Expire time ∷ []) old new
runs_expiry old new time x = (new, x, refl)

pub runs_more : (command : Command) (commands : List Command) (old mid new : Pass FlowEntry) → Runs (command ∷ []) old mid → Runs commands mid new → Runs (command ∷ commands) old new
runs_more (Publish place) commands old mid new p q = subst (λ (x : Pass FlowEntry). Runs commands x new) (sym p) q
runs_more (Expire time) commands old mid new p q = (p.0, p.1, subst (λ (x : Pass FlowEntry). Runs commands x new) (sym p.2) q)

pub published_more : (command : Command) (commands : List Command) → published_by (command ∷ commands) ≡ published_by (command ∷ []) + published_by commands
published_more (Publish place) commands = omega arith
published_more (Expire time) commands = omega arith
