-- What came of a look for one key.
use Rattle.std.proofs.Common.{ℕ, [], ◌∷◌, Option, Some, None}
use Rattle.npf_types.specs.declared.key.Key.{Key}
use Rattle.npf_core.specs.declared.{found.Found.Found, stepped.Stepped.Stepped}
use Rattle.npf_connections.{specs.{Pass.Pass, Said.{Did, Does}}, proofs.SaidLemmas.did_more}
use Rattle.npf_flow.specs.declared.step.{FlowArg.FlowArg, FlowReply.FlowReply}
use Rattle.npf_engine.specs.{declared.connection.Met.Met, Connection.{FindsByKey, look_for}, Histories.FlowEntry}
use Rattle.npf_engine_opening.specs.Saying.{step_said}

module _ (n : ℕ) (arg : FlowArg) (key : Key) (old : Pass FlowEntry) where
  pub looked : (new : Pass FlowEntry) (found : Option Found) → FindsByKey n arg key (look_for n arg key found ∷ []) None →
      Did old new (look_for n arg key found ∷ []) → Does old new (λ said. FindsByKey n arg key said None)
  looked new found finds did = record { said = look_for n arg key found ∷ []; described = finds; did = did }

  pub stepped : (mid new : Pass FlowEntry) (found : Found) (answer : Stepped FlowReply) {result : Option Met} →
      FindsByKey n arg key (look_for n arg key (Some found) ∷ step_said n found arg answer ∷ []) result →
      Did old mid (look_for n arg key (Some found) ∷ []) → Did mid new (step_said n found arg answer ∷ []) →
      Does old new (λ said. FindsByKey n arg key said result)
  stepped mid new found answer finds look step = record {
    said = look_for n arg key (Some found) ∷ step_said n found arg answer ∷ [];
    described = finds;
    did = did_more old mid new (look_for n arg key (Some found) ∷ []) (step_said n found arg answer ∷ []) look step;
  }
