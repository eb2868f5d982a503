-- What the engine's explanations give a run.
use Rattle.std.{proofs.{Common.{◌≡◌, ℕ, true, List, [], Some, None, refl, sym, ap, ◌∙◌, ⊎_elim}, lemmas.Bool.Decides.Decides-eqb}, specs.List.Contains}
use Rattle.npf_shelf.proofs.ListLemmas.{Contains-nil, Contains-cons_cases}
use Rattle.npf_core.specs.declared.{act.Act.TheVariants.{Claim, Look, Hold, Start, Step, Kill, Unhold, Free}, conn_id.ConnId.ConnId}
use Rattle.npf_connections.{specs.Pass.{Pass, IsPass}, proofs.SaidLemmas.did_nothing}
use Rattle.npf_flow.specs.Flows.{flow_law}
use Rattle.npf_model.specs.Configuration.{Configuration}
use Rattle.npf_publish.specs.declared.conf_reader.ConfReader.{ConfReader}
use Rattle.npf_traffic.specs.declared.packet.{FragWhy.FragWhy, Packet.Packet}
use Rattle.npf_engine_opening.specs.Saying.{FlowSaid}
use Rattle.npf_engine.specs.{declared.outcome.Outcome.TheVariants.Fragment, Arrival.arrival, Explains.Explains}
use Rattle.npf_engine.specs.Histories.{FlowAct, FlowEntry, builds, carries, is_unhold}
use Rattle.npf_engine.proofs.LongerLemmas.{entries_in_longer, explained_told, explains_in_longer}
use Rattle.npf_engine.proofs.TellingLemmas.{IsTold as Telling, nothing, carried, built, given_back}
use Rattle.npf_runner.{specs.{Job.Job, Plays.arriving, Works.IsHandled}, proofs.{RestLemmas.rested_self, WorksLemmas.{SaysOwn, TellsInLonger}}}

-- an act carries one number at most
one_number : (n m : ℕ) (act : FlowAct) → carries n act ≡ true → carries m act ≡ true → m ≡ n
one_number n m (Claim packet slot) c d = sym ((Decides-eqb packet m).0 d) ∙ (Decides-eqb packet n).0 c
one_number n m (Look packet key) c d = sym ((Decides-eqb packet m).0 d) ∙ (Decides-eqb packet n).0 c
one_number n m (Start id packet init) c d = sym ((Decides-eqb packet m).0 d) ∙ (Decides-eqb packet n).0 c
one_number n m (Step packet id way arg) c d = sym ((Decides-eqb packet m).0 d) ∙ (Decides-eqb packet n).0 c
one_number n m (Hold id key way) c d = absurd cc
one_number n m (Kill id why) c d = absurd cc
one_number n m (Unhold id way) c d = absurd cc
one_number n m (Free id) c d = absurd cc

built_carries_none : (ids : List ConnId) (m : ℕ) (act : FlowAct) → builds ids act ≡ true → carries m act ≡ true → ⊥
built_carries_none ids m (Hold id key way) b d = absurd cc
built_carries_none ids m (Kill id why) b d = absurd cc
built_carries_none ids m (Claim packet slot) b d = absurd cc
built_carries_none ids m (Look packet key) b d = absurd cc
built_carries_none ids m (Start id packet init) b d = absurd cc
built_carries_none ids m (Step packet id way arg) b d = absurd cc
built_carries_none ids m (Unhold id way) b d = absurd cc
built_carries_none ids m (Free id) b d = absurd cc

unhold_carries_none : (m : ℕ) (act : FlowAct) → is_unhold act ≡ true → carries m act ≡ true → ⊥
unhold_carries_none m (Unhold id way) u d = absurd cc
unhold_carries_none m (Hold id key way) u d = absurd cc
unhold_carries_none m (Kill id why) u d = absurd cc
unhold_carries_none m (Claim packet slot) u d = absurd cc
unhold_carries_none m (Look packet key) u d = absurd cc
unhold_carries_none m (Start id packet init) u d = absurd cc
unhold_carries_none m (Step packet id way arg) u d = absurd cc
unhold_carries_none m (Free id) u d = absurd cc

told_own : {n : ℕ} {ids last : List ConnId} {said : List FlowSaid} → Telling n ids said last → (what : FlowSaid) (m : ℕ) → Contains said what → carries m what.act ≡ true → m ≡ n
told_own nothing what m c d = absurd (Contains-nil what c)
told_own {n} (carried {x = x} {xs = xs} is rest) what m c d = ⊎_elim
    (λ (e : x ≡ what). one_number n m x.act is (ap (λ (w : FlowSaid). carries m w.act) e ∙ d))
    (λ l. told_own rest what m l d)
    (Contains-cons_cases x what xs c)
told_own {n} {ids} (built {x = x} {xs = xs} not is rest) what m c d = ⊎_elim
    (λ (e : x ≡ what). absurd (built_carries_none ids m x.act is (ap (λ (w : FlowSaid). carries m w.act) e ∙ d)))
    (λ l. told_own rest what m l d)
    (Contains-cons_cases x what xs c)
told_own {n} {ids} (given_back {x = x} {xs = xs} is rest) what m c d = ⊎_elim
    (λ (e : x ≡ what). absurd (unhold_carries_none m x.act is (ap (λ (w : FlowSaid). carries m w.act) e ∙ d)))
    (λ l. told_own rest what m l d)
    (Contains-cons_cases x what xs c)

pub says_own : SaysOwn
says_own configs sight arrival asked said outcome sent e what n c carry = told_own (explained_told e).is_told what n c carry

pub tells_in_longer : TellsInLonger
tells_in_longer configs old new reader next arrival outcome sent history end one two legal carry within ends h = record {
  explained = explains_in_longer configs old new reader next arrival outcome sent history end one two legal carry within ends h;
  entries = entries_in_longer configs old new reader next arrival outcome sent history legal carry h;
}

-- a fragment that is held is handled without the engine: it asks nothing
pub handled_held : (configs : List Configuration) (pass : Pass FlowEntry) (reader : ConfReader) (job : Job) (why : FragWhy) → IsPass flow_law pass →
    job.packet.held ≡ Some why → IsHandled configs pass pass reader reader job (record { outcome = Fragment why; packet = job.packet })
handled_held configs pass reader job why legal held = record {
  handles = record { asked = None; said = []; asks = (refl, refl); did = did_nothing pass; explains = Explains.fragment held };
  rested = rested_self pass legal;
  kept = λ no. refl;
  same = refl;
  sweep = λ lacks. absurd cc;
}

-- a packet that isn't held arrives as the engine sees it
pub arrives_free : (n : ℕ) (packet : Packet) → packet.held ≡ None →
    arrival n packet.time packet.link packet.ifid packet.dir packet.bytes ≡ arriving n packet
arrives_free n packet free = rw free refl
