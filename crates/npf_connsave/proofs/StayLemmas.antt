-- The stay in which the connections of a text are loaded.
use Rattle.std.proofs.Common.{◌≡◌, ℕ, List, [], ◌++◌, false, true, refl, sym, ap, subst, ◌∙◌, append-nil, arith}
use Rattle.npf_types.specs.declared.name.Name.{Name}
use Rattle.npf_core.specs.History.{IsPrefix, state_of}
use Rattle.npf_connections.{specs.{Adding.Adds, Pass.{IsPass, all_places}, Stay.GoesOn}, proofs.AddLemmas.adds_alone}
use Rattle.npf_flow.specs.Flows.{flow_law}
use Rattle.npf_saved.specs.declared.saved.Saved.{Saved}
use Rattle.npf_saved_file.specs.declared.fault.SavedFault.{SavedFault, TheVariants.{BadSaved, OtherInterfaces, TooManySaved, SavedNoNode, NoMemory}}
use Rattle.npf_saved_file.specs.Refusal.{MayLoad, RefusesSaved}
use Rattle.npf_connsave.specs.Loads.{FlowEntry, LeavesFront, LoadsSaved, RefusesLoaded, StartsAll, StaysSole, View, key_entries, left_entries, loaded_entries}
use Rattle.npf_connsave.specs.Saves.{AreSavedOf}

-- a text that isn't read leaves the table as it was
pub not_read : (names : List Name) (text : List ℕ) (pass : View) (fault : SavedFault) → RefusesSaved text names pass.slots fault → RefusesLoaded names text pass pass fault
not_read names text pass (BadSaved line) refused = (refused, refl)
not_read names text pass (OtherInterfaces line) refused = (refused, refl)
not_read names text pass (TooManySaved count) refused = (refused, refl)
not_read names text pass SavedNoNode refused = absurd refused
not_read names text pass NoMemory refused = refl

pub begun_history : (old begun : View) → old.places ≡ all_places → GoesOn (record old { entered = true }) begun → IsPass flow_law begun → Adds old begun.history [] → begun.history ≡ old.history
begun_history old begun sole enters pass adds =
    adds_alone flow_law old begun [] pass (ap (λ (v : View). v.places) enters.view ∙ sole) (ap (λ (v : View). v.number) enters.view) (ap (λ (v : View). v.joined) enters.view) adds
    ∙ append-nil old.history

-- the pass enters, connections are started, and it leaves
module _ (old begun done new : View) (sole : old.places ≡ all_places) (enters : GoesOn (record old { entered = true }) begun) (stays : StaysSole begun done)
    (leaves : GoesOn (record done { entered = false; answered = [] }) new) where
  begun_number : begun.number ≡ old.number
  begun_number = ap (λ (v : View). v.number) enters.view

  begun_sweeps : begun.sweeps ≡ old.sweeps
  begun_sweeps = ap (λ (v : View). v.sweeps) enters.view

  begun_slots : begun.slots ≡ old.slots
  begun_slots = ap (λ (v : View). v.slots) enters.view

  new_sweeps : new.sweeps ≡ done.sweeps
  new_sweeps = ap (λ (v : View). v.sweeps) leaves.view

  begun_sole : begun.places ≡ all_places
  begun_sole = ap (λ (v : View). v.places) enters.view ∙ sole

  new_history : IsPass flow_law new → Adds done new.history [] → new.history ≡ done.history
  new_history pass adds =
      adds_alone flow_law done new [] pass (ap (λ (v : View). v.places) leaves.view ∙ stays.places ∙ begun_sole) (ap (λ (v : View). v.number) leaves.view)
      (ap (λ (v : View). v.joined) leaves.view) adds ∙ append-nil done.history

  pub stays_out : old.entered ≡ false → StaysSole old new
  stays_out out = record {
    slots = ap (λ (v : View). v.slots) leaves.view ∙ stays.slots ∙ begun_slots;
    number = ap (λ (v : View). v.number) leaves.view ∙ stays.number ∙ begun_number;
    entered = ap (λ (v : View). v.entered) leaves.view ∙ sym out;
    places = ap (λ (v : View). v.places) leaves.view ∙ stays.places ∙ ap (λ (v : View). v.places) enters.view;
    joined = ap (λ (v : View). v.joined) leaves.view ∙ stays.joined ∙ ap (λ (v : View). v.joined) enters.view;
    sweeps = let a = begun_sweeps in let b = stays.sweeps in let c = new_sweeps in omega (arith, a, b, c);
    epoch = let a = enters.epoch in let b = stays.epoch in let c = leaves.epoch in omega (arith, a, b, c);
  }

  pub all_loaded : (names : List Name) (text : List ℕ) (all : List Saved) → MayLoad text names old.slots all → IsPass flow_law new → Adds done new.history [] → StartsAll begun done all
      → LoadsSaved names text old new
  all_loaded names text all may pass adds starts =
      let same = new_history pass adds in
      record {
        made = starts.made;
        may = subst (MayLoad text names old.slots) (sym starts.conns) may;
        entries = same ∙ subst (λ (n : ℕ). done.history ≡ loaded_entries n starts.made) begun_number starts.entries;
        same = record {
          conns = all;
          saved = subst (λ (h : List FlowEntry). AreSavedOf (state_of flow_law h) all) (sym same) starts.saved;
          spelled = may.file.file.spelled;
        };
      }

  pub front_loaded : (names : List Name) (text : List ℕ) (all : List Saved) → MayLoad text names old.slots all → IsPass flow_law new → Adds done new.history [] → LeavesFront begun done all
      → RefusesLoaded names text old new SavedNoNode
  front_loaded names text all may pass adds left = (
    all,
    may,
    record {
      made = left.made;
      id = left.id;
      saved = left.saved;
      held = left.held;
      ways = left.ways;
      front = left.front;
      part = subst (λ (n : ℕ). IsPrefix left.held (key_entries n left.id left.saved)) begun_number left.part;
      entries = new_history pass adds
          ∙ subst (λ (n : ℕ). done.history ≡ loaded_entries n left.made ++ left_entries (record old { number = n }) left.id left.held left.ways) begun_number left.entries;
      sweeps = let a = begun_sweeps in let b = left.sweeps in let c = new_sweeps in omega (arith, a, b, c);
    },
  )
