-- The draw of a port goes on from port to port.
use Rattle.std.proofs.Common.{◌≡◌, ℕ, List, [], ◌∷◌, ◌++◌, sym, ap, ◌∙◌, subst, append_assoc, append-nil, Ok, Err, Some, None, slice_get, drop}
use Rattle.std.proofs.lemmas.List.{map-append}
use Rattle.npf_types.specs.declared.{address.Addr.Addr, key.Way.Way}
use Rattle.npf_core.specs.declared.{conn_id.ConnId.ConnId, found.Found.Found, held.Held.Held}
use Rattle.npf_key.specs.Key.{port_key}
use Rattle.npf_connections.{specs.Said.{Did, Does}, proofs.SaidLemmas.did_more}
use Rattle.npf_engine_opening.specs.declared.attempt.Refusal.TheVariants as Refusals
use Rattle.npf_engine_opening.{specs.{Draw.{TakenPort, taken_ports, taken_said, Draws}, Saying.{FlowSaid, said_by_hold, hold_said}}, proofs.SayingLemmas.View}

-- so far each port was Taken
pub record IsDrawing (old now : View) (id : ConnId) (addr : Addr) (ports left : List ℕ) : Type 0 where
  pub before : List TakenPort
  pub split : ports ≡ taken_ports before ++ left
  pub did : Did old now (taken_said id addr before)

-- the next port
pub at_next : (old now : View) (id : ConnId) (addr : Addr) (ports before left : List ℕ) (port : ℕ) → Some port ≡ slice_get before 0 → left ≡ drop 1 before →
    IsDrawing old now id addr ports before → IsDrawing old now id addr ports (port ∷ left)
at_next old now id addr ports [] left port is rest d = absurd cc
at_next old now id addr ports (x ∷ xs) left port is rest d = subst (λ (ys : List ℕ). IsDrawing old now id addr ports ys) (cc (is, rest)) d

module _ (old mid new : View) (id : ConnId) (addr : Addr) (ports left : List ℕ) (port : ℕ) (d : IsDrawing old mid id addr ports (port ∷ left)) where
  -- another is
  pub another : (holder : Found) → Did mid new (said_by_hold id (port_key addr port) Way.Port (Held.Taken holder)) → IsDrawing old new id addr ports left
  another holder did =
      let last : List TakenPort = record { port = port; holder = holder } ∷ [] in
      record {
        before = d.before ++ last;
        split = d.split ∙ (sym (append_assoc (taken_ports d.before) (port ∷ []) left) ∙ ap (λ (xs : List ℕ). xs ++ left) (sym (map-append (λ (taken : TakenPort). taken.port) d.before last)));
        did = subst (λ (said : List FlowSaid). Did old new said)
            (sym (map-append (λ (taken : TakenPort). hold_said id (port_key addr taken.port) Way.Port (Held.Taken taken.holder)) d.before last))
            (did_more old mid new (taken_said id addr d.before) (taken_said id addr last) d.did did);
      }

  -- the port is given
  pub gives : Did mid new (said_by_hold id (port_key addr port) Way.Port Held.Done) → Does old new (λ said. Draws id addr ports said (Ok port))
  gives did = record {
    said = taken_said id addr d.before ++ hold_said id (port_key addr port) Way.Port Held.Done ∷ [];
    described = Draws.given d.before port left d.split;
    did = did_more old mid new (taken_said id addr d.before) (hold_said id (port_key addr port) Way.Port Held.Done ∷ []) d.did did;
  }

  -- there is no node for it
  pub stops : Did mid new [] → Does old new (λ said. Draws id addr ports said (Err Refusals.NoNode))
  stops did = record {
    said = taken_said id addr d.before;
    described = Draws.no_node d.before port left d.split;
    did = subst (λ (said : List FlowSaid). Did old new said) (append-nil (taken_said id addr d.before)) (did_more old mid new (taken_said id addr d.before) [] d.did did);
  }

-- no port is left
pub ends : (old now : View) (id : ConnId) (addr : Addr) (ports left : List ℕ) → None ≡ slice_get left 0 → IsDrawing old now id addr ports left →
    Does old now (λ said. Draws id addr ports said (Err Refusals.NoPort))
ends old now id addr ports [] none d = record {
  said = taken_said id addr d.before;
  described = Draws.all_taken d.before (d.split ∙ append-nil (taken_ports d.before));
  did = d.did;
}
ends old now id addr ports (x ∷ xs) none d = absurd cc
