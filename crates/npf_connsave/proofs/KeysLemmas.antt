-- The keys of one connection, held one behind the other.
use Rattle.std.proofs.Common.{◌≡◌, ◌≢◌, ◌≤◌, ◌+◌, ℕ, Option, Some, List, [], ◌∷◌, ◌++◌, Contains, length, get_or, refl, sym, ap, subst, ◌∙◌, append-nil, append_assoc, arith}
use Rattle.std.proofs.lemmas.List.{get_or-append-add, get_or_append_left, get_or_default, length-append, Elements.Contains-append_right}
use Rattle.npf_types.specs.declared.key.{Key.Key, Way.TheVariants.{Forward, Backward, Port}}
use Rattle.npf_core.specs.{declared.conn_id.ConnId.ConnId, History.state_of}
use Rattle.npf_flow.specs.Flows.{flow_law}
use Rattle.npf_saved.specs.declared.saved.Saved.{Saved}
use Rattle.npf_saved_file.specs.Conns.{AreDistinct, key_list, saved_keys}
use Rattle.npf_connsave.specs.Loads.{AreFree, FlowEntry, RefusesKey, RefusesKeys, StaysSole, View, hold_entries_of, key_entries}
use Rattle.npf_connsave.proofs.LoadingLemmas.{free_after}

-- of different keys those of the front aren't those behind it
pub parted : (xs ys : List Key) (a b : Key) → AreDistinct (xs ++ ys) → Contains xs a → Contains ys b → a ≢ b
parted xs ys a b all (i, near, is) (j, far, are) same =
    let long = length-append xs ys in
    let there : get_or ys j a ≡ b = get_or_default ys j a b far ∙ are in
    all i (length xs + j) a (omega (arith, near)) (omega (arith, long, far))
    (get_or_append_left xs ys a i near ∙ is ∙ same ∙ sym there ∙ sym (get_or-append-add xs ys j a))

module _ (history : List FlowEntry) (seat : ℕ) (id : ConnId) (saved : Saved) (apart : AreDistinct (saved_keys saved)) where
  pub free_behind_forward : AreFree (state_of flow_law history) (saved_keys saved)
      → AreFree (state_of flow_law (history ++ hold_entries_of seat id Forward (Some saved.forward))) (key_list saved.port ++ key_list saved.backward)
  free_behind_forward free =
      let keys = key_list saved.port ++ key_list saved.backward in
      free_after history seat id Forward (Some saved.forward) keys
      (λ mine other is there. parted (saved.forward ∷ []) keys mine other apart (here mine is) there)
      (λ key there. free key (Contains-append_right (saved.forward ∷ []) keys key there)) where
        here : (mine : Key) → Some saved.forward ≡ Some mine → Contains (saved.forward ∷ []) mine
        here mine is = let same : saved.forward ≡ mine = cc in subst (Contains (saved.forward ∷ [])) same (0, omega arith, refl)

  pub free_behind_port : AreFree (state_of flow_law history) (key_list saved.port ++ key_list saved.backward)
      → AreFree (state_of flow_law (history ++ hold_entries_of seat id Port saved.port)) (key_list saved.backward)
  free_behind_port free =
      free_after history seat id Port saved.port (key_list saved.backward)
      (λ mine other is there. parted (saved.forward ∷ key_list saved.port) (key_list saved.backward) mine other apart (here mine is) there)
      (λ key there. free key (Contains-append_right (key_list saved.port) (key_list saved.backward) key there)) where
        here : (mine : Key) → saved.port ≡ Some mine → Contains (saved.forward ∷ key_list saved.port) mine
        here mine is = subst (λ (port : Option Key). Contains (saved.forward ∷ key_list port) mine) (sym is) (1, omega arith, refl)

pub three_behind : (h one two three a b c : List FlowEntry) → one ≡ h ++ a → two ≡ one ++ b → three ≡ two ++ c → three ≡ h ++ (a ++ (b ++ c))
three_behind h one two three a b c first second third =
    third ∙ ap (λ front. front ++ c) (second ∙ ap (λ front. front ++ b) first) ∙ append_assoc (h ++ a) b c ∙ append_assoc h a (b ++ c)

two_behind : (h one two a b : List FlowEntry) → one ≡ h ++ a → two ≡ one ++ b → two ≡ h ++ (a ++ b)
two_behind h one two a b first second = second ∙ ap (λ front. front ++ b) first ∙ append_assoc h a b

pub sole_self : (pass : View) → StaysSole pass pass
sole_self pass = record { slots = refl; number = refl; entered = refl; places = refl; joined = refl; sweeps = omega arith; epoch = omega arith }

pub sole_trans : (old mid new : View) → StaysSole old mid → StaysSole mid new → StaysSole old new
sole_trans old mid new one two = record {
  slots = two.slots ∙ one.slots;
  number = two.number ∙ one.number;
  entered = two.entered ∙ one.entered;
  places = two.places ∙ one.places;
  joined = two.joined ∙ one.joined;
  sweeps = let a = one.sweeps in let b = two.sweeps in omega (arith, a, b);
  epoch = let a = one.epoch in let b = two.epoch in omega (arith, a, b);
}

-- where there was no node for a key, those before it are held
pub no_forward : (old new : View) (id : ConnId) (saved : Saved) → RefusesKey old new → RefusesKeys old new id saved
no_forward old new id saved refused = record {
  held = [];
  part = record { rest = key_entries old.number id saved; goes_on = refl };
  entries = refused.same ∙ sym (append-nil old.history);
  sweeps = refused.sweeps;
}

pub no_port : (old mid new : View) (id : ConnId) (saved : Saved) → mid.history ≡ old.history ++ hold_entries_of old.number id Forward (Some saved.forward) → old.sweeps ≤ mid.sweeps
    → RefusesKey mid new → RefusesKeys old new id saved
no_port old mid new id saved held sweeps refused = record {
  held = hold_entries_of old.number id Forward (Some saved.forward);
  part = record { rest = hold_entries_of old.number id Port saved.port ++ hold_entries_of old.number id Backward saved.backward; goes_on = refl };
  entries = refused.same ∙ held;
  sweeps = let more = refused.sweeps in omega (arith, sweeps, more);
}

pub no_backward_key : (old mid new last : View) (id : ConnId) (saved : Saved) → mid.history ≡ old.history ++ hold_entries_of old.number id Forward (Some saved.forward)
    → new.history ≡ mid.history ++ hold_entries_of old.number id Port saved.port → old.sweeps ≤ new.sweeps → RefusesKey new last → RefusesKeys old last id saved
no_backward_key old mid new last id saved first second sweeps refused = record {
  held = hold_entries_of old.number id Forward (Some saved.forward) ++ hold_entries_of old.number id Port saved.port;
  part = record {
    rest = hold_entries_of old.number id Backward saved.backward;
    goes_on = sym (append_assoc (hold_entries_of old.number id Forward (Some saved.forward)) (hold_entries_of old.number id Port saved.port) (hold_entries_of old.number id Backward saved.backward));
  };
  entries = refused.same
      ∙ two_behind old.history mid.history new.history (hold_entries_of old.number id Forward (Some saved.forward)) (hold_entries_of old.number id Port saved.port) first second;
  sweeps = let more = refused.sweeps in omega (arith, sweeps, more);
}
