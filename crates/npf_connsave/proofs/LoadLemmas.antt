-- What the entries of a loaded connection make of the machine.
use Rattle.std.proofs.Common.{◌≡◌, ℕ, Option, Some, None, List, [], ◌∷◌, ◌++◌, refl, sym, subst, ◌∙◌}
use Rattle.npf_types.specs.declared.key.{Key.Key, Way.{Way, TheVariants.{Forward, Backward, Port}}}
use Rattle.npf_core.specs.declared.{act.Act.TheVariants.{Claim, Start}, conn_id.ConnId.ConnId, found.Found.Found, held.Held.Held, reply.Reply.Reply}
use Rattle.npf_core.specs.{declared.reply.Reply.TheVariants.{Nothing, ToClaim, ToHold}, HolderLaw.ClaimsWithNone, History.{LegalFrom, after, state_from}}
use Rattle.npf_core.{specs.{Machine.Machine, Replies.{claimed_id, held_by}}, proofs.HistoryLemmas.{LegalFrom-front, LegalFrom-rest, state_from-append}}
use Rattle.npf_flow.specs.{declared.{flow.Flow.Flow, step.FlowReply.FlowReply}, Flows.flow_law}
use Rattle.npf_saved.specs.declared.saved.Saved.{Saved}
use Rattle.npf_connsave.specs.Loads.{entry, hold_entries_of, key_entries, load_entries}
use Rattle.npf_connsave.proofs.BuiltLemmas.{AreBuilt, AreLoaded, claimed_next, held_next, no_keys, started_next, way_key, with_key}

-- a key that was given had no holder
was_free : (holder : Option Found) → ◌≡◌ {A = Reply FlowReply} (ToHold Held.Done) (ToHold (held_by holder)) → holder ≡ None
was_free None is = refl
was_free (Some found) is = absurd (let e : Held.Done ≡ Held.Taken found = cc in cc)

all_keys : (saved : Saved) (way : Way) → with_key (with_key (with_key no_keys Forward (Some saved.forward)) Port saved.port) Backward saved.backward way ≡ way_key saved way
all_keys saved = by saved.forward saved.port saved.backward where
  by : (forward : Key) (port backward : Option Key) (way : Way)
      → with_key (with_key (with_key no_keys Forward (Some forward)) Port port) Backward backward way ≡ way_key (record saved { forward = forward; port = port; backward = backward }) way
  by forward None None Forward = refl
  by forward None None Port = refl
  by forward None None Backward = refl
  by forward None (Some back) Forward = refl
  by forward None (Some back) Port = refl
  by forward None (Some back) Backward = refl
  by forward (Some port) None Forward = refl
  by forward (Some port) None Port = refl
  by forward (Some port) None Backward = refl
  by forward (Some port) (Some back) Forward = refl
  by forward (Some port) (Some back) Port = refl
  by forward (Some port) (Some back) Backward = refl

no_backward : (forward : Key) (port : Option Key) → with_key (with_key no_keys Forward (Some forward)) Port port Backward ≡ None
no_backward forward None = refl
no_backward forward (Some port) = refl

module _ (slots : ℕ) (done : List Saved) (seat : ℕ) (id : ConnId) where
  hold_next : (k : Machine Flow) (keys : Way → Option Key) (way : Way) (key : Option Key) → AreBuilt k done seat id keys → keys way ≡ None
      → LegalFrom flow_law slots k (hold_entries_of seat id way key) → AreBuilt (state_from flow_law k (hold_entries_of seat id way key)) done seat id (with_key keys way key)
  hold_next k keys way None built none legal = built
  hold_next k keys way (Some key) built none legal = held_next k done seat id keys built key way (was_free (k.holder key) legal.0.replied) none

  keys_next : (k : Machine Flow) (saved : Saved) → AreBuilt k done seat id no_keys → LegalFrom flow_law slots k (key_entries seat id saved)
      → AreBuilt (state_from flow_law k (key_entries seat id saved)) done seat id (with_key (with_key (with_key no_keys Forward (Some saved.forward)) Port saved.port) Backward saved.backward)
  keys_next k saved built legal =
      let f = hold_entries_of seat id Forward (Some saved.forward) in
      let p = hold_entries_of seat id Port saved.port in
      let b = hold_entries_of seat id Backward saved.backward in
      let kf = state_from flow_law k f in
      let kp = state_from flow_law kf p in
      let rest : LegalFrom flow_law slots kf (p ++ b) = LegalFrom-rest flow_law slots k f (p ++ b) legal in
      let one = hold_next k no_keys Forward (Some saved.forward) built refl (LegalFrom-front flow_law slots k f (p ++ b) legal) in
      let two = hold_next kf (with_key no_keys Forward (Some saved.forward)) Port saved.port one refl (LegalFrom-front flow_law slots kf p b rest) in
      let three = hold_next kp (with_key (with_key no_keys Forward (Some saved.forward)) Port saved.port) Backward saved.backward two (no_backward saved.forward saved.port)
      (LegalFrom-rest flow_law slots kf p b rest) in
      subst (λ (m : Machine Flow). AreBuilt m done seat id (with_key (with_key (with_key no_keys Forward (Some saved.forward)) Port saved.port) Backward saved.backward))
      (sym (state_from-append flow_law k f (p ++ b) ∙ state_from-append flow_law kf p b)) three

  pub loads_one : (k : Machine Flow) (saved : Saved) → AreLoaded k done → ClaimsWithNone k → saved.flow.opener ≡ 0 → LegalFrom flow_law slots k (load_entries seat id saved)
      → AreLoaded (state_from flow_law k (load_entries seat id saved)) (done ++ saved ∷ [])
  loads_one k saved loaded none opener legal =
      let claim = entry seat (Claim 0 id.slot) (ToClaim id) in
      let keys = key_entries seat id saved in
      let start = entry seat (Start id 0 saved.flow) Nothing in
      let kc = after flow_law k claim in
      let is : id ≡ claimed_id k id.slot = let replied = legal.0.replied in cc in
      let built = claimed_next k done seat id.slot loaded legal.0.allowed.unclaimed none id is in
      let held = keys_next kc saved built (LegalFrom-front flow_law slots kc keys (start ∷ []) legal.1) in
      subst (λ (m : Machine Flow). AreLoaded m (done ++ saved ∷ [])) (sym (state_from-append flow_law kc keys (start ∷ [])))
      (started_next (state_from flow_law kc keys) done seat id saved (with_key (with_key (with_key no_keys Forward (Some saved.forward)) Port saved.port) Backward saved.backward) held
      (all_keys saved) opener)
