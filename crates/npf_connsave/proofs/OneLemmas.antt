-- One connection claimed, given its keys, and started or abandoned.
use Rattle.std.proofs.{Common.{◌≡◌, ℕ, Bool, true, List, [], ◌∷◌, ◌++◌, length, refl, sym, ap, subst, ◌∙◌, append-nil, arith}, lemmas.List.length-append}
use Rattle.npf_types.specs.declared.key.{Key.Key, Way.Way}
use Rattle.npf_core.specs.declared.{act.{Act.TheVariants.{Claim, Start}, Why.TheVariants.Abandoned}, conn_id.ConnId.ConnId}
use Rattle.npf_core.specs.{declared.reply.Reply.TheVariants.{Nothing, ToClaim}, History.{IsPrefix, state_of}, Machine.{Machine, IsClaimed}, NextState.is_id}
use Rattle.npf_core.proofs.{EqualityLemmas.is_id-Decides, HistoryLemmas.state_of-append}
use Rattle.npf_connections.specs.{Answered.without, Beginning.IsFullBetween, Entries.end_entries, Stay.GoesOn}
use Rattle.npf_flow.specs.{declared.flow.Flow.Flow, Flows.flow_law}
use Rattle.npf_saved.specs.declared.saved.Saved.{Saved}
use Rattle.npf_connsave.specs.Loads.{AllClaimed, AreFree, FlowEntry, LeavesOne, RefusesKeys, StartsOne, StaysSole, View, entry, key_entries}
use Rattle.npf_connsave.proofs.KeysLemmas.{three_behind}

-- a call that goes on in this way leaves the pass with its table
pub kept_after : (old new : View) (answered builds : List ConnId) → GoesOn (record old { answered = answered; builds = builds }) new → StaysSole old new
kept_after old new answered builds on = record {
  slots = ap (λ (v : View). v.slots) on.view;
  number = ap (λ (v : View). v.number) on.view;
  entered = ap (λ (v : View). v.entered) on.view;
  places = ap (λ (v : View). v.places) on.view;
  joined = ap (λ (v : View). v.joined) on.view;
  sweeps = let same = ap (λ (v : View). v.sweeps) on.view in omega (arith, same);
  epoch = on.epoch;
}

-- between a history and itself there is that history alone
no_rest : (history point last : List FlowEntry) → IsPrefix history point → IsPrefix point last → last ≡ history → point ≡ history
no_rest history point last one two same = by one.rest one.goes_on where
  by : (rest : List FlowEntry) → point ≡ history ++ rest → point ≡ history
  by [] is = is ∙ append-nil history
  by (e ∷ rest) is =
      let first = ap length is ∙ length-append history (e ∷ rest) in
      let second = ap length two.goes_on ∙ length-append point two.rest in
      let third = ap length same in
      absurd (omega (arith, first, second, third))

-- where no slot was given, each is claimed
pub full_now : (old : View) (last : List FlowEntry) → last ≡ old.history → IsFullBetween flow_law old last → AllClaimed (state_of flow_law old.history) old.slots
full_now old last same full slot below =
    let there = full slot below in
    subst (λ (h : List FlowEntry). IsClaimed ((state_of flow_law h).slot slot).stage) (no_rest old.history there.point last there.begins there.goes_on same) there.claimed

-- a claim gives no key
pub free_behind_claim : (history : List FlowEntry) (seat : ℕ) (id : ConnId) (keys : List Key) → AreFree (state_of flow_law history) keys
    → AreFree (state_of flow_law (history ++ entry seat (Claim 0 id.slot) (ToClaim id) ∷ [])) keys
free_behind_claim history seat id keys free =
    subst (λ (k : Machine Flow). AreFree k keys) (sym (state_of-append flow_law history (entry seat (Claim 0 id.slot) (ToClaim id)))) free

pub none_left : (id : ConnId) → without id (id ∷ []) ≡ []
none_left id = let same : is_id id id ≡ true = (is_id-Decides id id).1 refl in rw same refl

module _ (old begun held new : View) (id : ConnId) (saved : Saved) (one : StaysSole old begun) (two : StaysSole begun held)
    (claimed : begun.history ≡ old.history ++ entry old.number (Claim 0 id.slot) (ToClaim id) ∷ []) where
  pub starts_one : held.history ≡ begun.history ++ key_entries begun.number id saved → new.history ≡ held.history ++ entry held.number (Start id 0 saved.flow) Nothing ∷ []
      → StartsOne old new saved
  starts_one keys start = record {
    id = id;
    entries = three_behind old.history begun.history held.history new.history
        (entry old.number (Claim 0 id.slot) (ToClaim id) ∷ []) (key_entries old.number id saved) (entry old.number (Start id 0 saved.flow) Nothing ∷ []) claimed
        (subst (λ (n : ℕ). held.history ≡ begun.history ++ key_entries n id saved) one.number keys)
        (subst (λ (n : ℕ). new.history ≡ held.history ++ entry n (Start id 0 saved.flow) Nothing ∷ []) (two.number ∙ one.number) start);
  }

  pub leaves_one : (ways : Way → Bool) → StaysSole held new → RefusesKeys begun held id saved → new.history ≡ held.history ++ end_entries held id Abandoned ways → LeavesOne old new saved
  leaves_one ways three refused ended = record {
    id = id;
    held = refused.held;
    ways = ways;
    part = subst (λ (n : ℕ). IsPrefix refused.held (key_entries n id saved)) one.number refused.part;
    entries = three_behind old.history begun.history held.history new.history
        (entry old.number (Claim 0 id.slot) (ToClaim id) ∷ []) refused.held (end_entries old id Abandoned ways) claimed refused.entries
        (subst (λ (n : ℕ). new.history ≡ held.history ++ end_entries (record old { number = n }) id Abandoned ways) (two.number ∙ one.number) ended);
    sweeps = let a = one.sweeps in let b = refused.sweeps in let c = three.sweeps in omega (arith, a, b, c);
  }
