-- What the calls of a table say.
use Rattle.std.proofs.Common.{◌≡◌, ℕ, ◌≤◌, Bool, List, [], ◌∷◌, ◌++◌, refl, ap, ◌∙◌, subst}
use Rattle.npf_types.specs.declared.key.{Key.Key, Way.Way}
use Rattle.npf_core.specs.declared.{act.{Act.TheVariants.Start, Why.TheVariants.Abandoned}, conn_id.ConnId.ConnId, entry.Entry.Entry, held.Held.Held}
use Rattle.npf_core.specs.{declared.reply.Reply.TheVariants.Nothing, History.state_of}
use Rattle.npf_connections.specs.{Abandoning.Abandons, Adding.{Adds, AddsOwn}, Entries.{entry_of, hold_entries}, Pass.Pass, Said.{Did, Does, ends_said, under}}
use Rattle.npf_connections.{specs.{Stay.GoesOn, Ways.HoldsThese}, proofs.SaidLemmas.{did_abandon, did_more, did_so, did_sweep}}
use Rattle.npf_flow.specs.{declared.{flow.Flow.Flow, step.{FlowArg.FlowArg, FlowReply.FlowReply}}, Flows.flow_law}
use Rattle.npf_engine_opening.{specs.{Saying.{FlowSaid, said_by_hold, start_said, abandon_said}, Ways.is_one_of}, proofs.WayLemmas.these_same}

-- what a pass over a table of flows shows
abbrev pub View : Type 0
View = Pass (Entry Flow FlowArg FlowReply)

module _ (old new : View) (id : ConnId) where
  hold_under : (key : Key) (way : Way) (held : Held) →
      hold_entries old id key way held ≡ under old.number (said_by_hold id key way held)
  hold_under key way Held.Done = refl
  hold_under key way (Held.Taken holder) = refl
  hold_under key way Held.NoNode = refl

  -- a hold of this key, which the code has found
  pub did_hold_of : {answered : List ConnId} → GoesOn (record old { answered = answered; sweeps = new.sweeps }) new →
      old.sweeps ≤ new.sweeps → (found key : Key) (way : Way) (held : Held) → found ≡ key →
      AddsOwn old new.history (hold_entries old id found way held) → Did old new (said_by_hold id key way held)
  did_hold_of on sweeps found key way held is own =
      let entries = ap (λ (k : Key). hold_entries old id k way held) is ∙ hold_under key way held in
      did_sweep old new (said_by_hold id key way held) on sweeps
      (subst (λ (es : List (Entry Flow FlowArg FlowReply)). Adds old new.history es) entries own.adds)

  -- a start with this flow, which the code has made
  pub did_start_of : {builds : List ConnId} → GoesOn (record old { builds = builds }) new →
      (packet : ℕ) (made flow : Flow) → made ≡ flow →
      AddsOwn old new.history (entry_of old (Start id packet made) Nothing ∷ []) →
      Did old new (start_said id packet flow ∷ [])
  did_start_of on packet made flow is own =
      subst (λ (f : Flow). Did old new (start_said id packet f ∷ [])) is
      (did_so old new (start_said id packet made ∷ []) on own.adds)

-- who abandons a connection gives up the keys that it is known to hold
pub did_end : (old new : View) (id : ConnId) (ways : List Way) → HoldsThese (state_of flow_law old.history) id (is_one_of ways) →
    Abandons flow_law old new.history id → {builds : List ConnId} → GoesOn (record old { builds = builds }) new →
    Did old new (abandon_said id ways)
did_end old new id ways these a {builds} on =
    subst (λ (held : Way → Bool). Did old new (ends_said id Abandoned held)) (these_same (state_of flow_law old.history) id a.held (is_one_of ways) a.holds these)
    (did_abandon flow_law old new id builds on a)

-- What is described goes on by what is described next.
module _ (old mid new : View) {All : List FlowSaid → Type 0} where
  pub does_both : {First Second : List FlowSaid → Type 0} → Does old mid First → Does mid new Second →
      ((first second : List FlowSaid) → First first → Second second → All (first ++ second)) → Does old new All
  does_both p q both = record {
    said = p.said ++ q.said;
    described = both p.said q.said p.described q.described;
    did = did_more old mid new p.said q.said p.did q.did;
  }

  pub did_first : {Second : List FlowSaid → Type 0} (first : List FlowSaid) → Did old mid first → Does mid new Second →
      ((second : List FlowSaid) → Second second → All (first ++ second)) → Does old new All
  did_first first p q both = record {
    said = first ++ q.said;
    described = both q.said q.described;
    did = did_more old mid new first q.said p q.did;
  }

  pub did_second : {First : List FlowSaid → Type 0} (second : List FlowSaid) → Does old mid First → Did mid new second →
      ((first : List FlowSaid) → First first → All (first ++ second)) → Does old new All
  did_second second p q both = record {
    said = p.said ++ second;
    described = both p.said p.described;
    did = did_more old mid new p.said second p.did q;
  }
