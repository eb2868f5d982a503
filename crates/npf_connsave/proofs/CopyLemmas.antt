-- The connections of one slot more.
use Rattle.std.proofs.Common.{◌≡◌, ◌≢◌, ◌<◌, ◌+◌, ℕ, Option, Some, None, List, [], ◌∷◌, ◌++◌, Contains, length, get_or, refl, sym, ap, subst, ◌∙◌, arith}
use Rattle.std.{specs.{Prelude.◌⊎◌, List.AllPairs}, proofs.{Common.{inl, inr}, lemmas.{Bool.Decides.nat_tests, List.{map-append, length-map, get_or-map}}}}
use Rattle.std.proofs.lemmas.List.{Elements.{All-push, All-weaker, Contains-append_left, Contains-push}, Quantifiers.all_pairs_push}
use Rattle.npf_types.specs.declared.key.{Key.Key, Way.TheVariants.Forward}
use Rattle.npf_core.specs.declared.{conn_id.ConnId.ConnId, found.Found.Found, kept.Kept.Kept, slot.Slot.Slot, stage.Stage.Stage}
use Rattle.npf_core.specs.{declared.stage.Stage.TheVariants.{Vacant, Building, Live, Dead}, Copying.{HoldsIf, IsKept}, HolderLaw.HoldsOneAWay}
use Rattle.npf_core.{specs.Machine.{Machine, stage_at, stage_of, IsClaimed, IsLive, Holds}, proofs.{EqualityLemmas.same_conn_id, LifeLemmas.IsClaimed-last}}
use Rattle.npf_flow.specs.declared.flow.Flow.{Flow}
use Rattle.npf_saved.specs.declared.saved.Saved.{Saved}
use Rattle.npf_connsave.specs.{Copied.{AreCopied, IsCopied, forward_keys, saved_by, saved_of}, Saves.IsSavedAs}

pub live_claimed : (stage : Stage Flow) → IsLive stage → IsClaimed stage
live_claimed Vacant live = absurd live
live_claimed (Building seat) live = absurd live
live_claimed (Live flow steps) live = tt
live_claimed Dead live = absurd live

pub at_last : (slot : Slot Flow) (inc : ℕ) → slot.inc ≡ inc → stage_at slot inc ≡ slot.stage
at_last slot inc last = grind (arith, nat_tests)

module _ (k : Machine Flow) where
  -- a Live identity is the last of its slot
  last_of : (id : ConnId) → IsLive (stage_of k id) → (k.slot id.slot).inc ≡ id.inc
  last_of id live = IsClaimed-last (k.slot id.slot) id.inc (live_claimed (stage_of k id) live)

  pub slot_live : (id : ConnId) → IsLive (stage_of k id) → IsLive (k.slot id.slot).stage
  slot_live id live = subst IsLive (at_last (k.slot id.slot) id.inc (last_of id live)) live

  pub one_of_slot : (id other : ConnId) → IsLive (stage_of k id) → IsLive (stage_of k other) → id.slot ≡ other.slot → id ≡ other
  one_of_slot id other live also same =
      same_conn_id id other (same, sym (last_of id live) ∙ ap (λ (s : ℕ). (k.slot s).inc) same ∙ last_of other also)

  -- who holds one key that way is one
  pub one_holder : (id other : ConnId) (key : Key) → Holds k id Forward key → Holds k other Forward key → id ≡ other
  one_holder id other key one two =
      let both : Some (record { id = id; way = Forward }) ≡ Some (record { id = other; way = Forward }) = sym one ∙ two in
      let found : record { id = id; way = Forward } ≡ record { id = other; way = Forward } = cc in
      ap (λ (f : Found). f.id) found

  stage_live : (id : ConnId) (flow : Flow) (steps : ℕ) → stage_of k id ≡ Live flow steps → IsLive (stage_of k id)
  stage_live id flow steps is = subst IsLive (sym is) tt

  pub saved_live : (id : ConnId) (saved : Saved) → IsSavedAs k id saved → IsLive (stage_of k id)
  saved_live id saved is = stage_live id is.flow is.steps is.live

  module _ (slot : ℕ) (kept : Kept Flow) (is : IsKept k slot kept) where
    kept_live : IsLive (stage_of k kept.id)
    kept_live = stage_live kept.id kept.state is.live.0 is.live.1

    saved_as : (forward : Option Key) (saved : Saved) → HoldsIf k kept.id Forward forward → saved_by kept forward ≡ Some saved
        → IsSavedAs k kept.id saved
    saved_as None saved holds e = absurd cc
    saved_as (Some key) saved holds e =
        let same : record { forward = key; port = kept.port; backward = kept.backward; flow = record kept.state { opener = 0 } } ≡ saved = cc in
        subst (IsSavedAs k kept.id) same
        (record { flow = kept.state; steps = is.live.0; live = is.live.1; same = refl; forward = holds; port = is.port; backward = is.backward })

    -- the slot's connection is the one that was copied
    kept_holds : (id : ConnId) (key : Key) → id.slot ≡ slot → IsLive (stage_of k id) → Holds k id Forward key → Holds k kept.id Forward key
    kept_holds id key here live holds =
        subst (λ (i : ConnId). Holds k i Forward key) (one_of_slot id kept.id live kept_live (here ∙ sym is.there)) holds

    no_forward : (forward : Option Key) (key : Key) → HoldsIf k kept.id Forward forward → saved_by kept forward ≡ None → ¬ Holds k kept.id Forward key
    no_forward None key none e holds = none key holds
    no_forward (Some other) key none e holds = absurd cc

  module _ (conns : List Saved) (slot : ℕ) (so_far : AreCopied k slot conns) where
    further : (saved : Saved) → IsCopied k slot saved → IsCopied k (slot + 1) saved
    further saved copied = record { id = copied.id; there = let near : copied.id.slot < slot = copied.there in omega arith; is = copied.is }

    -- a slot in which nothing is saved
    pub nothing_more : ((id : ConnId) (key : Key) → id.slot ≡ slot → IsLive (stage_of k id) → ¬ Holds k id Forward key) → AreCopied k (slot + 1) conns
    nothing_more none = record {
      each = All-weaker (IsCopied k slot) (IsCopied k (slot + 1)) further conns so_far.each;
      all = λ id key near live holds. by id key live holds (below id.slot near);
      apart = so_far.apart;
    } where
      below : (s : ℕ) → s < slot + 1 → (s < slot) ⊎ (s ≡ slot)
      below s near = grind arith

      by : (id : ConnId) (key : Key) → IsLive (stage_of k id) → Holds k id Forward key → (id.slot < slot) ⊎ (id.slot ≡ slot)
          → (saved : Saved) × Contains conns saved × (saved.forward ≡ key)
      by id key live holds (inl near) = so_far.all id key near live holds
      by id key live holds (inr here) = absurd (none id key here live holds)

    pub vacant_more : ¬ IsLive (k.slot slot).stage → AreCopied k (slot + 1) conns
    vacant_more none = nothing_more (λ id key here live holds. none (subst (λ (s : ℕ). IsLive (k.slot s).stage) here (slot_live id live)))

    pub keyless_more : (kept : Kept Flow) → IsKept k slot kept → saved_of kept ≡ None → AreCopied k (slot + 1) conns
    keyless_more kept is e = nothing_more (λ id key here live holds. no_forward slot kept is kept.forward key is.forward e (kept_holds slot kept is id key here live holds))

    pub one_more : HoldsOneAWay k → (kept : Kept Flow) (saved : Saved) → IsKept k slot kept → saved_of kept ≡ Some saved → AreCopied k (slot + 1) (conns ++ saved ∷ [])
    one_more one kept saved is e =
        let mine = saved_as slot kept is kept.forward saved is.forward e in
        record {
          each = All-push (IsCopied k (slot + 1)) conns saved (All-weaker (IsCopied k slot) (IsCopied k (slot + 1)) further conns so_far.each)
              (record { id = kept.id; there = let there = is.there in omega arith; is = mine });
          all = λ id key near live holds. by mine id key live holds (below id.slot near);
          apart = subst (λ (keys : List Key). AllPairs (λ one other. one ≢ other) keys) (sym (map-append (λ (s : Saved). s.forward) conns (saved ∷ [])))
              (all_pairs_push (λ one other. one ≢ other) (forward_keys conns) saved.forward so_far.apart (differs mine));
        } where
          below : (s : ℕ) → s < slot + 1 → (s < slot) ⊎ (s ≡ slot)
          below s near = grind arith

          by : IsSavedAs k kept.id saved → (id : ConnId) (key : Key) → IsLive (stage_of k id) → Holds k id Forward key → (id.slot < slot) ⊎ (id.slot ≡ slot)
              → (other : Saved) × Contains (conns ++ saved ∷ []) other × (other.forward ≡ key)
          by mine id key live holds (inl near) =
              let old = so_far.all id key near live holds in
              (old.0, Contains-append_left conns (saved ∷ []) old.0 old.1, old.2)
          by mine id key live holds (inr here) =
              (saved, Contains-push conns saved, one kept.id Forward saved.forward key mine.forward (kept_holds slot kept is id key here live holds))

          differs : IsSavedAs k kept.id saved → (n : ℕ) (d : Key) → n < length (forward_keys conns) → get_or (forward_keys conns) n d ≢ saved.forward
          differs mine n d within same =
              let near : n < length conns = omega (arith, within, length-map conns (λ (s : Saved). s.forward)) in
              let old = so_far.each n saved near in
              let at : get_or (forward_keys conns) n d ≡ (get_or conns n saved).forward = get_or-map (λ (s : Saved). s.forward) conns n saved d near in
              let holds : Holds k old.id Forward saved.forward = subst (Holds k old.id Forward) (sym at ∙ same) old.is.forward in
              let id : old.id ≡ kept.id = one_holder old.id kept.id saved.forward holds mine.forward in
              let there = old.there in
              let here = ap (λ (i : ConnId). i.slot) id ∙ is.there in
              absurd (omega (arith, there, here))
