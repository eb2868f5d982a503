-- Connections in slots that a pass claimed, and their incarnations.
use Rattle.std.proofs.Common.{◌≡◌, ◌≢◌, inl, inr, ℕ, ◌+◌, ◌-◌, ◌^◌, ◌≤◌, [], ◌∷◌, ◌++◌, List, Option, Some, None, IfSome, IfNone, true, false, cond, eq-eqb, refl, sym, ap, ◌∙◌, subst, arith}
use Rattle.std.{specs.List.Contains, proofs.lemmas.List.Elements.{Contains-append_left, Contains-append_right, Contains-push}}
use Rattle.atomic_table.specs.Table.{Me}
use Rattle.npf_types.specs.declared.key.Way.{Way, TheVariants.{Forward, Backward, Port}}
use Rattle.npf_shelf.proofs.ListLemmas.{Contains-first}
use Rattle.npf_core.specs.declared.{act.Act.TheVariants.Claim, conn_id.ConnId.ConnId, entry.Entry.Entry, reply.Reply.TheVariants.ToClaim}
use Rattle.npf_core.specs.{History.{Legal, state_of}, Machine.HoldsNone, Meaning.Meaning}
use Rattle.npf_connections.specs.{Adding.AddsOwn, Answered.begun_ids, Beginning.{IsFullBetween, IsFullIfNone, HoldsNoneIfSome}}
use Rattle.npf_connections.{specs.{Entries.{claim_entries, entry_of}, Pass.{Pass, IsPass}}, proofs.StayLemmas.claimed_holds_none}
use Rattle.npf_cells_words.specs.{declared.layout.Pool.TheVariants.Slots, Layout.{inc_field, note_field}}
use Rattle.npf_seats.specs.Sums.{others_than}
use Rattle.npf_cells_lives.specs.{declared.pools.Note.Note, Conns.IsBuiltIn, Notes.notes_but}
use Rattle.npf_cells_rule.specs.{declared.view.CellView.CellView, Passes.{IsProtected, cell_pass, is_pinned}, Views.with_pools}
use Rattle.npf_cells_pins.specs.declared.pin.Pin.{Pin}
use Rattle.npf_cells_takes.specs.{PrivateKinds.{ShowsInc, MayStoreInSlot, storing, noted_in, stored_in}, SlotKinds.{HasClaimed, claiming_slot}}
use Rattle.npf_pool.specs.Takes.{HasSeenMore}
use Rattle.npf_conndb.{specs.{Begins.{IsBegun, BuildsBare, having_begun}, Between.IsBetweenCalls}, proofs.BuildLemmas.noted_more}
use Rattle.npf_conndb.proofs.{NoteLemmas.{still_noted, way_notes}, PassLemmas.{hands, goes_between, adds_none, begins}}

behind : {X : Type 0} (x : X) (xs : List X) (y : X) → Contains xs y → Contains (x ∷ xs) y
behind x xs y c = Contains-append_right (x ∷ []) xs y c

-- a store of 0 in a note is known as such
pub note_cleared : {S A R F : Type 0} (slot field : ℕ) (way : Way) (old now : Me F (CellView S A R)) → field ≡ note_field way →
    now ≡ stored_in Slots slot field 0 old → now ≡ noted_in slot (note_field way) 0 old
note_cleared {S} {A} {R} {F} slot field way old now is stores = stores ∙ (ap (λ f. stored_in Slots slot f 0 old) is ∙ by_way way)
  where
    by_way : (w : Way) → stored_in Slots slot (note_field w) 0 old ≡ noted_in slot (note_field w) 0 old
    by_way Forward = refl
    by_way Backward = refl
    by_way Port = refl

-- but for itself nothing is left of one
none_left : (n : ℕ) → others_than n (n ∷ []) ≡ []
none_left n = ap (λ b. cond (cond b false true) (n ∷ []) []) (eq-eqb n n refl)

module _ {S A R F : Type 0} (m : Meaning S A R) (n slot : ℕ) (old taken : Me F (CellView S A R)) (has : HasClaimed m n slot old taken) where
  -- who claimed a slot is building in it
  built : Contains taken.0.pools.builds has.id
  built = subst (λ ids. Contains ids has.id) (sym (ap (λ (y : Me F (CellView S A R)). y.0.pools.builds) has.is))
      (Contains-append_left (has.id ∷ []) old.0.pools.builds has.id (Contains-push [] has.id))

  pub claimed_builds : IsBuiltIn taken.0.pools.builds slot
  claimed_builds = record { id = has.id; built = built; there = has.slot_is }

  -- a connection that holds no key
  bare : (way : Way) → HoldsNone (state_of m taken.0.seats.history) has.id way
  bare way =
      let entry = entry_of (cell_pass old.0) (Claim n has.id.slot) (ToClaim has.id) in
      let end = has.adds.ends [] entry refl in
      let legal : Legal m taken.0.seats.about (end.0 ++ entry ∷ []) = subst (λ (h : List (Entry S A R)). Legal m taken.0.seats.about h) end.1 has.legal.legal in
      subst (λ (h : List (Entry S A R)). HoldsNone (state_of m h) has.id way) (sym end.1) (claimed_holds_none m taken.0.seats.about end.0 entry has.id way legal refl)

  unstored : taken.0.pools.unstored ≡ slot ∷ old.0.pools.unstored
  unstored = ap (λ (y : Me F (CellView S A R)). y.0.pools.unstored) has.is ∙ ap (λ s. s ∷ old.0.pools.unstored) has.slot_is

  module _ (before : ℕ) (shows : ShowsInc taken.0.pools slot before) where
    next_inc : before + 1 ≡ has.id.inc
    next_inc = shows.before has.id built has.slot_is (subst (λ slots. Contains slots slot) (sym unstored) (Contains-append_left (slot ∷ []) old.0.pools.unstored slot (Contains-push [] slot)))

    -- there is a next incarnation, which the pass may store
    pub next_fits : before + 1 ≤ 2 ^ 64 - 1
    next_fits = let most = shows.most has.id built has.slot_is in let next = next_inc in omega (arith, most, next)

    pub may_store : MayStoreInSlot m taken.0 slot inc_field (before + 1)
    may_store = record {
      id = has.id;
      built = built;
      there = has.slot_is;
      turnless = omega arith;
      phaseless = λ e. absurd (omega (arith, e));
      inc = λ _. next_inc;
      noteless = omega arith;
      keyless = λ way _ _. bare way;
    }

    same : has.id ≡ record { slot = slot; inc = before + 1 }
    same i = record { slot = has.slot_is i; inc = sym next_inc i }

    -- once it is stored, and the notes are, the connection has begun
    module _ (one two three now : Me F (CellView S A R)) (stores : one ≡ with_pools taken (storing Slots slot inc_field (before + 1) taken.0.pools))
        (first : two ≡ noted_in slot (note_field Forward) 0 one) (second : three ≡ noted_in slot (note_field Backward) 0 two)
        (third : now ≡ noted_in slot (note_field Port) 0 three) where
      stepped_so : now ≡ noted_in slot (note_field Port) 0
          (noted_in slot (note_field Backward) 0 (noted_in slot (note_field Forward) 0 (with_pools taken (storing Slots slot inc_field (before + 1) taken.0.pools))))
      stepped_so = third ∙ ap (noted_in slot (note_field Port) 0) (second ∙ ap (noted_in slot (note_field Backward) 0) (first ∙ ap (noted_in slot (note_field Forward) 0) stores))

      abbrev claimed : Me F (CellView S A R)
      claimed = (claiming_slot old.0 taken.0.pools.found taken.0.seats.history has.id, old.1)

      is : now ≡ noted_in slot (note_field Port) 0
          (noted_in slot (note_field Backward) 0 (noted_in slot (note_field Forward) 0 (with_pools claimed (storing Slots slot inc_field (before + 1) claimed.0.pools))))
      is = stepped_so ∙ ap (λ (y : Me F (CellView S A R)). noted_in slot (note_field Port) 0
          (noted_in slot (note_field Backward) 0 (noted_in slot (note_field Forward) 0 (with_pools y (storing Slots slot inc_field (before + 1) y.0.pools))))) has.is

      abbrev zero : Way → Note
      zero way = record { slot = slot; field = note_field way; value = 0 }

      abbrev forward_noted : List Note
      forward_noted = zero Forward ∷ notes_but slot (note_field Forward) old.0.pools.notes

      abbrev backward_noted : List Note
      backward_noted = zero Backward ∷ notes_but slot (note_field Backward) forward_noted

      abbrev port_noted : List Note
      port_noted = zero Port ∷ notes_but slot (note_field Port) backward_noted

      notes_are : now.0.pools.notes ≡ port_noted
      notes_are = ap (λ (y : Me F (CellView S A R)). y.0.pools.notes) is

      listed : (way : Way) → Contains port_noted (zero way)
      listed Forward = behind (zero Port) _ (zero Forward) (still_noted slot (note_field Port) backward_noted (zero Forward) (inr (way_notes Forward Port (λ e. cc)))
          (behind (zero Backward) _ (zero Forward) (still_noted slot (note_field Backward) forward_noted (zero Forward)
          (inr (way_notes Forward Backward (λ e. cc))) (Contains-first (zero Forward) (notes_but slot (note_field Forward) old.0.pools.notes)))))
      listed Backward = behind (zero Port) _ (zero Backward) (still_noted slot (note_field Port) backward_noted (zero Backward)
          (inr (way_notes Backward Port (λ e. cc))) (Contains-first (zero Backward) (notes_but slot (note_field Backward) forward_noted)))
      listed Port = Contains-first (zero Port) (notes_but slot (note_field Port) backward_noted)

      others : (note : Note) → note.slot ≢ slot → Contains old.0.pools.notes note → Contains port_noted note
      others note apart c =
          behind (zero Port) _ note (still_noted slot (note_field Port) backward_noted note (inl apart)
          (behind (zero Backward) _ note (still_noted slot (note_field Backward) forward_noted note (inl apart)
          (behind (zero Forward) _ note (still_noted slot (note_field Forward) old.0.pools.notes note (inl apart) c)))))

      pub begun : IsBegun m n (record { slot = slot; inc = before + 1 }) old now
      begun = subst (λ (id : ConnId). IsBegun m n id old now) same (record {
        adds = subst (λ (y : Me F (CellView S A R)). AddsOwn (cell_pass old.0) y.0.seats.history (claim_entries (cell_pass old.0) n (Some has.id))) (sym stepped_so) has.adds;
        legal = subst (λ (y : Me F (CellView S A R)). IsPass m (cell_pass y.0)) (sym stepped_so) has.legal;
        bare = λ way. subst (λ (y : Me F (CellView S A R)). HoldsNone (state_of m y.0.seats.history) has.id way) (sym stepped_so) (bare way);
        is = is ∙ sym (ap (λ (y : Me F (CellView S A R)). (having_begun old.0 has.id y.0, old.1)) is);
        owes = λ none. ap (λ (y : Me F (CellView S A R)). y.0.pools.unstored) stepped_so ∙ (ap (others_than slot) (unstored ∙ ap (λ slots. slot ∷ slots) none) ∙ none_left slot);
        noted = λ way. subst (λ s. Contains now.0.pools.notes (record { slot = s; field = note_field way; value = 0 }))
            (sym has.slot_is) (subst (λ (xs : List Note). Contains xs (zero way)) (sym notes_are) (listed way));
        known = λ note apart c. subst (λ (xs : List Note). Contains xs note) (sym notes_are) (others note (λ there. apart (there ∙ sym has.slot_is)) c);
      })

  -- a pass that claimed a slot may store its notes, whatever it stored there
  pub builds_bare : (next : CellView S A R) (way : Way) → next.pools.builds ≡ taken.0.pools.builds → next.seats.history ≡ taken.0.seats.history → BuildsBare m next slot way
  builds_bare next way builds history = record {
    id = has.id;
    built = subst (λ ids. Contains ids has.id) (sym builds) built;
    there = has.slot_is;
    bare = subst (λ h. HoldsNone (state_of m h) has.id way) (sym history) (bare way);
  }

-- What a pass is, shows and has added after it asked for a connection.
module _ {S A R F : Type 0} (m : Meaning S A R) (n : ℕ) (old now : Me F (CellView S A R)) where
  abbrev shows_begun : Option ConnId → Pass (Entry S A R)
  shows_begun result = record (cell_pass old.0) { history = now.0.seats.history; answered = begun_ids result ++ old.0.trie.answered; builds = begun_ids result ++ old.0.pools.builds }

  pub record Asked (result : Option ConnId) : Type 0 where
    pub between : IsPass m (cell_pass old.0) → IsBetweenCalls m old.0 → IsBetweenCalls m now.0
    pub legal : IsPass m (cell_pass old.0) → IsPass m (cell_pass now.0)
    pub pin : now.0.epochs.pin ≡ old.0.epochs.pin
    pub adds : AddsOwn (cell_pass old.0) now.0.seats.history (claim_entries (cell_pass old.0) n result)
    pub full : IsFullIfNone m (cell_pass old.0) now.0.seats.history result
    pub bare : HoldsNoneIfSome (state_of m now.0.seats.history) result
    pub shows : cell_pass now.0 ≡ shows_begun result

  pub asked : (result : Option ConnId) → IfSome result (λ id. IsBegun m n id old now) → IfNone result (HasSeenMore m old now) →
      IfNone result (IsFullBetween m (cell_pass old.0) now.0.seats.history) → Asked result
  asked None claims sees full = record {
    between = λ pass. goes_between m old.0 now.0 (ap (λ (y : Me F (CellView S A R)). hands y.0) sees.is) (ap (λ (y : Me F (CellView S A R)). y.0.pools.builds) sees.is)
        (ap (λ (y : Me F (CellView S A R)). y.0.pools.notes) sees.is) pass (sees.legal pass) (begins (cell_pass old.0) now.0.seats.history [] sees.adds);
    legal = sees.legal;
    pin = ap (λ (y : Me F (CellView S A R)). y.0.epochs.pin) sees.is;
    adds = adds_none (cell_pass old.0) now.0.seats.history sees.adds;
    full = full;
    bare = tt;
    shows = ap (λ (y : Me F (CellView S A R)). cell_pass y.0) sees.is;
  }
  asked (Some id) claims sees full = record {
    between = λ pass between. record {
      protected = subst (λ (pin : Pin). is_pinned pin ≡ true → IsProtected pin) (sym (ap (λ (y : Me F (CellView S A R)). y.0.epochs.pin) claims.is)) between.protected;
      unlocked = ap (λ (y : Me F (CellView S A R)). y.0.trie.locks) claims.is ∙ between.unlocked;
      turnless = ap (λ (y : Me F (CellView S A R)). y.0.turn) claims.is ∙ between.turnless;
      nodeless = ap (λ (y : Me F (CellView S A R)). y.0.pools.nodes) claims.is ∙ between.nodeless;
      stored = claims.owes between.stored;
      noted = noted_more m old.0 now.0 pass claims.legal (begins (cell_pass old.0) now.0.seats.history (claim_entries (cell_pass old.0) n (Some id)) claims.adds.adds) between.noted id
          (ap (λ (y : Me F (CellView S A R)). y.0.pools.builds) claims.is) claims.noted claims.known;
      let_go = ap (λ (y : Me F (CellView S A R)). y.0.pools.kills) claims.is ∙ between.let_go;
      given_up = ap (λ (y : Me F (CellView S A R)). y.0.pools.gave_up) claims.is ∙ between.given_up;
      reclaimed = ap (λ (y : Me F (CellView S A R)). y.0.pools.reclaims) claims.is ∙ between.reclaimed;
      freed = ap (λ (y : Me F (CellView S A R)). y.0.pools.cleared) claims.is ∙ between.freed;
      returned = ap (λ (y : Me F (CellView S A R)). y.0.pools.unfreed) claims.is ∙ between.returned;
    };
    legal = λ _. claims.legal;
    pin = ap (λ (y : Me F (CellView S A R)). y.0.epochs.pin) claims.is;
    adds = claims.adds;
    full = tt;
    bare = claims.bare;
    shows = ap (λ (y : Me F (CellView S A R)). cell_pass y.0) claims.is;
  }
