-- What the steps of a hold keep of a pass, and what they come to.
use Rattle.std.{proofs.Common.{◌≡◌, ◌≢◌, ℕ, ◌+◌, ◌≤◌, ◌<◌, List, [], ◌∷◌, ◌++◌, refl, sym, ap, ◌∙◌, subst, arith}, specs.List.Contains}
use Rattle.atomic_table.specs.Table.{Me}
use Rattle.npf_types.specs.declared.key.{Key.Key, Way.Way}
use Rattle.npf_core.specs.declared.{conn_id.ConnId.ConnId, entry.Entry.Entry, act.Act.TheVariants.Hold, reply.Reply.TheVariants.ToHold, held.Held.Held}
use Rattle.npf_core.specs.{History.{state_of, by}, Machine.HoldsNone, Meaning.Meaning}
use Rattle.npf_connections.specs.{Adding.{AddsOwn, EndsWith}, Answered.taken_ids, Entries.hold_entries, Pass.{Pass, IsPass}}
use Rattle.npf_paths.specs.{Digits.digit_of, declared.place.Place.Place}
use Rattle.npf_paths.specs.declared.place.Place.TheVariants as Places
use Rattle.npf_cells_words.specs.declared.layout.Layout.{Layout}
use Rattle.npf_cells_rule.specs.{declared.view.CellView.CellView, Views.{DeadHand, dead_hand, with_trie, with_pools}, Passes.{cell_pass, IsProtected}}
use Rattle.npf_cells_pins.specs.declared.pin.EpochSide.{EpochSide}
use Rattle.npf_seats.specs.declared.side.SeatSide.{SeatSide}
use Rattle.npf_cells_leaves.specs.{declared.trie.TrieSide.TrieSide, Trie.digits_of}
use Rattle.npf_cells_lives.specs.declared.pools.StoredWord.{StoredWord}
use Rattle.npf_cells_holds.specs.{HoldKinds.MayHoldSo, LookKinds.{StandsOnPath, level_of, level_at}}
use Rattle.npf_trie.specs.declared.step.{Point.Point, Step.{Step, TheVariants.{Ends, Leads, Again, Anew}}, Wanted.Wanted}
use Rattle.npf_trie.specs.HoldKey.{CanHold, HoldsOn, SettlesHold, IsAtPlace, StepsSo, having_held, noted_after}

-- a place on the path stays one while the pass stands where it stood
path_stays : (digest : Key → ℕ) (side side' : TrieSide) (key : Key) (p : Place) → side'.stands ≡ side.stands → StandsOnPath digest side key p → StandsOnPath digest side' key p
path_stays digest side side' key (Places.Root digit) e on = on
path_stays digest side side' key (Places.Node node digit) e on = (on.0, e ∙ on.1)

level_stays : (side side' : TrieSide) (p : Place) → side'.stands ≡ side.stands → level_at side' p ≡ level_at side p
level_stays side side' (Places.Root digit) e = refl
level_stays side side' (Places.Node node digit) e = ap level_of e

-- where a node leads on
abbrev pub next_point : (Key → ℕ) → Wanted → Point → ℕ → Point
next_point digest wanted point node = record { place = Places.Node node (digits_of digest wanted.key (point.level + 1)); level = point.level + 1 }

module _ {S A R : Type 0} where
  -- the entries of a hold go by the number of the pass alone
  same_entries : (p q : Pass (Entry S A R)) (id : ConnId) (key : Key) (way : Way) (held : Held) → p.number ≡ q.number → hold_entries p id key way held ≡ hold_entries q id key way held
  same_entries p q id key way Held.Done e = λ i. (record { seat = e i; act = Hold id key way; reply = ToHold Held.Done }) ∷ []
  same_entries p q id key way (Held.Taken found) e = λ i. (record { seat = e i; act = Hold id key way; reply = ToHold (Held.Taken found) }) ∷ []
  same_entries p q id key way Held.NoNode e = refl

  adds_from : (p q : Pass (Entry S A R)) (new : List (Entry S A R)) (id : ConnId) (key : Key) (way : Way) (held : Held) → p.history ≡ q.history → p.number ≡ q.number → p.joined ≡ q.joined →
      AddsOwn p new (hold_entries p id key way held) → AddsOwn q new (hold_entries q id key way held)
  adds_from p q new id key way held history number joined added =
      let mine = same_entries p q id key way held number in
      record {
        adds = record {
          rest = added.adds.rest;
          goes_on = added.adds.goes_on ∙ ap (λ h. h ++ added.adds.rest) history;
          own = ap (λ n. by n added.adds.rest) (sym number) ∙ (added.adds.own ∙ mine);
          listed = λ n inside. added.adds.listed n (subst (λ ns. Contains ns n) (sym joined) inside);
        };
        ends = subst (λ es. EndsWith new es) mine added.ends;
      }

module _ {S A R F : Type 0} where
  -- what each step of a hold keeps of the pass: all but the history that it has seen, and what it loaded, stored and locked
  pub record KeepsPass (old now : Me F (CellView S A R)) : Type 0 where
    pub seats : now.0.seats ≡ record old.0.seats { history = now.0.seats.history }
    pub epochs : now.0.epochs ≡ old.0.epochs
    pub nodes : now.0.pools.nodes ≡ old.0.pools.nodes
    pub builds : now.0.pools.builds ≡ old.0.pools.builds
    pub unstored : now.0.pools.unstored ≡ old.0.pools.unstored
    pub dead : dead_hand now.0.pools ≡ dead_hand old.0.pools
    pub turn : now.0.turn ≡ old.0.turn
    pub rest : now.1 ≡ old.1
    pub sweeps : old.0.pools.sweeps ≤ now.0.pools.sweeps

  -- and what one keeps that holds nothing yet
  pub record StaysOn (old now : Me F (CellView S A R)) : Type 0 where
    pub keeps : KeepsPass old now
    pub history : now.0.seats.history ≡ old.0.seats.history
    pub published : now.0.trie.published ≡ old.0.trie.published
    pub notes : now.0.pools.notes ≡ old.0.pools.notes

  pub keeps_after : (a b c : Me F (CellView S A R)) → KeepsPass a b → KeepsPass b c → KeepsPass a c
  keeps_after a b c ab bc = record {
    seats = bc.seats ∙ ap (λ (s : SeatSide ℕ (Entry S A R)). record s { history = c.0.seats.history }) ab.seats;
    epochs = bc.epochs ∙ ab.epochs;
    nodes = bc.nodes ∙ ab.nodes;
    builds = bc.builds ∙ ab.builds;
    unstored = bc.unstored ∙ ab.unstored;
    dead = bc.dead ∙ ab.dead;
    turn = bc.turn ∙ ab.turn;
    rest = bc.rest ∙ ab.rest;
    sweeps = let x = ab.sweeps in let y = bc.sweeps in omega arith;
  }

  pub stays_after : (a b c : Me F (CellView S A R)) → StaysOn a b → StaysOn b c → StaysOn a c
  stays_after a b c ab bc = record { keeps = keeps_after a b c ab.keeps bc.keeps; history = bc.history ∙ ab.history; published = bc.published ∙ ab.published; notes = bc.notes ∙ ab.notes }

  -- steps that change only what the pass knows of the trie, or what it stored
  pub stays_trie : (old now : Me F (CellView S A R)) (side : TrieSide) → now ≡ with_trie old side → side.published ≡ old.0.trie.published → StaysOn old now
  stays_trie old now side e same = subst (λ (y : Me F (CellView S A R)). StaysOn old y) (sym e) (record {
    keeps = record { seats = refl; epochs = refl; nodes = refl; builds = refl; unstored = refl; dead = refl; turn = refl; rest = refl; sweeps = omega arith };
    history = refl;
    published = same;
    notes = refl;
  })

  pub stays_stored : (old now : Me F (CellView S A R)) (words : List StoredWord) → now ≡ with_pools old (record old.0.pools { stored = words }) → StaysOn old now
  stays_stored old now words e = subst (λ (y : Me F (CellView S A R)). StaysOn old y) (sym e) (record {
    keeps = record { seats = refl; epochs = refl; nodes = refl; builds = refl; unstored = refl; dead = refl; turn = refl; rest = refl; sweeps = omega arith };
    history = refl;
    published = refl;
    notes = refl;
  })

  -- with the same locks, what a step keeps is what a hold changes
  held_so : (old now : Me F (CellView S A R)) → KeepsPass old now → now.0.trie.locks ≡ old.0.trie.locks → now ≡ (having_held old.0 now.0, old.1)
  held_so old now keeps locks = λ i. (
    record now.0 {
      seats = keeps.seats i;
      epochs = keeps.epochs i;
      pools = record now.0.pools {
        nodes = keeps.nodes i;
        builds = keeps.builds i;
        unstored = keeps.unstored i;
        kills = (keeps.dead i).kills;
        gave_up = (keeps.dead i).gave_up;
        reclaims = (keeps.dead i).reclaims;
        cleared = (keeps.dead i).cleared;
        dated = (keeps.dead i).dated;
        unfreed = (keeps.dead i).unfreed;
      };
      trie = record now.0.trie { locks = locks i };
      turn = keeps.turn i;
    },
    keeps.rest i,
  )

  pub holds_on : (old now : Me F (CellView S A R)) → StaysOn old now → now.0.trie.locks ≡ old.0.trie.locks → HoldsOn old now
  holds_on old now stays locks = record { is = held_so old now stays.keeps locks; history = stays.history; sweeps = stays.keeps.sweeps; unpublished = stays.published; noted = stays.notes }

  keeps_held : (old now : Me F (CellView S A R)) → now ≡ (having_held old.0 now.0, old.1) → old.0.pools.sweeps ≤ now.0.pools.sweeps → KeepsPass old now
  keeps_held old now is sweeps = record {
    seats = ap (λ (y : Me F (CellView S A R)). y.0.seats) is;
    epochs = ap (λ (y : Me F (CellView S A R)). y.0.epochs) is;
    nodes = ap (λ (y : Me F (CellView S A R)). y.0.pools.nodes) is;
    builds = ap (λ (y : Me F (CellView S A R)). y.0.pools.builds) is;
    unstored = ap (λ (y : Me F (CellView S A R)). y.0.pools.unstored) is;
    dead = ap (λ (y : Me F (CellView S A R)). dead_hand y.0.pools) is;
    turn = ap (λ (y : Me F (CellView S A R)). y.0.turn) is;
    rest = ap (λ (y : Me F (CellView S A R)). y.1) is;
    sweeps = sweeps;
  }

  pub on_stays : (old now : Me F (CellView S A R)) → HoldsOn old now → StaysOn old now
  on_stays old now on = record { keeps = keeps_held old now on.is on.sweeps; history = on.history; published = on.unpublished; notes = on.noted }

  pub same_locks : (old now : Me F (CellView S A R)) → now ≡ (having_held old.0 now.0, old.1) → now.0.trie.locks ≡ old.0.trie.locks
  same_locks old now is = ap (λ (y : Me F (CellView S A R)). y.0.trie.locks) is

  pub on_after : (a b c : Me F (CellView S A R)) → HoldsOn a b → HoldsOn b c → HoldsOn a c
  on_after a b c ab bc = holds_on a c (stays_after a b c (on_stays a b ab) (on_stays b c bc)) (same_locks b c bc.is ∙ same_locks a b ab.is)

  -- what a step asks for still holds
  pub protected_after : (old now : Me F (CellView S A R)) → KeepsPass old now → IsProtected old.0.epochs.pin → IsProtected now.0.epochs.pin
  protected_after old now keeps is = subst (λ (e : EpochSide). IsProtected e.pin) (sym keeps.epochs) is

  pub at_after : (digest : Key → ℕ) (layout : Layout) (old now : Me F (CellView S A R)) (key : Key) (point : Point) →
      now.0.trie.stands ≡ old.0.trie.stands → IsAtPlace digest layout old.0 key point → IsAtPlace digest layout now.0 key point
  at_after digest layout old now key point same at = record {
    place = at.place;
    stands = path_stays digest old.0.trie now.0.trie key point.place same at.stands;
    level_is = level_stays old.0.trie now.0.trie point.place same ∙ at.level_is;
    within = at.within;
  }

module _ {S A R F : Type 0} (m : Meaning S A R) where
  pub may_after : (old now : Me F (CellView S A R)) (id : ConnId) (way : Way) → StaysOn old now → MayHoldSo m old.0 id way → MayHoldSo m now.0 id way
  may_after old now id way stays may = record {
    built = subst (λ builds. Contains builds id) (sym stays.keeps.builds) may.built;
    bare = subst (λ h. HoldsNone (state_of m h) id way) (sym stays.history) may.bare;
  }

  pub can_after : (layout : Layout) (old now : Me F (CellView S A R)) (id : ConnId) (way : Way) → StaysOn old now →
      now.0.trie.locks ≡ old.0.trie.locks → CanHold m layout old.0 id way → CanHold m layout now.0 id way
  can_after layout old now id way stays locks can = record {
    may = may_after old now id way stays can.may;
    exists = can.exists;
    stored = λ inside. can.stored (subst (λ slots. Contains slots id.slot) stays.keeps.unstored inside);
    nodes = stays.keeps.nodes ∙ can.nodes;
    unfreed = ap (λ (hand : DeadHand). hand.unfreed) stays.keeps.dead ∙ can.unfreed;
    locks = locks ∙ can.locks;
    turnless = stays.keeps.turn ∙ can.turnless;
  }

  -- the hold ended with this answer, Done or Taken
  pub record EndsHold (id : ConnId) (key : Key) (way : Way) (held : Held) (old now : Me F (CellView S A R)) : Type 0 where
    pub some : held ≢ Held.NoNode
    pub adds : AddsOwn (cell_pass old.0) now.0.seats.history (hold_entries (cell_pass old.0) id key way held)
    pub legal : IsPass m (cell_pass now.0)
    pub answered : now.0.trie.answered ≡ taken_ids held
    pub noted : now.0.pools.notes ≡ noted_after held id way old.0.pools.notes
    pub keeps : KeepsPass old now

  adds_after : (a b : Me F (CellView S A R)) (new : List (Entry S A R)) (id : ConnId) (key : Key) (way : Way) (held : Held) →
      StaysOn a b → AddsOwn (cell_pass b.0) new (hold_entries (cell_pass b.0) id key way held) →
      AddsOwn (cell_pass a.0) new (hold_entries (cell_pass a.0) id key way held)
  adds_after a b new id key way held stays added = adds_from (cell_pass b.0) (cell_pass a.0) new id key way held stays.history
      (ap (λ (s : SeatSide ℕ (Entry S A R)). s.number) stays.keeps.seats) (ap (λ (s : SeatSide ℕ (Entry S A R)). s.joined) stays.keeps.seats) added

  ends_after : (a b c : Me F (CellView S A R)) (id : ConnId) (key : Key) (way : Way) (held : Held) → StaysOn a b → EndsHold id key way held b c → EndsHold id key way held a c
  ends_after a b c id key way held stays ends = record {
    some = ends.some;
    adds = adds_after a b c.0.seats.history id key way held stays ends.adds;
    legal = ends.legal;
    answered = ends.answered;
    noted = ends.noted ∙ ap (noted_after held id way) stays.notes;
    keeps = keeps_after a b c stays.keeps ends.keeps;
  }

  ends_then : (a b c : Me F (CellView S A R)) (side : TrieSide) (id : ConnId) (key : Key) (way : Way) (held : Held) →
      EndsHold id key way held a b → c ≡ with_trie b side → side.answered ≡ b.0.trie.answered → EndsHold id key way held a c
  ends_then a b c side id key way held ends e same = subst (λ (y : Me F (CellView S A R)). EndsHold id key way held a y) (sym e) (record {
    some = ends.some;
    adds = ends.adds;
    legal = subst (λ (ids : List ConnId). IsPass m (record (cell_pass b.0) { answered = ids })) (sym same) ends.legal;
    answered = same ∙ ends.answered;
    noted = ends.noted;
    keeps = keeps_after a b (with_trie b side) ends.keeps (record {
      seats = refl;
      epochs = refl;
      nodes = refl;
      builds = refl;
      unstored = refl;
      dead = refl;
      turn = refl;
      rest = refl;
      sweeps = omega arith;
    });
  })

  answers_so : (layout : Layout) (old now : Me F (CellView S A R)) (id : ConnId) (key : Key) (way : Way) (held : Held) →
      EndsHold id key way held old now → now.0.trie.locks ≡ old.0.trie.locks → SettlesHold m layout id key way held old now
  answers_so layout old now id key way held ends locks = record {
    adds = ends.adds;
    legal = λ some. ends.legal;
    same = λ none. absurd (ends.some none);
    answered = ends.answered;
    is = held_so old now ends.keeps locks;
    sweeps = ends.keeps.sweeps;
    swept = λ none. absurd (ends.some none);
    met = λ none. absurd (ends.some none);
    unpublished = λ none. absurd (ends.some none);
    noted = ends.noted;
  }

  pub answers_after : (layout : Layout) (a b c : Me F (CellView S A R)) (id : ConnId) (key : Key) (way : Way) (held : Held) →
      HoldsOn a b → SettlesHold m layout id key way held b c → SettlesHold m layout id key way held a c
  answers_after layout a b c id key way held on ans =
      let stays = on_stays a b on in
      let before = on.sweeps in
      let then = ans.sweeps in
      record {
        adds = adds_after a b c.0.seats.history id key way held stays ans.adds;
        legal = ans.legal;
        same = λ none. ans.same none ∙ on.history;
        answered = ans.answered;
        is = held_so a c (keeps_after a b c stays.keeps (keeps_held b c ans.is ans.sweeps)) (same_locks b c ans.is ∙ same_locks a b on.is);
        sweeps = omega arith;
        swept = λ none one. let more = ans.swept none one in omega arith;
        met = ans.met;
        unpublished = λ none. ans.unpublished none ∙ on.unpublished;
        noted = ans.noted ∙ ap (noted_after held id way) on.noted;
      }

  module _ (digest : Key → ℕ) (layout : Layout) (wanted : Wanted) (point : Point) where
    -- what a step comes to, whatever the locks
    abbrev pub ComesTo : Step → Me F (CellView S A R) → Me F (CellView S A R) → Type 0
    ComesTo (Ends held) old now = EndsHold wanted.id wanted.key wanted.way held old now
    ComesTo (Leads node) old now = StaysOn old now × IsAtPlace digest layout now.0 wanted.key (next_point digest wanted point node)
    ComesTo Again old now = StaysOn old now × IsAtPlace digest layout now.0 wanted.key point
    ComesTo Anew old now = StaysOn old now

    pub comes_after : (step : Step) (a b c : Me F (CellView S A R)) → StaysOn a b → ComesTo step b c → ComesTo step a c
    comes_after (Ends held) a b c stays comes = ends_after a b c wanted.id wanted.key wanted.way held stays comes
    comes_after (Leads node) a b c stays comes = (stays_after a b c stays comes.0, comes.1)
    comes_after Again a b c stays comes = (stays_after a b c stays comes.0, comes.1)
    comes_after Anew a b c stays comes = stays_after a b c stays comes

    -- then it frees a lock, or loads words of keys
    pub comes_then : (step : Step) (a b c : Me F (CellView S A R)) (side : TrieSide) → ComesTo step a b → c ≡ with_trie b side →
        side.answered ≡ b.0.trie.answered → side.published ≡ b.0.trie.published → side.stands ≡ b.0.trie.stands → ComesTo step a c
    comes_then (Ends held) a b c side comes e answered published stands = ends_then a b c side wanted.id wanted.key wanted.way held comes e answered
    comes_then (Leads node) a b c side comes e answered published stands = (
      stays_after a b c comes.0 (stays_trie b c side e published),
      at_after digest layout b c wanted.key (next_point digest wanted point node) (ap (λ (y : Me F (CellView S A R)). y.0.trie.stands) e ∙ stands) comes.1,
    )
    comes_then Again a b c side comes e answered published stands =
        (stays_after a b c comes.0 (stays_trie b c side e published), at_after digest layout b c wanted.key point (ap (λ (y : Me F (CellView S A R)). y.0.trie.stands) e ∙ stands) comes.1)
    comes_then Anew a b c side comes e answered published stands = stays_after a b c comes (stays_trie b c side e published)

    -- with the same locks it is the step
    pub steps_so : (step : Step) (old now : Me F (CellView S A R)) → ComesTo step old now → now.0.trie.locks ≡ old.0.trie.locks → StepsSo m digest layout wanted point step old now
    steps_so (Ends held) old now comes locks = answers_so layout old now wanted.id wanted.key wanted.way held comes locks
    steps_so (Leads node) old now comes locks = (holds_on old now comes.0 locks, comes.1)
    steps_so Again old now comes locks = (holds_on old now comes.0 locks, comes.1)
    steps_so Anew old now comes locks = holds_on old now comes locks

    -- a step behind others that held nothing yet
    pub steps_after : (step : Step) (a b c : Me F (CellView S A R)) → HoldsOn a b → StepsSo m digest layout wanted point step b c → StepsSo m digest layout wanted point step a c
    steps_after (Ends held) a b c on so = answers_after layout a b c wanted.id wanted.key wanted.way held on so
    steps_after (Leads node) a b c on so = (on_after a b c on so.0, so.1)
    steps_after Again a b c on so = (on_after a b c on so.0, so.1)
    steps_after Anew a b c on so = on_after a b c on so

-- a hold begins at the root's place of the first digit
pub at_root : {S A R : Type 0} (digest : Key → ℕ) (layout : Layout) (v : CellView S A R) (key : Key) (hash digit : ℕ) → hash ≡ digest key → digit ≡ digit_of hash key 0 → digit < 64 →
    IsAtPlace digest layout v key (record { place = Places.Root digit; level = 0 })
at_root digest layout v key hash digit hashed is low = record { place = low; stands = is ∙ ap (λ h. digit_of h key 0) hashed; level_is = refl; within = omega arith }

-- and goes on at the node's place of the next
pub at_next : {S A R : Type 0} (digest : Key → ℕ) (layout : Layout) (v : CellView S A R) (key : Key) (level : ℕ) (next : Point) (node hash : ℕ) → hash ≡ digest key →
    next ≡ record { place = Places.Node node (digit_of hash key (level + 1)); level = level + 1 } →
    IsAtPlace digest layout v key (record { place = Places.Node node (digits_of digest key (level + 1)); level = level + 1 }) → IsAtPlace digest layout v key next
at_next digest layout v key level next node hash hashed is at =
    subst (λ (p : Point). IsAtPlace digest layout v key p) (sym (is ∙ ap (λ h. let p : Point = record { place = Places.Node node (digit_of h key (level + 1)); level = level + 1 } in p) hashed)) at
