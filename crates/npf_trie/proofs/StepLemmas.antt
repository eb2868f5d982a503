-- What the loads and the store of a hold come to.
use Rattle.std.proofs.Common.{◌≡◌, ◌≢◌, ℕ, ◌+◌, ◌≤◌, ◌<◌, Bool, true, false, Some, None, List, [], ◌∷◌, length, refl, sym, ap, ◌∙◌, subst, inl, inr, arith}
use Rattle.std.specs.List.{Contains}
use Rattle.atomic_table.specs.Table.{Me}
use Rattle.npf_types.specs.declared.key.{Key.Key, Way.Way}
use Rattle.npf_core.specs.{declared.{entry.Entry.Entry, found.Found.Found, held.Held.Held}, Machine.is_key, Meaning.Meaning}
use Rattle.npf_core.proofs.EqualityLemmas.{is_key-Decides}
use Rattle.npf_paths.specs.{declared.{cell.Cell.{Cell, TheVariants.{Empty, Leaf, Node, Mark}}, place.Lock.Lock}, Places.lock_of}
use Rattle.npf_paths.specs.declared.place.Place.TheVariants as Places
use Rattle.npf_cells_words.specs.{declared.layout.Layout.Layout, Layout.note_field}
use Rattle.npf_cells_rule.specs.{declared.view.CellView.CellView, Views.{dead_hand, with_trie}, Passes.{IsProtected, cell_pass}}
use Rattle.npf_cells_leaves.specs.{Sights.SeesLocked, declared.trie.{LoadedLeaf.LoadedLeaf, PathPlace.PathPlace}, Trie.digits_of}
use Rattle.npf_cells_holds.specs.{HoldKinds.{HoldsAt, meeting}, LookKinds.{IsLeafOf, level_of, level_at}, PublishKinds.{HasHeld, nodes_but, published_for}}
use Rattle.npf_connections.specs.{Adding.AddsOwn, Entries.hold_entries}
use Rattle.npf_cells_lives.specs.Notes.{with_ahead}
use Rattle.npf_trie.{proofs.StoreLemmas.{noting, notes_once}, specs.declared.step.{LeafKey.{LeafKey, TheVariants.{Holder, Other}}, Point.Point, Step.Step}}
use Rattle.npf_trie.specs.{declared.step.{Step.TheVariants.{Ends, Leads, Again, Anew}, Wanted.Wanted}, HoldKey.{CanHold, IsAtPlace, StepsSo, TellsMet, HasMet}}
use Rattle.npf_trie.specs.LookUp.{ComparesWords}
use Rattle.npf_trie.proofs.HoldLemmas.{ComesTo, comes_then, steps_so, steps_after, holds_on, can_after, protected_after, StaysOn, stays_trie, at_after, next_point}

-- digits below the root's are below 16
deep_digit : (digest : Key → ℕ) (key : Key) (level : ℕ) → 1 ≤ level → digits_of digest key level < 16
deep_digit digest key level h = grind arith

-- keys that aren't the same fail the test
keys_apart : (a b : Key) → a ≢ b → is_key a b ≡ false
keys_apart a b apart = by_test (is_key a b) refl
  where
    by_test : (t : Bool) → is_key a b ≡ t → t ≡ false
    by_test true e = absurd (apart ((is_key-Decides a b).0 e))
    by_test false e = refl

module _ {S A R F : Type 0} where
  -- after a load that found a leaf, or none, whatever was seen
  pub compares_kept : (a b : Me F (CellView S A R)) (most : ℕ) → ComparesWords most a b → StaysOn a b
  compares_kept a b most compares = stays_trie a b _ compares.is refl

  module _ (m : Meaning S A R) (digest : Key → ℕ) (layout : Layout) (wanted : Wanted) (point : Point) where
    -- a load of the place, for the key that is wanted
    abbrev pub Loads : Cell → Me F (CellView S A R) → Me F (CellView S A R) → Type 0
    Loads cell a b = HoldsAt m digest layout wanted.id wanted.key wanted.way point.place cell a b

    -- a step's outcome, with the same locks and marks
    pub record Comes (step : Step) (a b : Me F (CellView S A R)) : Type 0 where
      pub comes : ComesTo m digest layout wanted point step a b
      pub locks : b.0.trie.locks ≡ a.0.trie.locks
      pub marks : b.0.trie.marks ≡ a.0.trie.marks

    -- a node leads on
    pub node_leads : (node : ℕ) (a b : Me F (CellView S A R)) → Loads (Node node) a b → IsAtPlace digest layout a.0 wanted.key point → Comes (Leads node) a b
    node_leads node a b loads at =
        let led = loads.leads node refl in
        let low : point.level + 1 < 95 = let l = led.0 in let e = at.level_is in omega arith in
        let stands : b.0.trie.stands ≡ Some (record { key = wanted.key; level = point.level + 1; place = (next_point digest wanted point node).place }) =
        ap (λ (y : Me F (CellView S A R)). y.0.trie.stands) led.1
        ∙ ap (λ (l : ℕ). Some (let there : PathPlace = record { key = wanted.key; level = l + 1; place = Places.Node node (digits_of digest wanted.key (l + 1)) } in there)) at.level_is in
        record {
          comes = (
            stays_trie a b _ led.1 refl,
            record {
              place = (loads.fits, deep_digit digest wanted.key (point.level + 1) (omega arith));
              stands = (point.level + 1, stands);
              level_is = ap level_of stands;
              within = low;
            },
          );
          locks = ap (λ (y : Me F (CellView S A R)). y.0.trie.locks) led.1;
          marks = ap (λ (y : Me F (CellView S A R)). y.0.trie.marks) led.1;
        }

    -- where nothing stands the pass is where it was
    pub empty_stays : (a b : Me F (CellView S A R)) → Loads Empty a b → IsAtPlace digest layout a.0 wanted.key point → Comes Again a b
    empty_stays a b loads at = let e = loads.nothing (inl refl) in record {
      comes = (stays_trie a b _ e refl, at_after digest layout a b wanted.key point (ap (λ (y : Me F (CellView S A R)). y.0.trie.stands) e) at);
      locks = ap (λ (y : Me F (CellView S A R)). y.0.trie.locks) e;
      marks = ap (λ (y : Me F (CellView S A R)). y.0.trie.marks) e;
    }

    -- where a mark stands the path is walked anew
    pub mark_anew : (a b : Me F (CellView S A R)) → Loads Mark a b → Comes Anew a b
    mark_anew a b loads = let e = loads.nothing (inr refl) in record {
      comes = stays_trie a b _ e refl;
      locks = ap (λ (y : Me F (CellView S A R)). y.0.trie.locks) e;
      marks = ap (λ (y : Me F (CellView S A R)). y.0.trie.marks) e;
    }

    -- and under the lock it saw that nothing stands there
    pub sees_empty : (a b : Me F (CellView S A R)) (rest : List Lock) → Loads Empty a b → a.0.trie.locks ≡ lock_of point.place ∷ rest → SeesLocked b.0.trie point.place Empty
    sees_empty a b rest loads locked = record {
      locked = subst (λ locks. Contains locks (lock_of point.place)) (sym (ap (λ (y : Me F (CellView S A R)). y.0.trie.locks) (loads.nothing (inl refl)) ∙ locked)) (0, omega arith, refl);
      saw = record { key = wanted.key; level = level_at a.0.trie point.place; place = point.place; cell = Empty };
      seen = ap (λ (y : Me F (CellView S A R)). y.0.trie.seen) (loads.nothing (inl refl));
      there = refl;
      was = refl;
    }

    module _ (slot : ℕ) (leaf_way : Way) (a b : Me F (CellView S A R)) (loads : Loads (Leaf slot leaf_way) a b) where
      abbrev pub met_leaf : LoadedLeaf
      met_leaf = (loads.meets slot leaf_way refl).leaf

      leaf_known : b.0.trie.leaf ≡ Some met_leaf
      leaf_known = by_test (is_key met_leaf.key wanted.key) refl
        where
          by_test : (t : Bool) → is_key met_leaf.key wanted.key ≡ t → b.0.trie.leaf ≡ Some met_leaf
          by_test true e = ap (λ (y : Me F (CellView S A R)). y.0.trie.leaf) ((loads.meets slot leaf_way refl).same e).is
          by_test false e = ap (λ (y : Me F (CellView S A R)). y.0.trie.leaf) ((loads.meets slot leaf_way refl).other e)

      -- the pass can load the words of the leaf's key
      pub leaf_loaded : IsLeafOf b.0.trie slot leaf_way
      leaf_loaded = (met_leaf, leaf_known, (loads.meets slot leaf_way refl).is_leaf.slot_is, (loads.meets slot leaf_way refl).is_leaf.way_is)

      -- what it is told of it
      abbrev pub Told : LeafKey → Type 0
      Told met = (leaf : LoadedLeaf) → b.0.trie.leaf ≡ Some leaf → length leaf.key.0 ≡ 5 → TellsMet leaf wanted.key met

      told_of : (met : LeafKey) → Told met → TellsMet met_leaf wanted.key met
      told_of met told = told met_leaf leaf_known (loads.meets slot leaf_way refl).is_leaf.five

      -- the key's holder ends the hold
      holder_ends : (found : Found) → Told (Holder found) → Comes (Ends (Held.Taken found)) a b
      holder_ends found told =
          let tells = told_of (Holder found) told in
          let has = (loads.meets slot leaf_way refl).same ((is_key-Decides met_leaf.key wanted.key).1 tells.0) in
          subst (λ f. Comes (Ends (Held.Taken f)) a b) (sym tells.1) (record {
            comes = record {
              some = λ e. cc;
              adds = has.adds;
              legal = has.legal;
              answered = ap (λ (y : Me F (CellView S A R)). y.0.trie.answered) has.is;
              noted = ap (λ (y : Me F (CellView S A R)). y.0.pools.notes) has.is;
              keeps = record {
                seats = ap (λ (y : Me F (CellView S A R)). y.0.seats) has.is;
                epochs = ap (λ (y : Me F (CellView S A R)). y.0.epochs) has.is;
                nodes = ap (λ (y : Me F (CellView S A R)). y.0.pools.nodes) has.is;
                builds = ap (λ (y : Me F (CellView S A R)). y.0.pools.builds) has.is;
                unstored = ap (λ (y : Me F (CellView S A R)). y.0.pools.unstored) has.is;
                dead = ap (λ (y : Me F (CellView S A R)). dead_hand y.0.pools) has.is;
                turn = ap (λ (y : Me F (CellView S A R)). y.0.turn) has.is;
                rest = ap (λ (y : Me F (CellView S A R)). y.1) has.is;
                sweeps = let e : b.0.pools.sweeps ≡ a.0.pools.sweeps = ap (λ (y : Me F (CellView S A R)). y.0.pools.sweeps) has.is in omega arith;
              };
            };
            locks = ap (λ (y : Me F (CellView S A R)). y.0.trie.locks) has.is;
            marks = ap (λ (y : Me F (CellView S A R)). y.0.trie.marks) has.is;
          })

      met_now : (other : Key) → Told (Other other) → b ≡ with_trie a (meeting wanted.key point.place (Leaf slot leaf_way) (level_at a.0.trie point.place) met_leaf a.0.trie)
      met_now other told = (loads.meets slot leaf_way refl).other (keys_apart met_leaf.key wanted.key (told_of (Other other) told).0)

      -- at the leaf of another key the pass is where it was
      other_stays : (other : Key) → Told (Other other) → IsAtPlace digest layout a.0 wanted.key point → Comes Again a b
      other_stays other told at = let e = met_now other told in record {
        comes = (stays_trie a b _ e refl, at_after digest layout a b wanted.key point (ap (λ (y : Me F (CellView S A R)). y.0.trie.stands) e) at);
        locks = ap (λ (y : Me F (CellView S A R)). y.0.trie.locks) e;
        marks = ap (λ (y : Me F (CellView S A R)). y.0.trie.marks) e;
      }

      -- and then words of the leaf's key were loaded
      module _ (c : Me F (CellView S A R)) (compares : ComparesWords 5 b c) where
        read_then : (step : Step) → Comes step a b → Comes step a c
        read_then step came = record {
          comes = comes_then m digest layout wanted point step a b c _ came.comes compares.is refl refl refl;
          locks = ap (λ (y : Me F (CellView S A R)). y.0.trie.locks) compares.is ∙ came.locks;
          marks = ap (λ (y : Me F (CellView S A R)). y.0.trie.marks) compares.is ∙ came.marks;
        }

        pub holder_read_ends : (found : Found) → Told (Holder found) → Comes (Ends (Held.Taken found)) a c
        holder_read_ends found told = read_then (Ends (Held.Taken found)) (holder_ends found told)

        pub other_read_stays : (other : Key) → Told (Other other) → IsAtPlace digest layout a.0 wanted.key point → Comes Again a c
        other_read_stays other told at = read_then Again (other_stays other told at)

        -- the pass has met the leaf
        pub other_met : (other : Key) → Told (Other other) → IsAtPlace digest layout a.0 wanted.key point → HasMet c.0.trie wanted.key point.level (record { slot = slot; way = leaf_way; key = other })
        other_met other told at =
            let tells = told_of (Other other) told in
            let met : b.0.trie.meets ≡ _ = ap (λ (y : Me F (CellView S A R)). y.0.trie.meets) (met_now other told) in
            record {
              leaf = met_leaf;
              known = ap (λ (y : Me F (CellView S A R)). y.0.trie.leaf) compares.is ∙ leaf_known;
              slot_is = (loads.meets slot leaf_way refl).is_leaf.slot_is;
              way_is = (loads.meets slot leaf_way refl).is_leaf.way_is;
              key_is = sym tells.1;
              apart = λ e. tells.0 (sym tells.1 ∙ e);
              meets = ap (λ (y : Me F (CellView S A R)). y.0.trie.meets) compares.is ∙ (met ∙ λ i. Some (record { key = wanted.key; other = sym tells.1 i; level = at.level_is i }));
              unanswered = ap (λ (y : Me F (CellView S A R)). y.0.trie.answered) compares.is ∙ ap (λ (y : Me F (CellView S A R)). y.0.trie.answered) (met_now other told);
            }

    -- its note is stored, and the store of the leaf is then the hold
    pub published_ends : (cell : Cell) (value : ℕ) (a n b : Me F (CellView S A R)) → n ≡ noting wanted.id.slot wanted.way value a →
        HasHeld m digest layout wanted.id wanted.key wanted.way point.place cell n b → a.0.pools.nodes ≡ [] → a.0.turn ≡ None →
        Comes (Ends Held.Done) a b
    published_ends cell value a n b noted held none turnless =
        let history : List (Entry S A R) = b.0.seats.history in
        let gone : List ℕ = held.nodes in
        let is = held.is ∙ ap (λ (y : Me F (CellView S A R)). (published_for y.0 history wanted.id wanted.way gone, y.1)) noted in
        record {
          comes = record {
            some = λ e. cc;
            adds = subst (λ (y : Me F (CellView S A R)). AddsOwn (cell_pass y.0) history (hold_entries (cell_pass y.0) wanted.id wanted.key wanted.way Held.Done)) noted held.adds;
            legal = held.legal;
            answered = ap (λ (y : Me F (CellView S A R)). y.0.trie.answered) is;
            noted = ap (λ (y : Me F (CellView S A R)). y.0.pools.notes) is ∙ notes_once wanted.id.slot (note_field wanted.way) value a.0.pools.notes;
            keeps = record {
              seats = ap (λ (y : Me F (CellView S A R)). y.0.seats) is;
              epochs = ap (λ (y : Me F (CellView S A R)). y.0.epochs) is;
              nodes = ap (λ (y : Me F (CellView S A R)). y.0.pools.nodes) is ∙ (ap (nodes_but gone) none ∙ sym none);
              builds = ap (λ (y : Me F (CellView S A R)). y.0.pools.builds) is;
              unstored = ap (λ (y : Me F (CellView S A R)). y.0.pools.unstored) is;
              dead = ap (λ (y : Me F (CellView S A R)). dead_hand y.0.pools) is;
              turn = ap (λ (y : Me F (CellView S A R)). y.0.turn) is ∙ (ap (with_ahead None) turnless ∙ sym turnless);
              rest = ap (λ (y : Me F (CellView S A R)). y.1) is;
              sweeps = let e : b.0.pools.sweeps ≡ a.0.pools.sweeps = ap (λ (y : Me F (CellView S A R)). y.0.pools.sweeps) is in omega arith;
            };
          };
          locks = ap (λ (y : Me F (CellView S A R)). y.0.trie.locks) is;
          marks = ap (λ (y : Me F (CellView S A R)). y.0.trie.marks) is;
        }

    -- the outcome is the step's, alone or behind it
    pub stepped : (step : Step) (a b : Me F (CellView S A R)) → Comes step a b → StepsSo m digest layout wanted point step a b
    stepped step a b came = steps_so m digest layout wanted point step a b came.comes came.locks

    pub stepped_after : (step : Step) (a b c : Me F (CellView S A R)) → Comes Again a b → StepsSo m digest layout wanted point step b c → StepsSo m digest layout wanted point step a c
    stepped_after step a b c came so = steps_after m digest layout wanted point step a b c (holds_on a b came.comes.0 came.locks) so

    pub can_still : (a b : Me F (CellView S A R)) → Comes Again a b → CanHold m layout a.0 wanted.id wanted.way → CanHold m layout b.0 wanted.id wanted.way
    can_still a b came can = can_after m layout a b wanted.id wanted.way came.comes.0 came.locks can

    pub protected_still : (a b : Me F (CellView S A R)) → Comes Again a b → IsProtected a.0.epochs.pin → IsProtected b.0.epochs.pin
    protected_still a b came is = protected_after a b came.comes.0.keeps is
