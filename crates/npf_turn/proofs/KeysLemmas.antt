-- All keys of a killed connection are given up, one way after the other.
use Rattle.std.specs.List.{Contains, filter}
use Rattle.std.proofs.Common.{◌≡◌, ◌≢◌, ◌≤◌, ◌↔◌, Bool, true, false, cond, eqb, eq-eqb, IsTrue, None, List, [], ◌∷◌, ◌++◌, refl, sym, ap, ◌∙◌, subst, ⊎_elim, append-nil, arith}
use Rattle.std.proofs.lemmas.List.{same_from_push, Elements.{Contains-append_left, Contains-append_right, Contains-push}}
use Rattle.atomic_table.specs.Table.{Me}
use Rattle.npf_types.specs.declared.key.{Key.Key, Way.{Way, TheVariants.{Forward, Backward, Port}}}
use Rattle.npf_core.specs.declared.{act.Act.TheVariants.Unhold, conn_id.ConnId.ConnId, entry.Entry.Entry, found.Found.Found, reply.Reply.TheVariants.Nothing}
use Rattle.npf_core.specs.{History.state_of, declared.stage.Stage.TheVariants.Dead, Machine.{Machine, stage_of, Holds, HoldsNone, HoldsSome}, Meaning.Meaning}
use Rattle.npf_core.proofs.{HistoryLemmas.state_of-append, HolderLemmas.given_up_gone}
use Rattle.npf_connections.{specs.{Adding.{AddsOwn, EndsWith}, Entries.entry_of, Pass.{Pass, IsPass}, Ways.HoldsThese}, proofs.AddLemmas.adds_more}
use Rattle.npf_seats.proofs.PrefixLemmas.{cons_cases, none_listed}
use Rattle.npf_cells_pins.specs.declared.pin.EpochSide.{EpochSide}
use Rattle.npf_cells_lives.specs.{Deaths.ids_elsewhere, Turns.Running}
use Rattle.npf_cells_rule.specs.{declared.view.CellView.CellView, Passes.cell_pass}
use Rattle.npf_turn.specs.{Endings.{HasEndedKey, HasEndedKeys, key_ended, seen_with, unhold_entries, HasNoKills, hands}, Done.HasLetGo}

-- what two calls add, of which the second adds one entry or none, and then leaves the history
one_or_none : {E : Type 0} (first : List E) (entry : E) (gave : Bool) (middle last : List E) → EndsWith middle first →
    EndsWith last (cond gave (entry ∷ []) []) → (gave ≡ false → last ≡ middle) → EndsWith last (first ++ cond gave (entry ∷ []) [])
one_or_none first entry true middle last ends more same init e is =
    let here = more [] entry refl in
    let one = (same_from_push first init entry e is).1 in
    (here.0, here.1 ∙ ap (λ x. here.0 ++ x ∷ []) one)
one_or_none first entry false middle last ends more same init e is =
    let here = ends init e (sym (append-nil first) ∙ is) in
    (here.0, same refl ∙ here.1)

module _ {S A R : Type 0} (m : Meaning S A R) (id : ConnId) where
  abbrev unhold : Pass (Entry S A R) → Way → Entry S A R
  unhold pass way = entry_of pass (Unhold id way) Nothing

  -- what one call tells, whether it gave a key up or not
  pub record Ends (way : Way) (gave : Bool) (old now : Me (Running S) (CellView S A R)) : Type 0 where
    pub adds : AddsOwn (cell_pass old.0) now.0.seats.history (cond gave (unhold (cell_pass old.0) way ∷ []) [])
    pub some : HoldsSome (state_of m old.0.seats.history) id way ↔ IsTrue gave
    pub dead : stage_of (state_of m now.0.seats.history) id ≡ Dead
    pub none : HoldsNone (state_of m now.0.seats.history) id way
    pub others : (other : Way) (key : Key) → other ≢ way → Holds (state_of m old.0.seats.history) id other key ↔ Holds (state_of m now.0.seats.history) id other key
    pub legal : IsPass m (cell_pass old.0) → IsPass m (cell_pass now.0)
    pub same : gave ≡ false → now.0.seats.history ≡ old.0.seats.history
    pub is : now ≡ (seen_with (key_ended gave id way old.0) now.0.seats.history now.0.epochs, [])
    pub pin : now.0.epochs.pin ≡ old.0.epochs.pin
    pub raises : now.0.epochs.raises ≡ old.0.epochs.raises
    pub greatest : old.0.epochs.greatest ≤ now.0.epochs.greatest
    pub known : old.0.epochs.known ≤ now.0.epochs.known

  ends_so : (way : Way) (gave : Bool) (old now : Me (Running S) (CellView S A R)) → HasEndedKey m id way gave old now → Ends way gave old now
  ends_so way true old now so = record {
    adds = so.adds;
    some = (λ h. refl, λ h. so.held);
    dead = so.dead;
    none = λ key held. (
        let before = so.adds.ends [] (unhold (cell_pass old.0) way) refl in
        let after' = ap (λ h. (state_of m h).holder key) before.1 ∙ ap (λ (k : Machine S). k.holder key) (state_of-append m before.0 (unhold (cell_pass old.0) way)) in
        given_up_gone ((state_of m before.0).holder key) (record { id = id; way = way }) (sym after' ∙ held));
    others = so.others;
    legal = so.legal;
    same = λ no'. absurd cc;
    is = so.is;
    pin = so.epochs.pin;
    raises = so.epochs.raises;
    greatest = so.epochs.greatest;
    known = so.epochs.known;
  }
  ends_so way false old now so = record {
    adds = record {
      adds = record { rest = []; goes_on = history ∙ sym (append-nil old.0.seats.history); own = refl; listed = λ n c. refl };
      ends = λ init last e. absurd (nothing init last e);
    };
    some = (λ h. absurd (so.none h.0 h.1), λ h. absurd (let no' : false ≡ true = h in cc));
    dead = ap (λ h. stage_of (state_of m h) id) history ∙ so.dead;
    none = λ key held. so.none key (subst (λ h. Holds (state_of m h) id way key) history held);
    others = λ other key ne. (subst (λ h. Holds (state_of m h) id other key) (sym history), subst (λ h. Holds (state_of m h) id other key) history);
    legal = λ pass. subst (λ (y : Me (Running S) (CellView S A R)). IsPass m (cell_pass y.0)) (sym so.is) pass;
    same = λ _. history;
    is = so.is ∙ (λ i. (seen_with (record old.0 { turn = None }) (sym history i) (sym epochs i), []));
    pin = ap (λ (side : EpochSide). side.pin) epochs;
    raises = ap (λ (side : EpochSide). side.raises) epochs;
    greatest = (let rose = ap (λ (side : EpochSide). side.greatest) epochs in omega (arith, rose));
    known = (let rose = ap (λ (side : EpochSide). side.known) epochs in omega (arith, rose));
  }
    where
      history : now.0.seats.history ≡ old.0.seats.history
      history = ap (λ (y : Me (Running S) (CellView S A R)). y.0.seats.history) so.is

      epochs : now.0.epochs ≡ old.0.epochs
      epochs = ap (λ (y : Me (Running S) (CellView S A R)). y.0.epochs) so.is

      nothing : (init : List (Entry S A R)) (last : Entry S A R) → [] ≡ init ++ last ∷ [] → ⊥
      nothing [] last e = absurd cc
      nothing (x ∷ init) last e = absurd cc

  -- the pass after it has no lock and no turn, has the same kills, and gave up that key alone
  pub record Goes (way : Way) (old now : Me (Running S) (CellView S A R)) : Type 0 where
    pub turnless : now.0.turn ≡ None
    pub unlocked : now.0.trie.locks ≡ []
    pub pin : now.0.epochs.pin ≡ old.0.epochs.pin
    pub kills : now.0.pools.kills ≡ old.0.pools.kills
    pub gave : (found : Found) → Contains now.0.pools.gave_up found → found ≢ (record { id = id; way = way }) → Contains old.0.pools.gave_up found

  pub goes : (way : Way) (result : Bool) (old now : Me (Running S) (CellView S A R)) → HasEndedKey m id way result old now → old.0.trie.locks ≡ [] → Goes way old now
  goes way true old now so unlocked = record {
    turnless = ap (λ (y : Me (Running S) (CellView S A R)). y.0.turn) so.is;
    unlocked = ap (λ (y : Me (Running S) (CellView S A R)). y.0.trie.locks) so.is;
    pin = so.epochs.pin;
    kills = ap (λ (y : Me (Running S) (CellView S A R)). y.0.pools.kills) so.is;
    gave = λ found c ne. ⊎_elim
        (λ (same : record { id = id; way = way } ≡ found). absurd (ne (sym same)))
        (λ (c' : Contains old.0.pools.gave_up found). c')
        (cons_cases (record { id = id; way = way }) found old.0.pools.gave_up (subst (λ (y : Me (Running S) (CellView S A R)). Contains y.0.pools.gave_up found) so.is c));
  }
  goes way false old now so unlocked = record {
    turnless = ap (λ (y : Me (Running S) (CellView S A R)). y.0.turn) so.is;
    unlocked = ap (λ (y : Me (Running S) (CellView S A R)). y.0.trie.locks) so.is ∙ unlocked;
    pin = ap (λ (y : Me (Running S) (CellView S A R)). y.0.epochs.pin) so.is;
    kills = ap (λ (y : Me (Running S) (CellView S A R)). y.0.pools.kills) so.is;
    gave = λ found c ne. subst (λ (y : Me (Running S) (CellView S A R)). Contains y.0.pools.gave_up found) so.is c;
  }

  -- what is seen and known between is overwritten
  seen_on : (gave : Bool) (way : Way) (v : CellView S A R) (h h' : List (Entry S A R)) (e e' : EpochSide) →
      seen_with (key_ended gave id way (seen_with v h e)) h' e' ≡ seen_with (key_ended gave id way v) h' e'
  seen_on true way v h h' e e' = refl
  seen_on false way v h h' e e' = refl

  number_on : (gave : Bool) (way : Way) (v : CellView S A R) (h : List (Entry S A R)) (e : EpochSide) → (seen_with (key_ended gave id way v) h e).seats.number ≡ v.seats.number
  number_on true way v h e = refl
  number_on false way v h e = refl

  joined_on : (gave : Bool) (way : Way) (v : CellView S A R) (h : List (Entry S A R)) (e : EpochSide) → (seen_with (key_ended gave id way v) h e).seats.joined ≡ v.seats.joined
  joined_on true way v h e = refl
  joined_on false way v h e = refl

  -- which ways had a key, and their entries
  abbrev had : Bool → Bool → Bool → Way → Bool
  had one two three Forward = one
  had one two three Backward = two
  had one two three Port = three

  in_turn : (pass : Pass (Entry S A R)) (one two three : Bool) → (cond one (unhold pass Forward ∷ []) [] ++ cond two (unhold pass Backward ∷ []) []) ++
      cond three (unhold pass Port ∷ []) [] ≡ unhold_entries pass id (had one two three)
  in_turn pass true true true = refl
  in_turn pass true true false = refl
  in_turn pass true false true = refl
  in_turn pass true false false = refl
  in_turn pass false true true = refl
  in_turn pass false true false = refl
  in_turn pass false false true = refl
  in_turn pass false false false = refl

  module _ (one two three : Bool) (old first second now : Me (Running S) (CellView S A R)) (a' : HasEndedKey m id Forward one old first)
      (b' : HasEndedKey m id Backward two first second) (c' : HasEndedKey m id Port three second now) where
    a : Ends Forward one old first
    a = ends_so Forward one old first a'

    b : Ends Backward two first second
    b = ends_so Backward two first second b'

    c : Ends Port three second now
    c = ends_so Port three second now c'

    view_first : first.0 ≡ seen_with (key_ended one id Forward old.0) first.0.seats.history first.0.epochs
    view_first = ap (λ (y : Me (Running S) (CellView S A R)). y.0) a.is

    view_b : second.0 ≡ seen_with (key_ended two id Backward first.0) second.0.seats.history second.0.epochs
    view_b = ap (λ (y : Me (Running S) (CellView S A R)). y.0) b.is

    view_second : second.0 ≡ seen_with (key_ended two id Backward (key_ended one id Forward old.0)) second.0.seats.history second.0.epochs
    view_second = view_b ∙ (ap (λ v. seen_with (key_ended two id Backward v) second.0.seats.history second.0.epochs) view_first
        ∙ seen_on two Backward (key_ended one id Forward old.0) first.0.seats.history second.0.seats.history first.0.epochs second.0.epochs)

    number_first : first.0.seats.number ≡ old.0.seats.number
    number_first = ap (λ (v : CellView S A R). v.seats.number) view_first ∙ number_on one Forward old.0 first.0.seats.history first.0.epochs

    joined_first : first.0.seats.joined ≡ old.0.seats.joined
    joined_first = ap (λ (v : CellView S A R). v.seats.joined) view_first ∙ joined_on one Forward old.0 first.0.seats.history first.0.epochs

    number_second : second.0.seats.number ≡ old.0.seats.number
    number_second = ap (λ (v : CellView S A R). v.seats.number) view_b ∙ (number_on two Backward first.0 second.0.seats.history second.0.epochs ∙ number_first)

    joined_second : second.0.seats.joined ≡ old.0.seats.joined
    joined_second = ap (λ (v : CellView S A R). v.seats.joined) view_b ∙ (joined_on two Backward first.0 second.0.seats.history second.0.epochs ∙ joined_first)

    adds_two : AddsOwn (cell_pass old.0) second.0.seats.history (cond one (unhold (cell_pass old.0) Forward ∷ []) [] ++ cond two (unhold (cell_pass old.0) Backward ∷ []) [])
    adds_two =
        let more = subst (λ n. AddsOwn (cell_pass first.0) second.0.seats.history (cond two ((record { seat = n; act = Unhold id Backward; reply = Nothing }) ∷ []) [])) number_first b.adds in
        record {
          adds = adds_more (cell_pass old.0) (cell_pass first.0) second.0.seats.history (cond one (unhold (cell_pass old.0) Forward ∷ []) [])
              (cond two (unhold (cell_pass old.0) Backward ∷ []) []) number_first joined_first a.adds.adds more.adds;
          ends = one_or_none (cond one (unhold (cell_pass old.0) Forward ∷ []) []) (unhold (cell_pass old.0) Backward) two first.0.seats.history second.0.seats.history a.adds.ends more.ends b.same;
        }

    adds_all : AddsOwn (cell_pass old.0) now.0.seats.history (unhold_entries (cell_pass old.0) id (had one two three))
    adds_all = subst (AddsOwn (cell_pass old.0) now.0.seats.history) (in_turn (cell_pass old.0) one two three)
        (let more = subst (λ n. AddsOwn (cell_pass second.0) now.0.seats.history (cond three ((record { seat = n; act = Unhold id Port; reply = Nothing }) ∷ []) [])) number_second c.adds in
        record {
          adds = adds_more (cell_pass old.0) (cell_pass second.0) now.0.seats.history _ (cond three (unhold (cell_pass old.0) Port ∷ []) []) number_second joined_second adds_two.adds more.adds;
          ends = one_or_none _ (unhold (cell_pass old.0) Port) three second.0.seats.history now.0.seats.history adds_two.ends more.ends c.same;
        })

    holds : HoldsThese (state_of m old.0.seats.history) id (had one two three)
    holds Forward = a.some
    holds Backward = (
      λ h. b.some.0 (h.0, (a.others Backward h.0 (λ e. absurd cc)).0 h.1),
      λ yes. let h = b.some.1 yes in (h.0, (a.others Backward h.0 (λ e. absurd cc)).1 h.1),
    )
    holds Port = (
      λ h. c.some.0 (h.0, (b.others Port h.0 (λ e. absurd cc)).0 ((a.others Port h.0 (λ e. absurd cc)).0 h.1)),
      λ yes. let h = c.some.1 yes in (h.0, (a.others Port h.0 (λ e. absurd cc)).1 ((b.others Port h.0 (λ e. absurd cc)).1 h.1)),
    )

    keyless : (way : Way) → HoldsNone (state_of m now.0.seats.history) id way
    keyless Forward = λ key held. a.none key ((b.others Forward key (λ e. absurd cc)).1 ((c.others Forward key (λ e. absurd cc)).1 held))
    keyless Backward = λ key held. b.none key ((c.others Backward key (λ e. absurd cc)).1 held)
    keyless Port = c.none

    pub ended_keys : HasEndedKeys m id old now
    ended_keys = record {
      held = had one two three;
      holds = holds;
      adds = adds_all;
      legal = λ pass. c.legal (b.legal (a.legal pass));
      bare = record { dead = c.dead; keyless = keyless };
      is = c.is ∙ ap (λ v. (v, [])) (ap (λ v. seen_with (key_ended three id Port v) now.0.seats.history now.0.epochs) view_second
          ∙ seen_on three Port (key_ended two id Backward (key_ended one id Forward old.0)) second.0.seats.history now.0.seats.history second.0.epochs now.0.epochs);
      pin = c.pin ∙ (b.pin ∙ a.pin);
      raises = c.raises ∙ (b.raises ∙ a.raises);
      greatest = (let x = a.greatest in let y = b.greatest in let z = c.greatest in omega (arith, x, y, z));
      known = (let x = a.known in let y = b.known in let z = c.known in omega (arith, x, y, z));
    }

-- nothing is left where each is left out
left_out : {X : Type 0} (keep : X → Bool) (xs : List X) → ((x : X) → Contains xs x → keep x ≡ false) → filter keep xs ≡ []
left_out keep [] none = refl
left_out keep (x ∷ xs) none = ap (λ b. cond b (x ∷ filter keep xs) (filter keep xs)) (none x (Contains-append_left (x ∷ []) xs x (Contains-push [] x)))
    ∙ left_out keep xs (λ y c. none y (Contains-append_right (x ∷ []) xs y c))

module _ {S A R : Type 0} (id : ConnId) where
  -- what keys were given up is of this connection, where none were before
  kills_still : (gave : Bool) (way : Way) (v : CellView S A R) → (key_ended gave id way v).pools.kills ≡ v.pools.kills
  kills_still true way v = refl
  kills_still false way v = refl

  -- and what else the pass has stays
  turn_after : (gave : Bool) (way : Way) (v : CellView S A R) → (key_ended gave id way v).turn ≡ None
  turn_after true way v = refl
  turn_after false way v = refl

  locks_after : (gave : Bool) (way : Way) (v : CellView S A R) → v.trie.locks ≡ [] → (key_ended gave id way v).trie.locks ≡ []
  locks_after true way v none = refl
  locks_after false way v none = none

  hands_after : (gave : Bool) (way : Way) (v : CellView S A R) → v.turn ≡ None → v.trie.locks ≡ [] → hands (key_ended gave id way v) ≡ hands v
  hands_after true way v turnless none = λ i. record (hands v) { locks = sym none i; turn = sym turnless i }
  hands_after false way v turnless none = λ i. record (hands v) { turn = sym turnless i }

  pin_after : (gave : Bool) (way : Way) (v : CellView S A R) → (key_ended gave id way v).epochs.pin ≡ v.epochs.pin
  pin_after true way v = refl
  pin_after false way v = refl

  of_it : (gave : Bool) (way : Way) (v : CellView S A R) → ((g : Found) → Contains v.pools.gave_up g → g.id ≡ id) → (g : Found) → Contains (key_ended gave id way v).pools.gave_up g → g.id ≡ id
  of_it true way v mine g c = ⊎_elim
      (λ (same : record { id = id; way = way } ≡ g). ap (λ (f : Found). f.id) (sym same))
      (λ (c' : Contains v.pools.gave_up g). mine g c')
      (cons_cases (record { id = id; way = way }) g v.pools.gave_up c)
  of_it false way v mine g c = mine g c

  -- who ended the one connection that it killed has no kills
  module _ (m : Meaning S A R) (old between : Me (Running S) (CellView S A R)) (keys : HasEndedKeys m id old between) where
    abbrev left : CellView S A R
    left = key_ended (keys.held Port) id Port (key_ended (keys.held Backward) id Backward (key_ended (keys.held Forward) id Forward old.0))

    kills_left : between.0.pools.kills ≡ old.0.pools.kills
    kills_left = ap (λ (y : Me (Running S) (CellView S A R)). y.0.pools.kills) keys.is
        ∙ (kills_still (keys.held Port) Port (key_ended (keys.held Backward) id Backward (key_ended (keys.held Forward) id Forward old.0))
        ∙ (kills_still (keys.held Backward) Backward (key_ended (keys.held Forward) id Forward old.0) ∙ kills_still (keys.held Forward) Forward old.0))

    pub same_hands : (now : Me (Running S) (CellView S A R)) → HasLetGo id between now → old.0.turn ≡ None → old.0.trie.locks ≡ [] → hands now.0 ≡ hands old.0
    same_hands now gone turnless none =
        let first = key_ended (keys.held Forward) id Forward old.0 in
        let second = key_ended (keys.held Backward) id Backward first in
        let one = locks_after (keys.held Forward) Forward old.0 none in
        let pins = pin_after (keys.held Port) Port second ∙ (pin_after (keys.held Backward) Backward first ∙ pin_after (keys.held Forward) Forward old.0) in
        ap (λ (y : Me (Running S) (CellView S A R)). hands y.0) gone.is ∙ (ap (λ (y : Me (Running S) (CellView S A R)). hands y.0) keys.is
        ∙ (ap (λ pin. record (hands left) { pin = pin }) (keys.pin ∙ sym pins)
        ∙ (hands_after (keys.held Port) Port second (turn_after (keys.held Backward) Backward first) (locks_after (keys.held Backward) Backward first one)
        ∙ (hands_after (keys.held Backward) Backward first (turn_after (keys.held Forward) Forward old.0) one ∙ hands_after (keys.held Forward) Forward old.0 turnless none))))

    pub still_killed : Contains old.0.pools.kills id → Contains between.0.pools.kills id
    still_killed c = subst (λ ids. Contains ids id) (sym kills_left) c

    pub no_kills : (now : Me (Running S) (CellView S A R)) → HasLetGo id between now → old.0.pools.kills ≡ id ∷ [] → old.0.pools.gave_up ≡ [] → HasNoKills now.0
    no_kills now gone one none = record {
      kills = ap (λ (y : Me (Running S) (CellView S A R)). y.0.pools.kills) gone.is
          ∙ (ap (ids_elsewhere id.slot) (kills_left ∙ one) ∙ ap (λ b. cond (cond b false true) (id ∷ []) []) (eq-eqb id.slot id.slot refl));
      gave_up = ap (λ (y : Me (Running S) (CellView S A R)). y.0.pools.gave_up) gone.is ∙ left_out (λ (g : Found). cond (eqb g.id.slot id.slot) false true) between.0.pools.gave_up
          (λ g c. ap (λ b. cond b false true) (eq-eqb g.id.slot id.slot (ap (λ (i : ConnId). i.slot) (mine g c))));
    }
      where
        mine : (g : Found) → Contains between.0.pools.gave_up g → g.id ≡ id
        mine g c =
            of_it (keys.held Port) Port _ (of_it (keys.held Backward) Backward _ (of_it (keys.held Forward) Forward old.0 (λ g' c'. absurd (none_listed g' (subst (λ gs. Contains gs g') none c'))))) g
            (subst (λ (y : Me (Running S) (CellView S A R)). Contains y.0.pools.gave_up g) keys.is c)
