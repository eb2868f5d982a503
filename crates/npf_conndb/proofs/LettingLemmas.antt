-- A killed connection gives its keys up, and is let go.
use Rattle.std.proofs.Common.{◌≡◌, ◌≢◌, ◌↔◌, ◌⊎◌, ℕ, ◌≤◌, Bool, true, false, cond, eqb, eq-eqb, max, None, List, [], ◌∷◌, ◌++◌, refl, sym, ap, ◌∙◌, subst, inl, inr, arith, append-nil}
use Rattle.std.{specs.List.{Contains, filter}, proofs.lemmas.List.Elements.Contains-push}
use Rattle.atomic_table.specs.Table.{Me}
use Rattle.npf_types.specs.declared.key.Way.{Way, TheVariants.{Forward, Backward, Port}}
use Rattle.npf_core.specs.declared.{act.Act.TheVariants.Unhold, conn_id.ConnId.ConnId, entry.Entry.Entry, found.Found.Found, reply.Reply.TheVariants.Nothing}
use Rattle.npf_core.specs.{declared.stage.Stage.TheVariants.Dead, History.{Legal, MayFollow, state_of, after, IsPrefix}}
use Rattle.npf_core.specs.{Machine.{Machine, stage_of, Holds, HoldsNone}, Meaning.Meaning}
use Rattle.npf_core.proofs.HistoryLemmas.{MayFollow-split, state_of-append, IsPrefix-trans}
use Rattle.npf_connections.specs.{Adding.AddsOwn, Entries.{entry_of, end_entries}, Pass.{Pass, IsPass}}
use Rattle.npf_seats.proofs.PrefixLemmas.{none_listed, cons_cases}
use Rattle.npf_cells_lives.specs.{Deaths.ids_elsewhere, Turns.Running}
use Rattle.npf_cells_pins.specs.Pinning.{loading}
use Rattle.npf_cells_rule.specs.{declared.view.CellView.CellView, Passes.cell_pass}
use Rattle.npf_cells_takes.specs.PrivateKinds.{letting_go}
use Rattle.npf_turn.specs.{Done.HasLetGo, Endings.{GivesUpKey, HasNoKey, HasEndedKey, without_key}}
use Rattle.npf_conndb.{specs.Ends.{GaveUpKey, HasKilledOne, EndsKilled, letting_one_go}, proofs.EndLemmas.{held, holds_these, holds_none, ends}}
use Rattle.npf_conndb.proofs.KeyLemmas.{gives_up_none}

-- behind an Unhold the connection is Dead, and holds no key of that way
module _ {S A R : Type 0} (m : Meaning S A R) (slots : ℕ) (pass : Pass (Entry S A R)) (new : List (Entry S A R)) (id : ConnId) (way : Way)
    (legal : Legal m slots new) (adds : AddsOwn pass new (entry_of pass (Unhold id way) Nothing ∷ [])) where
  abbrev entry : Entry S A R
  entry = entry_of pass (Unhold id way) Nothing

  last : (before : List (Entry S A R)) × (new ≡ before ++ entry ∷ [])
  last = adds.ends [] entry refl

  abbrev k : Machine S
  k = state_of m last.0

  state : state_of m new ≡ after m k entry
  state = ap (state_of m) last.1 ∙ state_of-append m last.0 entry

  follows : MayFollow m slots k entry
  follows = MayFollow-split m slots last.0 [] entry (subst (Legal m slots) last.1 legal)

  pub unheld_dead : stage_of (state_of m new) id ≡ Dead
  unheld_dead = ap (λ (x : Machine S). stage_of x id) state ∙ follows.allowed.killed

  pub unheld_none : HoldsNone (state_of m new) id way
  unheld_none = subst (λ (x : Machine S). HoldsNone x id way) (sym state) (λ key. gives_up_none id way (k.holder key))

module _ {S A R : Type 0} (m : Meaning S A R) (id : ConnId) (way : Way) (old now : Me (Running S) (CellView S A R))
    (pass : IsPass m (cell_pass old.0)) (dead : stage_of (state_of m old.0.seats.history) id ≡ Dead) where
  gave : GivesUpKey m id way old now → GaveUpKey m id way (cell_pass old.0) (cell_pass now.0)
  gave so =
      let legal = (so.legal pass).legal in
      record {
        held = true;
        tells = (λ _. refl, λ _. so.held);
        adds = so.adds;
        others = so.others;
        none = unheld_none m now.0.seats.about (cell_pass old.0) now.0.seats.history id way legal so.adds;
        dead = unheld_dead m now.0.seats.about (cell_pass old.0) now.0.seats.history id way legal so.adds;
        on = record { rest = so.adds.adds.rest; goes_on = so.adds.adds.goes_on };
        number = ap (λ (y : Me (Running S) (CellView S A R)). y.0.seats.number) so.is;
        joined = ap (λ (y : Me (Running S) (CellView S A R)). y.0.seats.joined) so.is;
      }

  had_none : HasNoKey m id way old now → GaveUpKey m id way (cell_pass old.0) (cell_pass now.0)
  had_none so =
      let same : now.0.seats.history ≡ old.0.seats.history = ap (λ (y : Me (Running S) (CellView S A R)). y.0.seats.history) so.is in
      record {
        held = false;
        tells = (λ some. absurd (so.none some.0 some.1), λ no. absurd (let is : false ≡ true = no in cc));
        adds = same;
        others = λ other key apart. subst (λ h. Holds (state_of m old.0.seats.history) id other key ↔ Holds (state_of m h) id other key) (sym same) (λ x. x, λ x. x);
        none = subst (λ h. HoldsNone (state_of m h) id way) (sym same) so.none;
        dead = subst (λ h. stage_of (state_of m h) id ≡ Dead) (sym same) dead;
        on = record { rest = []; goes_on = same ∙ sym (append-nil old.0.seats.history) };
        number = ap (λ (y : Me (Running S) (CellView S A R)). y.0.seats.number) so.is;
        joined = ap (λ (y : Me (Running S) (CellView S A R)). y.0.seats.joined) so.is;
      }

  -- what comes of one way
  pub gave_up : (held : Bool) → HasEndedKey m id way held old now → GaveUpKey m id way (cell_pass old.0) (cell_pass now.0)
  gave_up true so = gave so
  gave_up false so = had_none so

  pub still_pass : (held : Bool) → HasEndedKey m id way held old now → IsPass m (cell_pass now.0)
  still_pass true so = so.legal pass
  still_pass false so = subst (λ (y : Me (Running S) (CellView S A R)). IsPass m (cell_pass y.0)) (sym so.is) pass

abbrev found_as : ConnId → Way → Found
found_as i w = record { id = i; way = w }

-- the keys given up that are another slot's
abbrev given_else : ℕ → List Found → List Found
given_else slot = filter (λ (g : Found). cond (eqb g.id.slot slot) false true)

none_given : (id : ConnId) (way : Way) (given : List Found) → given_else id.slot ((record { id = id; way = way }) ∷ given) ≡ given_else id.slot given
none_given id way given = ap (λ b. cond (cond b false true) ((record { id = id; way = way }) ∷ given_else id.slot given) (given_else id.slot given)) (eq-eqb id.slot id.slot refl)

none_killed : (id : ConnId) → ids_elsewhere id.slot (id ∷ []) ≡ []
none_killed id = ap (λ b. cond (cond b false true) (id ∷ []) []) (eq-eqb id.slot id.slot refl)

-- what a view is but for what giving a key up changes
abbrev but_keys : {S A R : Type 0} → CellView S A R → CellView S A R → CellView S A R
but_keys v now = record v { seats = record v.seats { history = now.seats.history }; epochs = now.epochs; pools = record v.pools { gave_up = now.pools.gave_up }; trie = now.trie }

module _ {S A R : Type 0} (m : Meaning S A R) (id : ConnId) (way : Way) (old now : Me (Running S) (CellView S A R)) (turnless : old.0.turn ≡ None) where
  pub record Ended : Type 0 where
    pub is : now.0 ≡ but_keys old.0 now.0
    pub pin : now.0.epochs.pin ≡ old.0.epochs.pin
    pub later : old.0.epochs.greatest ≤ now.0.epochs.greatest
    pub answered : now.0.trie.answered ≡ old.0.trie.answered
    pub unlocked : old.0.trie.locks ≡ [] → now.0.trie.locks ≡ []
    pub turn : now.0.turn ≡ None
    pub given : given_else id.slot now.0.pools.gave_up ≡ given_else id.slot old.0.pools.gave_up
    pub kills : now.0.pools.kills ≡ old.0.pools.kills
    pub other : (w : Way) → w ≢ way → ¬ Contains old.0.pools.gave_up (record { id = id; way = w }) → ¬ Contains now.0.pools.gave_up (record { id = id; way = w })

  pub ended : (held : Bool) → HasEndedKey m id way held old now → Ended
  ended true so = record {
    is = view ∙ sym (ap (but_keys old.0) view);
    pin = so.epochs.pin;
    later = so.epochs.greatest;
    answered = ap (λ (y : Me (Running S) (CellView S A R)). y.0.trie.answered) so.is;
    unlocked = λ _. ap (λ (y : Me (Running S) (CellView S A R)). y.0.trie.locks) so.is;
    turn = ap (λ (y : Me (Running S) (CellView S A R)). y.0.turn) so.is;
    given = ap (λ (y : Me (Running S) (CellView S A R)). given_else id.slot y.0.pools.gave_up) so.is ∙ none_given id way old.0.pools.gave_up;
    kills = ap (λ (y : Me (Running S) (CellView S A R)). y.0.pools.kills) so.is;
    other = λ w apart none c. another w apart none (cons_cases (found_as id way) (found_as id w) old.0.pools.gave_up
        (subst (λ xs. Contains xs (found_as id w)) (ap (λ (y : Me (Running S) (CellView S A R)). y.0.pools.gave_up) so.is) c));
  }
    where
      another : (w : Way) → w ≢ way → ¬ Contains old.0.pools.gave_up (found_as id w) → (found_as id way ≡ found_as id w) ⊎ Contains old.0.pools.gave_up (found_as id w) → ⊥
      another w apart none (inl same) = apart (sym (ap (λ (f : Found). f.way) same))
      another w apart none (inr c) = none c

      view : now.0 ≡ record (without_key old.0 now.0.seats.history now.0.epochs id way) { turn = old.0.turn }
      view = ap (λ (y : Me (Running S) (CellView S A R)). y.0) so.is ∙ ap (λ t. let v : CellView S A R =
          record (without_key old.0 now.0.seats.history now.0.epochs id way) { turn = t } in v) (sym turnless)
  ended false so = record {
    is = view ∙ sym (ap (but_keys old.0) view);
    pin = ap (λ (y : Me (Running S) (CellView S A R)). y.0.epochs.pin) so.is;
    later = (let same = ap (λ (y : Me (Running S) (CellView S A R)). y.0.epochs.greatest) so.is in omega (arith, same));
    answered = ap (λ (y : Me (Running S) (CellView S A R)). y.0.trie.answered) so.is;
    unlocked = λ locks. ap (λ (y : Me (Running S) (CellView S A R)). y.0.trie.locks) so.is ∙ locks;
    turn = ap (λ (y : Me (Running S) (CellView S A R)). y.0.turn) so.is;
    given = ap (λ (y : Me (Running S) (CellView S A R)). given_else id.slot y.0.pools.gave_up) so.is;
    kills = ap (λ (y : Me (Running S) (CellView S A R)). y.0.pools.kills) so.is;
    other = λ w apart none c. none (subst (λ xs. Contains xs (record { id = id; way = w })) (ap (λ (y : Me (Running S) (CellView S A R)). y.0.pools.gave_up) so.is) c);
  }
    where
      view : now.0 ≡ old.0
      view = ap (λ (y : Me (Running S) (CellView S A R)). y.0) so.is ∙ ap (λ t. let v : CellView S A R = record old.0 { turn = t } in v) (sym turnless)

-- what is asked of a pass that killed one connection
pub one_killed : {S A R : Type 0} (id : ConnId) (v : CellView S A R) → HasKilledOne id v → Contains v.pools.kills id
one_killed id v killed = subst (λ ids. Contains ids id) (sym killed.killed) (Contains-push [] id)

pub none_gave : {S A R : Type 0} (id : ConnId) (v : CellView S A R) → HasKilledOne id v → (way : Way) → ¬ Contains v.pools.gave_up (record { id = id; way = way })
none_gave id v killed way c = none_listed (found_as id way) (subst (λ xs. Contains xs (found_as id way)) killed.given c)

-- After all three the connection is let go.
module _ {S A R : Type 0} (m : Meaning S A R) (id : ConnId) (old one two three : Me (Running S) (CellView S A R)) (forward backward port : Bool)
    (pass : IsPass m (cell_pass old.0)) (dead : stage_of (state_of m old.0.seats.history) id ≡ Dead) (killed : HasKilledOne id old.0)
    (f : HasEndedKey m id Forward forward old one) (b : HasEndedKey m id Backward backward one two) (p : HasEndedKey m id Port port two three) where
  ended_f : Ended m id Forward old one killed.turnless
  ended_f = ended m id Forward old one killed.turnless forward f

  ended_b : Ended m id Backward one two ended_f.turn
  ended_b = ended m id Backward one two ended_f.turn backward b

  ended_p : Ended m id Port two three ended_b.turn
  ended_p = ended m id Port two three ended_b.turn port p

  pass_one : IsPass m (cell_pass one.0)
  pass_one = still_pass m id Forward old one pass dead forward f

  gave_f : GaveUpKey m id Forward (cell_pass old.0) (cell_pass one.0)
  gave_f = gave_up m id Forward old one pass dead forward f

  pass_two : IsPass m (cell_pass two.0)
  pass_two = still_pass m id Backward one two pass_one gave_f.dead backward b

  gave_b : GaveUpKey m id Backward (cell_pass one.0) (cell_pass two.0)
  gave_b = gave_up m id Backward one two pass_one gave_f.dead backward b

  pass_three : IsPass m (cell_pass three.0)
  pass_three = still_pass m id Port two three pass_two gave_b.dead port p

  gave_p : GaveUpKey m id Port (cell_pass two.0) (cell_pass three.0)
  gave_p = gave_up m id Port two three pass_two gave_b.dead port p

  -- what is asked on the way
  pub gone_dead : stage_of (state_of m three.0.seats.history) id ≡ Dead
  gone_dead = gave_p.dead

  pub gone_bare : (way : Way) → HoldsNone (state_of m three.0.seats.history) id way
  gone_bare = holds_none m id (cell_pass old.0) (cell_pass one.0) (cell_pass two.0) (cell_pass three.0) gave_f gave_b gave_p

  pub kills_still : three.0.pools.kills ≡ id ∷ []
  kills_still = ended_p.kills ∙ (ended_b.kills ∙ (ended_f.kills ∙ killed.killed))

  three_is : three.0 ≡ but_keys old.0 three.0
  three_is = ended_p.is ∙ ap (λ v. but_keys v three.0) (ended_b.is ∙ ap (λ v. but_keys v two.0) ended_f.is)

  given_three : given_else id.slot three.0.pools.gave_up ≡ []
  given_three = ended_p.given ∙ (ended_b.given ∙ (ended_f.given ∙ ap (given_else id.slot) killed.given))

  -- once it is let go
  module _ (now : Me (Running S) (CellView S A R)) (goes : HasLetGo id three now) where
    history : now.0.seats.history ≡ three.0.seats.history
    history = ap (λ (y : Me (Running S) (CellView S A R)). y.0.seats.history) goes.is

    now_is : now.0 ≡ letting_one_go old.0 now.0
    now_is = view ∙ sym (ap (letting_one_go old.0) view)
      where
        lets : CellView S A R → CellView S A R
        lets v = record v { epochs = loading v.epochs goes.epoch; pools = letting_go id.slot goes.epoch v.pools }

        with_pools_of : List ConnId → List Found → CellView S A R
        with_pools_of kills given = record old.0 {
          seats = record old.0.seats { history = three.0.seats.history };
          epochs = loading three.0.epochs goes.epoch;
          pools = record old.0.pools { kills = kills; gave_up = given; dated = max old.0.pools.dated goes.epoch };
          trie = three.0.trie;
        }

        view : now.0 ≡ with_pools_of [] []
        view = ap (λ (y : Me (Running S) (CellView S A R)). y.0) goes.is ∙ (ap lets three_is ∙ (λ i. with_pools_of ((ap (ids_elsewhere id.slot) killed.killed ∙ none_killed id) i) (given_three i)))

    pub lets_go : IsPass m (cell_pass now.0) → EndsKilled m id old now
    lets_go legal = record {
      held = held m id (cell_pass old.0) (cell_pass one.0) (cell_pass two.0) (cell_pass three.0) gave_f gave_b gave_p;
      holds = holds_these m id (cell_pass old.0) (cell_pass one.0) (cell_pass two.0) (cell_pass three.0) gave_f gave_b gave_p;
      ends = λ first why number joined kill. subst (λ h. AddsOwn first h (end_entries first id why (held m id (cell_pass old.0) (cell_pass one.0) (cell_pass two.0)
          (cell_pass three.0) gave_f gave_b gave_p))) (sym history)
          (ends m id (cell_pass old.0) (cell_pass one.0) (cell_pass two.0) (cell_pass three.0) gave_f gave_b gave_p first why number joined kill);
      on = subst (λ h. IsPrefix old.0.seats.history h) (sym history) (IsPrefix-trans old.0.seats.history one.0.seats.history three.0.seats.history gave_f.on
          (IsPrefix-trans one.0.seats.history two.0.seats.history three.0.seats.history gave_b.on gave_p.on));
      keyless = subst (λ h. (way : Way) → HoldsNone (state_of m h) id way) (sym history) gone_bare;
      dead = subst (λ h. stage_of (state_of m h) id ≡ Dead) (sym history) gone_dead;
      legal = legal;
      is = now_is;
      pin = ap (λ (y : Me (Running S) (CellView S A R)). y.0.epochs.pin) goes.is ∙ (ended_p.pin ∙ (ended_b.pin ∙ ended_f.pin));
      later = (let rose : now.0.epochs.greatest ≡ max three.0.epochs.greatest goes.epoch = ap (λ (y : Me (Running S) (CellView S A R)). y.0.epochs.greatest) goes.is in
          let first = ended_f.later in let second = ended_b.later in let third = ended_p.later in
          omega (arith, rose, first, second, third));
      answered = ap (λ (y : Me (Running S) (CellView S A R)). y.0.trie.answered) goes.is ∙ (ended_p.answered ∙ (ended_b.answered ∙ ended_f.answered));
      unlocked = ap (λ (y : Me (Running S) (CellView S A R)). y.0.trie.locks) goes.is ∙ ended_p.unlocked (ended_b.unlocked (ended_f.unlocked killed.unlocked));
    }

    -- and it is a pass still, by the epoch that it met
    pub gone_pass : IsPass m (cell_pass now.0)
    gone_pass = subst (IsPass m) (sym (ap (λ (y : Me (Running S) (CellView S A R)). cell_pass y.0) goes.is)) (record {
      legal = pass_three.legal;
      stays = pass_three.stays;
      building = pass_three.building;
      unanswered = pass_three.unanswered;
      idle = pass_three.idle;
      alone = pass_three.alone;
      most = (let was = pass_three.most in let most = goes.met.most in omega (arith, was, most));
    })
