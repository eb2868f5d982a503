-- What a pass meets in a place that it has locked, and what it has once it hung its new nodes there.
use Rattle.std.proofs.Common.{◌≡◌, ◌≢◌, ℕ, ◌+◌, ◌^◌, ◌<◌, ◌∷◌, [], Bool, true, false, Option, Some, None, List, length, refl, sym, ap, ◌∙◌, subst, arith}
use Rattle.std.{specs.Prelude.{nat_eq, ◌&&◌}, proofs.lemmas.Bool.Decides.{Decides-and, Decides-eqb}}
use denote.Enum.Bare.{sameb}
use Rattle.atomic_table.specs.Table.{Me}
use Rattle.npf_types.specs.{declared.key.{Key.Key, Way.{Way, TheVariants.{Forward, Backward, Port}}}, contracts.key.Way.the_type}
use Rattle.npf_core.specs.{declared.{conn_id.ConnId.ConnId, entry.Entry.Entry, found.Found.Found, held.Held.Held}, Machine.is_key, Meaning.Meaning}
use Rattle.npf_core.proofs.EqualityLemmas.{is_key-Decides}
use Rattle.npf_connections.specs.{Adding.AddsOwn, Entries.hold_entries, Pass.IsPass}
use Rattle.npf_paths.specs.{declared.{cell.Cell.Cell, place.{Place.Place, Lock.Lock}}, Growing.{IsBranch, IsBranch.{parts, goes_on}}, Places.lock_of}
use Rattle.npf_paths.specs.declared.cell.Cell.TheVariants as Cells
use Rattle.npf_paths.specs.declared.place.Place.TheVariants as Places
use Rattle.npf_cells_holds.specs.{declared.aim.Aim.{Aim, TheVariants.Hold}, Aims.TellsAim, HoldKinds.{meeting, renewed, HasMetHolder, MeetsLeaf, HoldsAt}}
use Rattle.npf_cells_words.specs.{declared.layout.Layout.Layout, Codes.place_code, Layout.note_field}
use Rattle.npf_cells_rule.specs.{declared.view.CellView.CellView, Views.with_trie, Passes.{IsProtected, cell_pass}}
use Rattle.npf_cells_leaves.specs.{declared.trie.{LoadedLeaf.LoadedLeaf, TrieSide.TrieSide}, Parents.{foot_place, NameParents}, Sights.SeesLocked}
use Rattle.npf_cells_holds.specs.LookKinds.{StandsOnPath, level_of, level_at, IsLeafIn, IsLeafOf}
use Rattle.npf_cells_holds.specs.PublishKinds.{MayPublish, MayPublishFor, IsParentStored, GrowsNodes, PutsFor, IsAheadTo, MovesLeaf, HasHeld, Published, nodes_but, publishing, cell_stored}
use Rattle.npf_cells_holds.specs.{PublishKinds.PutsFor.{fills, grows}, LockKinds.locking}
use Rattle.npf_cells_lives.specs.{declared.{pools.{Note.Note, StoredWord.StoredWord}, turn.{Ahead.Ahead, Turn.Turn}}, Notes.{notes_but, with_ahead}}
use Rattle.npf_cells_lives.specs.Turns.{Running}
use Rattle.npf_cells_takes.specs.PrivateKinds.{MayStoreAhead, leading}
use Rattle.npf_cells_turns.specs.{declared.act.TurnAct.TheVariants.Nothing, EndKinds.MayEndBy, TurnKinds.{HasTaken, turn_at}}
use Rattle.npf_cells_leaves.specs.Trie.{digits_of}
use Rattle.npf_trie.specs.declared.step.{LeafKey.TheVariants.{Holder, Other}, OtherLeaf.OtherLeaf, Point.Point, Wanted.Wanted, Branch.Branch, Step.Step}
use Rattle.npf_trie.specs.declared.step.Step.TheVariants.{Ends, Leads, Again, Anew}
use Rattle.npf_turn.proofs.MarkLemmas.{none_in_place}
use Rattle.npf_trie.specs.{HoldKey.{IsAtPlace, TellsMet, HasNewTurn, HasGrown, SeesOtherLeaf, HoldsNodes, HasHung, HangsSo}, Stores.MayStoreKey}
use Rattle.npf_trie.{proofs.StoreLemmas.{noting, notes_once}, specs.LookUp.ComparesWords}

-- a branch as its first node has it: either key's leaf is there, or a node that leads on
pub data BeginsSo (mine theirs : ℕ → ℕ) (cell : Place → Cell) (leaf other : Cell) (level first : ℕ) (nodes : List ℕ) : Type 0 where
  at_foot : mine level ≢ theirs level → nodes ≡ first ∷ [] → BeginsSo mine theirs cell leaf other level first nodes
  above : (next : ℕ) (tail : List ℕ) → mine level ≡ theirs level → cell (Places.Node first (mine level)) ≡ Cells.Node next → nodes ≡ first ∷ tail →
      IsBranch mine theirs cell leaf other (level + 1) next tail → BeginsSo mine theirs cell leaf other level first nodes

begins : {mine theirs : ℕ → ℕ} {cell : Place → Cell} {leaf other : Cell} {level first : ℕ} {nodes : List ℕ} →
    IsBranch mine theirs cell leaf other level first nodes → BeginsSo mine theirs cell leaf other level first nodes
begins (parts level node apart mine_is theirs_is empty) = BeginsSo.at_foot apart refl
begins (goes_on level node next tail agree is empty below) = BeginsSo.above next tail agree is refl below

-- what stands in their places says which nodes a branch has
pub branch_one : {mine theirs : ℕ → ℕ} {cell : Place → Cell} {leaf other : Cell} {level first : ℕ} {nodes : List ℕ} →
    IsBranch mine theirs cell leaf other level first nodes → (nodes' : List ℕ) → IsBranch mine theirs cell leaf other level first nodes' → nodes' ≡ nodes
branch_one (parts level node apart mine_is theirs_is empty) nodes' branch' =
    elim (begins branch') [ BeginsSo.at_foot apart' is' ↦ is' | BeginsSo.above next' tail' agree' hangs' is' below' ↦ absurd (apart agree') ]
branch_one {mine} {theirs} {cell} {leaf} {other} (goes_on level node next tail agree hangs empty below) nodes' branch' =
    elim (begins branch') [
      | BeginsSo.at_foot apart' is' ↦ absurd (apart' agree)
      | BeginsSo.above next' tail' agree' hangs' is' below' ↦
          let same : next' ≡ next = let e : Cells.Node next' ≡ Cells.Node next = sym hangs' ∙ hangs in cc in
          is' ∙ ap (λ xs. node ∷ xs) (branch_one below tail' (subst (λ n. IsBranch mine theirs cell leaf other (level + 1) n tail') same below'))
    ]

is_not : (key other : Key) (same : Bool) → is_key key other ≡ same → key ≢ other → is_key key other ≡ false
is_not key other true e differs = absurd (differs ((is_key-Decides key other).0 e))
is_not key other false e differs = e

is_way : (a b : Way) → sameb the_type a b ≡ true → a ≡ b
is_way Forward Forward e = refl
is_way Backward Backward e = refl
is_way Port Port e = refl
is_way _ _ e = cc

way_same : (a : Way) → sameb the_type a a ≡ true
way_same Forward = refl
way_same Backward = refl
way_same Port = refl

-- two leaves that compare as equal are one
pub same_leaf : (slot slot' : ℕ) (way way' : Way) (key key' : Key) (same : Bool) → same ≡ nat_eq slot slot' && (sameb the_type way way' && is_key key key') → same ≡ true →
    (slot ≡ slot') × ((way ≡ way') × (key ≡ key'))
same_leaf slot slot' way way' key key' same is e =
    (Decides-and _ _ (Decides-eqb slot slot') (Decides-and _ _ (is_way way way', λ w. rw (← w) (way_same way)) (is_key-Decides key key'))).0 (sym is ∙ e)

-- where a pass stands says the level of a place, and that it is on the path
pub level_stays : (p : Place) (side side' : TrieSide) → side'.stands ≡ side.stands → level_at side' p ≡ level_at side p
level_stays (Places.Root digit) side side' same = refl
level_stays (Places.Node node digit) side side' same = ap level_of same

pub path_stays : (digest : Key → ℕ) (key : Key) (p : Place) (side side' : TrieSide) → side'.stands ≡ side.stands → StandsOnPath digest side key p → StandsOnPath digest side' key p
path_stays digest key (Places.Root digit) side side' same stands = stands
path_stays digest key (Places.Node node digit) side side' same stands = (stands.0, same ∙ stands.1)

module _ {S A R : Type 0} where
  pub place_stays : (digest : Key → ℕ) (layout : Layout) (v v' : CellView S A R) (key : Key) (point : Point) →
      v'.trie.stands ≡ v.trie.stands → IsAtPlace digest layout v key point → IsAtPlace digest layout v' key point
  place_stays digest layout v v' key point same at = record {
    place = at.place;
    stands = path_stays digest key point.place v.trie v'.trie same at.stands;
    level_is = level_stays point.place v.trie v'.trie same ∙ at.level_is;
    within = at.within;
  }

  -- what is put in a place says which nodes a pass may put there
  data PutsSo (digest : Key → ℕ) (layout : Layout) (v : CellView S A R) (id : ConnId) (key : Key) (way : Way) (p : Place) (cell : Cell) (nodes : List ℕ) : Type 0 where
    puts_leaf : cell ≡ Cells.Leaf id.slot way → nodes ≡ [] → PutsSo digest layout v id key way p cell nodes
    puts_nodes : (leaf : LoadedLeaf) (first : ℕ) → v.trie.leaf ≡ Some leaf → cell ≡ Cells.Node first → GrowsNodes digest layout v id.slot way key leaf p (level_at v.trie p) first nodes →
        PutsSo digest layout v id key way p cell nodes

  puts_so : (digest : Key → ℕ) (layout : Layout) (v : CellView S A R) (id : ConnId) (key : Key) (way : Way) (p : Place) (cell : Cell) (nodes : List ℕ) →
      PutsFor digest layout v id key way p cell nodes → PutsSo digest layout v id key way p cell nodes
  puts_so digest layout v id key way p _ _ (fills sees) = PutsSo.puts_leaf refl refl
  puts_so digest layout v id key way p _ _ (grows leaf first nodes known differs sees made) = PutsSo.puts_nodes leaf first known refl made

  puts_one : (digest : Key → ℕ) (layout : Layout) (v : CellView S A R) (id : ConnId) (key : Key) (way : Way) (p : Place) (cell : Cell) (nodes nodes' : List ℕ) →
      PutsFor digest layout v id key way p cell nodes → PutsFor digest layout v id key way p cell nodes' → nodes' ≡ nodes
  puts_one digest layout v id key way p cell nodes nodes' puts puts' =
      elim (puts_so digest layout v id key way p cell nodes puts) [
        | PutsSo.puts_leaf is none ↦
            elim (puts_so digest layout v id key way p cell nodes' puts') [
              | PutsSo.puts_leaf is' none' ↦ none' ∙ sym none
              | PutsSo.puts_nodes leaf' first' known' is' made' ↦ absurd cc
            ]
        | PutsSo.puts_nodes leaf first known is made_first ↦
            elim (puts_so digest layout v id key way p cell nodes' puts') [
              | PutsSo.puts_leaf is' none' ↦ absurd cc
              | PutsSo.puts_nodes leaf' first' known' is' made' ↦
                  let same : leaf' ≡ leaf = cc in
                  let firsts : first' ≡ first = cc in
                  let made : GrowsNodes digest layout v id.slot way key leaf p (level_at v.trie p) first nodes' =
                  subst (λ l. GrowsNodes digest layout v id.slot way key l p (level_at v.trie p) first nodes') same
                  (subst (λ n. GrowsNodes digest layout v id.slot way key leaf' p (level_at v.trie p) n nodes') firsts made') in
                  branch_one made_first.branch nodes' made.branch
            ]
      ]

-- the pass loaded the place, met the leaf of another key there, and compared words of that
pub record SeesOther {S A R F : Type 0} (key : Key) (p : Place) (slot : ℕ) (leaf_way : Way) (other : Key) (old now : Me F (CellView S A R)) : Type 0 where
  pub leaf : LoadedLeaf
  pub is_leaf : IsLeafIn slot leaf_way leaf
  pub differs : leaf.key ≢ key
  pub other_is : other ≡ leaf.key
  pub is : now ≡ with_trie old (record (meeting key p (Cells.Leaf slot leaf_way) (level_at old.0.trie p) leaf old.0.trie) { words = now.0.trie.words })

module _ {S A R F : Type 0} (m : Meaning S A R) (digest : Key → ℕ) (layout : Layout) (id : ConnId) (key : Key) (way : Way) (p : Place) where
  -- a load for a key that is to be held tells what such a load does
  pub holds_at : (aim : Aim) (cell : Cell) (old now : Me F (CellView S A R)) → aim ≡ Hold id key way → TellsAim m digest layout aim p cell old now → HoldsAt m digest layout id key way p cell old now
  holds_at aim cell old now is tells = subst (λ a. TellsAim m digest layout a p cell old now) is tells

  module _ (slot : ℕ) (leaf_way : Way) (old now : Me F (CellView S A R)) (holds : HoldsAt m digest layout id key way p (Cells.Leaf slot leaf_way) old now) where
    abbrev meets : MeetsLeaf m id key way p (Cells.Leaf slot leaf_way) slot leaf_way old now
    meets = holds.meets slot leaf_way refl

    -- whichever leaf a load found, its words can be loaded then
    known : (same : Bool) → is_key meets.leaf.key key ≡ same → now.0.trie.leaf ≡ Some meets.leaf
    known true e = ap (λ (y : Me F (CellView S A R)). y.0.trie.leaf) (meets.same e).is
    known false e = ap (λ (y : Me F (CellView S A R)). y.0.trie.leaf) (meets.other e)

    pub leaf_known : IsLeafOf now.0.trie slot leaf_way
    leaf_known = (meets.leaf, known (is_key meets.leaf.key key) refl, meets.is_leaf.slot_is, meets.is_leaf.way_is)

    -- it met another key
    pub sees_other : (other : Key) (next : Me F (CellView S A R)) → ComparesWords 5 now next →
        ((leaf : LoadedLeaf) → now.0.trie.leaf ≡ Some leaf → length leaf.key.0 ≡ 5 → TellsMet leaf key (Other other)) → SeesOther key p slot leaf_way other old next
    sees_other other next compares met =
        let tells : TellsMet meets.leaf key (Other other) = met meets.leaf (known (is_key meets.leaf.key key) refl) meets.is_leaf.five in
        let words : ℕ = next.0.trie.words in
        record {
          leaf = meets.leaf;
          is_leaf = meets.is_leaf;
          differs = tells.0;
          other_is = tells.1;
          is = compares.is ∙ ap (λ (y : Me F (CellView S A R)). with_trie y (record y.0.trie { words = words })) (meets.other (is_not meets.leaf.key key (is_key meets.leaf.key key) refl tells.0));
        }

    -- it met the key itself, which has a holder
    pub hangs_taken : (wanted : Wanted) → wanted ≡ record { id = id; key = key; hash = wanted.hash; way = way } → (found : Found) (next : Me F (CellView S A R)) → ComparesWords 5 now next →
        ((leaf : LoadedLeaf) → now.0.trie.leaf ≡ Some leaf → length leaf.key.0 ≡ 5 → TellsMet leaf key (Holder found)) → HasHung m wanted (Held.Taken found) old next
    hangs_taken wanted wants found next compares met =
        let tells : TellsMet meets.leaf key (Holder found) = met meets.leaf (known (is_key meets.leaf.key key) refl) meets.is_leaf.five in
        let held : HasMetHolder m id key way p (Cells.Leaf slot leaf_way) meets.leaf old now = meets.same ((is_key-Decides meets.leaf.key key).1 tells.0) in
        let words : ℕ = next.0.trie.words in
        let reads = λ (y : Me F (CellView S A R)). with_trie y (record y.0.trie { words = words }) in
        let is = compares.is ∙ ap reads held.is in
        let history : List (Entry S A R) = now.0.seats.history in
        let adds : AddsOwn (cell_pass old.0) history (hold_entries (cell_pass old.0) id key way (Held.Taken found)) =
        subst (λ f. AddsOwn (cell_pass old.0) history (hold_entries (cell_pass old.0) id key way (Held.Taken f))) (sym tells.1) held.adds in
        record {
          some = λ e. cc;
          adds = subst (λ (w : Wanted). AddsOwn (cell_pass old.0) next.0.seats.history (hold_entries (cell_pass old.0) w.id w.key w.way (Held.Taken found))) (sym wants)
              (subst (λ (y : Me F (CellView S A R)). AddsOwn (cell_pass old.0) y.0.seats.history (hold_entries (cell_pass old.0) id key way (Held.Taken found))) (sym compares.is) adds);
          legal = subst (λ (y : Me F (CellView S A R)). IsPass m (cell_pass y.0)) (sym compares.is) held.legal;
          answered = ap (λ (y : Me F (CellView S A R)). y.0.trie.answered) is ∙ ap (λ (f : Found). f.id ∷ []) (sym tells.1);
          done = λ e. absurd cc;
          taken = λ e. subst (λ (y : Me F (CellView S A R)). y ≡ (
            record old.0 {
              seats = record old.0.seats { history = y.0.seats.history };
              trie = record y.0.trie { locks = old.0.trie.locks; marks = old.0.trie.marks };
            },
            old.1,
          )) (sym is) refl;
        }

-- it is protected still
pub sees_protected : {S A R F : Type 0} (key : Key) (p : Place) (slot : ℕ) (leaf_way : Way) (other : Key) (old now : Me F (CellView S A R)) →
    SeesOther key p slot leaf_way other old now → IsProtected old.0.epochs.pin → IsProtected now.0.epochs.pin
sees_protected {S} {A} {R} {F} key p slot leaf_way other old now sees stays = subst (λ (y : Me F (CellView S A R)). IsProtected y.0.epochs.pin) (sym sees.is) stays

-- that leaf is the one that was met before
pub sees_again : {S A R F : Type 0} (key : Key) (p : Place) (other : OtherLeaf) (slot : ℕ) (leaf_way : Way) (met : Key) (old now : Me F (CellView S A R)) →
    (other.slot ≡ slot) × ((other.way ≡ leaf_way) × (other.key ≡ met)) → SeesOther key p slot leaf_way met old now → SeesOther key p other.slot other.way other.key old now
sees_again key p other slot leaf_way met old now same sees =
    subst (λ n. SeesOther key p n other.way other.key old now) (sym same.0)
    (subst (λ w. SeesOther key p slot w other.key old now) (sym same.1.0) (subst (λ k. SeesOther key p slot leaf_way k old now) (sym same.1.1) sees))

module _ {S A R F : Type 0} (digest : Key → ℕ) (layout : Layout) where
  -- the load and the words changed nothing but what it saw: it is still there
  pub still_there : (key : Key) (point : Point) (slot : ℕ) (leaf_way : Way) (other : Key) (old now : Me F (CellView S A R)) → IsAtPlace digest layout old.0 key point →
      SeesOther key point.place slot leaf_way other old now → HoldsNodes old now × IsAtPlace digest layout now.0 key point
  still_there key point slot leaf_way other old now at sees = (
    record {
      is = subst (λ (y : Me F (CellView S A R)). y ≡ with_trie old (record y.0.trie { locks = old.0.trie.locks; marks = old.0.trie.marks })) (sym sees.is) refl;
      unpublished = ap (λ (y : Me F (CellView S A R)). y.0.trie.published) sees.is;
    },
    place_stays digest layout old.0 now.0 key point (ap (λ (y : Me F (CellView S A R)). y.0.trie.stands) sees.is) at,
  )

-- nodes that were built to be hung are so whatever the pass loads or locks beside them
module _ {S A R : Type 0} (m : Meaning S A R) (digest : Key → ℕ) (layout : Layout) (wanted : Wanted) (point : Point) (branch : Branch) (v : CellView S A R) where
  grown_beside : (side : TrieSide) → side.stands ≡ v.trie.stands → side.marks ≡ v.trie.marks →
      HasGrown m digest layout v wanted point branch → HasGrown m digest layout (record v { trie = side }) wanted point branch
  grown_beside side stands marks grown = record {
    may = record { built = grown.may.built; bare = grown.may.bare };
    exists = grown.exists;
    stored = grown.stored;
    unmarked = marks ∙ grown.unmarked;
    at = place_stays digest layout v _ wanted.key point stands grown.at;
    key_stored = grown.key_stored;
    nodes = grown.nodes;
    leads = grown.leads;
    owned = grown.owned;
    apart = grown.apart;
    parents = grown.parents;
    all = grown.all;
    some = grown.some;
    own_place = grown.own_place;
    moved_to = grown.moved_to;
  }

-- who is ahead of nothing again has the turn as it was without being ahead
led_back : {S : Type 0} (turn : Option (Turn S)) (ahead : Option Ahead) → with_ahead None (with_ahead ahead turn) ≡ with_ahead None turn
led_back None ahead = refl
led_back (Some turn) ahead = refl

module _ {S A R F : Type 0} (m : Meaning S A R) (digest : Key → ℕ) (layout : Layout) (wanted : Wanted) (point : Point) (branch : Branch) where
  -- what a pass met leaves what it has built and its turn, and shows the other leaf
  module _ (old now : Me F (CellView S A R)) (sees : SeesOther wanted.key point.place branch.other.slot branch.other.way branch.other.key old now) where
    abbrev side : TrieSide
    side = record (meeting wanted.key point.place (Cells.Leaf branch.other.slot branch.other.way) (level_at old.0.trie point.place) sees.leaf old.0.trie) { words = now.0.trie.words }

    pub grown_still : HasGrown m digest layout old.0 wanted point branch → HasGrown m digest layout now.0 wanted point branch
    grown_still grown = subst (λ (y : Me F (CellView S A R)). HasGrown m digest layout y.0 wanted point branch)
        (sym sees.is) (grown_beside m digest layout wanted point branch old.0 side refl refl grown)

    pub turn_still : HasNewTurn old.0.turn branch.other.slot → HasNewTurn now.0.turn branch.other.slot
    turn_still turn = subst (λ (y : Me F (CellView S A R)). HasNewTurn y.0.turn branch.other.slot) (sym sees.is) turn

    pub sees_leaf : old.0.trie.locks ≡ lock_of point.place ∷ [] → SeesOtherLeaf now.0.trie wanted.key point branch.other
    sees_leaf locked = subst (λ (y : Me F (CellView S A R)). SeesOtherLeaf y.0.trie wanted.key point branch.other) (sym sees.is) (record {
      leaf = sees.leaf;
      known = refl;
      is = (sees.is_leaf.slot_is, sees.is_leaf.way_is, sym sees.other_is);
      differs = sees.differs;
      sees = record {
        locked = rw locked (0, omega arith, refl);
        saw = record { key = wanted.key; level = level_at old.0.trie point.place; place = point.place; cell = Cells.Leaf branch.other.slot branch.other.way };
        seen = refl;
        there = refl;
        was = λ i. Cells.Leaf (sym sees.is_leaf.slot_is i) (sym sees.is_leaf.way_is i);
      };
    })

    -- what is hung then is hung behind it
    pub hung_then : (next : Me F (CellView S A R)) → HasHung m wanted Held.Done now next → HasHung m wanted Held.Done old next
    hung_then next has =
        let history : List (Entry S A R) = next.0.seats.history in
        let words : List StoredWord = next.0.pools.stored in
        let last : TrieSide = next.0.trie in
        let adds = subst (λ (y : Me F (CellView S A R)). AddsOwn (cell_pass y.0) history (hold_entries (cell_pass y.0) wanted.id wanted.key wanted.way Held.Done)) sees.is has.adds in
        record {
          some = has.some;
          adds = record { adds = record { rest = adds.adds.rest; goes_on = adds.adds.goes_on; own = adds.adds.own; listed = adds.adds.listed }; ends = adds.ends };
          legal = has.legal;
          answered = has.answered;
          done = λ e. has.done e ∙ ap (λ (y : Me F (CellView S A R)). (
            record y.0 {
              seats = record y.0.seats { history = history };
              pools = record y.0.pools { nodes = []; stored = words; notes = notes_but wanted.id.slot (note_field wanted.way) y.0.pools.notes };
              trie = record last { locks = y.0.trie.locks; marks = y.0.trie.marks };
              turn = with_ahead None y.0.turn;
            },
            y.1,
          )) sees.is;
          taken = λ e. absurd (e refl);
        }

  -- a pass that sees the other leaf under the lock, and has its slot's turn
  module _ (old : Me F (CellView S A R)) (grown : HasGrown m digest layout old.0 wanted point branch)
      (turn : HasNewTurn old.0.turn branch.other.slot) (sees : SeesOtherLeaf old.0.trie wanted.key point branch.other)
      (own moved : ℕ) (own_is : own ≡ place_code branch.own_place) (moved_is : moved ≡ place_code branch.moved_to) where
    abbrev noted : Me F (CellView S A R)
    noted = noting wanted.id.slot wanted.way own old

    abbrev led : Me F (CellView S A R)
    led = leading (note_field branch.other.way) moved noted

    pub may_note_own : MayStoreKey m old.0 wanted.id.slot wanted.way
    may_note_own = record { id = wanted.id; there = refl; hold = grown.may }

    -- it may be ahead of that leaf's note
    pub may_lead : (n : Me F (CellView S A R)) → n ≡ noted → moved < 2 ^ 63 → MayStoreAhead n.0 branch.other.slot branch.other.way moved
    may_lead n is low = subst (λ (y : Me F (CellView S A R)). MayStoreAhead y.0 branch.other.slot branch.other.way moved) (sym is) (record {
      turn = turn.mine;
      has = turn.has;
      there = turn.there;
      settled = turn.settled;
      from = point.place;
      sees = subst (SeesLocked old.0.trie point.place) (λ i. Cells.Leaf (sees.is.0 i) (sees.is.1 i)) sees.sees;
      to = branch.moved_to;
      names = moved_is;
      low = low;
    })

    grown_for : GrowsNodes digest layout led.0 wanted.id.slot wanted.way wanted.key sees.leaf point.place (level_at led.0.trie point.place) branch.first grown.nodes
    grown_for =
        let level : point.level ≡ level_at led.0.trie point.place = sym grown.at.level_is in
        let cell : Place → Cell = cell_stored layout old.0.pools.stored in
        record {
          branch = subst (λ l. IsBranch (digits_of digest wanted.key) (digits_of digest sees.leaf.key) cell
              (Cells.Leaf wanted.id.slot wanted.way) (Cells.Leaf sees.leaf.slot sees.leaf.way) (l + 1) branch.first grown.nodes) level
              (subst (λ c. IsBranch (digits_of digest wanted.key) (digits_of digest sees.leaf.key) cell (Cells.Leaf wanted.id.slot wanted.way) c (point.level + 1) branch.first grown.nodes)
              (λ i. Cells.Leaf (sym sees.is.0 i) (sym sees.is.1 i))
              (subst (λ k. IsBranch (digits_of digest wanted.key) (digits_of digest k) cell (Cells.Leaf wanted.id.slot wanted.way)
              (Cells.Leaf branch.other.slot branch.other.way) (point.level + 1) branch.first grown.nodes) (sym sees.is.2) grown.leads));
          owned = grown.owned;
          apart = grown.apart;
          parents = subst (λ l. NameParents (digits_of digest wanted.key) (IsParentStored layout old.0.pools.stored) (l + 1) point.place grown.nodes) level grown.parents;
        }

    may_put : PutsFor digest layout led.0 wanted.id wanted.key wanted.way point.place (Cells.Node branch.first) grown.nodes
    may_put = grows sees.leaf branch.first grown.nodes sees.known (is_not sees.leaf.key wanted.key (is_key sees.leaf.key wanted.key) refl sees.differs)
        (record { locked = sees.sees.locked; saw = sees.sees.saw; seen = sees.sees.seen; there = sees.sees.there; was = sees.sees.was }) grown_for

    -- where that leaf will stand
    foot : (leaf : LoadedLeaf) → Some sees.leaf ≡ Some leaf →
        IsAheadTo led.0.turn leaf.slot leaf.way (place_code (foot_place (digits_of digest leaf.key) (level_at led.0.trie point.place + 1) point.place grown.nodes))
    foot leaf same =
        let here : sees.leaf ≡ leaf = cc in
        let moved_at : moved ≡ place_code (foot_place (digits_of digest branch.other.key) (level_at led.0.trie point.place + 1) point.place grown.nodes) =
        moved_is ∙ (ap place_code grown.moved_to ∙ ap (λ l. place_code (foot_place (digits_of digest branch.other.key) (l + 1) point.place grown.nodes)) (sym grown.at.level_is)) in
        subst (λ (l : LoadedLeaf). IsAheadTo led.0.turn l.slot l.way (place_code (foot_place (digits_of digest l.key) (level_at led.0.trie point.place + 1) point.place grown.nodes))) here (record {
          mine = record turn.mine { ahead = Some (record { field = note_field branch.other.way; value = moved }); said = None };
          has = ap (with_ahead (Some (record { field = note_field branch.other.way; value = moved }))) turn.has;
          there = turn.there ∙ sym sees.is.0;
          ahead = λ i. Some (record {
            field = note_field (sym sees.is.1 i);
            value = (moved_at ∙ ap (λ k. place_code (foot_place (digits_of digest k) (level_at led.0.trie point.place + 1) point.place grown.nodes)) (sym sees.is.2)) i;
          });
        })

    moves : (nodes : List ℕ) → nodes ≡ grown.nodes → MovesLeaf digest led.0 point.place nodes
    moves [] none = absurd (let some = grown.some in let long = ap length none in omega (arith, some, long))
    moves (node ∷ nodes) same = λ leaf known.
        subst (λ ns. IsAheadTo led.0.turn leaf.slot leaf.way (place_code (foot_place (digits_of digest leaf.key) (level_at led.0.trie point.place + 1) point.place ns)))
        (sym same) (foot leaf (sym sees.known ∙ known))

    -- so the nodes may be hung there
    pub may_hang : (h : Me F (CellView S A R)) → h ≡ led → (aim : Aim) → aim ≡ Hold wanted.id wanted.key wanted.way → MayPublish m digest layout h.0 point.place (Cells.Node branch.first) (Some aim)
    may_hang h h_is aim is =
        let may : MayPublishFor m digest layout led.0 wanted.id wanted.key wanted.way point.place (Cells.Node branch.first) = record {
          hold = record { built = grown.may.built; bare = grown.may.bare };
          stands = path_stays digest wanted.key point.place old.0.trie led.0.trie refl grown.at.stands;
          exists = grown.exists;
          key_stored = grown.key_stored;
          inc_stored = grown.stored;
          nodes = grown.nodes;
          puts = may_put;
          noted = (
            0,
            omega arith,
            λ i. record {
              slot = wanted.id.slot;
              field = note_field wanted.way;
              value = (own_is ∙ (ap place_code grown.own_place ∙ ap (λ l. place_code (foot_place (digits_of digest wanted.key) (l + 1) point.place grown.nodes)) (sym grown.at.level_is))) i;
            },
          );
          moves = moves grown.nodes refl;
          unmarked = none_in_place old.0.trie.marks point.place grown.unmarked;
        } in
        subst (λ a. MayPublish m digest layout h.0 point.place (Cells.Node branch.first) (Some a)) (sym is)
        (subst (λ (y : Me F (CellView S A R)). MayPublishFor m digest layout y.0 wanted.id wanted.key wanted.way point.place (Cells.Node branch.first)) (sym h_is) may)

    -- and once they hang there, the pass has none of them
    pub hangs_done : (h : Me F (CellView S A R)) → h ≡ led → (aim : Aim) (next : Me F (CellView S A R)) → aim ≡ Hold wanted.id wanted.key wanted.way →
        Published m digest layout point.place (Cells.Node branch.first) (Some aim) h next → HasHung m wanted Held.Done old next
    hangs_done h h_is aim next aims published =
        let held : HasHeld m digest layout wanted.id wanted.key wanted.way point.place (Cells.Node branch.first) led next =
        subst (λ (y : Me F (CellView S A R)). HasHeld m digest layout wanted.id wanted.key wanted.way point.place (Cells.Node branch.first) y next) h_is
        (subst (λ a. Published m digest layout point.place (Cells.Node branch.first) (Some a) h next) aims published) in
        let history : List (Entry S A R) = next.0.seats.history in
        let gone : List ℕ = held.nodes in
        let none : nodes_but gone old.0.pools.nodes ≡ [] =
        ap (λ ns. nodes_but ns old.0.pools.nodes) (puts_one digest layout _ wanted.id wanted.key wanted.way point.place _ grown.nodes gone may_put held.puts) ∙ grown.all in
        let view = λ (nodes : List ℕ) (notes : List Note) (t : Option (Turn S)). (let w : CellView S A R = record old.0 {
          seats = record old.0.seats { history = history };
          pools = record old.0.pools { nodes = nodes; stored = []; notes = notes };
          trie = record (publishing (renewed old.0.trie)) { grown = old.0.trie.grown + length gone };
          turn = t;
        } in w) in
        let is : next ≡ (view [] (notes_but wanted.id.slot (note_field wanted.way) old.0.pools.notes) (with_ahead None old.0.turn), old.1) =
        held.is ∙ (λ i. (
          view (none i) (notes_once wanted.id.slot (note_field wanted.way) own old.0.pools.notes i)
              (led_back old.0.turn (Some (record { field = note_field branch.other.way; value = moved })) i),
          old.1,
        )) in
        record {
          some = λ e. cc;
          adds = record { adds = record { rest = held.adds.adds.rest; goes_on = held.adds.adds.goes_on; own = held.adds.adds.own; listed = held.adds.adds.listed }; ends = held.adds.ends };
          legal = held.legal;
          answered = ap (λ (y : Me F (CellView S A R)). y.0.trie.answered) is;
          done = λ e. subst (λ (y : Me F (CellView S A R)). y ≡ (
            record old.0 {
              seats = record old.0.seats { history = y.0.seats.history };
              pools = record old.0.pools { nodes = []; stored = y.0.pools.stored; notes = notes_but wanted.id.slot (note_field wanted.way) old.0.pools.notes };
              trie = record y.0.trie { locks = old.0.trie.locks; marks = old.0.trie.marks };
              turn = with_ahead None old.0.turn;
            },
            old.1,
          )) (sym is) refl;
          taken = λ e. absurd (e refl);
        }

-- the place's lock was got, and is given up behind what comes of it
module _ {S A R F : Type 0} (m : Meaning S A R) (digest : Key → ℕ) (layout : Layout) (wanted : Wanted) (point : Point) (lock : Lock) (old locked : Me F (CellView S A R))
    (free : old.0.trie.locks ≡ []) (gets : locked ≡ with_trie old (locking lock old.0.trie)) where
  pub grown_locked : (branch : Branch) → HasGrown m digest layout old.0 wanted point branch → HasGrown m digest layout locked.0 wanted point branch
  grown_locked branch grown =
      subst (λ (y : Me F (CellView S A R)). HasGrown m digest layout y.0 wanted point branch) (sym gets)
      (grown_beside m digest layout wanted point branch old.0 (locking lock old.0.trie) refl refl grown)

  module _ (hung : Me F (CellView S A R)) where
    module _ (now : Me F (CellView S A R)) (frees : now ≡ with_trie hung (record hung.0.trie { locks = []; emptied = None; met_mark = None })) where
      abbrev freed : Me F (CellView S A R) → Me F (CellView S A R)
      freed y = with_trie y (record y.0.trie { locks = []; emptied = None; met_mark = None })

      freed_nodes : HoldsNodes locked hung → HoldsNodes old now
      freed_nodes stays =
          let last : TrieSide = hung.0.trie in
          let at_last = frees ∙ (ap freed stays.is ∙ ap (λ (y : Me F (CellView S A R)). freed (with_trie y (record last { locks = y.0.trie.locks; marks = y.0.trie.marks }))) gets) in
          record {
            is = subst (λ (y : Me F (CellView S A R)). y ≡ with_trie old (record y.0.trie { locks = old.0.trie.locks; marks = old.0.trie.marks }))
                (sym at_last) (λ i. with_trie old (record last { locks = sym free i; marks = old.0.trie.marks; emptied = None; met_mark = None }));
            unpublished = ap (λ (y : Me F (CellView S A R)). y.0.trie.published) frees ∙ (stays.unpublished ∙ ap (λ (y : Me F (CellView S A R)). y.0.trie.published) gets);
          }

      freed_place : (point' : Point) → IsAtPlace digest layout hung.0 wanted.key point' → IsAtPlace digest layout now.0 wanted.key point'
      freed_place point' at = place_stays digest layout hung.0 now.0 wanted.key point' (ap (λ (y : Me F (CellView S A R)). y.0.trie.stands) frees) at

      freed_held : (held : Held) → HasHung m wanted held locked hung → HasHung m wanted held old now
      freed_held held has =
          let history : List (Entry S A R) = hung.0.seats.history in
          let words : List StoredWord = hung.0.pools.stored in
          let last : TrieSide = hung.0.trie in
          let adds = subst (λ (y : Me F (CellView S A R)). AddsOwn (cell_pass y.0) history (hold_entries (cell_pass y.0) wanted.id wanted.key wanted.way held)) gets has.adds in
          let mine : AddsOwn (cell_pass old.0) history (hold_entries (cell_pass old.0) wanted.id wanted.key wanted.way held) =
          record { adds = record { rest = adds.adds.rest; goes_on = adds.adds.goes_on; own = adds.adds.own; listed = adds.adds.listed }; ends = adds.ends } in
          record {
            some = has.some;
            adds = subst (λ (h : List (Entry S A R)). AddsOwn (cell_pass old.0) h (hold_entries (cell_pass old.0) wanted.id wanted.key wanted.way held))
                (sym (ap (λ (y : Me F (CellView S A R)). y.0.seats.history) frees)) mine;
            legal = subst (λ (y : Me F (CellView S A R)). IsPass m (cell_pass y.0)) (sym frees) has.legal;
            answered = ap (λ (y : Me F (CellView S A R)). y.0.trie.answered) frees ∙ has.answered;
            done = λ e.
                let at_last = frees ∙ (ap freed (has.done e) ∙ ap (λ (y : Me F (CellView S A R)). freed (
                  record y.0 {
                    seats = record y.0.seats { history = history };
                    pools = record y.0.pools { nodes = []; stored = words; notes = notes_but wanted.id.slot (note_field wanted.way) y.0.pools.notes };
                    trie = record last { locks = y.0.trie.locks; marks = y.0.trie.marks };
                    turn = with_ahead None y.0.turn;
                  },
                  y.1,
                )) gets) in
                subst (λ (y : Me F (CellView S A R)). y ≡ (
                  record old.0 {
                    seats = record old.0.seats { history = y.0.seats.history };
                    pools = record old.0.pools { nodes = []; stored = y.0.pools.stored; notes = notes_but wanted.id.slot (note_field wanted.way) old.0.pools.notes };
                    trie = record y.0.trie { locks = old.0.trie.locks; marks = old.0.trie.marks };
                    turn = with_ahead None old.0.turn;
                  },
                  old.1,
                )) (sym at_last) (λ i. (
                  record old.0 {
                    seats = record old.0.seats { history = history };
                    pools = record old.0.pools { nodes = []; stored = words; notes = notes_but wanted.id.slot (note_field wanted.way) old.0.pools.notes };
                    trie = record last { locks = sym free i; marks = old.0.trie.marks; emptied = None; met_mark = None };
                    turn = with_ahead None old.0.turn;
                  },
                  old.1,
                ));
            taken = λ e.
                let at_last = frees ∙ (ap freed (has.taken e) ∙ ap (λ (y : Me F (CellView S A R)).
                freed (record y.0 { seats = record y.0.seats { history = history }; trie = record last { locks = y.0.trie.locks; marks = y.0.trie.marks } }, y.1)) gets) in
                subst (λ (y : Me F (CellView S A R)). y ≡ (
                  record old.0 {
                    seats = record old.0.seats { history = y.0.seats.history };
                    trie = record y.0.trie { locks = old.0.trie.locks; marks = old.0.trie.marks };
                  },
                  old.1,
                ))
                (sym at_last) (λ i. (
                  record old.0 {
                    seats = record old.0.seats { history = history };
                    trie = record last { locks = sym free i; marks = old.0.trie.marks; emptied = None; met_mark = None };
                  },
                  old.1,
                ));
          }

      pub freed_so : (step : Step) → HangsSo m digest layout wanted point step locked hung → HangsSo m digest layout wanted point step old now
      freed_so (Ends held) has = freed_held held has
      freed_so (Leads node) hangs = (freed_nodes hangs.0, freed_place _ hangs.1)
      freed_so Again hangs = (freed_nodes hangs.0, freed_place point hangs.1)
      freed_so Anew hangs = freed_nodes hangs

-- the turn of another leaf's slot was got before, and is given up behind what comes of it
module _ {S A R : Type 0} (m : Meaning S A R) (digest : Key → ℕ) (layout : Layout) (wanted : Wanted) (point : Point) (slot : ℕ) (old took : Me (Running S) (CellView S A R))
    (turnless : old.0.turn ≡ None) (carries : old.1 ≡ []) (takes : HasTaken slot old took) where
  abbrev Pass' : Type 0
  Pass' = Me (Running S) (CellView S A R)

  pub grown_turned : (branch : Branch) → HasGrown m digest layout old.0 wanted point branch → HasGrown m digest layout took.0 wanted point branch
  grown_turned branch grown = subst (λ (y : Pass'). HasGrown m digest layout y.0 wanted point branch) (sym takes.is) (record {
    may = record { built = grown.may.built; bare = grown.may.bare };
    exists = grown.exists;
    stored = grown.stored;
    unmarked = grown.unmarked;
    at = place_stays digest layout old.0 _ wanted.key point refl grown.at;
    key_stored = grown.key_stored;
    nodes = grown.nodes;
    leads = grown.leads;
    owned = grown.owned;
    apart = grown.apart;
    parents = grown.parents;
    all = grown.all;
    some = grown.some;
    own_place = grown.own_place;
    moved_to = grown.moved_to;
  })

  pub turn_turned : HasNewTurn took.0.turn slot
  turn_turned = subst (λ (y : Pass'). HasNewTurn y.0.turn slot) (sym takes.is) (record { mine = turn_at slot takes.was; has = refl; there = refl; settled = refl })

  pub protected_turned : IsProtected old.0.epochs.pin → IsProtected took.0.epochs.pin
  protected_turned is = subst (λ (y : Pass'). IsProtected y.0.epochs.pin) (sym takes.is) is

  pub free_turned : old.0.trie.locks ≡ [] → took.0.trie.locks ≡ []
  free_turned free = ap (λ (y : Pass'). y.0.trie.locks) takes.is ∙ free

  module _ (hung : Me (Running S) (CellView S A R)) where
    -- what comes of it leaves the turn, so that may be ended with nothing
    pub ends_nothing : (step : Step) → HangsSo m digest layout wanted point step took hung → MayEndBy m Nothing slot hung
    ends_nothing step hangs = record {
      turn = turn_at slot takes.was;
      has = turned step hangs;
      there = refl;
      may = tt;
      carries = carried step hangs ∙ ap (λ (y : Pass'). y.1) takes.is;
      phase = refl;
      settled = refl;
    }
      where
        turn_is : took.0.turn ≡ Some (turn_at slot takes.was)
        turn_is = ap (λ (y : Pass'). y.0.turn) takes.is

        turn_held : (held : Held) → HasHung m wanted held took hung → hung.0.turn ≡ Some (turn_at slot takes.was)
        turn_held Held.Done has = ap (λ (y : Pass'). y.0.turn) (has.done refl) ∙ ap (with_ahead None) turn_is
        turn_held (Held.Taken found) has = ap (λ (y : Pass'). y.0.turn) (has.taken (λ e. cc)) ∙ turn_is
        turn_held Held.NoNode has = absurd (has.some refl)

        turned : (s : Step) → HangsSo m digest layout wanted point s took hung → hung.0.turn ≡ Some (turn_at slot takes.was)
        turned (Ends held) has = turn_held held has
        turned (Leads node) hangs' = ap (λ (y : Pass'). y.0.turn) hangs'.0.is ∙ turn_is
        turned Again hangs' = ap (λ (y : Pass'). y.0.turn) hangs'.0.is ∙ turn_is
        turned Anew hangs' = ap (λ (y : Pass'). y.0.turn) hangs'.is ∙ turn_is

        carried_held : (held : Held) → HasHung m wanted held took hung → hung.1 ≡ took.1
        carried_held Held.Done has = ap (λ (y : Pass'). y.1) (has.done refl)
        carried_held (Held.Taken found) has = ap (λ (y : Pass'). y.1) (has.taken (λ e. cc))
        carried_held Held.NoNode has = absurd (has.some refl)

        carried : (s : Step) → HangsSo m digest layout wanted point s took hung → hung.1 ≡ took.1
        carried (Ends held) has = carried_held held has
        carried (Leads node) hangs' = ap (λ (y : Pass'). y.1) hangs'.0.is
        carried Again hangs' = ap (λ (y : Pass'). y.1) hangs'.0.is
        carried Anew hangs' = ap (λ (y : Pass'). y.1) hangs'.is

    module _ (now : Me (Running S) (CellView S A R)) (ends : now ≡ (record hung.0 { turn = None }, [])) where
      abbrev after : Pass' → Pass'
      after y = (record y.0 { turn = None }, [])

      ended_nodes : HoldsNodes took hung → HoldsNodes old now
      ended_nodes stays =
          let last : TrieSide = hung.0.trie in
          let at_last = ends ∙ (ap after stays.is ∙ ap (λ (y : Pass'). after (with_trie y (record last { locks = y.0.trie.locks; marks = y.0.trie.marks }))) takes.is) in
          record {
            is = subst (λ (y : Pass'). y ≡ with_trie old (record y.0.trie { locks = old.0.trie.locks; marks = old.0.trie.marks })) (sym at_last)
                (λ i. (record old.0 { trie = record last { locks = old.0.trie.locks; marks = old.0.trie.marks }; turn = sym turnless i }, sym carries i));
            unpublished = ap (λ (y : Pass'). y.0.trie.published) ends ∙ (stays.unpublished ∙ ap (λ (y : Pass'). y.0.trie.published) takes.is);
          }

      ended_place : (point' : Point) → IsAtPlace digest layout hung.0 wanted.key point' → IsAtPlace digest layout now.0 wanted.key point'
      ended_place point' at = place_stays digest layout hung.0 now.0 wanted.key point' (ap (λ (y : Pass'). y.0.trie.stands) ends) at

      ended_held : (held : Held) → HasHung m wanted held took hung → HasHung m wanted held old now
      ended_held held has =
          let history : List (Entry S A R) = hung.0.seats.history in
          let words : List StoredWord = hung.0.pools.stored in
          let last : TrieSide = hung.0.trie in
          let adds = subst (λ (y : Pass'). AddsOwn (cell_pass y.0) history (hold_entries (cell_pass y.0) wanted.id wanted.key wanted.way held)) takes.is has.adds in
          let mine : AddsOwn (cell_pass old.0) history (hold_entries (cell_pass old.0) wanted.id wanted.key wanted.way held) =
          record { adds = record { rest = adds.adds.rest; goes_on = adds.adds.goes_on; own = adds.adds.own; listed = adds.adds.listed }; ends = adds.ends } in
          record {
            some = has.some;
            adds = subst (λ (h : List (Entry S A R)). AddsOwn (cell_pass old.0) h (hold_entries (cell_pass old.0) wanted.id wanted.key wanted.way held))
                (sym (ap (λ (y : Pass'). y.0.seats.history) ends)) mine;
            legal = subst (λ (y : Pass'). IsPass m (cell_pass y.0)) (sym ends) has.legal;
            answered = ap (λ (y : Pass'). y.0.trie.answered) ends ∙ has.answered;
            done = λ e.
                let at_last = ends ∙ (ap after (has.done e) ∙ ap (λ (y : Pass'). after (
                  record y.0 {
                    seats = record y.0.seats { history = history };
                    pools = record y.0.pools { nodes = []; stored = words; notes = notes_but wanted.id.slot (note_field wanted.way) y.0.pools.notes };
                    trie = record last { locks = y.0.trie.locks; marks = y.0.trie.marks };
                    turn = with_ahead None y.0.turn;
                  },
                  y.1,
                )) takes.is) in
                subst (λ (y : Pass'). y ≡ (
                  record old.0 {
                    seats = record old.0.seats { history = y.0.seats.history };
                    pools = record old.0.pools { nodes = []; stored = y.0.pools.stored; notes = notes_but wanted.id.slot (note_field wanted.way) old.0.pools.notes };
                    trie = record y.0.trie { locks = old.0.trie.locks; marks = old.0.trie.marks };
                    turn = with_ahead None old.0.turn;
                  },
                  old.1,
                )) (sym at_last) (λ i. (
                  record old.0 {
                    seats = record old.0.seats { history = history };
                    pools = record old.0.pools { nodes = []; stored = words; notes = notes_but wanted.id.slot (note_field wanted.way) old.0.pools.notes };
                    trie = record last { locks = old.0.trie.locks; marks = old.0.trie.marks };
                    turn = sym (ap (with_ahead None) turnless) i;
                  },
                  sym carries i,
                ));
            taken = λ e.
                let at_last = ends ∙ (ap after (has.taken e)
                ∙ ap (λ (y : Pass'). after (record y.0 { seats = record y.0.seats { history = history }; trie = record last { locks = y.0.trie.locks; marks = y.0.trie.marks } }, y.1)) takes.is) in
                subst (λ (y : Pass'). y ≡ (
                  record old.0 {
                    seats = record old.0.seats { history = y.0.seats.history };
                    trie = record y.0.trie { locks = old.0.trie.locks; marks = old.0.trie.marks };
                  },
                  old.1,
                ))
                (sym at_last) (λ i. (
                  record old.0 {
                    seats = record old.0.seats { history = history };
                    trie = record last { locks = old.0.trie.locks; marks = old.0.trie.marks };
                    turn = sym turnless i;
                  },
                  sym carries i,
                ));
          }

      pub ended_so : (step : Step) → HangsSo m digest layout wanted point step took hung → HangsSo m digest layout wanted point step old now
      ended_so (Ends held) has = ended_held held has
      ended_so (Leads node) hangs = (ended_nodes hangs.0, ended_place _ hangs.1)
      ended_so Again hangs = (ended_nodes hangs.0, ended_place point hangs.1)
      ended_so Anew hangs = ended_nodes hangs
