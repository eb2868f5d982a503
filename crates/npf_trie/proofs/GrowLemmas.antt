-- What a pass has once it built nodes and locked the place where they are to hang, and what it has once it unlocked it.
use Rattle.std.proofs.lemmas.List.{length-append}
use Rattle.std.proofs.Common.{◌≡◌, ◌≢◌, ℕ, ◌+◌, ◌-◌, ◌≤◌, ◌<◌, ◌∷◌, [], ◌++◌, None, List, zero, suc, length, slice_index, refl, sym, ap, ◌∙◌, subst, arith}
use Rattle.atomic_table.specs.Table.{Me}
use Rattle.npf_types.specs.declared.key.Key.{Key}
use Rattle.npf_core.specs.{declared.{entry.Entry.Entry, held.Held.Held}, Meaning.Meaning}
use Rattle.npf_connections.specs.{Adding.AddsOwn, Entries.hold_entries, Pass.{Pass, IsPass}}
use Rattle.npf_paths.{specs.{Digits.{PartsAt, digit_of}, declared.{cell.Cell.Cell, place.Place.Place}, Growing.IsBranch}, proofs.BranchLemmas.branch_same}
use Rattle.npf_paths.specs.declared.cell.Cell.TheVariants as Cells
use Rattle.npf_paths.specs.declared.place.Place.TheVariants as Places
use Rattle.npf_cells_words.specs.{declared.layout.{Layout.Layout, Pool.TheVariants.Nodes}, Layout.{parent_field, note_field, field_at}}
use Rattle.npf_cells_leaves.{proofs.{TrieLemmas.are_digits, ParentLemmas.names_so}, specs.{declared.trie.TrieSide.TrieSide, Parents.{foot_place, NameParents}}}
use Rattle.npf_cells_rule.specs.{declared.view.CellView.CellView, Views.with_pools, Passes.cell_pass}
use Rattle.npf_cells_lives.specs.{declared.pools.{PoolSide.PoolSide, StoredWord.StoredWord, Note.Note}, Notes.{notes_but, with_ahead}}
use Rattle.npf_cells_holds.specs.{HoldKinds.MayHoldSo, PublishKinds.{HasStoredKey, IsParentStored, cell_stored, stored_cell}}
use Rattle.npf_trie.specs.{declared.step.{Branch.Branch, OtherLeaf.OtherLeaf, Point.Point, Step.Step}, Stores.KeepsNodes}
use Rattle.npf_cells_leaves.specs.Trie.{digits_of}
use Rattle.npf_trie.specs.declared.step.{Step.TheVariants.{Ends, Leads, Again, Anew}, Wanted.Wanted}
use Rattle.npf_trie.specs.HoldKey.{CanHold, SettlesHold, HoldsOn, IsAtPlace, StepsSo, having_held, noted_after, HasGrown, HoldsNodes, HasHung, HangsSo, HasMet}
use Rattle.npf_trie.{specs.Nodes.{TakesNodes, FindsTooFew, left_with}, proofs.HangLemmas.place_stays}

-- the level at which two keys part, by its distance from this one
pub parts_below : (hash hash' mine theirs : ℕ) (key other : Key) (parting level long : ℕ) → PartsAt hash key hash' other parting → hash ≡ mine → hash' ≡ theirs → level < parting →
    long ≡ parting - level → PartsAt mine key theirs other (level + long)
parts_below hash hash' mine theirs key other parting level long parts is is' below counted =
    let same : parting ≡ level + long = omega arith in
    subst (λ l. PartsAt mine key theirs other l) same (subst (λ h. PartsAt h key theirs other parting) is (subst (λ h. PartsAt hash key h other parting) is' parts))

all_there : {E : Type 0} (xs : List E) → xs ≡ xs ++ []
all_there [] = refl
all_there (x ∷ xs) = ap (λ ys. x ∷ ys) (all_there xs)

-- the place at the foot of new nodes is one of the last
pub foot_is : (digits : ℕ → ℕ) (level : ℕ) (p : Place) (nodes : List ℕ) (last : ℕ) → last + 1 ≡ length nodes →
    foot_place digits level p nodes ≡ Places.Node (slice_index nodes last) (digits (level + last))
foot_is digits level p [] last counted = absurd (omega (arith, counted))
foot_is digits level p (node ∷ []) last counted = let none : last ≡ 0 = omega (arith, counted) in
    (λ i. Places.Node node (digits ((let same : level ≡ level + 0 = omega arith in same) i))) ∙ ap (λ n. Places.Node (slice_index (node ∷ []) n) (digits (level + n))) (sym none)
foot_is digits level p (node ∷ next ∷ rest) zero counted = absurd (omega (arith, counted))
foot_is digits level p (node ∷ next ∷ rest) (suc last) counted =
    foot_is digits (level + 1) (Places.Node node (digits level)) (next ∷ rest) last (omega (arith, counted))
    ∙ (λ i. Places.Node (slice_index (next ∷ rest) last) (digits ((let same : level + 1 + last ≡ level + suc last = omega arith in same) i)))

-- a key's place in the last of the nodes that were taken is at their foot
pub foot_of : (digest : Key → ℕ) (hash : ℕ) (key : Key) (level parting : ℕ) (p : Place) (nodes : List ℕ) (node : ℕ) (place : Place) →
    hash ≡ digest key → level < parting → length nodes ≡ parting - level → node ≡ slice_index nodes (parting - level - 1) →
    place ≡ Places.Node node (digit_of hash key parting) → place ≡ foot_place (digits_of digest key) (level + 1) p nodes
foot_of digest hash key level parting p nodes node place hashed below counted node_is is =
    let same : parting ≡ level + 1 + (parting - level - 1) = omega (arith, below) in
    is ∙ ((λ i. Places.Node (node_is i) (digit_of (hashed i) key (same i))) ∙ sym (foot_is (digits_of digest key) (level + 1) p nodes (parting - level - 1) (omega (arith, below, counted))))

-- the parents that were stored, as those of the nodes that were taken
pub parents_so : (mine : ℕ → ℕ) (says : ℕ → ℕ → Type 0) (level : ℕ) (p : Place) (nodes nodes' : List ℕ) → nodes ≡ nodes' → NameParents mine says level p nodes → NameParents mine says level p nodes'
parents_so mine says level p nodes nodes' all named = subst (λ xs. NameParents mine says level p xs) all named

-- the branch that was built, as that of the nodes that were taken
pub branch_so : (mine theirs : ℕ → ℕ) (cell : Place → Cell) (leaf other leaf' other' : Cell) (level : ℕ) (nodes nodes' : List ℕ) → leaf ≡ leaf' → other ≡ other' → nodes ≡ nodes' →
    IsBranch mine theirs cell leaf other level (slice_index nodes 0) nodes → IsBranch mine theirs cell leaf' other' level (slice_index nodes' 0) nodes'
branch_so mine theirs cell leaf other leaf' other' level nodes nodes' same same' all branch =
    subst (λ xs. IsBranch mine theirs cell leaf' other' level (slice_index xs 0) xs) all
    (subst (λ c. IsBranch mine theirs cell leaf' c level (slice_index nodes 0) nodes) same' (subst (λ c. IsBranch mine theirs cell c other level (slice_index nodes 0) nodes) same branch))

module _ {S A R : Type 0} where
  -- the pass took nodes, and stored in them and in its connection
  abbrev pub readied : CellView S A R → PoolSide → List StoredWord → CellView S A R
  readied v pools stored = record v { pools = record v.pools { found = pools.found; row = pools.row; sweeps = pools.sweeps; nodes = pools.nodes; stored = stored } }

  -- and what it has at last
  abbrev settled : CellView S A R → List (Entry S A R) → PoolSide → ℕ → List ℕ → List StoredWord → List Note → TrieSide → CellView S A R
  settled v history pools found nodes stored notes side = record v {
    seats = record v.seats { history = history };
    pools = record v.pools { found = found; row = pools.row; sweeps = pools.sweeps; nodes = nodes; stored = stored; notes = notes };
    trie = record side { locks = v.trie.locks; marks = v.trie.marks };
  }

module _ {S A R F : Type 0} where
  abbrev gave_back : ℕ → List StoredWord → Me F (CellView S A R) → Me F (CellView S A R)
  gave_back found stored y = with_pools y (record y.0.pools { found = found; nodes = []; stored = stored })

  -- what was taken, and given back, changed of the pass
  pub took_so : {layout : Layout} {count : ℕ} {nodes : List ℕ} {old took : Me F (CellView S A R)} → TakesNodes layout count nodes old took →
      took ≡ with_pools old (record old.0.pools { found = took.0.pools.found; row = took.0.pools.row; sweeps = took.0.pools.sweeps; nodes = took.0.pools.nodes })
  took_so {old = old} {took} takes =
      let sweeps = ap (λ (y : Me F (CellView S A R)). y.0.pools.sweeps) takes.is in
      let nodes = ap (λ (y : Me F (CellView S A R)). y.0.pools.nodes) takes.is in
      takes.is ∙ (λ i. with_pools old (record old.0.pools { found = took.0.pools.found; row = took.0.pools.row; sweeps = sym sweeps i; nodes = sym nodes i }))

  pub took_more : {layout : Layout} {count : ℕ} {nodes : List ℕ} {old took : Me F (CellView S A R)} → TakesNodes layout count nodes old took → old.0.pools.sweeps ≤ took.0.pools.sweeps
  took_more takes = let same = ap (λ (y : Me F (CellView S A R)). y.0.pools.sweeps) takes.is in omega (arith, same)

  pub gave_all : (hung now : Me F (CellView S A R)) → now ≡ with_pools hung (left_with [] hung.0.pools now.0.pools) → now ≡ gave_back now.0.pools.found now.0.pools.stored hung
  gave_all hung now is = is

  pub readies : (old took built filled : Me F (CellView S A R)) →
      took ≡ with_pools old (record old.0.pools { found = took.0.pools.found; row = took.0.pools.row; sweeps = took.0.pools.sweeps; nodes = took.0.pools.nodes }) →
      built ≡ with_pools took (record took.0.pools { stored = built.0.pools.stored }) → filled ≡ with_pools built (record built.0.pools { stored = filled.0.pools.stored }) →
      filled ≡ (readied old.0 took.0.pools filled.0.pools.stored, old.1)
  readies old took built filled takes builds fills =
      let first : List StoredWord = built.0.pools.stored in
      let last : List StoredWord = filled.0.pools.stored in
      let store = λ (stored : List StoredWord) (y : Me F (CellView S A R)). with_pools y (record y.0.pools { stored = stored }) in
      fills ∙ ap (store last) (builds ∙ ap (store first) takes)

  -- it may hold the key as before
  pub may_still : (m : Meaning S A R) (wanted : Wanted) (old took built : Me F (CellView S A R)) → MayHoldSo m old.0 wanted.id wanted.way →
      took ≡ with_pools old (record old.0.pools { found = took.0.pools.found; row = took.0.pools.row; sweeps = took.0.pools.sweeps; nodes = took.0.pools.nodes }) →
      built ≡ with_pools took (record took.0.pools { stored = built.0.pools.stored }) → MayHoldSo m built.0 wanted.id wanted.way
  may_still m wanted old took built may takes builds =
      let first : List StoredWord = built.0.pools.stored in
      let is = builds ∙ ap (λ (y : Me F (CellView S A R)). with_pools y (record y.0.pools { stored = first })) takes in
      subst (λ (y : Me F (CellView S A R)). MayHoldSo m y.0 wanted.id wanted.way) (sym is) (record { built = may.built; bare = may.bare })

  -- without a node at last, as at first, only what a hold changes has changed
  settles : (old now : Me F (CellView S A R)) (history : List (Entry S A R)) (pools : PoolSide) (found : ℕ) (stored : List StoredWord) (notes : List Note) (side : TrieSide) → old.0.pools.nodes ≡ [] →
      now ≡ (settled old.0 history pools found [] stored notes side, old.1) → now ≡ (having_held old.0 now.0, old.1)
  settles old now history pools found stored notes side none is =
      let nodes = ap (λ ns. let y : Me F (CellView S A R) = (settled old.0 history pools found ns stored notes side, old.1) in y) (sym none) in
      subst (λ (y : Me F (CellView S A R)). y ≡ (having_held old.0 y.0, old.1)) (sym (is ∙ nodes)) refl

module _ {S A R F : Type 0} (m : Meaning S A R) (digest : Key → ℕ) (layout : Layout) (wanted : Wanted) (point : Point)
    (old : Me F (CellView S A R)) (can : CanHold m layout old.0 wanted.id wanted.way) where
  -- too few nodes were left: no entry
  pub ends_without : (other : OtherLeaf) (now : Me F (CellView S A R)) → HasMet old.0.trie wanted.key point.level other →
      FindsTooFew layout old now → SettlesHold m layout wanted.id wanted.key wanted.way Held.NoNode old now
  ends_without other now met few = record {
    adds = record {
      adds = record { rest = []; goes_on = ap (λ (y : Me F (CellView S A R)). y.0.seats.history) few.is ∙ all_there old.0.seats.history; own = refl; listed = λ number has. refl };
      ends = λ init last e. absurd (omega (arith, ap length e, length-append init (last ∷ [])));
    };
    legal = λ differs. absurd (differs refl);
    same = λ e. ap (λ (y : Me F (CellView S A R)). y.0.seats.history) few.is;
    answered = ap (λ (y : Me F (CellView S A R)). y.0.trie.answered) few.is ∙ met.unanswered;
    is = subst (λ (y : Me F (CellView S A R)). y ≡ (having_held old.0 y.0, old.1)) (sym few.is) refl;
    sweeps = omega (arith, few.swept);
    swept = λ e some. omega (arith, few.swept, some);
    met = λ e. record {
      meeting = record { key = wanted.key; other = other.key; level = point.level };
      met = ap (λ (y : Me F (CellView S A R)). y.0.trie.meets) few.is ∙ met.meets;
      key_is = refl;
      apart = met.apart;
    };
    unpublished = λ e. ap (λ (y : Me F (CellView S A R)). y.0.trie.published) few.is;
    noted = ap (λ (y : Me F (CellView S A R)). y.0.pools.notes) few.is;
  }

  -- the nodes are built
  pub has_grown : (branch : Branch) (count : ℕ) (nodes : List ℕ) (took filled : Me F (CellView S A R)) (before stored : List StoredWord) → IsAtPlace digest layout old.0 wanted.key point →
      TakesNodes layout count nodes old took → filled ≡ (readied old.0 took.0.pools stored, old.1) → HasStoredKey layout stored wanted.id.slot wanted.way wanted.key →
      KeepsNodes layout before stored →
      IsBranch (digits_of digest wanted.key) (digits_of digest branch.other.key) (cell_stored layout before) (Cells.Leaf wanted.id.slot wanted.way)
      (Cells.Leaf branch.other.slot branch.other.way) (point.level + 1) branch.first nodes →
      NameParents (digits_of digest wanted.key) (IsParentStored layout before) (point.level + 1) point.place nodes → 1 ≤ length nodes →
      branch.own_place ≡ foot_place (digits_of digest wanted.key) (point.level + 1) point.place nodes →
      branch.moved_to ≡ foot_place (digits_of digest branch.other.key) (point.level + 1) point.place nodes →
      old.0.trie.marks ≡ [] → HasGrown m digest layout filled.0 wanted point branch
  has_grown branch count nodes took filled before stored at takes ready key_stored keeps leads parents some own moved unmarked =
      let made : HasGrown m digest layout (readied old.0 took.0.pools stored) wanted point branch = record {
        may = record { built = can.may.built; bare = can.may.bare };
        exists = can.exists;
        stored = can.stored;
        unmarked = unmarked;
        at = place_stays digest layout old.0 _ wanted.key point refl at;
        key_stored = key_stored;
        nodes = nodes;
        leads = branch_same leads (are_digits digest wanted.key) (are_digits digest branch.other.key) (omega arith) (λ node digit has low. let within = takes.within node has in
            ap stored_cell (keeps (field_at layout Nodes node digit) (omega (arith, within, low))));
        owned = takes.owned;
        apart = takes.apart;
        parents = names_so (digits_of digest wanted.key) (IsParentStored layout before) (IsParentStored layout stored) (point.level + 1) point.place nodes
            (λ node code has is. let within = takes.within node has in keeps (field_at layout Nodes node parent_field) (omega (arith, within)) ∙ is) parents;
        all = takes.all;
        some = some;
        own_place = own;
        moved_to = moved;
      } in
      subst (λ (y : Me F (CellView S A R)). HasGrown m digest layout y.0 wanted point branch) (sym ready) made

  module _ (pools : PoolSide) (stored : List StoredWord) (filled hung : Me F (CellView S A R)) (ready : filled ≡ (readied old.0 pools stored, old.1))
      (more : old.0.pools.sweeps ≤ pools.sweeps) where
    -- what came of it is the answer
    answers : (held : Held) (now : Me F (CellView S A R)) → HasHung m wanted held filled hung → cell_pass now.0 ≡ cell_pass hung.0 → now ≡ (having_held old.0 now.0, old.1) →
        now.0.pools.sweeps ≡ pools.sweeps → now.0.pools.notes ≡ noted_after held wanted.id wanted.way old.0.pools.notes → SettlesHold m layout wanted.id wanted.key wanted.way held old now
    answers held now has pass is swept noted =
        let history : List (Entry S A R) = hung.0.seats.history in
        let adds = subst (λ (y : Me F (CellView S A R)). AddsOwn (cell_pass y.0) history (hold_entries (cell_pass y.0) wanted.id wanted.key wanted.way held)) ready has.adds in
        let mine : AddsOwn (cell_pass old.0) history (hold_entries (cell_pass old.0) wanted.id wanted.key wanted.way held) = record {
          adds = record { rest = adds.adds.rest; goes_on = adds.adds.goes_on; own = adds.adds.own; listed = adds.adds.listed };
          ends = adds.ends;
        } in
        record {
          adds = subst (λ (p : Pass (Entry S A R)). AddsOwn (cell_pass old.0) p.history (hold_entries (cell_pass old.0) wanted.id wanted.key wanted.way held)) (sym pass) mine;
          same = λ e. absurd (has.some e);
          legal = λ some. subst (λ (p : Pass (Entry S A R)). IsPass m p) (sym pass) has.legal;
          answered = ap (λ (p : Pass (Entry S A R)). p.answered) pass ∙ has.answered;
          is = is;
          sweeps = omega arith;
          swept = λ e some. absurd (has.some e);
          met = λ e. absurd (has.some e);
          unpublished = λ e. absurd (has.some e);
          noted = noted;
        }

    -- the nodes hang there
    pub steps_done : (step : Step) → step ≡ Ends Held.Done → HangsSo m digest layout wanted point step filled hung → StepsSo m digest layout wanted point step old hung
    steps_done step is hangs =
        let has : HasHung m wanted Held.Done filled hung = subst (λ s. HangsSo m digest layout wanted point s filled hung) is hangs in
        let history : List (Entry S A R) = hung.0.seats.history in
        let words : List StoredWord = hung.0.pools.stored in
        let side : TrieSide = hung.0.trie in
        let notes : List Note = notes_but wanted.id.slot (note_field wanted.way) old.0.pools.notes in
        let at_last : hung ≡ (settled old.0 history pools pools.found [] words notes side, old.1) = has.done refl ∙ (ap (λ (y : Me F (CellView S A R)). (
          record y.0 {
            seats = record y.0.seats { history = history };
            pools = record y.0.pools { nodes = []; stored = words; notes = notes_but wanted.id.slot (note_field wanted.way) y.0.pools.notes };
            trie = record side { locks = y.0.trie.locks; marks = y.0.trie.marks };
            turn = with_ahead None y.0.turn;
          },
          y.1,
        )) ready ∙ (λ i. (record (settled old.0 history pools pools.found [] words notes side) { turn = (ap (with_ahead None) can.turnless ∙ sym can.turnless) i }, old.1))) in
        subst (λ s. StepsSo m digest layout wanted point s old hung) (sym is)
        (answers Held.Done hung has refl (settles old hung history pools pools.found words notes side can.nodes at_last)
        (ap (λ (y : Me F (CellView S A R)). y.0.pools.sweeps) at_last) (ap (λ (y : Me F (CellView S A R)). y.0.pools.notes) at_last))

    -- they don't, and are the pass's still
    pub owns_still : (step : Step) → step ≢ Ends Held.Done → HangsSo m digest layout wanted point step filled hung → hung.0.pools.nodes ≡ pools.nodes
    owns_still step differs hangs = same step differs hangs ∙ ap (λ (y : Me F (CellView S A R)). y.0.pools.nodes) ready
      where
        same : (s : Step) → s ≢ Ends Held.Done → HangsSo m digest layout wanted point s filled hung → hung.0.pools.nodes ≡ filled.0.pools.nodes
        same (Ends held) differs' has = ap (λ (y : Me F (CellView S A R)). y.0.pools.nodes) (has.taken (λ e. differs' (ap Ends e)))
        same (Leads node) differs' hangs' = ap (λ (y : Me F (CellView S A R)). y.0.pools.nodes) hangs'.0.is
        same Again differs' hangs' = ap (λ (y : Me F (CellView S A R)). y.0.pools.nodes) hangs'.0.is
        same Anew differs' hangs' = ap (λ (y : Me F (CellView S A R)). y.0.pools.nodes) hangs'.is

    -- and then they are given back
    module _ (now : Me F (CellView S A R)) (found : ℕ) (left : List StoredWord) (gives : now ≡ gave_back found left hung) where
      at_end : (history : List (Entry S A R)) (side : TrieSide) →
          hung ≡ (record filled.0 { seats = record filled.0.seats { history = history }; trie = record side { locks = filled.0.trie.locks; marks = filled.0.trie.marks } }, filled.1) →
          now ≡ (settled old.0 history pools found [] left old.0.pools.notes side, old.1)
      at_end history side stays =
          gives ∙ ap (gave_back found left)
          (stays ∙ ap (λ (y : Me F (CellView S A R)). (
            record y.0 {
              seats = record y.0.seats { history = history };
              trie = record side { locks = y.0.trie.locks; marks = y.0.trie.marks };
            },
            y.1,
          )) ready)

      same_place : (point' : Point) → IsAtPlace digest layout hung.0 wanted.key point' → IsAtPlace digest layout now.0 wanted.key point'
      same_place point' at = place_stays digest layout hung.0 now.0 wanted.key point' (ap (λ (y : Me F (CellView S A R)). y.0.trie.stands) gives) at

      goes_on : HoldsNodes filled hung → HoldsOn old now
      goes_on stays =
          let at_last = at_end filled.0.seats.history hung.0.trie stays.is in
          let same : filled.0.seats.history ≡ old.0.seats.history = ap (λ (y : Me F (CellView S A R)). y.0.seats.history) ready in
          let published : filled.0.trie.published ≡ old.0.trie.published = ap (λ (y : Me F (CellView S A R)). y.0.trie.published) ready in
          let swept : now.0.pools.sweeps ≡ pools.sweeps = ap (λ (y : Me F (CellView S A R)). y.0.pools.sweeps) at_last in
          record {
            is = settles old now filled.0.seats.history pools found left old.0.pools.notes hung.0.trie can.nodes at_last;
            history = ap (λ (y : Me F (CellView S A R)). y.0.seats.history) at_last ∙ same;
            sweeps = omega arith;
            unpublished = ap (λ (y : Me F (CellView S A R)). y.0.trie.published) at_last ∙ (stays.unpublished ∙ published);
            noted = ap (λ (y : Me F (CellView S A R)). y.0.pools.notes) at_last;
          }

      refused : (held : Held) → held ≢ Held.Done → held ≢ Held.NoNode → (notes : List Note) → notes ≡ noted_after held wanted.id wanted.way notes
      refused Held.Done differs some notes = absurd (differs refl)
      refused (Held.Taken by) differs some notes = refl
      refused Held.NoNode differs some notes = absurd (some refl)

      pub steps_back : (step : Step) → step ≢ Ends Held.Done → HangsSo m digest layout wanted point step filled hung → StepsSo m digest layout wanted point step old now
      steps_back (Ends held) differs has =
          let history : List (Entry S A R) = hung.0.seats.history in
          let apart : held ≢ Held.Done = (λ e. differs (ap Ends e)) in
          let at_last = at_end history hung.0.trie (has.taken apart) in
          answers held now has (ap (λ (y : Me F (CellView S A R)). cell_pass y.0) gives)
          (settles old now history pools found left old.0.pools.notes hung.0.trie can.nodes at_last) (ap (λ (y : Me F (CellView S A R)). y.0.pools.sweeps) at_last)
          (ap (λ (y : Me F (CellView S A R)). y.0.pools.notes) at_last ∙ refused held apart has.some old.0.pools.notes)
      steps_back (Leads node) differs hangs = (goes_on hangs.0, same_place _ hangs.1)
      steps_back Again differs hangs = (goes_on hangs.0, same_place _ hangs.1)
      steps_back Anew differs hangs = goes_on hangs
