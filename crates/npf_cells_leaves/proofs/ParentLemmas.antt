-- Parents of nodes: new nodes that name their places have right ones, and no node hangs in two places.
use Rattle.std.specs.List.{Contains}
use Rattle.std.proofs.Common.{◌≡◌, ◌≢◌, ℕ, ◌+◌, ◌<◌, Bool, true, false, cond, zero, suc, List, [], ◌∷◌, slice_index, refl, sym, ap, ◌∙◌, subst, ⊎_elim, arith}
use Rattle.std.proofs.lemmas.Bool.{cases_eq}
use Rattle.npf_types.specs.declared.key.Key.{Key}
use Rattle.npf_paths.specs.{declared.{cell.Cell.{Cell, TheVariants.{Empty, Node}}, place.Place.Place}, Growing.{IsBranch, IsBranch.{parts, goes_on}}}
use Rattle.npf_paths.specs.declared.place.Place.TheVariants as Places
use Rattle.npf_paths.specs.Paths.{IsEnd}
use Rattle.npf_cells_words.specs.{declared.layout.Layout.Layout, Codes.place_code, MarkWords.shown_of, Places.{IsInTrie, is_in_trie, place_at}}
use Rattle.npf_cells_words.proofs.{CodeLemmas.codes_are_apart, WordLemmas.in_trie}
use Rattle.npf_cells_leaves.specs.{LeavesLaw.HangsInOnePlace, Parents.{foot_place, NameParents}, Trie.cell_in}

-- what is said of each of the nodes may be said otherwise
pub names_so : (digits : ℕ → ℕ) (says says' : ℕ → ℕ → Type 0) (level : ℕ) (p : Place) (nodes : List ℕ) → ((node code : ℕ) → Contains nodes node → says node code → says' node code) →
    NameParents digits says level p nodes → NameParents digits says' level p nodes
names_so digits says says' level p [] all named = tt
names_so digits says says' level p (node ∷ nodes) all named = (
  all node (place_code p) (0, omega arith, refl) named.0,
  names_so digits says says' (level + 1) (Places.Node node (digits level)) nodes (λ n code c. all n code (let low = c.1 in (suc c.0, omega (arith, low), c.2))) named.1,
)

-- no node stands where a path ends
no_node : (c : Cell) (node : ℕ) → IsEnd c → c ≢ Node node
no_node c node end e = absurd (subst IsEnd e end)

module _ {mine theirs : ℕ → ℕ} {cell : Place → Cell} {leaf other : Cell} (says : ℕ → ℕ → Type 0) (leaf_ends : IsEnd leaf) (other_ends : IsEnd other) where
  -- the first of them names the place where it is to hang
  pub first_named : {level first : ℕ} {nodes : List ℕ} → IsBranch mine theirs cell leaf other level first nodes → (p : Place) → NameParents mine says level p nodes → says first (place_code p)
  first_named (parts level node apart a b empty) p named = named.0
  first_named (goes_on level node next tail agree is empty below) p named = named.0

  -- and each that stands in a place of another one names that place
  pub node_named : {level first : ℕ} {nodes : List ℕ} → IsBranch mine theirs cell leaf other level first nodes → (p : Place) → NameParents mine says level p nodes →
      (node digit next : ℕ) → Contains nodes node → digit < 16 → cell (Places.Node node digit) ≡ Node next →
      says next (place_code (Places.Node node digit))
  node_named (parts level node apart mine_is theirs_is empty) p named n digit next (zero, short, is) low stands =
      let there : cell (Places.Node node digit) ≡ Node next = ap (λ x. cell (Places.Node x digit)) is ∙ stands in
      ⊎_elim
      (λ (e : digit ≡ mine level). absurd (no_node leaf next leaf_ends (sym mine_is ∙ (ap (λ d. cell (Places.Node node d)) (sym e) ∙ there))))
      (λ ne. ⊎_elim
      (λ (e : digit ≡ theirs level). absurd (no_node other next other_ends (sym theirs_is ∙ (ap (λ d. cell (Places.Node node d)) (sym e) ∙ there))))
      (λ ne'. absurd (no_node Empty next tt (sym (empty digit low ne ne') ∙ there)))
      (cases_eq digit (theirs level)))
      (cases_eq digit (mine level))
  node_named (parts level node apart mine_is theirs_is empty) p named n digit next (suc i, short, is) low stands = absurd (omega (arith, short))
  node_named (goes_on level node below_it tail agree mine_is empty below) p named n digit next (zero, short, is) low stands =
      let there : cell (Places.Node node digit) ≡ Node next = ap (λ x. cell (Places.Node x digit)) is ∙ stands in
      ⊎_elim
      (λ (e : digit ≡ mine level).
      let nodes_same : Node below_it ≡ Node next = sym mine_is ∙ (ap (λ d. cell (Places.Node node d)) (sym e) ∙ there) in
      let same : below_it ≡ next = cc in
      let first = first_named below (Places.Node node (mine level)) named.1 in
      subst (λ (y : ℕ × ℕ × ℕ). says y.0 (place_code (Places.Node y.1 y.2))) (λ i. (same i, is i, sym e i)) first)
      (λ ne. absurd (no_node Empty next tt (sym (empty digit low ne) ∙ there)))
      (cases_eq digit (mine level))
  node_named (goes_on level node below_it tail agree mine_is empty below) p named n digit next (suc i, short, is) low stands =
      node_named below (Places.Node node (mine level)) named.1 n digit next (i, omega (arith, short), is) low stands

-- the leaves stand at the foot of the new nodes, where either key's digits lead
module _ {mine theirs : ℕ → ℕ} {cell : Place → Cell} {leaf other : Cell} (leaf_ends : IsEnd leaf) (other_ends : IsEnd other)
    (full : leaf ≢ Empty) (other_full : other ≢ Empty) (two : leaf ≢ other) where
  pub mine_foot : {level first : ℕ} {nodes : List ℕ} → IsBranch mine theirs cell leaf other level first nodes → (p : Place) (node digit : ℕ) →
      Contains nodes node → digit < 16 → cell (Places.Node node digit) ≡ leaf → Places.Node node digit ≡ foot_place mine level p nodes
  mine_foot (parts level node apart mine_is theirs_is empty) p n digit (zero, short, is) low stands =
      let there : cell (Places.Node node digit) ≡ leaf = ap (λ x. cell (Places.Node x digit)) is ∙ stands in
      ⊎_elim
      (λ (e : digit ≡ mine level). λ i. Places.Node (sym is i) (e i))
      (λ ne. ⊎_elim
      (λ (e : digit ≡ theirs level). absurd (two (sym there ∙ (ap (λ d. cell (Places.Node node d)) e ∙ theirs_is))))
      (λ ne'. absurd (full (sym there ∙ empty digit low ne ne')))
      (cases_eq digit (theirs level)))
      (cases_eq digit (mine level))
  mine_foot (parts level node apart mine_is theirs_is empty) p n digit (suc i, short, is) low stands = absurd (omega (arith, short))
  mine_foot (goes_on level node next tail agree mine_is empty below) p n digit (zero, short, is) low stands =
      let there : cell (Places.Node node digit) ≡ leaf = ap (λ x. cell (Places.Node x digit)) is ∙ stands in
      ⊎_elim
      (λ (e : digit ≡ mine level). absurd (no_node leaf next leaf_ends (sym there ∙ (ap (λ d. cell (Places.Node node d)) e ∙ mine_is))))
      (λ ne. absurd (full (sym there ∙ empty digit low ne)))
      (cases_eq digit (mine level))
  mine_foot (goes_on level node next tail agree mine_is empty below) p n digit (suc i, short, is) low stands =
      mine_foot below (Places.Node node (mine level)) n digit (i, omega (arith, short), is) low stands

  pub theirs_foot : {level first : ℕ} {nodes : List ℕ} → IsBranch mine theirs cell leaf other level first nodes → (p : Place) (node digit : ℕ) →
      Contains nodes node → digit < 16 → cell (Places.Node node digit) ≡ other → Places.Node node digit ≡ foot_place theirs level p nodes
  theirs_foot (parts level node apart mine_is theirs_is empty) p n digit (zero, short, is) low stands =
      let there : cell (Places.Node node digit) ≡ other = ap (λ x. cell (Places.Node x digit)) is ∙ stands in
      ⊎_elim
      (λ (e : digit ≡ mine level). absurd (two (sym mine_is ∙ (ap (λ d. cell (Places.Node node d)) (sym e) ∙ there))))
      (λ ne. ⊎_elim
      (λ (e : digit ≡ theirs level). λ i. Places.Node (sym is i) (e i))
      (λ ne'. absurd (other_full (sym there ∙ empty digit low ne ne')))
      (cases_eq digit (theirs level)))
      (cases_eq digit (mine level))
  theirs_foot (parts level node apart mine_is theirs_is empty) p n digit (suc i, short, is) low stands = absurd (omega (arith, short))
  theirs_foot (goes_on level node next tail agree mine_is empty below) p n digit (zero, short, is) low stands =
      let there : cell (Places.Node node digit) ≡ other = ap (λ x. cell (Places.Node x digit)) is ∙ stands in
      ⊎_elim
      (λ (e : digit ≡ mine level). absurd (no_node other next other_ends (sym there ∙ (ap (λ d. cell (Places.Node node d)) e ∙ mine_is))))
      (λ ne. absurd (other_full (sym there ∙ empty digit low ne)))
      (cases_eq digit (mine level))
  theirs_foot (goes_on level node next tail agree mine_is empty below) p n digit (suc i, short, is) low stands =
      theirs_foot below (Places.Node node (theirs level)) n digit (i, omega (arith, short), is) low stands

-- a node stands in a place of the table
pub stands_in_trie : (layout : Layout) (words : List ℕ) (p : Place) (node : ℕ) → cell_in layout words p ≡ Node node → IsInTrie layout p
stands_in_trie layout words p node is = by_place (is_in_trie layout p) refl is
  where
    by_place : (b : Bool) → is_in_trie layout p ≡ b → cond b (shown_of (slice_index words (place_at layout p))) Empty ≡ Node node → IsInTrie layout p
    by_place true e stands = in_trie layout p e
    by_place false e stands = absurd cc

pub hangs_in_one_place : {S : Type 0} (digest : Key → ℕ) (layout : Layout) → HangsInOnePlace S digest layout
hangs_in_one_place digest layout published k words sides digits digits' level level' p q node kept are are' on on' stands stands' =
    codes_are_apart layout p q (stands_in_trie layout words p node stands) (stands_in_trie layout words q node stands')
    (sym (kept.parents digits level p node are on stands) ∙ kept.parents digits' level' q node are' on' stands')
