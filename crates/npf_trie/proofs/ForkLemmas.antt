-- Nodes that lead two keys on, from the foot up.
use Rattle.std.proofs.Common.{◌≡◌, ◌≢◌, ℕ, ◌+◌, ◌%◌, ◌<◌, ◌≤◌, Bool, true, false, cond, eqb, eq-eqb, ne_eqb, List, [], ◌∷◌, length, slice_index, zero, suc, refl, sym, ap, ◌∙◌, subst, arith}
use Rattle.std.{specs.Prelude.Contains, proofs.lemmas.Grind.get_or_default_zero}
use Rattle.npf_types.specs.declared.key.{Key.Key, Way.Way}
use Rattle.npf_shelf.proofs.ListLemmas.{Contains-later, Contains-first}
use Rattle.npf_paths.specs.{CellWords.cell_word, Digits.{digit_of, PartsAt}, declared.{cell.Cell.Cell, place.Place.{Place, TheVariants.Node}}, Growing.IsBranch}
use Rattle.npf_paths.specs.declared.cell.Cell.TheVariants as Cells
use Rattle.npf_paths.{specs.{Growing.IsBranch.{parts, goes_on}, LevelLaw.AreApart}, proofs.BranchLemmas.branch_same}
use Rattle.npf_cells_words.specs.{declared.layout.{Layout.Layout, Pool.TheVariants.Nodes}, Layout.{parent_field, field_at}, Codes.place_code}
use Rattle.npf_cells_leaves.{proofs.{TrieLemmas.are_digits, ParentLemmas.names_so}, specs.{Parents.NameParents, Trie.digits_of}}
use Rattle.npf_cells_lives.specs.{declared.pools.{PoolSide.PoolSide, StoredWord.StoredWord}, Stored.stored_value}
use Rattle.npf_cells_holds.specs.PublishKinds.{IsParentStored, cell_stored, stored_cell}
use Rattle.npf_trie.specs.Stores.{HasNewNodes, LiesOutside, KeepsOutside, forked_cell}

-- what stands at the first digit, at the second, and elsewhere
at_mine : (d d' : ℕ) (leaf other : Cell) (digit : ℕ) → digit ≡ d → forked_cell d leaf d' other digit ≡ leaf
at_mine d d' leaf other digit e = ap (λ b. cond b leaf (cond (eqb digit d') other Cells.Empty)) (eq-eqb digit d e)

at_theirs : (d d' : ℕ) (leaf other : Cell) (digit : ℕ) → digit ≢ d → digit ≡ d' → forked_cell d leaf d' other digit ≡ other
at_theirs d d' leaf other digit ne e = ap (λ b. cond b leaf (cond (eqb digit d') other Cells.Empty)) (ne_eqb digit d ne) ∙ ap (λ b. cond b other Cells.Empty) (eq-eqb digit d' e)

at_neither : (d d' : ℕ) (leaf other : Cell) (digit : ℕ) → digit ≢ d → digit ≢ d' → forked_cell d leaf d' other digit ≡ Cells.Empty
at_neither d d' leaf other digit ne ne' = ap (λ b. cond b leaf (cond (eqb digit d') other Cells.Empty)) (ne_eqb digit d ne) ∙ ap (λ b. cond b other Cells.Empty) (ne_eqb digit d' ne')

-- none is a mark where neither of the two is, nor is its word that of one
forked_real : (d d' : ℕ) (leaf other : Cell) (digit : ℕ) → leaf ≢ Cells.Mark → other ≢ Cells.Mark → forked_cell d leaf d' other digit ≢ Cells.Mark
forked_real d d' leaf other digit real real' = by_digit (eqb digit d) (eqb digit d')
  where
    by_digit : (b b' : Bool) → cond b leaf (cond b' other Cells.Empty) ≢ Cells.Mark
    by_digit true b' = real
    by_digit false true = real'
    by_digit false false = λ e. cc

word_real : (cell : Cell) → cell ≢ Cells.Mark → cell_word cell % 4 ≢ 3
word_real Cells.Empty real e = omega (arith, e)
word_real (Cells.Leaf slot way) real e = omega (arith, e)
word_real (Cells.Node node) real e = omega (arith, e)
word_real Cells.Mark real e = real refl

pub forked_word : (d d' : ℕ) (leaf other : Cell) (digit word : ℕ) → leaf ≢ Cells.Mark → other ≢ Cells.Mark → word ≡ cell_word (forked_cell d leaf d' other digit) → word % 4 ≢ 3
forked_word d d' leaf other digit word real real' is = subst (λ (w : ℕ). w % 4 ≢ 3) (sym is) (word_real (forked_cell d leaf d' other digit) (forked_real d d' leaf other digit real real'))

-- a leaf is no mark
pub leaf_real : (cell : Cell) (slot : ℕ) (way : Way) → cell ≡ Cells.Leaf slot way → cell ≢ Cells.Mark
leaf_real cell slot way is mark = let no : Cells.Leaf slot way ≡ Cells.Mark = sym is ∙ mark in cc

module _ (mine theirs : ℕ → ℕ) (cell : Place → Cell) (leaf other : Cell) (level node d : ℕ) (is : d ≡ mine level) (low : mine level < 16) where
  -- the node at the foot has either leaf
  foot : (d' : ℕ) → d' ≡ theirs level → theirs level < 16 → mine level ≢ theirs level →
      ((digit : ℕ) → digit < 16 → cell (Node node digit) ≡ forked_cell d leaf d' other digit) → IsBranch mine theirs cell leaf other level node (node ∷ [])
  foot d' is' low' apart cells = parts level node apart
      (cells (mine level) low ∙ at_mine d d' leaf other (mine level) (sym is))
      (cells (theirs level) low' ∙ at_theirs d d' leaf other (theirs level) (λ e. apart (sym is ∙ sym e)) (sym is'))
      (λ digit small not_mine not_theirs. cells digit small ∙ at_neither d d' leaf other digit (λ e. not_mine (e ∙ is)) (λ e. not_theirs (e ∙ is')))

  -- one above it has the next
  above : (next : ℕ) (nodes : List ℕ) → mine level ≡ theirs level →
      ((digit : ℕ) → digit < 16 → cell (Node node digit) ≡ forked_cell d (Cells.Node next) d (Cells.Node next) digit) → IsBranch mine theirs cell leaf other (level + 1) next nodes →
      IsBranch mine theirs cell leaf other level node (node ∷ nodes)
  above next nodes agree cells below = goes_on level node next nodes agree
      (cells (mine level) low ∙ at_mine d d (Cells.Node next) (Cells.Node next) (mine level) (sym is))
      (λ digit small not_mine. cells digit small ∙ at_neither d d (Cells.Node next) (Cells.Node next) digit (λ e. not_mine (e ∙ is)) (λ e. not_mine (e ∙ is)))
      below

only_of : (node n : ℕ) → Contains (node ∷ []) n → n ≡ node
only_of node n (zero, low, e) = sym e
only_of node n (suc i, low, e) = absurd (omega (arith, low))

none_left : (rest : List ℕ) → length rest ≡ 0 → rest ≡ []
none_left [] e = refl
none_left (node ∷ rest) e = absurd (omega (arith, e))

-- none of the others is the first
others_apart : (node : ℕ) (rest : List ℕ) (n : ℕ) → AreApart (node ∷ rest) → Contains rest n → n ≢ node
others_apart node rest n apart (i, low, at) e =
    let there : node ≡ slice_index rest i = sym e ∙ (sym at ∙ get_or_default_zero rest i n low) in
    let none : 0 ≡ suc i = apart 0 (suc i) (omega arith) (omega (arith, low)) there in
    omega (arith, none)

module _ (layout : Layout) (nodes : List ℕ) (node : ℕ) (rest : List ℕ) (e : nodes ≡ node ∷ rest) where
  pub first_in : Contains nodes node
  first_in = subst (λ xs. Contains xs node) (sym e) (Contains-first node rest)

  pub rest_new : (side : PoolSide) → HasNewNodes layout side nodes → HasNewNodes layout side rest
  rest_new side new =
      let all = subst (λ xs. HasNewNodes layout side xs) e new in
      record {
        exist = λ n has. all.exist n (Contains-later node n rest has);
        owned = λ n has. all.owned n (Contains-later node n rest has);
        apart = λ i j low low' same. let one : suc i ≡ suc j = all.apart (suc i) (suc j) (omega (arith, low)) (omega (arith, low')) same in omega (arith, one);
      }

  -- what is outside all of them is outside the first, its parent too, and outside the others
  first_outside : (word : ℕ) → LiesOutside layout 18 nodes word → LiesOutside layout 16 (node ∷ []) word
  first_outside word out n field has low = out n field (subst (λ m. Contains nodes m) (sym (only_of node n has)) first_in) (omega (arith, low))

  parent_apart : (word : ℕ) → LiesOutside layout 18 nodes word → field_at layout Nodes node parent_field ≢ word
  parent_apart word out = out node parent_field first_in (omega arith)

  rest_outside : (word : ℕ) → LiesOutside layout 18 nodes word → LiesOutside layout 18 rest word
  rest_outside word out n field has low = out n field (subst (λ xs. Contains xs n) (sym e) (Contains-later node n rest has)) low

  -- the words of the others are outside the first, and its own outside the others
  others_outside : AreApart nodes → (n field : ℕ) → Contains rest n → field < 18 → LiesOutside layout 16 (node ∷ []) (field_at layout Nodes n field)
  others_outside apart n field has low n' digit' has' low' same =
      others_apart node rest n (subst AreApart e apart) has (let is = only_of node n' has' in omega (arith, same, is, low, low'))

  own_outside : AreApart nodes → LiesOutside layout 18 rest (field_at layout Nodes node parent_field)
  own_outside apart n field has low same = others_apart node rest n (subst AreApart e apart) has (omega (arith, same, low))

  -- its parent is outside its places
  parent_outside : LiesOutside layout 16 (node ∷ []) (field_at layout Nodes node parent_field)
  parent_outside n field has low same = let is = only_of node n has in omega (arith, same, is, low)

  -- what is kept outside all of them: by the store of the first's parent, the stores in the others, and those in its places
  pub keeps_foot : (old put now : List StoredWord) → ((word : ℕ) → field_at layout Nodes node parent_field ≢ word → stored_value layout put word ≡ stored_value layout old word) →
      KeepsOutside layout 16 (node ∷ []) put now → KeepsOutside layout 18 nodes old now
  keeps_foot old put now puts fills word out = fills word (first_outside word out) ∙ puts word (parent_apart word out)

  pub keeps_above : (old put built now : List StoredWord) → ((word : ℕ) → field_at layout Nodes node parent_field ≢ word → stored_value layout put word ≡ stored_value layout old word) →
      KeepsOutside layout 18 rest put built → KeepsOutside layout 16 (node ∷ []) built now →
      KeepsOutside layout 18 nodes old now
  keeps_above old put built now puts builds fills word out = fills word (first_outside word out) ∙ (builds word (rest_outside word out) ∙ puts word (parent_apart word out))

  -- the parents of all of them are stored
  pub foot_named : (mine : ℕ → ℕ) (level : ℕ) (p : Place) (put now : List StoredWord) → length rest ≡ 0 → IsParentStored layout put node (place_code p) →
      KeepsOutside layout 16 (node ∷ []) put now → NameParents mine (IsParentStored layout now) level p nodes
  foot_named mine level p put now none there fills =
      let one : nodes ≡ node ∷ [] = e ∙ ap (λ xs. node ∷ xs) (none_left rest none) in
      subst (λ xs. NameParents mine (IsParentStored layout now) level p xs) (sym one) (fills (field_at layout Nodes node parent_field) parent_outside ∙ there, tt)

  pub above_named : (mine : ℕ → ℕ) (level d : ℕ) (p : Place) (put built now : List StoredWord) → AreApart nodes → d ≡ mine level →
      IsParentStored layout put node (place_code p) → KeepsOutside layout 18 rest put built → KeepsOutside layout 16 (node ∷ []) built now →
      NameParents mine (IsParentStored layout built) (level + 1) (Node node d) rest → NameParents mine (IsParentStored layout now) level p nodes
  above_named mine level d p put built now apart is there builds fills below =
      let still = names_so mine (IsParentStored layout built) (IsParentStored layout now) (level + 1) (Node node d) rest
      (λ n code has stored. fills (field_at layout Nodes n parent_field) (others_outside apart n parent_field has (omega arith)) ∙ stored) below in
      subst (λ xs. NameParents mine (IsParentStored layout now) level p xs) (sym e) (
        fills (field_at layout Nodes node parent_field) parent_outside ∙ (builds (field_at layout Nodes node parent_field) (own_outside apart) ∙ there),
        subst (λ x. NameParents mine (IsParentStored layout now) (level + 1) (Node node x) rest) is still,
      )

  module _ (digest : Key → ℕ) (key other : Key) (hash hash' level : ℕ) (hashed : hash ≡ digest key)
      (hashed' : hash' ≡ digest other) (parting : PartsAt hash key hash' other (level + length nodes)) where
    digit_is : (l : ℕ) → digit_of hash key l ≡ digits_of digest key l
    digit_is l = ap (λ h. digit_of h key l) hashed

    digit_is' : (l : ℕ) → digit_of hash' other l ≡ digits_of digest other l
    digit_is' l = ap (λ h. digit_of h other l) hashed'

    -- the branch of one node
    pub foot_built : (cell : Place → Cell) (leaf other_leaf : Cell) (d d' : ℕ) → d ≡ digit_of hash key (level + 1) → d' ≡ digit_of hash' other (level + 1) → length rest ≡ 0 →
        ((digit : ℕ) → digit < 16 → cell (Node node digit) ≡ forked_cell d leaf d' other_leaf digit) →
        IsBranch (digits_of digest key) (digits_of digest other) cell leaf other_leaf (level + 1) (slice_index nodes 0) nodes
    foot_built cell leaf other_leaf d d' is is' none cells =
        let one : nodes ≡ node ∷ [] = e ∙ ap (λ xs. node ∷ xs) (none_left rest none) in
        let at : level + length nodes ≡ level + 1 = ap (λ xs. level + length xs) one in
        subst (λ xs. IsBranch (digits_of digest key) (digits_of digest other) cell leaf other_leaf (level + 1) (slice_index xs 0) xs) (sym one)
        (foot (digits_of digest key) (digits_of digest other) cell leaf other_leaf (level + 1) node d (is ∙ digit_is (level + 1))
        ((are_digits digest key).node (level + 1) (omega arith)) d' (is' ∙ digit_is' (level + 1))
        ((are_digits digest other).node (level + 1) (omega arith))
        (λ same. parting.here (subst (λ l. digit_of hash key l ≡ digit_of hash' other l) (sym at) (digit_is (level + 1) ∙ (same ∙ sym (digit_is' (level + 1))))))
        cells)

    -- and that of a node over another branch
    pub above_built : (built now : List StoredWord) (leaf other_leaf : Cell) (d : ℕ) → d ≡ digit_of hash key (level + 1) → 1 ≤ length rest → AreApart nodes →
        ((digit : ℕ) → digit < 16 → cell_stored layout now (Node node digit) ≡ forked_cell d (Cells.Node (slice_index rest 0)) d (Cells.Node (slice_index rest 0)) digit) →
        KeepsOutside layout 16 (node ∷ []) built now →
        IsBranch (digits_of digest key) (digits_of digest other) (cell_stored layout built) leaf other_leaf (level + 1 + 1) (slice_index rest 0) rest →
        IsBranch (digits_of digest key) (digits_of digest other) (cell_stored layout now) leaf other_leaf (level + 1) (slice_index nodes 0) nodes
    above_built built now leaf other_leaf d is some apart cells keeps below =
        let within : level + 1 < level + length nodes = omega (arith, ap length e, some) in
        let agree = sym (digit_is (level + 1)) ∙ (parting.before (level + 1) within ∙ digit_is' (level + 1)) in
        let still = branch_same below (are_digits digest key) (are_digits digest other) (omega arith)
        (λ n digit has low. ap stored_cell (keeps (field_at layout Nodes n digit) (others_outside apart n digit has (omega (arith, low))))) in
        subst (λ xs. IsBranch (digits_of digest key) (digits_of digest other) (cell_stored layout now) leaf other_leaf (level + 1) (slice_index xs 0) xs) (sym e)
        (above (digits_of digest key) (digits_of digest other) (cell_stored layout now) leaf other_leaf (level + 1) node d
        (is ∙ digit_is (level + 1)) ((are_digits digest key).node (level + 1) (omega arith))
        (slice_index rest 0) rest agree cells still)
