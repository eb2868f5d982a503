-- What stands in the places of a branch's nodes, and where its keys part.
use Rattle.std.proofs.Common.{◌≡◌, ◌≢◌, ℕ, ◌+◌, ◌-◌, ◌≤◌, ◌<◌, inl, inr, List, [], ◌∷◌, ◌++◌, length, get_or, suc, refl, ap, sym, ◌∙◌, arith, length-append}
use Rattle.std.{specs.Prelude.Contains, proofs.{Math.Seq.get_or-append_seam, lemmas.Bool.Decides.eqb_tells}}
use Rattle.npf_shelf.proofs.ListLemmas.{Contains-later, Contains-first}
use Rattle.npf_paths.specs.{declared.{cell.Cell.Cell, place.Place.{Place, TheVariants.Node}}, Growing.{IsBranch, IsBranch.{parts, goes_on}}}
use Rattle.npf_paths.specs.declared.cell.Cell.TheVariants as Cells
use Rattle.npf_paths.{specs.{GrowingLaw.IsGrownPlace, Paths.{AreDigits, IsOnPath, IsEnd, IsOnPath.further}}, proofs.PathLemmas.node_no_end}

-- the first of the nodes is the first of the list
pub branch_head : {mine theirs : ℕ → ℕ} {cell : Place → Cell} {leaf other : Cell} {level node : ℕ} {nodes : List ℕ} →
    IsBranch mine theirs cell leaf other level node nodes → (tail : List ℕ) × (nodes ≡ node ∷ tail)
branch_head (parts level node apart mine_is theirs_is empty) = ([], refl)
branch_head (goes_on level node next tail agree is empty below) = (tail, refl)

-- there is a node at least
pub branch_long : {mine theirs : ℕ → ℕ} {cell : Place → Cell} {leaf other : Cell} {level node : ℕ} {nodes : List ℕ} →
    IsBranch mine theirs cell leaf other level node nodes → 1 ≤ length nodes
branch_long (parts level node apart mine_is theirs_is empty) = omega arith
branch_long (goes_on level node next tail agree is empty below) = omega arith

-- the keys agree at each level but the last
pub branch_agrees : {mine theirs : ℕ → ℕ} {cell : Place → Cell} {leaf other : Cell} {level node : ℕ} {nodes : List ℕ} →
    IsBranch mine theirs cell leaf other level node nodes → (l : ℕ) → level ≤ l → l + 1 < level + length nodes → mine l ≡ theirs l
branch_agrees (parts level node apart mine_is theirs_is empty) l up low = absurd (omega arith)
branch_agrees {mine} {theirs} (goes_on level node next tail agree is empty below) l up low =
    elim (eqb_tells l level) [
      | inl t ↦ rw t.1 agree
      | inr t ↦
          let above : level + 1 ≤ l = omega (arith, t.1) in
          let within : l + 1 < level + 1 + length tail = omega arith in
          branch_agrees below l above within
    ]

-- and part there
pub branch_parts : {mine theirs : ℕ → ℕ} {cell : Place → Cell} {leaf other : Cell} {level node : ℕ} {nodes : List ℕ} →
    IsBranch mine theirs cell leaf other level node nodes → (l : ℕ) → l + 1 ≡ level + length nodes → mine l ≢ theirs l
branch_parts (parts level node apart mine_is theirs_is empty) l last =
    let same : l ≡ level = omega arith in
    rw same apart
branch_parts (goes_on level node next tail agree is empty below) l last =
    let within : l + 1 ≡ level + 1 + length tail = omega arith in
    branch_parts below l within

-- with the same in the places of its nodes the branch is there still
pub branch_same : {mine theirs : ℕ → ℕ} {cell cell' : Place → Cell} {leaf other : Cell} {level first : ℕ} {nodes : List ℕ} →
    IsBranch mine theirs cell leaf other level first nodes → AreDigits mine → AreDigits theirs → 1 ≤ level →
    ((node digit : ℕ) → Contains nodes node → digit < 16 → cell' (Node node digit) ≡ cell (Node node digit)) →
    IsBranch mine theirs cell' leaf other level first nodes
branch_same {mine} {theirs} (parts level node apart mine_is theirs_is empty) small small' deep same =
    let here = λ (digit : ℕ). same node digit (Contains-first node []) in
    parts level node apart (here (mine level) (small.node level deep) ∙ mine_is) (here (theirs level) (small'.node level deep) ∙ theirs_is)
    (λ digit low not_mine not_theirs. here digit low ∙ empty digit low not_mine not_theirs)
branch_same {mine} {theirs} (goes_on level node next tail agree is empty below) small small' deep same =
    let here = λ (digit : ℕ). same node digit (Contains-first node tail) in
    goes_on level node next tail agree (here (mine level) (small.node level deep) ∙ is) (λ digit low not_mine. here digit low ∙ empty digit low not_mine)
    (branch_same below small small' (omega arith) (λ n digit has. same n digit (Contains-later node n tail has)))

-- a path that has come to the first node with a key's digits goes down through them all
pub mine_down : {mine theirs : ℕ → ℕ} {cell : Place → Cell} {leaf other : Cell} {level node : ℕ} {nodes : List ℕ} →
    IsBranch mine theirs cell leaf other level node nodes → IsOnPath mine cell level (Node node (mine level)) →
    (l : ℕ) → level ≤ l → l < level + length nodes → IsOnPath mine cell l (Node (get_or nodes (l - level) 0) (mine l))
mine_down (parts level node apart mine_is theirs_is empty) on l up low =
    let same : l ≡ level = omega arith in
    let first : l - level ≡ 0 = omega arith in
    rw (first, same) on
mine_down {mine} (goes_on level node next tail agree is empty below) on l up low =
    elim (eqb_tells l level) [
      | inl t ↦
          let same : l ≡ level = t.1 in
          let first : l - level ≡ 0 = omega arith in
          rw (first, same) on
      | inr t ↦
          let above : level + 1 ≤ l = omega (arith, t.1) in
          let later : l - level ≡ suc (l - (level + 1)) = omega arith in
          rw later (mine_down below (further level (Node node (mine level)) next on is) l above (omega arith))
    ]

pub theirs_down : {mine theirs : ℕ → ℕ} {cell : Place → Cell} {leaf other : Cell} {level node : ℕ} {nodes : List ℕ} →
    IsBranch mine theirs cell leaf other level node nodes → IsOnPath theirs cell level (Node node (theirs level)) →
    (l : ℕ) → level ≤ l → l < level + length nodes → IsOnPath theirs cell l (Node (get_or nodes (l - level) 0) (theirs l))
theirs_down (parts level node apart mine_is theirs_is empty) on l up low =
    let same : l ≡ level = omega arith in
    let first : l - level ≡ 0 = omega arith in
    rw (first, same) on
theirs_down {theirs = theirs} {cell} (goes_on level node next tail agree is empty below) on l up low =
    elim (eqb_tells l level) [
      | inl t ↦
          let same : l ≡ level = t.1 in
          let first : l - level ≡ 0 = omega arith in
          rw (first, same) on
      | inr t ↦
          let above : level + 1 ≤ l = omega (arith, t.1) in
          let later : l - level ≡ suc (l - (level + 1)) = omega arith in
          let hangs : cell (Node node (theirs level)) ≡ Cells.Node next = ap (λ d. cell (Node node d)) (sym agree) ∙ is in
          rw later (theirs_down below (further level (Node node (theirs level)) next on hangs) l above (omega arith))
    ]

-- a leaf that is there but once stands at its key's digit
pub mine_digit : {mine theirs : ℕ → ℕ} {cell : Place → Cell} {leaf other : Cell} {level node : ℕ} {nodes : List ℕ} →
    IsBranch mine theirs cell leaf other level node nodes → leaf ≢ other → leaf ≢ Cells.Empty →
    (digit : ℕ) → digit < 16 → cell (Node node digit) ≡ leaf → digit ≡ mine level
mine_digit {mine} {theirs} {cell} (parts level node apart mine_is theirs_is empty) two full digit low is =
    elim (eqb_tells digit (mine level)) [
      | inl t ↦ t.1
      | inr t ↦
          elim (eqb_tells digit (theirs level)) [
            | inl u ↦ absurd (two (sym is ∙ (ap (λ d. cell (Node node d)) u.1 ∙ theirs_is)))
            | inr u ↦ absurd (full (sym is ∙ empty digit low t.1 u.1))
          ]
    ]
mine_digit {mine} (goes_on level node next tail agree _ empty below) two full digit low is =
    elim (eqb_tells digit (mine level)) [ inl t ↦ t.1 | inr t ↦ absurd (full (sym is ∙ empty digit low t.1)) ]

pub theirs_digit : {mine theirs : ℕ → ℕ} {cell : Place → Cell} {leaf other : Cell} {level node : ℕ} {nodes : List ℕ} →
    IsBranch mine theirs cell leaf other level node nodes → leaf ≢ other → other ≢ Cells.Empty →
    (digit : ℕ) → digit < 16 → cell (Node node digit) ≡ other → digit ≡ theirs level
theirs_digit {mine} {theirs} {cell} (parts level node apart mine_is theirs_is empty) two full digit low is =
    elim (eqb_tells digit (theirs level)) [
      | inl t ↦ t.1
      | inr t ↦
          elim (eqb_tells digit (mine level)) [
            | inl u ↦ absurd (two (sym mine_is ∙ (ap (λ d. cell (Node node d)) (sym u.1) ∙ is)))
            | inr u ↦ absurd (full (sym is ∙ empty digit low u.1 t.1))
          ]
    ]
theirs_digit {mine} (goes_on level node next tail agree _ empty below) two full digit low is =
    elim (eqb_tells digit (mine level)) [ inl t ↦ t.1 ∙ agree | inr t ↦ absurd (full (sym is ∙ empty digit low t.1)) ]

-- where the path of the first key ends in a node's place, its leaf stands
pub mine_at_foot : {mine theirs : ℕ → ℕ} {cell : Place → Cell} {leaf other : Cell} {level node : ℕ} {nodes : List ℕ} →
    IsBranch mine theirs cell leaf other level node nodes → IsEnd (cell (Node node (mine level))) → cell (Node node (mine level)) ≡ leaf
mine_at_foot (parts level node apart mine_is theirs_is empty) ends = mine_is
mine_at_foot (goes_on level node next tail agree is empty below) ends = absurd (node_no_end _ next ends is)

-- and so of the second
pub theirs_at_foot : {mine theirs : ℕ → ℕ} {cell : Place → Cell} {leaf other : Cell} {level node : ℕ} {nodes : List ℕ} →
    IsBranch mine theirs cell leaf other level node nodes → IsEnd (cell (Node node (theirs level))) → cell (Node node (theirs level)) ≡ other
theirs_at_foot (parts level node apart mine_is theirs_is empty) ends = theirs_is
theirs_at_foot {cell = cell} (goes_on level node next tail agree is empty below) ends =
    absurd (node_no_end _ next ends (ap (λ d. cell (Node node d)) (sym agree) ∙ is))

-- what stands in a place of the first node
pub data Stands (mine theirs : ℕ → ℕ) (cell : Place → Cell) (leaf other : Cell) (level node : ℕ) (nodes : List ℕ) (digit : ℕ) : Type 0 where
  stands_empty : cell (Node node digit) ≡ Cells.Empty → Stands mine theirs cell leaf other level node nodes digit
  stands_leaf : cell (Node node digit) ≡ leaf → Stands mine theirs cell leaf other level node nodes digit
  stands_other : cell (Node node digit) ≡ other → Stands mine theirs cell leaf other level node nodes digit
  stands_node : (next : ℕ) (tail : List ℕ) → cell (Node node digit) ≡ Cells.Node next → nodes ≡ node ∷ tail →
      IsBranch mine theirs cell leaf other (level + 1) next tail → Stands mine theirs cell leaf other level node nodes digit

pub stands : {mine theirs : ℕ → ℕ} {cell : Place → Cell} {leaf other : Cell} {level node : ℕ} {nodes : List ℕ} →
    IsBranch mine theirs cell leaf other level node nodes → (digit : ℕ) → digit < 16 → Stands mine theirs cell leaf other level node nodes digit
stands {mine} {theirs} (parts level node apart mine_is theirs_is empty) digit low =
    elim (eqb_tells digit (mine level)) [
      | inl t ↦ Stands.stands_leaf (rw t.1 mine_is)
      | inr t ↦ elim (eqb_tells digit (theirs level)) [ inl u ↦ Stands.stands_other (rw u.1 theirs_is) | inr u ↦ Stands.stands_empty (empty digit low t.1 u.1) ]
    ]
stands {mine} (goes_on level node next tail agree is empty below) digit low =
    elim (eqb_tells digit (mine level)) [
      | inl t ↦ Stands.stands_node next tail (rw t.1 is) refl below
      | inr t ↦ Stands.stands_empty (empty digit low t.1)
    ]

-- a path has come to this place of a node of the branch, behind so many others of its nodes
pub record IsInBranch (mine theirs : ℕ → ℕ) (cell : Place → Cell) (leaf other : Cell) (level : ℕ) (nodes : List ℕ) (digits : ℕ → ℕ) (l : ℕ) (q : Place) : Type 0 where
  pub front : List ℕ
  pub node : ℕ
  pub rest : List ℕ
  pub branch : IsBranch mine theirs cell leaf other l node rest
  pub is : q ≡ Node node (digits l)
  pub joined : nodes ≡ front ++ rest
  pub reached : l ≡ level + 1 + length front

-- such a place is one of a new node
pub grown_place : {mine theirs : ℕ → ℕ} {cell cell' : Place → Cell} {leaf other : Cell} {level l : ℕ} {p q : Place} {nodes : List ℕ} {digits : ℕ → ℕ} →
    IsOnPath digits cell level p → IsInBranch mine theirs cell' leaf other level nodes digits l q → IsGrownPlace digits cell level p nodes l q
grown_place {level = level} {l} {q = q} {nodes} {digits} from b =
    let head = branch_head b.branch in
    let joined : nodes ≡ b.front ++ b.node ∷ head.0 = b.joined ∙ ap (λ xs. b.front ++ xs) head.1 in
    let long : length nodes ≡ length b.front + length (b.node ∷ head.0) = ap length joined ∙ length-append b.front (b.node ∷ head.0) in
    let at : l - (level + 1) ≡ length b.front = let reached = b.reached in omega arith in
    let found : get_or nodes (l - (level + 1)) 0 ≡ b.node = rw (joined, at) (get_or-append_seam b.front b.node head.0 0) in
    let has : Contains nodes b.node = rw joined (length b.front, omega (arith, length-append b.front (b.node ∷ head.0)), get_or-append_seam b.front b.node head.0 b.node) in
    let reached = b.reached in
    record {
      from = from;
      below = omega arith;
      last = omega arith;
      within = rw b.is has;
      is = b.is ∙ ap (λ node. Node node (digits l)) (sym found);
    }
