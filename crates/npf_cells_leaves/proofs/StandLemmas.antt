-- A node whose place a path meets hangs on it; the node in which a pass stands was published.
use Rattle.std.proofs.Common.{◌≡◌, ℕ, ◌+◌, zero, suc, Some, List, refl, sym, ap, ◌∙◌, subst, arith}
use mathlib.Core.Option.{some}
use lib.ListN.{get_elem?}
use Rattle.npf_types.specs.declared.key.Key.{Key}
use Rattle.npf_core.specs.Machine.{Machine}
use Rattle.npf_paths.specs.{declared.{cell.Cell.Cell, place.Place.Place}, Paths.{AreDigits, IsOnPath, IsEnd, EndsAt, IsOnPath.{at_root, further}}}
use Rattle.npf_paths.specs.declared.cell.Cell.TheVariants as Cells
use Rattle.npf_paths.specs.declared.place.Place.TheVariants as Places
use Rattle.npf_cells_words.specs.declared.layout.Layout.{Layout}
use Rattle.npf_cells_leaves.specs.{declared.trie.{PathPlace.PathPlace, TrieSide.TrieSide}, LeavesLaw.{IsPublished, StandsInPublished}}
use Rattle.npf_cells_leaves.{specs.Trie.{digits_of, trie_words, IsHung, Trie}, proofs.TrieLemmas.are_digits}

-- a path comes to a node's place from a place where the node stands
pub hung_at : (digits : ℕ → ℕ) (are : AreDigits digits) (cell : Place → Cell) (level : ℕ) (p : Place) (node digit : ℕ) → IsOnPath digits cell level p → p ≡ Places.Node node digit → IsHung cell node
hung_at digits are cell level _ node digit at_root e = absurd cc
hung_at digits are cell _ _ node digit (further level p other on is) e =
    let same : other ≡ node = cc in
    record { digits = digits; are = are; level = level; place = p; on_path = on; there = is ∙ ap (λ n. Cells.Node n) same }

pub stands_published : {S V : Type 0} (side_of : V → TrieSide) (digest : Key → ℕ) (layout : Layout) (published : List ℕ)
    (k : Machine S) (words : List ℕ) (views : List V) (j node digit : ℕ) (v : V) (point : PathPlace) →
    Trie side_of digest layout published k words views → get_elem? views j ≡ some v → (side_of v).stands ≡ Some point → point.place ≡ Places.Node node digit → IsPublished layout published node
stands_published side_of digest layout published k words views j node digit v point kept at is there =
    let on = (kept.each j v at).stands point is in
    let from = hung_at (digits_of digest point.key) (are_digits digest point.key) (trie_words layout words).cell point.level point.place node digit on there in
    record { level = from.level; right = kept.nodes from.digits from.level from.place node from.are from.on_path from.there }

pub stands_in_published : {S : Type 0} (digest : Key → ℕ) (layout : Layout) → StandsInPublished S digest layout
stands_in_published digest layout published k words sides j node digit side point kept at is there =
    stands_published (λ x. x) digest layout published k words sides j node digit side point kept at is there

-- each path ends, no deeper than the last level
module _ {S V : Type 0} (side_of : V → TrieSide) (digest : Key → ℕ) (layout : Layout) (published : List ℕ) (k : Machine S) (words : List ℕ)
    (views : List V) (kept : Trie side_of digest layout published k words views) (digits : ℕ → ℕ) (are : AreDigits digits) where
  abbrev cell : Place → Cell
  cell = (trie_words layout words).cell

  abbrev pub Ends : Type 0
  Ends = (level : ℕ) × (p : Place) × EndsAt digits cell level p

  -- here, unless a node stands here
  ends_here : (l : ℕ) (p : Place) → IsOnPath digits cell l p → ((node : ℕ) → cell p ≡ Cells.Node node → Ends) → (c : Cell) → cell p ≡ c → Ends
  ends_here l p on more Cells.Empty e = (l, p, record { on_path = on; is_end = subst IsEnd (sym e) tt })
  ends_here l p on more (Cells.Leaf slot way) e = (l, p, record { on_path = on; is_end = subst IsEnd (sym e) tt })
  ends_here l p on more (Cells.Node node) e = more node e
  ends_here l p on more Cells.Mark e = (l, p, record { on_path = on; is_end = subst IsEnd (sym e) tt })

  ends_from : (fuel l : ℕ) (p : Place) → l + fuel ≡ 95 → IsOnPath digits cell l p → Ends
  ends_from zero l p sum on = ends_here l p on (λ node is. absurd (let within = (kept.nodes digits l p node are on is).within in omega (arith, sum, within))) (cell p) refl
  ends_from (suc fuel) l p sum on = ends_here l p on (λ node is. ends_from fuel (l + 1) (Places.Node node (digits (l + 1))) (omega (arith, sum)) (further l p node on is)) (cell p) refl

  pub path_ends : Ends
  path_ends = ends_from 95 0 (Places.Root (digits 0)) (omega arith) at_root
