use Rattle.std.{proofs.Common.{◌≡◌, ℕ, ◌<◌, ◌≤◌, List, get_or, map}, specs.Prelude.IsPermutation}
use Rattle.npf_pieces.specs.declared.piece.Piece.{Piece}
use Rattle.npf_reass.specs.Listing.{IsByNumber}
use Rattle.npf_reass.proofs.reass.sort_each.Given as goal

abbrev pub invariant-loop-list : goal.invariant-loop-list
invariant-loop-list l = record {
  done : (k : ℕ) (d : List (ℕ × Piece)) → k < l.list-index
      → IsPermutation (get_or (map (λ list. list.items) l.initial.lists) k d) (get_or (map (λ list. list.items) l.lists) k d) × IsByNumber (get_or (map (λ list. list.items) l.lists) k d);
  rest : (k : ℕ) (d : List (ℕ × Piece)) → l.list-index ≤ k → get_or (map (λ list. list.items) l.lists) k d ≡ get_or (map (λ list. list.items) l.initial.lists) k d;
}
