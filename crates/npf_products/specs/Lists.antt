-- What products ask of packets of a kind.
use Rattle.std.specs.Prelude.{◌≡◌, ◌<◌, ◌+◌, ℕ, List, [], length, slice_index, slice_index_or}
use Rattle.npf_products.specs.declared.condition.Condition.{Condition}
use Rattle.npf_products.specs.declared.kind.PacketKind.{PacketKind}
use Rattle.npf_products.specs.declared.product.Product.{Product}
use Rattle.npf_products.specs.Adds.{AddsTest}
use Rattle.npf_products.specs.Condition.{Ranges, all_fit}
use Rattle.npf_products.specs.Product.{product_holds, is_possible_first}

-- the conditions hold where there can be packets of the kind with this first number
abbrev pub AsksPossible : PacketKind → List Condition → Type 0
AsksPossible kind conditions = (tables : List Ranges) (numbers : List ℕ)
    → all_fit tables numbers conditions ≡ is_possible_first kind.carried kind.family (slice_index numbers 3)

-- the conditions of each product, and behind them those of all packets that there can be
pub record AreLists (kind : PacketKind) (products : List Product) (lists : List (List Condition)) : Type 0 where
  pub count : length lists ≡ length products + 1
  pub asked : (k : ℕ) (none : Product) → k < length products → AddsTest kind [] (slice_index_or lists k []) (product_holds (slice_index_or products k none))
  pub possible : AsksPossible kind (slice_index_or lists (length products) [])
