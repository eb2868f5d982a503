use Rattle.std.proofs.Common.{◌≡◌, ℕ, ◌&&◌, not, length, take}
use Rattle.npf_bits.specs.Bits.{has}
use Rattle.npf_products.specs.Narrow.{some_has_class}
use Rattle.npf_products.proofs.narrow.exclude.Given as goal

abbrev pub invariant-loop-table : goal.invariant-loop-table
invariant-loop-table l = record {
  whole : length l.words ≡ l.bits.per_set;
  left : (n : ℕ) → has l.words n ≡ (has l.fn.words n && not (some_has_class l.bits l.own l.tables (take l.table-index l.listed) n));
}
