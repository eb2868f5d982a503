-- The bytes of a word are those of its upper half and then of its lower.
use Rattle.std.{proofs.{Common.{◌≡◌, ℕ, ◌/◌, ◌%◌, ◌^◌, ◌++◌, fold, ap, ◌∙◌, arith}, lemmas.List.Sums.fold-append}, specs.Int.{w32, w64, to_be_bytes}}
use Rattle.npf_paths.specs.Hash.{fnv_round}

halves : (word : ℕ) → to_be_bytes w64 word ≡ to_be_bytes w32 (word / 2 ^ 32) ++ to_be_bytes w32 (word % 2 ^ 32)
halves word = grind arith

pub by_halves : (hash word : ℕ) → fold fnv_round hash (to_be_bytes w64 word) ≡ fold fnv_round (fold fnv_round hash (to_be_bytes w32 (word / 2 ^ 32))) (to_be_bytes w32 (word % 2 ^ 32))
by_halves hash word = ap (fold fnv_round hash) (halves word) ∙ fold-append fnv_round hash (to_be_bytes w32 (word / 2 ^ 32)) (to_be_bytes w32 (word % 2 ^ 32))
