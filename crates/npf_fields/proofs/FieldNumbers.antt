use Rattle.std.proofs.{Common.{ℕ, ◌≡◌, ◌<◌, ◌≤◌, ◌+◌, ◌-◌, ◌^◌, ◌∙◌, sym, ap, List, ◌++◌, length, drop, get_or, arith}, lemmas.List.get_or-drop}
use Rattle.byteorder.specs.{Endian.{big_number, big_bytes}, Numbers.big_number-reads_back}
use Rattle.npf_fields.{specs.Field.{number16, number32, number64, number128}, proofs.FieldBytes.drop-put}
use borrow.Rule.Slice.PartMut.{put_mid}

-- a number at a place k of what lies behind `at` stands at the place p of all bytes
module _ (bytes : List ℕ) (at : ℕ) where
  pub byte-drop : (k p : ℕ) → p ≡ at + k → get_or (drop at bytes) k 0 ≡ get_or bytes p 0
  byte-drop k p e = get_or-drop at bytes k 0 ∙ ap (λ (i : ℕ). get_or bytes i 0) (sym e)

  number16-drop : (k p : ℕ) → p ≡ at + k → number16 (drop at bytes) k ≡ number16 bytes p
  number16-drop k p e = omega (arith, byte-drop k p e, byte-drop (k + 1) (p + 1) (omega arith))

  number32-drop : (k p : ℕ) → p ≡ at + k → number32 (drop at bytes) k ≡ number32 bytes p
  number32-drop k p e = omega (arith, number16-drop k p e, number16-drop (k + 2) (p + 2) (omega arith))

  number64-drop : (k p : ℕ) → p ≡ at + k → number64 (drop at bytes) k ≡ number64 bytes p
  number64-drop k p e = omega (arith, number32-drop k p e, number32-drop (k + 4) (p + 4) (omega arith))

  number128-drop : (k p : ℕ) → p ≡ at + k → number128 (drop at bytes) k ≡ number128 bytes p
  number128-drop k p e = omega (arith, number64-drop k p e, number64-drop (k + 8) (p + 8) (omega arith))

-- the sixteen bytes make one number
number128-start : (bytes : List ℕ) → number128 bytes 0 ≡ big_number 16 bytes
number128-start bytes = omega arith

-- what was written is there
pub number128-put : (bytes rest : List ℕ) (at v : ℕ) → at + 16 ≤ length bytes → v < 256 ^ 16
    → number128 (put_mid at (length bytes - at) bytes (big_bytes 16 v ++ rest)) at ≡ v
number128-put bytes rest at v fits small =
    let behind = rest ++ drop (length bytes - at) (drop at bytes) in
    let new = put_mid at (length bytes - at) bytes (big_bytes 16 v ++ rest) in
    sym (number128-drop new at 0 at (omega arith)) ∙ number128-start (drop at new)
    ∙ ap (big_number 16) (drop-put bytes (big_bytes 16 v) at 16 fits rest)
    ∙ big_number-reads_back 16 v behind small
