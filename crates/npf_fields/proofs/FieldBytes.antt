use Rattle.std.proofs.{Common.{ℕ, ◌≡◌, ◌≤◌, ◌+◌, ◌-◌, List, ◌++◌, length, take, drop, get_or, arith}, lemmas.{Grind.common_steps, List.places}}
use borrow.Rule.Slice.PartMut.{put_mid}

module _ (bytes field : List ℕ) (at n : ℕ) (fits : at + n ≤ length bytes) where
  -- a byte behind a field of n bytes stays when the field is written
  pub after : length field ≡ n → (k d : ℕ) → at + n ≤ k → get_or (put_mid at (length bytes - at) bytes (field ++ drop n (take (length bytes - at) (drop at bytes)))) k d ≡ get_or bytes k d
  after sized k d h = grind (arith, common_steps, places)

  -- from the field's place on the bytes are those of the field first
  pub drop-put : (rest : List ℕ) → drop at (put_mid at (length bytes - at) bytes (field ++ rest)) ≡ field ++ (rest ++ drop (length bytes - at) (drop at bytes))
  drop-put rest = grind (arith, common_steps)
