-- The name of some bytes; of bytes that are no name, the name `a`, so that every text has one.
use Rattle.std.specs.Prelude.{◌≡◌, ◌≤◌, ◌-◌, ℕ, Bool, true, false, ◌&&◌, IsTrue, nat_lt, nat_le, List, ◌∷◌, ◌++◌, length, replicate, slice_index, refl}
use Rattle.std.specs.List.{list_all}
use Rattle.std.specs.Char.{is_ascii_alphabetic}
use Rattle.std.proofs.Common.{sym, subst}
use Rattle.std.proofs.Math.Seq.{take-append_seam, drop-append_seam}
use Rattle.std.proofs.lemmas.Bool.{and_parts, leb-true}
use Rattle.npf_types.specs.declared.name.Name.{Name}
use Rattle.npf_types.specs.NameText.{is_name, is_name_byte}

-- a name is at most 15 bytes long
pub name_is_short : (bytes : List ℕ) → is_name bytes ≡ true → length bytes ≤ 15
name_is_short bytes is =
    let all = and_parts (nat_lt 0 (length bytes) && nat_le (length bytes) 15 && is_ascii_alphabetic (slice_index bytes 0)) (list_all is_name_byte bytes) is in
    let three = and_parts (nat_lt 0 (length bytes) && nat_le (length bytes) 15) (is_ascii_alphabetic (slice_index bytes 0)) all.0 in
    let two = and_parts (nat_lt 0 (length bytes)) (nat_le (length bytes) 15) three.0 in
    leb-true (length bytes) 15 two.1

abbrev pub name_where : (bytes : List ℕ) (answer : Bool) → is_name bytes ≡ answer → Name
name_where bytes true is = record {
  len = length bytes;
  bytes = bytes ++ replicate (15 - length bytes) 0;
  short = name_is_short bytes is;
  named = subst (λ text. IsTrue (is_name text)) (sym (take-append_seam bytes (replicate (15 - length bytes) 0))) is;
  padded = drop-append_seam bytes (replicate (15 - length bytes) 0);
}
name_where bytes false is = record { len = 1; bytes = 97 ∷ replicate 14 0; short = leb-true 1 15 refl; named = refl; padded = refl }

abbrev pub named : List ℕ → Name
named bytes = name_where bytes (is_name bytes) refl
