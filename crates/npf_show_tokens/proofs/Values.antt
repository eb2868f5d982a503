-- Values of a model, written and read.
use Rattle.std.proofs.Common.{◌≡◌, ℕ, zero, suc, ◌+◌, ◌-◌, ◌<◌, ◌==◌, ◌&&◌, ◌^◌, Bool, true, false, unwrap_or, Some, None, List, [], ◌∷◌, length, replicate, refl, sym, ap, subst, ◌∙◌, arith}
use Rattle.std.proofs.{lemmas.{Bool.{and_parts, false_from_ne_true, Decides.nat_tests}, Slice.Eq.bytes_eq-Decides}, Math.Seq.take-append_seam}
use Rattle.std.specs.Str.{bytes_eq}
use Rattle.npf_types.specs.{declared.prefix.Prefix.Prefix, Block.block, Name.name_bytes, NameText.is_name, Named.{named, name_where}}
use Rattle.npf_types.proofs.PrefixLemmas.{block_is}
use Rattle.npf_model.specs.Verdict.{first_where}
use Rattle.npf_expand_values.specs.Declarations.{no_number, table_number}
use Rattle.npf_expand.specs.Rule.{flag_bits}
use Rattle.npf_show.specs.Filter.{flag_text}
use Rattle.npf_show_tokens.specs.Values.{IsFirstName, ValuesComeBack}

-- a test of each number below another
abbrev all_below : (ℕ → Bool) → ℕ → Bool
all_below test zero = true
all_below test (suc n) = test n && all_below test n

last_or_before : (test : ℕ → Bool) (n k : ℕ) (same : Bool) → (k == n) ≡ same → k < suc n → test n ≡ true → (k < n → test k ≡ true) → test k ≡ true
last_or_before test n k true is within last before = let same : k ≡ n = grind (arith, nat_tests) in subst (λ m. test m ≡ true) (sym same) last
last_or_before test n k false is within last before = before (grind (arith, nat_tests))

at_below : (test : ℕ → Bool) (n k : ℕ) → all_below test n ≡ true → k < n → test k ≡ true
at_below test zero k all within = absurd (omega (arith, within))
at_below test (suc n) k all within =
    let parts = and_parts (test n) (all_below test n) all in
    last_or_before test n k (k == n) refl within parts.0 (λ below. at_below test n k parts.1 below)

abbrev comes_back : ℕ → Bool
comes_back bits = flag_bits (flag_text bits) == bits

flags_back : (bits : ℕ) → bits < 2 ^ 8 → flag_bits (flag_text bits) ≡ bits
flags_back bits small =
    let is = at_below comes_back 256 bits refl small in
    grind (arith, nat_tests)

prefix_back : (prefix : Prefix) → block prefix.addr prefix.len ≡ prefix
prefix_back prefix = sym (block_is prefix prefix.addr prefix.len prefix.short prefix.zeroed refl)

name_back : (text : List ℕ) → is_name text ≡ true → named (name_bytes (named text)) ≡ named text
name_back text is = ap named (by (is_name text) refl is) where
  by : (answer : Bool) (told : is_name text ≡ answer) → answer ≡ true → name_bytes (name_where text answer told) ≡ text
  by true told _ = take-append_seam text (replicate (15 - length text) 0)
  by false told never = cc

found_at : (names : List (List ℕ)) (place from : ℕ) (name : List ℕ) → IsFirstName names place name → first_where (bytes_eq name) from names ≡ Some (from + place)
found_at [] place from name is = absurd (never is.there) where
  never : None ≡ Some name → ⊥
  never h = cc
found_at (other ∷ names) zero from name is =
    let same : other ≡ name = some_same is.there in
    let found : bytes_eq name other ≡ true = (bytes_eq-Decides name other).1 (sym same) in
    rw found (ap Some (omega arith)) where
      some_same : Some other ≡ Some name → other ≡ name
      some_same h = ap (λ o. unwrap_or o []) h
found_at (other ∷ names) (suc place) from name is =
    let unlike : bytes_eq name other ≡ false = false_from_ne_true (bytes_eq name other) (λ h. is.first 0 (omega arith) (ap Some (sym ((bytes_eq-Decides name other).0 h)))) in
    let rest = found_at names place (from + 1) name (record { there = is.there; first = λ before within. is.first (suc before) (omega (arith, within)) }) in
    rw unlike (rest ∙ ap Some (omega arith))

place_back : (names : List (List ℕ)) (place : ℕ) (name : List ℕ) → IsFirstName names place name → place < no_number → table_number names name ≡ place
place_back names place name is small =
    rw (found_at names place 0 name is) (omega (arith, small))

pub values_come_back_lem : ValuesComeBack
values_come_back_lem = record { flags = flags_back; prefix = prefix_back; name = name_back; place = place_back }
