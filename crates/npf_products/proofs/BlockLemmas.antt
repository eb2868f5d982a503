-- Blocks and tables as ranges of numbers.
use Rattle.std.proofs.Common.{false, ◌≡◌, ◌≤◌, ◌<◌, ℕ, zero, suc, ◌+◌, ◌-◌, ◌*◌, ◌/◌, ◌%◌, ◌^◌, Bool, ◌||◌, ◌==◌}
use Rattle.std.proofs.Common.{List, [], ◌∷◌, take, drop, get_or, refl, sym, ap, subst, ◌∙◌, inl, inr, arith}
use Rattle.std.specs.List.{flat_map, list_any, slice_get}
use Rattle.std.specs.Prelude.{if◌then◌else◌}
use Rattle.std.proofs.lemmas.{Bool.{cases_eq, cases_lt, eq-eqb, lt-ltb, le-ltb, ne_eqb}, List.Folds.list_any-append, List.length-take, Nat.{pow-add, pow_pos}, Option.slice_get_past}
use Rattle.std.proofs.Math.Nat.{mul-le-mul_right}
use Rattle.npf_types.specs.declared.{address.Addr.{Addr, TheVariants.{V4, V6}}, prefix.Prefix.Prefix}
use Rattle.npf_types.specs.{Address.{cleared, shares_first, width}, Prefix.{covers, has_address}}
use Rattle.npf_model.specs.declared.ends.AddrItem.{AddrItem, TheVariants.{Net, InTable}}
use Rattle.npf_model.specs.Describes.{Tables, entries_have, in_range, item_has}
use Rattle.npf_products.specs.declared.{tables.TableSpan.TableSpan}
use Rattle.npf_products.specs.Condition.{block_range, has_number, prefix_range, ranges_have as range_table_has, table_ranges}
use Rattle.npf_products.specs.End.{item_has_number, own_tables}
use Rattle.npf_products.specs.Kind.{family_of}
use Rattle.npf_products.specs.Number.{address_value}
use Rattle.npf_boxes.proofs.CellLemmas.{or_none}
use Rattle.npf_products.proofs.RangeLemmas.{over, under, within}

-- the numbers that agree with a first one but for a rest below `p`
block_numbers : (a n p : ℕ) → 0 < p → a ≡ a / p * p → in_range n (a, a + (p - 1)) ≡ (a / p == n / p)
block_numbers a n p some cleared =
    let high : ℕ = n / p in
    let low : ℕ = a / p in
    let parts : p * (n / p) + n % p ≡ n = omega arith in
    let rest : n % p < p = omega arith in
    elim (cases_eq low high) [
      | inl same ↦
          let rows : low * p ≡ high * p = ap (λ q. q * p) same in
          within a (a + (p - 1)) n (omega arith) (omega arith) ∙ sym (eq-eqb low high same)
      | inr other ↦ elim (cases_lt high low) [
        | inl below ↦
            let rows : (high + 1) * p ≤ low * p = mul-le-mul_right p (let le : high + 1 ≤ low = omega arith in le) in
            under a (a + (p - 1)) n (omega arith) ∙ sym (ne_eqb low high other)
        | inr least ↦
            let rows : (low + 1) * p ≤ high * p = mul-le-mul_right p (let le : low + 1 ≤ high = omega arith in le) in
            over a (a + (p - 1)) n (omega arith) ∙ sym (ne_eqb low high other)
      ]
    ]

inner_v4 : (a b : ℕ) → (let x : Addr = V4 a in x) ≡ V4 b → a ≡ b
inner_v4 a b same = cc

inner_v6 : (a b : ℕ) → (let x : Addr = V6 a in x) ≡ V6 b → a ≡ b
inner_v6 a b same = cc

block_has : (first : Addr) (len : ℕ) → first ≡ cleared first len → (addr : Addr)
    → has_number (block_range (family_of addr) first len) (address_value addr) ≡ shares_first len first addr
block_has (V4 a) len zeroed (V4 n) = or_none _ false refl ∙ block_numbers a n (2 ^ (32 - len)) (pow_pos (32 - len)) (inner_v4 _ _ zeroed)
block_has (V6 a) len zeroed (V6 n) = or_none _ false refl ∙ block_numbers a n (2 ^ (128 - len)) (pow_pos (128 - len)) (inner_v6 _ _ zeroed)
block_has (V4 a) len zeroed (V6 n) = refl
block_has (V6 a) len zeroed (V4 n) = refl

pub prefix_has : (prefix : Prefix) (addr : Addr) → has_number (prefix_range (family_of addr) prefix) (address_value addr) ≡ has_address prefix addr
prefix_has prefix addr = block_has prefix.addr prefix.len prefix.zeroed addr

blocks_have : (prefixes : List Prefix) (addr : Addr) → has_number (flat_map (prefix_range (family_of addr)) prefixes) (address_value addr) ≡ covers prefixes addr
blocks_have [] addr = refl
blocks_have (prefix ∷ prefixes) addr =
    list_any-append (in_range (address_value addr)) (prefix_range (family_of addr) prefix) (flat_map (prefix_range (family_of addr)) prefixes)
    ∙ ap (λ b. b || has_number (flat_map (prefix_range (family_of addr)) prefixes) (address_value addr)) (prefix_has prefix addr)
    ∙ ap (λ b. has_address prefix addr || b) (blocks_have prefixes addr)

tables_have : (all : Tables) (number : ℕ) (addr : Addr)
    → has_number (get_or (table_ranges (family_of addr) all) number []) (address_value addr) ≡ entries_have (slice_get all number) addr
tables_have [] number addr = refl
tables_have (table ∷ tables) zero addr = blocks_have table addr
tables_have (table ∷ tables) (suc number) addr = tables_have tables number addr

get_dropped : {X : Type 0} (xs : List X) (first k : ℕ) → slice_get (drop first xs) k ≡ slice_get xs (first + k)
get_dropped xs zero k = ap (slice_get xs) (let e : k ≡ 0 + k = omega arith in e)
get_dropped [] (suc first) k = refl
get_dropped (x ∷ xs) (suc first) k = get_dropped xs first k ∙ ap (slice_get (x ∷ xs)) (let e : suc (first + k) ≡ suc first + k = omega arith in e)

get_taken : {X : Type 0} (xs : List X) (count k : ℕ) → k < count → slice_get (take count xs) k ≡ slice_get xs k
get_taken xs zero k low = absurd (omega arith)
get_taken [] (suc count) k low = refl
get_taken (x ∷ xs) (suc count) zero low = refl
get_taken (x ∷ xs) (suc count) (suc k) low = get_taken xs count k (omega arith)

-- an item has an address where it has its number
pub item_same : (span : TableSpan) (all : Tables) (addr : Addr) (item : AddrItem)
    → item_has_number (family_of addr) span (table_ranges (family_of addr) all) (address_value addr) item ≡ item_has (own_tables span all) addr item
item_same span all addr (Net prefix) = prefix_has prefix addr
item_same span all addr (InTable table) =
    let ranges = table_ranges (family_of addr) all in
    let test : ℕ → Bool = range_table_has ranges (address_value addr) in
    elim (cases_lt table span.count) [
      | inl low ↦
          ap (λ b. list_any test (if b then (span.first + table) ∷ [] else [])) (lt-ltb table span.count low)
          ∙ or_none (test (span.first + table)) false refl
          ∙ tables_have all (span.first + table) addr
          ∙ ap (λ entry. entries_have entry addr) (sym (get_taken (drop span.first all) span.count table low ∙ get_dropped all span.first table))
      | inr past ↦
          ap (λ b. list_any test (if b then (span.first + table) ∷ [] else [])) (le-ltb table span.count past)
          ∙ ap (λ entry. entries_have entry addr)
          (sym (slice_get_past (take span.count (drop span.first all)) table (omega (arith, length-take {A = List Prefix} span.count (drop span.first all)))))
    ]

pub items_same : (span : TableSpan) (all : Tables) (addr : Addr) (items : List AddrItem)
    → list_any (item_has_number (family_of addr) span (table_ranges (family_of addr) all) (address_value addr)) items ≡ list_any (item_has (own_tables span all) addr) items
items_same span all addr [] = refl
items_same span all addr (item ∷ items) =
    ap (λ b. b || list_any (item_has_number (family_of addr) span (table_ranges (family_of addr) all) (address_value addr)) items) (item_same span all addr item)
    ∙ ap (λ b. item_has (own_tables span all) addr item || b) (items_same span all addr items)

-- ---- the last address of a block is one
room : (a n k : ℕ) → n + k ≡ 128 → a < 2 ^ 128 → a ≡ a / 2 ^ k * 2 ^ k → a + (2 ^ k - 1) < 2 ^ 128
room a n k whole small cleared =
    let p : ℕ = 2 ^ k in
    let q : ℕ = a / 2 ^ k in
    let all : 2 ^ 128 ≡ 2 ^ n * p = sym (ap (λ m. 2 ^ m) whole) ∙ pow-add 2 n k in
    let some : 0 < p = pow_pos k in
    elim (cases_lt q (2 ^ n)) [
      | inl low ↦
          let rows : (q + 1) * p ≤ 2 ^ n * p = mul-le-mul_right p (let le : q + 1 ≤ 2 ^ n = omega arith in le) in
          let split : (q + 1) * p ≡ q * p + p = omega arith in
          let end : q * p + p ≤ 2 ^ 128 = rw all (omega arith) in
          omega arith
      | inr high ↦
          let rows : 2 ^ n * p ≤ q * p = mul-le-mul_right p high in
          let past : 2 ^ 128 ≤ q * p = rw all rows in
          absurd (omega arith)
    ]

cleared_v6 : (first : Addr) (len a : ℕ) → first ≡ V6 a → first ≡ cleared first len → a ≡ a / 2 ^ (128 - len) * 2 ^ (128 - len)
cleared_v6 (V6 b) len a is zeroed =
    let same : b ≡ a = inner_v6 b a is in
    subst (λ x. x ≡ x / 2 ^ (128 - len) * 2 ^ (128 - len)) same (inner_v6 _ _ zeroed)
cleared_v6 (V4 b) len a is zeroed = absurd (cc)

width_v6 : (first : Addr) (len a : ℕ) → first ≡ V6 a → len ≤ width first → len ≤ 128
width_v6 (V6 b) len a is short = short
width_v6 (V4 b) len a is short = absurd (cc)

pub block_fits : (prefix : Prefix) (a : ℕ) → prefix.addr ≡ V6 a → a < 2 ^ 128 → a + (2 ^ (128 - prefix.len) - 1) < 2 ^ 128
block_fits prefix a is small =
    let short : prefix.len ≤ 128 = width_v6 prefix.addr prefix.len a is prefix.short in
    room a prefix.len (128 - prefix.len) (omega arith) small (cleared_v6 prefix.addr prefix.len a is prefix.zeroed)
