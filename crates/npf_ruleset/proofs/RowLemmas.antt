-- A packet that a rule describes meets the rule's row.
use Rattle.std.proofs.Common.{◌≡◌, ◌<◌, ◌≤◌, ℕ, ◌+◌, ◌*◌, ◌-◌, ◌/◌, ◌%◌, ◌^◌, Bool, true, false, ◌&&◌, ◌||◌, ◌==◌, nat_le, List, Option, Some, None}
use Rattle.std.{proofs.Common.{length, get_or, take, max, min, bit_or, refl, sym, subst, ap, ◌∙◌, arith, true≢false}, specs.{Int.bit_at, List.list_any}}
use Rattle.std.{specs.Cmp.Derive.both_true, proofs.Math.Nat.{div-lt_iff_lt-mul, div-mul-le_self, lt-div-mul-add, max-eq_left, max-eq_right, mod-eq_of_lt}}
use Rattle.std.proofs.{Math.Pow.{pow-lt, shr_mono}, lemmas.{Bool.{and_parts, eq-eqb, eqb-true, le-leb}, List.Folds.list_any_more, Nat.{pow-add, pow_pos}}}
use Rattle.std.proofs.lemmas.Nat.Bits.{bit_at-lt, bit_at-pow_same, bit_at_ones, bit_at_or}
use Rattle.npf_types.specs.{declared.{address.Addr.{Addr, TheVariants.{V4, V6}}, prefix.Prefix.Prefix}, Address.shares_first}
use Rattle.npf_model.specs.declared.{ends.AddrItem.{AddrItem, TheVariants.Net}, rule.Rule.Rule}
use Rattle.npf_model.specs.Describes.{destination_of, fits_addrs, fits_ends, fits_family, fits_flags, fits_icmp, fits_ports, fits_protocol, in_range, item_has, source_of}
use Rattle.npf_model.specs.MapOf.{fits_side_port}
use Rattle.npf_ruleset.specs.declared.{addr_hull.AddrHull.AddrHull, row.Row.Row}
use Rattle.npf_ruleset.specs.Row.{HasProtocols, IsEndRowOf, IsHullOfAddrs, IsHullOfBits, IsHullOfPorts, IsRowOf, IsWithin, IsWithinRange, hull_number, in_hull}

-- what follows of the elements so far and of the next one follows of all up to it
pub more : {X : Type 0} (test : X → Bool) (xs : List X) (n : ℕ) (d : X) (P : Type 0) → n < length xs
    → (list_any test (take n xs) ≡ true → P) → (test (get_or xs n d) ≡ true → P) → list_any test (take (n + 1) xs) ≡ true → P
more test xs n d P lt so_far next any = chosen (list_any test (take n xs)) so_far (sym (list_any_more test xs n d lt) ∙ any)
  where
    chosen : (b : Bool) → (b ≡ true → P) → (b || test (get_or xs n d)) ≡ true → P
    chosen true known whole = known refl
    chosen false known whole = next whole

pub more_ranges : (ranges : List (ℕ × ℕ)) (n : ℕ) (hull wider : ℕ × ℕ) → n < length ranges
    → IsHullOfPorts (Some (take n ranges)) (Some hull) → IsWithinRange hull wider → IsWithinRange (get_or ranges n (0, 0)) wider
    → IsHullOfPorts (Some (take (n + 1) ranges)) (Some wider)
more_ranges ranges n hull wider lt so_far old next = λ port any. found port any
  where
    found : (port : Option ℕ) → fits_ports (Some (take (n + 1) ranges)) port ≡ true → fits_side_port (Some wider) port ≡ true
    found None any = absurd (true≢false (sym any))
    found (Some port) any = more (in_range port) ranges n (0, 0) (in_range port wider ≡ true) lt (λ h. old port (so_far (Some port) h)) (λ h. next port h) any

pub more_items : (items : List AddrItem) (n : ℕ) (prefix : Prefix) (hull block wider : AddrHull) → n < length items → (d : AddrItem) → Net prefix ≡ get_or items n d
    → IsHullOfAddrs false (Some (take n items)) (Some hull) → IsHullOfBits prefix.len prefix.addr block → IsWithin hull wider → IsWithin block wider
    → IsHullOfAddrs false (Some (take (n + 1) items)) (Some wider)
more_items items n prefix hull block wider lt d is so_far of_block old next = λ tables addr any.
    more (item_has tables addr) items n d (in_hull (Some wider) addr ≡ true) lt (λ h. old addr (so_far tables addr h))
    (λ h. next addr (of_block addr (ap (item_has tables addr) is ∙ h))) any

-- the addresses of a block of IPv6 addresses begin at the block's own and are as many as its host bits count, and so do their upper halves
pub block_v6 : (first len : ℕ) (addr : Addr) → first < 2 ^ 128 → len ≤ 128 → first ≡ first / 2 ^ (128 - len) * 2 ^ (128 - len)
    → shares_first len (V6 first) addr ≡ true
    → (nat_le (first / 2 ^ 64) (hull_number addr) && nat_le (hull_number addr) (min (first + (2 ^ (128 - len) - 1)) (2 ^ 128 - 1) / 2 ^ 64)) ≡ true
block_v6 first len (V4 n) fits short zeroed same = absurd (true≢false (sym same))
block_v6 first len (V6 n) fits short zeroed same =
    let size : ℕ = 2 ^ (128 - len) in
    let quotient : first / size ≡ n / size = eqb-true (first / size) (n / size) same in
    let positive : 0 < size = pow_pos (128 - len) in
    let least : n / size * size ≤ n = div-mul-le_self n size in
    let most : n < n / size * size + size = lt-div-mul-add positive in
    let begins : first ≡ n / size * size = zeroed ∙ ap (λ q. q * size) quotient in
    let bits : len + (128 - len) ≡ 128 = omega arith in
    let whole : 2 ^ 128 ≡ 2 ^ len * size = sym (ap (λ k. 2 ^ k) bits) ∙ pow-add 2 len (128 - len) in
    let small : n / size < 2 ^ len = subst (λ q. q < 2 ^ len) quotient ((div-lt_iff_lt-mul positive).1 (subst (λ w. first < w) whole fits)) in
    let n_fits : n < 2 ^ 128 = subst (λ w. n < w) (sym whole) ((div-lt_iff_lt-mul positive).0 small) in
    let last : ℕ = min (first + (size - 1)) (2 ^ 128 - 1) in
    let from : first ≤ n = omega arith in
    let up_to : n ≤ last = omega arith in
    both_true (le-leb (first / 2 ^ 64) (n / 2 ^ 64) (shr_mono 64 from)) (le-leb (n / 2 ^ 64) (last / 2 ^ 64) (shr_mono 64 up_to))

-- a protocol's bit is set
set_bit : (proto : ℕ) → 1 * 2 ^ (proto % 64) % 18446744073709551616 ≡ 2 ^ (proto % 64)
set_bit proto =
    let small : proto % 64 < 64 = omega arith in
    let power : 2 ^ (proto % 64) < 2 ^ 64 = pow-lt small in
    let one : 1 * 2 ^ (proto % 64) ≡ 2 ^ (proto % 64) = omega arith in
    ap (λ b. b % 18446744073709551616) one ∙ mod-eq_of_lt power

pub added_bit : (bits proto : ℕ) → (bit_at (bit_or bits (1 * 2 ^ (proto % 64) % 18446744073709551616)) (proto % 64) == 1) ≡ true
added_bit bits proto =
    let there = bit_at-pow_same (proto % 64) in
    let before = bit_at-lt bits (proto % 64) in
    eq-eqb _ 1 (ap (λ b. bit_at (bit_or bits b) (proto % 64)) (set_bit proto) ∙ bit_at_or bits (2 ^ (proto % 64)) (proto % 64)
    ∙ ap (max (bit_at bits (proto % 64))) there ∙ max-eq_right (omega arith))

pub kept_bit : (bits more other : ℕ) → (bit_at bits (other % 64) == 1) ≡ true → (bit_at (bit_or bits more) (other % 64) == 1) ≡ true
kept_bit bits more other set =
    let was = eqb-true (bit_at bits (other % 64)) 1 set in
    let put = bit_at-lt more (other % 64) in
    eq-eqb _ 1 (bit_at_or bits more (other % 64) ∙ ap (λ b. max b (bit_at more (other % 64))) was ∙ max-eq_left (omega arith))

pub all_bits : (proto : ℕ) → (bit_at 18446744073709551615 (proto % 64) == 1) ≡ true
all_bits proto = let small : proto % 64 < 64 = omega arith in eq-eqb _ 1 (bit_at_ones 64 (proto % 64) small)

pub row_of : (rule : Rule) (row : Row) → HasProtocols rule.protos row.protocols → row.v6 ≡ rule.v6 → IsEndRowOf rule.from row.from → IsEndRowOf rule.to row.to → IsRowOf rule row
row_of rule row protocols v6 from to = λ tables facts describes.
    let f = fits_family rule.v6 facts.src in let p = fits_protocol rule.protos facts.proto in
    let g = fits_flags rule.flags rule.decision rule.state facts.l4 in let i = fits_icmp rule.icmp facts.l4 in
    let s = fits_ends rule.from tables facts.src (source_of facts.l4) in let d = fits_ends rule.to tables facts.dst (destination_of facts.l4) in
    let to_parts = and_parts (f && p && g && i && s) d describes in
    let from_parts = and_parts (f && p && g && i) s to_parts.0 in
    let icmp_parts = and_parts (f && p && g) i from_parts.0 in
    let flag_parts = and_parts (f && p) g icmp_parts.0 in
    let parts = and_parts f p flag_parts.0 in
    let source = and_parts (fits_addrs rule.from.excluded rule.from.addrs tables facts.src) (fits_ports rule.from.ports (source_of facts.l4)) from_parts.1 in
    let destination = and_parts (fits_addrs rule.to.excluded rule.to.addrs tables facts.dst) (fits_ports rule.to.ports (destination_of facts.l4)) to_parts.1 in
    both_true (both_true (both_true (both_true (both_true (from.addrs tables facts.src source.0) (to.addrs tables facts.dst destination.0)) (protocols facts.proto parts.1))
    (from.ports (source_of facts.l4) source.1)) (to.ports (destination_of facts.l4) destination.1)) (ap (λ v. fits_family v facts.src) v6 ∙ parts.0)
