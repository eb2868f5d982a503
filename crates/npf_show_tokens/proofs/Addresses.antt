-- How an address is spelled reads as that address.
use Rattle.std.proofs.Common.{nat_le, ◌≡◌, ℕ, zero, suc, ◌+◌, ◌*◌, ◌/◌, ◌%◌, ◌<◌, ◌^◌, inl, Bool, true, false, List, [], ◌∷◌, ◌++◌, flat_map, get_or, codes, refl, sym, ap, ◌∙◌, arith}
use Rattle.std.proofs.{lemmas.{Bool.Decides.nat_tests, Nat.from_be_bytes-to_be_bytes_4}, Math.Nat.{div-div-eq-div-mul, mod-add-div}}
use Rattle.std.{proofs.NetLemmas.Texts.IsDotted-ipv4_text, specs.{Char.{digit_char, digit_value}, Int.{w32, w128, to_be_bytes, from_be_bytes}}}
use Rattle.std.specs.declared.net.ip_addr.IpAddr.TheVariants as Ip
use Rattle.std.specs.{declared.net.{ipv4_addr.Ipv4Addr.Ipv4Addr, ipv6_addr.Ipv6Addr.Ipv6Addr}, Net.Addr.{ipv4_bits, ipv6_bits, segments_of, octets_of}}
use Rattle.std.specs.Net.{Grammar.{IsDotted, IsGroup, IsGroupsAfter, IsGroups}, Text.{hex, groups_text}}
use Rattle.npf_types.specs.{declared.address.Addr.TheVariants.{V4, V6}, AddressText.IsAddressText}
use Rattle.npf_show.specs.Address.{address_text}

abbrev ipv4_of : ℕ → Ipv4Addr
ipv4_of bits = record { octets = to_be_bytes w32 bits }

bits_of_ipv4 : (bits : ℕ) → bits < 2 ^ 32 → ipv4_bits (ipv4_of bits) ≡ bits
unfolding ipv4_bits
bits_of_ipv4 bits small = from_be_bytes-to_be_bytes_4 bits small

small_bytes : (bits k : ℕ) → get_or (to_be_bytes w32 bits) k 0 < 2 ^ 8
small_bytes bits zero = omega arith
small_bytes bits (suc zero) = omega arith
small_bytes bits (suc (suc zero)) = omega arith
small_bytes bits (suc (suc (suc zero))) = omega arith
small_bytes bits (suc (suc (suc (suc k)))) = omega arith

-- four numbers of a byte
pub v4_dotted : (bits : ℕ) → IsDotted (address_text (V4 bits)) (to_be_bytes w32 bits)
v4_dotted bits = IsDotted-ipv4_text (to_be_bytes w32 bits) refl (small_bytes bits)

pub v4_reads : (bits : ℕ) → bits < 2 ^ 32 → IsAddressText (address_text (V4 bits)) (V4 bits)
v4_reads bits small = record { ip = Ip.V4 (ipv4_of bits); spelled = v4_dotted bits; value = ap V4 (bits_of_ipv4 bits small) }

digit_back : (d : ℕ) → d < 16 → digit_value (digit_char d) ≡ d
digit_back d small = grind (arith, nat_tests)

one_digit : (n : ℕ) → n < 16 → IsGroup (digit_char n ∷ []) n
one_digit n small = let a = digit_back n small in omega (arith, a)

two_digits : (a b n : ℕ) → a < 16 → b < 16 → n ≡ a * 16 + b → IsGroup (digit_char a ∷ digit_char b ∷ []) n
two_digits a b n h k is = let x = digit_back a h in let y = digit_back b k in omega (arith, x, y, is)

three_digits : (a b c n : ℕ) → a < 16 → b < 16 → c < 16 → n ≡ a * 256 + b * 16 + c → IsGroup (digit_char a ∷ digit_char b ∷ digit_char c ∷ []) n
three_digits a b c n h k l is =
    let x = digit_back a h in
    let y = digit_back b k in
    let z = digit_back c l in
    omega (arith, x, y, z, is)

four_digits : (a b c d n : ℕ) → a < 16 → b < 16 → c < 16 → d < 16 → n ≡ a * 4096 + b * 256 + c * 16 + d
    → IsGroup (digit_char a ∷ digit_char b ∷ digit_char c ∷ digit_char d ∷ []) n
four_digits a b c d n h k l m is =
    let x = digit_back a h in
    let y = digit_back b k in
    let z = digit_back c l in
    let w = digit_back d m in
    omega (arith, x, y, z, w, is)

-- a group is its digits without leading zeros
hex_by : (n : ℕ) → n < 2 ^ 16 → (four three two : Bool) → nat_le 0x1000 n ≡ four → nat_le 0x100 n ≡ three → nat_le 0x10 n ≡ two → IsGroup (hex n) n
unfolding hex
hex_by n small true three two f t w =
    rw f (four_digits (n / 0x1000) (n / 0x100 % 16) (n / 0x10 % 16) (n % 16) n (omega arith) (omega arith) (omega arith) (omega arith) (omega arith))
hex_by n small false true two f t w =
    let below : n < 0x1000 = grind (arith, nat_tests) in
    rw (f, t) (three_digits (n / 0x100 % 16) (n / 0x10 % 16) (n % 16) n (omega arith) (omega arith) (omega arith) (omega arith))
hex_by n small false false true f t w =
    let below : n < 0x100 = grind (arith, nat_tests) in
    rw (f, t, w) (two_digits (n / 0x10 % 16) (n % 16) n (omega arith) (omega arith) (omega arith))
hex_by n small false false false f t w =
    let below : n < 0x10 = grind (arith, nat_tests) in
    let alone : n % 16 ≡ n = omega arith in
    rw (f, t, w, alone) (one_digit n below)

pub hex_group : (n : ℕ) → n < 2 ^ 16 → IsGroup (hex n) n
hex_group n small = hex_by n small (nat_le 0x1000 n) (nat_le 0x100 n) (nat_le 0x10 n) refl refl refl

abbrev pub AreSmall : List ℕ → Type 0
AreSmall segments = (k : ℕ) → get_or segments k 0 < 2 ^ 16

groups_behind : (segments : List ℕ) → AreSmall segments → IsGroupsAfter true (codes ":") (flat_map (λ s. codes ":" ++ hex s) segments) segments
groups_behind [] small = refl
groups_behind (s ∷ segments) small =
    inl (hex s, flat_map (λ t. codes ":" ++ hex t) segments, refl, hex_group s (small 0), groups_behind segments (λ k. small (suc k)))

groups_read : (segments : List ℕ) → AreSmall segments → IsGroups true (groups_text segments) segments
groups_read [] small = refl
groups_read (s ∷ segments) small =
    inl (hex s, flat_map (λ t. codes ":" ++ hex t) segments, refl, hex_group s (small 0), groups_behind segments (λ k. small (suc k)))

abbrev pub v6_segments : ℕ → List ℕ
v6_segments bits = segments_of (to_be_bytes w128 bits)

pub v6_small : (bits : ℕ) → AreSmall (v6_segments bits)
v6_small bits zero = omega arith
v6_small bits (suc zero) = omega arith
v6_small bits (suc (suc zero)) = omega arith
v6_small bits (suc (suc (suc zero))) = omega arith
v6_small bits (suc (suc (suc (suc zero)))) = omega arith
v6_small bits (suc (suc (suc (suc (suc zero))))) = omega arith
v6_small bits (suc (suc (suc (suc (suc (suc zero)))))) = omega arith
v6_small bits (suc (suc (suc (suc (suc (suc (suc zero))))))) = omega arith
v6_small bits (suc (suc (suc (suc (suc (suc (suc (suc k)))))))) = omega arith

abbrev ipv6_of : ℕ → Ipv6Addr
ipv6_of bits = record { segments = v6_segments bits }

-- two bytes of a segment
pair_back : (a b : ℕ) (bytes : List ℕ) → b < 256 → octets_of (segments_of bytes) ≡ bytes → octets_of (segments_of (a ∷ b ∷ bytes)) ≡ a ∷ b ∷ bytes
pair_back a b bytes small h =
    let high : (a * 256 + b) / 256 ≡ a = omega arith in
    let low : (a * 256 + b) % 256 ≡ b = omega arith in
    rw (high, low, h) refl

byte_fits : (n : ℕ) → n % 256 < 256
byte_fits n = omega arith

bytes_back : (bits : ℕ) → octets_of (v6_segments bits) ≡ to_be_bytes w128 bits
bytes_back bits =
    pair_back _ _ _ (byte_fits _) (pair_back _ _ _ (byte_fits _) (pair_back _ _ _ (byte_fits _) (pair_back _ _ _ (byte_fits _)
    (pair_back _ _ _ (byte_fits _) (pair_back _ _ _ (byte_fits _) (pair_back _ _ _ (byte_fits _) (pair_back _ _ _ (byte_fits _) refl)))))))

next_byte : (n m : ℕ) → n / m % 256 + 256 * (n / (m * 256)) ≡ n / m
next_byte n m = ap (λ q. n / m % 256 + 256 * q) (sym (div-div-eq-div-mul n m 256)) ∙ mod-add-div (n / m) 256

sixteen_bytes : (n : ℕ) → n < 2 ^ 128 → from_be_bytes w128 (to_be_bytes w128 n) ≡ n
sixteen_bytes n small =
    let e0 = mod-add-div n 256 in
    let e1 = next_byte n (256 ^ 1) in
    let e2 = next_byte n (256 ^ 2) in
    let e3 = next_byte n (256 ^ 3) in
    let e4 = next_byte n (256 ^ 4) in
    let e5 = next_byte n (256 ^ 5) in
    let e6 = next_byte n (256 ^ 6) in
    let e7 = next_byte n (256 ^ 7) in
    let e8 = next_byte n (256 ^ 8) in
    let e9 = next_byte n (256 ^ 9) in
    let e10 = next_byte n (256 ^ 10) in
    let e11 = next_byte n (256 ^ 11) in
    let e12 = next_byte n (256 ^ 12) in
    let e13 = next_byte n (256 ^ 13) in
    let e14 = next_byte n (256 ^ 14) in
    let e15 = next_byte n (256 ^ 15) in
    let top : n / 2 ^ 128 ≡ 0 = omega arith in
    omega (arith, e0, e1, e2, e3, e4, e5, e6, e7, e8, e9, e10, e11, e12, e13, e14, e15, top)

bits_of_ipv6 : (bits : ℕ) → bits < 2 ^ 128 → ipv6_bits (ipv6_of bits) ≡ bits
unfolding ipv6_bits
bits_of_ipv6 bits small = ap (from_be_bytes w128) (bytes_back bits) ∙ sixteen_bytes bits small

pub v6_reads : (bits : ℕ) → bits < 2 ^ 128 → IsAddressText (address_text (V6 bits)) (V6 bits)
v6_reads bits small =
    record { ip = Ip.V6 (ipv6_of bits); spelled = inl (groups_read (v6_segments bits) (v6_small bits), refl); value = ap V6 (bits_of_ipv6 bits small) }
