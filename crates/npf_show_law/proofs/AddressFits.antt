-- The address that a text writes fits its family.
use Rattle.std.proofs.Common.{◌≡◌, ◌≤◌, ◌<◌, ◌^◌, ℕ, zero, suc, ◌-◌, Bool, inl, inr, List, [], ◌∷◌, ◌++◌, length, replicate, codes, sym, ap, subst, ◌∙◌, arith, lt_of_lt_of_le}
use Rattle.std.{proofs.lemmas.{List.{length-append, length-replicate}, Int.Digits.digits_value-lt}, specs.Int.{from_be_bytes, w32, w128}}
use Rattle.std.specs.{declared.net.ip_addr.IpAddr.IpAddr, Net.Addr.{ipv4_bits, ipv6_bits, octets_of, segments_of}}
use Rattle.std.specs.declared.net.ip_addr.IpAddr.TheVariants as Ip
use Rattle.std.specs.Net.Grammar.{IsDotted, IsGroup, IsGroupsAfter, IsElided, IsColonHex, IsIpText}
use Rattle.npf_types.specs.{declared.address.Addr.Addr, AddressText.{IsAddressText, addr_of}}
use Rattle.npf_show_tokens.specs.Showable.{FitsAddr}
use Rattle.npf_show_law.proofs.Gives.{Every}

abbrev IsSegment : ℕ → Type 0
IsSegment s = s < 65536

digits_few : (n : ℕ) → n ≤ 4 → 16 ^ n ≤ 65536
digits_few zero few = omega arith
digits_few (suc zero) few = omega arith
digits_few (suc (suc zero)) few = omega arith
digits_few (suc (suc (suc zero))) few = omega arith
digits_few (suc (suc (suc (suc zero)))) few = omega arith
digits_few (suc (suc (suc (suc (suc n))))) few = absurd (omega (arith, few))

group_small : (text : List ℕ) (s : ℕ) → IsGroup text s → IsSegment s
group_small text s is = subst IsSegment is.0.1 (lt_of_lt_of_le (digits_value-lt 16 text is.0.0.1) (digits_few (length text) is.1))

dotted_small : (text octets : List ℕ) → IsDotted text octets → Every IsSegment (segments_of octets)
dotted_small text octets is =
    let fit = is.fit in
    subst (λ os. Every IsSegment (segments_of os)) (sym is.value) (omega (arith, fit.0, fit.1), (omega (arith, fit.2, fit.3), tt))

groups_small : (ipv4 : Bool) (lead text segments : List ℕ) → IsGroupsAfter ipv4 lead text segments → Every IsSegment segments
groups_small ipv4 lead text [] is = tt
groups_small ipv4 lead text (s ∷ segments) (inl (group, rest, parts, is, more)) = (group_small group s is, groups_small ipv4 (codes ":") rest segments more)
groups_small ipv4 lead text (s ∷ segments) (inr (last, octets, can, parts, is, same)) = subst (Every IsSegment) (sym same) (dotted_small last octets is)

every_behind : (xs ys : List ℕ) → Every IsSegment xs → Every IsSegment ys → Every IsSegment (xs ++ ys)
every_behind [] ys one other = other
every_behind (x ∷ xs) ys one other = (one.0, every_behind xs ys one.1 other)

zeros_small : (n : ℕ) → Every IsSegment (replicate n 0)
zeros_small zero = tt
zeros_small (suc n) = (omega arith, zeros_small n)

elided_small : (text segments : List ℕ) → IsElided text segments → (length segments ≡ 8) × Every IsSegment segments
elided_small text segments is =
    let head = is.head in
    let tail = is.tail in
    let zeros : List ℕ = replicate (8 - length head - length tail) 0 in
    let room = is.room in
    let one = length-append (head ++ zeros) tail in
    let two = length-append head zeros in
    let three : length zeros ≡ 8 - length head - length tail = length-replicate (8 - length head - length tail) 0 in
    let count : length ((head ++ zeros) ++ tail) ≡ 8 = omega (arith, one, two, three, room) in (
      ap length is.value ∙ count,
      subst (Every IsSegment) (sym is.value) (every_behind (head ++ zeros) tail
          (every_behind head zeros (groups_small _ [] is.head_text head is.head_groups) (zeros_small (8 - length head - length tail))) (groups_small _ [] is.tail_text tail is.tail_groups)),
    )

eight_small : (text segments : List ℕ) → IsColonHex text segments → (length segments ≡ 8) × Every IsSegment segments
eight_small text segments (inl is) = (is.1, groups_small _ [] text segments is.0)
eight_small text segments (inr is) = elided_small text segments is

v4_below : (text octets : List ℕ) → IsDotted text octets → from_be_bytes w32 octets < 2 ^ 32
v4_below text octets is =
    let fit = is.fit in
    subst (λ os. from_be_bytes w32 os < 2 ^ 32) (sym is.value) (omega (arith, fit.0, fit.1, fit.2, fit.3))

v6_below : (segments : List ℕ) → length segments ≡ 8 → Every IsSegment segments → from_be_bytes w128 (octets_of segments) < 2 ^ 128
v6_below (a ∷ b ∷ c ∷ d ∷ e ∷ f ∷ g ∷ h ∷ []) count (sa, (sb, (sc, (sd, (se, (sf, (sg, (sh, end)))))))) = omega (arith, sa, sb, sc, sd, se, sf, sg, sh)
v6_below [] count small = absurd (omega (arith, count))
v6_below (a ∷ []) count small = absurd (omega (arith, count))
v6_below (a ∷ b ∷ []) count small = absurd (omega (arith, count))
v6_below (a ∷ b ∷ c ∷ []) count small = absurd (omega (arith, count))
v6_below (a ∷ b ∷ c ∷ d ∷ []) count small = absurd (omega (arith, count))
v6_below (a ∷ b ∷ c ∷ d ∷ e ∷ []) count small = absurd (omega (arith, count))
v6_below (a ∷ b ∷ c ∷ d ∷ e ∷ f ∷ []) count small = absurd (omega (arith, count))
v6_below (a ∷ b ∷ c ∷ d ∷ e ∷ f ∷ g ∷ []) count small = absurd (omega (arith, count))
v6_below (a ∷ b ∷ c ∷ d ∷ e ∷ f ∷ g ∷ h ∷ i ∷ more) count small = absurd (omega (arith, count))

ip_fits : (text : List ℕ) (ip : IpAddr) → IsIpText text ip → FitsAddr (addr_of ip)
unfolding ipv4_bits ipv6_bits
ip_fits text (Ip.V4 a) is = v4_below text a.octets is
ip_fits text (Ip.V6 a) is = let eight = eight_small text a.segments is in v6_below a.segments eight.0 eight.1

pub address_fits : (text : List ℕ) (addr : Addr) → IsAddressText text addr → FitsAddr addr
address_fits text addr is = subst FitsAddr is.value (ip_fits text is.ip is.spelled)
