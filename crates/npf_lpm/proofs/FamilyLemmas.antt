-- A family's blocks as numbers, and its prefixes.
use Rattle.std.proofs.{Common.{◌≡◌, ◌≤◌, ◌+◌, ◌-◌, ◌*◌, ◌/◌, ◌^◌, ℕ, refl, sym, ap, ◌∙◌, arith}, Math.Nat.{min-eq_left, mul-div-mul_right, mul-div_left}}
use Rattle.std.proofs.lemmas.Nat.{pow-add, pow_pos}
use Rattle.npf_types.specs.declared.{address.Addr.{Addr, TheVariants.{V4, V6}}, prefix.Prefix.Prefix}
use Rattle.npf_types.{specs.Address.{width, cleared, SharesFirst, kept_bits, first_bits}, proofs.PrefixLemmas.Prefix-same}
use Rattle.npf_lpm.specs.{Agree.{AgreesIn, IsAligned}, Families.{number, aligned_block, is_narrow, prefix_of}}

size : (n : ℕ) → n ≤ 32 → 2 ^ (128 - n) ≡ 2 ^ (32 - n) * 2 ^ 96
size n le = let e : 128 - n ≡ (32 - n) + 96 = omega arith in ap (λ k. 2 ^ k) e ∙ pow-add 2 (32 - n) 96

-- the first bits of an IPv4 address are those of its number
first_bits-shifted : (n a : ℕ) → n ≤ 32 → first_bits 128 n (a * 2 ^ 96) ≡ first_bits 32 n a
first_bits-shifted n a le = ap (λ k. a * 2 ^ 96 / k) (size n le) ∙ mul-div-mul_right a (2 ^ (32 - n)) (pow_pos 96)

-- two addresses of a family agree where their numbers do
pub shares_number : (n : ℕ) (x y : Addr) → n ≤ width x → SharesFirst n x y → (is_narrow x ≡ is_narrow y) × AgreesIn n (number x) (number y)
shares_number n (V4 a) (V4 b) le h = (refl, first_bits-shifted n a le ∙ h ∙ sym (first_bits-shifted n b le))
shares_number n (V6 a) (V6 b) le h = (refl, h)
shares_number n (V4 a) (V6 b) le h = absurd h
shares_number n (V6 a) (V4 b) le h = absurd h

pub number_shares : (n : ℕ) (x y : Addr) → n ≤ width x → is_narrow x ≡ is_narrow y → AgreesIn n (number x) (number y) → SharesFirst n x y
number_shares n (V4 a) (V4 b) le same h = sym (first_bits-shifted n a le) ∙ h ∙ first_bits-shifted n b le
number_shares n (V6 a) (V6 b) le same h = h
number_shares n (V4 a) (V6 b) le same h = cc
number_shares n (V6 a) (V4 b) le same h = cc

kept_shifted : (n a : ℕ) → n ≤ 32 → kept_bits 32 n a * 2 ^ 96 ≡ kept_bits 128 n (a * 2 ^ 96)
kept_shifted n a le = mul_assoc_here (a / 2 ^ (32 - n)) (2 ^ (32 - n)) (2 ^ 96) ∙ sym (λ i. first_bits-shifted n a le i * size n le i) where
  mul_assoc_here : (x y z : ℕ) → x * y * z ≡ x * (y * z)
  mul_assoc_here x y z = omega arith

aligned_addr : (n : ℕ) (x : Addr) → n ≤ width x → x ≡ cleared x n → IsAligned (record { first = number x; len = n })
aligned_addr n (V4 a) le zeroed = record { short = omega arith; zeroed = ap number zeroed ∙ kept_shifted n a le }
aligned_addr n (V6 a) le zeroed = record { short = le; zeroed = ap number zeroed }

pub aligned_is : (p : Prefix) → IsAligned (aligned_block p)
aligned_is p = aligned_addr p.len p.addr p.short p.zeroed

-- a prefix is the one that its number and its length give
again : (p : Prefix) (x : Addr) → p.addr ≡ x → p.len ≤ width x → x ≡ cleared x p.len → prefix_of (is_narrow x) (record { first = number x; len = p.len }) ≡ p
again p (V4 a) is fits zeroed = Prefix-same _ p ((λ i. V4 (kept_bits 32 (min-eq_left fits i) (mul-div_left a (pow_pos 96) i))) ∙ sym zeroed ∙ sym is) (min-eq_left fits)
again p (V6 a) is fits zeroed = Prefix-same _ p ((λ i. V6 (kept_bits 128 (min-eq_left fits i) a)) ∙ sym zeroed ∙ sym is) (min-eq_left fits)

pub prefix_again : (p : Prefix) → prefix_of (is_narrow p.addr) (aligned_block p) ≡ p
prefix_again p = again p p.addr refl p.short p.zeroed
