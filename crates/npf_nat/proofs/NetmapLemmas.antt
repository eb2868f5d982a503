-- An address of a block that has other host bits is a number of as many bits, and comes back.
use Rattle.std.proofs.Common.{◌≡◌, ◌≤◌, ◌<◌, ◌+◌, ◌-◌, ◌*◌, ◌/◌, ◌%◌, ◌^◌, ℕ, true, ap, sym, subst, ◌∙◌, arith}
use Rattle.std.proofs.Math.Nat.{add-sub_of_le, lt_of_mul-lt-mul_right, mul-le-mul_right, mod-lt, mod-mod, mul-add-mod_self_right, mod-add-div}
use Rattle.std.proofs.lemmas.Nat.{pow_pos, pow-add}
use Rattle.npf_types.specs.{declared.address.Addr.{Addr, TheVariants.{V4, V6}}, Address.{kept_bits, first_bits, cleared, SharesFirst}}
use Rattle.npf_key.specs.Translated.{shares_family}
use Rattle.npf_nat.specs.{Laws.NetmapComesBack, Netmap.{in_block, moved}, Npt.address_number}

below_multiple : (q m p block top r : ℕ) → block ≡ q * p → top ≡ m * p → block < top → r < p → block + r < top
below_multiple q m p block top r e f h k =
    let below : q * p < m * p = omega arith in
    let less : q < m = lt_of_mul-lt-mul_right p below in
    let next : q + 1 ≤ m = omega arith in
    let more : (q + 1) * p ≤ m * p = mul-le-mul_right p next in
    omega arith

pub in_block_fits : (bits n block a : ℕ) → n ≤ bits → block ≡ kept_bits bits n block → block < 2 ^ bits → in_block bits block n a < 2 ^ bits
in_block_fits bits n block a short zeroed fits =
    let whole : 2 ^ bits ≡ 2 ^ n * 2 ^ (bits - n) = ap (λ (e : ℕ). 2 ^ e) (sym (add-sub_of_le short)) ∙ pow-add 2 n (bits - n) in
    below_multiple (block / 2 ^ (bits - n)) (2 ^ n) (2 ^ (bits - n)) block (2 ^ bits) (a % 2 ^ (bits - n)) zeroed whole fits (mod-lt a (pow_pos (bits - n)))

-- the bits of a block of this family, whose host bits are zero
pub zeroed_number : (addr block : Addr) (n : ℕ) → addr ≡ block → addr ≡ cleared addr n → address_number block ≡ address_number (cleared block n)
zeroed_number addr block n is zeroed = ap address_number (subst (λ (x : Addr). x ≡ cleared x n) is zeroed)

-- with host bits of their own both blocks' addresses are the same
host_back : (p q t r : ℕ) → t ≡ q * p → (t + r % p) % p ≡ r % p
host_back p q t r e = ap (λ (x : ℕ). (x + r % p) % p) e ∙ mul-add-mod_self_right q p (r % p) ∙ mod-mod r p

-- an address of the block is the block's with the address's host bits
pub itself : (bits n f a : ℕ) → f ≡ kept_bits bits n f → first_bits bits n f ≡ first_bits bits n a → in_block bits f n a ≡ a
itself bits n f a zeroed same =
    joined f (a / 2 ^ (bits - n)) (2 ^ (bits - n)) (a % 2 ^ (bits - n)) a (zeroed ∙ ap (λ (x : ℕ). x * 2 ^ (bits - n)) same)
    (mod-add-div a (2 ^ (bits - n)))
  where
    joined : (f q p r a : ℕ) → f ≡ q * p → r + p * q ≡ a → f + r ≡ a
    joined f q p r a e whole = omega arith

number_back : (bits n f t a : ℕ) → f ≡ kept_bits bits n f → t ≡ kept_bits bits n t → first_bits bits n f ≡ first_bits bits n a
    → in_block bits f n (in_block bits t n a) ≡ a
number_back bits n f t a zf zt same =
    ap (λ (x : ℕ). f + x) (host_back (2 ^ (bits - n)) (t / 2 ^ (bits - n)) t a zt) ∙ itself bits n f a zf same

moved_back : (f t addr : Addr) (n : ℕ) → f ≡ cleared f n → t ≡ cleared t n → shares_family f t ≡ true → SharesFirst n f addr
    → moved f n (moved t n addr) ≡ addr
moved_back (V4 f) (V4 t) (V4 a) n zf zt one has = ap V4 (number_back 32 n f t a (ap address_number zf) (ap address_number zt) has)
moved_back (V6 f) (V6 t) (V6 a) n zf zt one has = ap V6 (number_back 128 n f t a (ap address_number zf) (ap address_number zt) has)
moved_back (V4 f) (V6 t) addr n zf zt one has = cc
moved_back (V6 f) (V4 t) addr n zf zt one has = cc
moved_back (V4 f) (V4 t) (V6 a) n zf zt one has = absurd has
moved_back (V6 f) (V6 t) (V4 a) n zf zt one has = absurd has

pub netmap_back : NetmapComesBack
netmap_back from to addr same one has =
    subst (λ (k : ℕ). moved from.addr from.len (moved to.addr k addr) ≡ addr) same
    (moved_back from.addr to.addr addr from.len from.zeroed (subst (λ (k : ℕ). to.addr ≡ cleared to.addr k) (sym same) to.zeroed) one has)
