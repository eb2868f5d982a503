-- Two prefixes are one where their addresses and lengths are, which is what `==` tests; and what lists of them have.
use Rattle.std.{proofs.{Common.{◌≡◌, ◌≤◌, ℕ, Bool, true, ap, sym, ◌∙◌, List}, Math.Nat.min-eq_left}, specs.Cmp.IsEquivalence}
use Rattle.npf_types.specs.{Block.block, declared.{address.Addr.{Addr, TheVariants.{V4, V6}}, prefix.Prefix.Prefix}, contracts.address.Addr.the_row}
use mathlib.Core.HLevel.{is_prop→PathP}
use Rattle.std.{proofs.lemmas.{Bool.{and_parts, eqb-true, eq-eqb}, List.Folds.{Any-from_list_any, list_any-from_Any}}, specs.Bool.Decides}
use Rattle.std.proofs.lemmas.Map.Views.{exact_unsigned_eq}
use Rattle.npf_types.specs.contracts.prefix.{Prefix.{short-found, zeroed-found}, PrefixEq.TheImpl.Laws.laws-law}
use Rattle.npf_types.specs.contracts.prefix.PrefixPartialEq.TheImpl as prefix_eq
use Rattle.npf_types.specs.contracts.address.AddrPartialEq.TheImpl as addr_eq
use Rattle.npf_types.specs.{Address.{width, cleared, kept_bits, SharesFirst, shares_first}, Prefix.{has_address, Covers, covers}}

-- the test that `==` of two prefixes is
abbrev pub same_prefix : Prefix → Prefix → Bool
same_prefix = (prefix_eq.ghosts).eq

pub same_prefix_laws : IsEquivalence same_prefix
same_prefix_laws = laws-law

abbrev same_addr : Addr → Addr → Bool
same_addr = (addr_eq.ghosts).eq

same_addr_tells : (a b : Addr) → same_addr a b ≡ true → a ≡ b
same_addr_tells (V4 a) (V4 b) same = ap V4 (exact_unsigned_eq a b same)
same_addr_tells (V4 a) (V6 b) same = cc
same_addr_tells (V6 a) (V4 b) same = cc
same_addr_tells (V6 a) (V6 b) same = ap V6 (exact_unsigned_eq a b same)

-- what a prefix's ghost fields say has one proof
pub Prefix-same : (p q : Prefix) → p.addr ≡ q.addr → p.len ≡ q.len → p ≡ q
Prefix-same p q a l =
    let short = is_prop→PathP (λ i. l i ≤ width (a i)) (λ i. short-found the_row.coded (a i) (l i)) p.short q.short in
    λ i. record {
      addr = a i;
      len = l i;
      short = short i;
      zeroed = is_prop→PathP (λ j. a j ≡ cleared (a j) (l j)) (λ j. zeroed-found the_row.coded (a j) (l j) (short j)) p.zeroed q.zeroed i;
    }

pub same_prefix_tells : (p q : Prefix) → same_prefix p q ≡ true → p ≡ q
same_prefix_tells p q same =
    let both = and_parts (same_addr p.addr q.addr) _ same in
    Prefix-same p q (same_addr_tells _ _ both.0) (exact_unsigned_eq _ _ both.1)

shares_first_tells : (n : ℕ) (a b : Addr) → shares_first n a b ≡ true → SharesFirst n a b
shares_first_tells n (V4 a) (V4 b) h = eqb-true _ _ h
shares_first_tells n (V6 a) (V6 b) h = eqb-true _ _ h
shares_first_tells n (V4 a) (V6 b) h = cc
shares_first_tells n (V6 a) (V4 b) h = cc

tells_shares_first : (n : ℕ) (a b : Addr) → SharesFirst n a b → shares_first n a b ≡ true
tells_shares_first n (V4 a) (V4 b) h = eq-eqb _ _ h
tells_shares_first n (V6 a) (V6 b) h = eq-eqb _ _ h
tells_shares_first n (V4 a) (V6 b) h = absurd h
tells_shares_first n (V6 a) (V4 b) h = absurd h

-- the test says whether some prefix of the list has the address
pub covers_decides : (prefixes : List Prefix) (addr : Addr) → Decides (covers prefixes addr) (Covers prefixes addr)
covers_decides prefixes addr = (
  λ h.
      let (k, p, within, at, is) = Any-from_list_any (λ p. has_address p addr) prefixes h in
      record { prefix = p; listed = (k, within, at); has = shares_first_tells p.len p.addr addr is },
  λ c.
      let p = c.prefix in
      list_any-from_Any (λ p. has_address p addr) prefixes (c.listed.0, p, c.listed.1, c.listed.2, tells_shares_first p.len p.addr addr c.has),
)

-- the prefix of an address and a length that fits is the one whose host bits are cleared
pub block_is : (p : Prefix) (addr : Addr) (len : ℕ) → len ≤ width addr → p.addr ≡ cleared addr len → p.len ≡ len → p ≡ block addr len
block_is p (V4 a) len fits at long = Prefix-same p (block (V4 a) len) (at ∙ ap (λ n. V4 (kept_bits 32 n a)) (sym (min-eq_left fits))) (long ∙ sym (min-eq_left fits))
block_is p (V6 a) len fits at long = Prefix-same p (block (V6 a) len) (at ∙ ap (λ n. V6 (kept_bits 128 n a)) (sym (min-eq_left fits))) (long ∙ sym (min-eq_left fits))
