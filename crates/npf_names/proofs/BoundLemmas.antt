-- How great the numbers of the tables are: ports have 16 bits, protocols and what ICMP's messages have 8.
use Rattle.std.proofs.Common.{◌≡◌, ◌≤◌, ◌==◌, ℕ, Bool, true, false, nat_le, if◌then◌else◌, Option, Some, List, [], ◌∷◌, unwrap_or, refl, ap, arith}
use Rattle.std.proofs.lemmas.Bool.{and_parts, leb-true}
use Rattle.std.specs.Str.{bytes_eq}
use Rattle.npf_names.specs.declared.icmp.IcmpNames.{IcmpNames, TheVariants.{OfIcmp, OfIcmp6, OfNeither}}
use Rattle.npf_names.specs.Icmp.{icmp_types, icmp6_types, unreach_codes, redirect_codes, timxceed_codes, unreach6_codes, timxceed6_codes, types_of, codes_of}
use Rattle.npf_names.specs.{Names.{Names, number_named, reaches}, Protocol.protocols, Service.services}

-- a number of the table is no greater than its greatest
pub named_below : (names : Names) (most : ℕ) (text : List ℕ) (n : ℕ) → reaches most names ≡ true → number_named names text ≡ Some n → n ≤ most
named_below [] most text n all is = cc
named_below (row ∷ rows) most text n all is =
    let first = and_parts (nat_le row.1 most) (reaches most rows) all in
    by (bytes_eq row.0 text) (leb-true row.1 most first.0) (named_below rows most text n first.1) is where
      by : {found : Option ℕ} (b : Bool) → row.1 ≤ most → (found ≡ Some n → n ≤ most) → (if b then Some row.1 else found) ≡ Some n → n ≤ most
      by true small later is = let same : row.1 ≡ n = ap (λ o. unwrap_or o 0) is in omega (arith, same, small)
      by false small later is = later is

pub service_small : (text : List ℕ) (n : ℕ) → number_named services text ≡ Some n → n ≤ 65535
unfolding services
service_small text n is = named_below services 65535 text n refl is

pub protocol_small : (text : List ℕ) (n : ℕ) → number_named protocols text ≡ Some n → n ≤ 255
unfolding protocols
protocol_small text n is = named_below protocols 255 text n refl is

pub type_small : (names : IcmpNames) (text : List ℕ) (n : ℕ) → number_named (types_of names) text ≡ Some n → n ≤ 255
unfolding icmp_types icmp6_types
type_small OfIcmp text n is = named_below icmp_types 255 text n refl is
type_small OfIcmp6 text n is = named_below icmp6_types 255 text n refl is
type_small OfNeither text n is = cc

codes_reach : (names : IcmpNames) (kind : ℕ) → reaches 255 (codes_of names kind) ≡ true
unfolding unreach_codes redirect_codes timxceed_codes unreach6_codes timxceed6_codes
codes_reach OfIcmp kind = by (kind == 3) (kind == 5) (kind == 11) where
  by : (a b c : Bool) → reaches 255 (if a then unreach_codes else (if b then redirect_codes else (if c then timxceed_codes else []))) ≡ true
  by true b c = refl
  by false true c = refl
  by false false true = refl
  by false false false = refl
codes_reach OfIcmp6 kind = by (kind == 1) (kind == 3) where
  by : (a b : Bool) → reaches 255 (if a then unreach6_codes else (if b then timxceed6_codes else [])) ≡ true
  by true b = refl
  by false true = refl
  by false false = refl
codes_reach OfNeither kind = refl

pub code_small : (names : IcmpNames) (kind : ℕ) (text : List ℕ) (n : ℕ) → number_named (codes_of names kind) text ≡ Some n → n ≤ 255
code_small names kind text n is = named_below (codes_of names kind) 255 text n (codes_reach names kind) is
