-- A text is one entry at most.
use Rattle.std.proofs.Common.{◌≡◌, ◌↔◌, ◌≤◌, ◌-◌, ◌*◌, ◌/◌, ◌^◌, ℕ, List, Option, Some, None, IsSome, IfSome, refl, sym, ap, subst, ◌∙◌, arith, true≢false, length}
use Rattle.std.proofs.Math.Nat.{div-one, mul-one}
use Rattle.npf_types.specs.{declared.{address.Addr.{Addr, TheVariants.{V4, V6}}, prefix.Prefix.Prefix}, Address.{width, cleared}}
use Rattle.npf_types.{proofs.PrefixLemmas.Prefix-same, specs.{AddressText.IsAddressText, Reading.{IsOnly, IsReading}}}
use Rattle.npf_table.specs.PrefixText.{IsHostText, IsBlockText, IsLengthText, IsByteLengthText}

-- the whole width clears nothing
kept_whole : (bits a : ℕ) → a / 2 ^ (bits - bits) * 2 ^ (bits - bits) ≡ a
kept_whole bits a =
    let none : bits - bits ≡ 0 = omega arith in
    ap (λ k. a / 2 ^ k * 2 ^ k) none ∙ ap (λ q. q * 1) (div-one a) ∙ mul-one a

cleared_whole : (a : Addr) → cleared a (width a) ≡ a
cleared_whole (V4 a) = ap V4 (kept_whole 32 a)
cleared_whole (V6 a) = ap V6 (kept_whole 128 a)

width_cleared : (a : Addr) (n : ℕ) → width (cleared a n) ≡ width a
width_cleared (V4 a) n = refl
width_cleared (V6 a) n = refl

width_small : (a : Addr) → width a ≤ 128
width_small (V4 a) = omega arith
width_small (V6 a) = omega arith

-- what `Prefix.of` answers at an address's own width
pub host_reading : (text : List ℕ) (a : Addr) (n : ℕ) (r : Option Prefix) → IsOnly IsAddressText text a → n ≡ width a → IsSome r ↔ (n ≤ width a)
    → IfSome r (λ p. p.addr ≡ cleared a n) → IfSome r (λ p. p.len ≡ n) → IsReading IsHostText text r
host_reading text a n None address whole fits addr len = absurd (true≢false (sym (fits.1 (omega arith))))
host_reading text a n (Some p) address whole fits addr len =
    let same : p.addr ≡ a = addr ∙ ap (cleared a) whole ∙ cleared_whole a in
    record {
      reads = record { address = subst (λ (b : Addr). IsAddressText text b) (sym same) address.reads; whole = len ∙ whole ∙ ap width (sym same) };
      only = λ q h.
          let one : q.addr ≡ p.addr = address.only q.addr h.address ∙ sym same in
          Prefix-same q p one (h.whole ∙ ap width one ∙ ap width same ∙ sym whole ∙ sym len);
    }

-- what `Prefix.of` answers at a length
pub block_reading : (address digits : List ℕ) (a : Addr) (n : ℕ) (r : Option Prefix) → IsOnly IsAddressText address a → IsOnly IsByteLengthText digits n
    → IsSome r ↔ (n ≤ width a) → IfSome r (λ p. p.addr ≡ cleared a n) → IfSome r (λ p. p.len ≡ n) → IsReading (IsBlockText address) digits r
block_reading address digits a n None written length fits addr len = λ q h.
    let base : h.written ≡ a = written.only h.written h.spelled in
    let small : q.len ≤ width q.addr = q.short in
    let most : width q.addr ≤ 128 = width_small q.addr in
    let long : q.len ≡ n = length.only q.len (record { long = h.long; fits = omega arith }) in
    let wide : width q.addr ≡ width a = ap width h.masked ∙ width_cleared h.written q.len ∙ ap width base in
    true≢false (sym (fits.1 (omega arith)))
block_reading address digits a n (Some p) written length fits addr len = record {
  reads = record {
    written = a;
    spelled = written.reads;
    long = subst (λ (m : ℕ). IsLengthText digits m) (sym len) length.reads.long;
    masked = addr ∙ ap (cleared a) (sym len);
  };
  only = λ q h.
      let base : h.written ≡ a = written.only h.written h.spelled in
      let small : q.len ≤ width q.addr = q.short in
      let most : width q.addr ≤ 128 = width_small q.addr in
      let long : q.len ≡ n = length.only q.len (record { long = h.long; fits = omega arith }) in
      Prefix-same q p (h.masked ∙ ap (λ b. cleared b q.len) base ∙ ap (cleared a) long ∙ sym addr) (long ∙ sym len);
}

-- without an address or a length there is no block
pub no_address : (address digits : List ℕ) → ((a : Addr) → ¬ IsAddressText address a) → (q : Prefix) → ¬ IsBlockText address digits q
no_address address digits none q h = none h.written h.spelled

pub no_length : (address digits : List ℕ) → ((n : ℕ) → ¬ IsByteLengthText digits n) → (q : Prefix) → ¬ IsBlockText address digits q
no_length address digits none q h =
    let small : q.len ≤ width q.addr = q.short in
    let most : width q.addr ≤ 128 = width_small q.addr in
    none q.len (record { long = h.long; fits = omega arith })
