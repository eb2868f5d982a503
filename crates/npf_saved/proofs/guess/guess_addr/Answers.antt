use Rattle.std.proofs.Common.{◌≡◌, ◌<◌, ◌+◌, ◌*◌, ◌/◌, ◌%◌, ◌^◌, ◌++◌, ℕ, List, length, take, drop, refl, ap, sym, ◌∙◌, arith}
use Rattle.std.{specs.Int.{w32, w64, to_be_bytes}, proofs.{Math.Seq.{take-append_seam, drop-append_seam}, lemmas.List.length-append}}
use Rattle.hex.{specs.Hex.lower_digits, proofs.HexLemmas.length-encode_with}
use Rattle.npf_types.specs.declared.address.Addr.{Addr, TheVariants.{V4, V6}}
use Rattle.npf_saved.specs.{Fields.FitsAddrText, Spelling.{addr_text, hex_text}}
use Rattle.npf_saved.proofs.guess.guess_addr.Goals as goal

half_long : (n : ℕ) → length (hex_text w64 n) ≡ 16
half_long n = length-encode_with lower_digits (to_be_bytes w64 n)

four_long : (n : ℕ) → length (hex_text w32 n) ≡ 8
four_long n = length-encode_with lower_digits (to_be_bytes w32 n)

six_long : (high low : ℕ) → length (hex_text w64 high ++ hex_text w64 low) ≡ 32
six_long high low =
    let one = half_long high in
    let two = half_long low in
    let both = length-append (hex_text w64 high) (hex_text w64 low) in
    omega (arith, one, two, both)

pub returns-then-word-lt-V6_DIGITS-clause-value : goal.returns-then-word-lt-V6_DIGITS-clause-value
returns-then-word-lt-V6_DIGITS-clause-value c = by where
  by : (addr : Addr) → FitsAddrText addr → c.args.word.now ≡ addr_text addr → V4 c.guess_half_word.result ≡ addr
  by (V4 address) fits is = ap V4 (c.guess_half_word.ensures address fits is)
  by (V6 address) fits is =
      let long = ap length is ∙ six_long (address / 2 ^ 64) (address % 2 ^ 64) in
      absurd (omega (arith, long, c.if-word-lt-V6_DIGITS.true))

pub returns-clause-value : goal.returns-clause-value
returns-clause-value c = by where
  by : (addr : Addr) → FitsAddrText addr → c.args.word.now ≡ addr_text addr → V6 (c.from.result * 2 ^ 64 + c.from-2.result) ≡ addr
  by (V4 address) fits is =
      let long = ap length is ∙ four_long address in
      absurd (omega (arith, long, c.if-word-lt-V6_DIGITS.false))
  by (V6 address) fits is =
      let high = hex_text w64 (address / 2 ^ 64) in
      let low = hex_text w64 (address % 2 ^ 64) in
      let long = half_long (address / 2 ^ 64) in
      let front = c.split_at.ensures.front ∙ ap (take 16) is ∙ ap (λ n. take n (high ++ low)) (sym long) ∙ take-append_seam high low in
      let back = c.split_at.ensures.back ∙ ap (drop 16) is ∙ ap (λ n. drop n (high ++ low)) (sym long) ∙ drop-append_seam high low in
      let upper : c.from.result ≡ address / 2 ^ 64 = c.from.ensures ∙ c.guess_word.ensures (address / 2 ^ 64) (omega (arith, fits)) front in
      let lower : c.from-2.result ≡ address % 2 ^ 64 = c.from-2.ensures ∙ c.guess_word-2.ensures (address % 2 ^ 64) (omega arith) back in
      ap V6 (omega (arith, upper, lower))
