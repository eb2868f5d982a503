-- Prefix translation, word by word: an address is what is in front of 80 bits, its fourth word and
-- 64 bits.
use Rattle.std.proofs.Common.{◌≡◌, ◌≢◌, ◌≤◌, ◌<◌, ◌+◌, ◌-◌, ◌*◌, ◌/◌, ◌%◌, ◌^◌, ℕ, IsTrue, ap, sym, subst, ◌∙◌, arith}
use Rattle.std.proofs.{Math.Nat.{div-div-eq-div-mul, mod-mod, mul-add-mod_self_right}, lemmas.Nat.{pow-add, mod-pow-add}}
use Rattle.npf_types.specs.{declared.address.Addr.{Addr, TheVariants.{V4, V6}}, Address.{kept_bits, first_bits, cleared, SharesFirst}}
use Rattle.npf_model.specs.Describes.{is_v6}
use Rattle.npf_nat.specs.{Laws.{Npt66ComesBack, Npt66IsNeutral, words_sum}, Netmap.in_block}
use Rattle.npf_nat.{specs.Npt.{adjusted_word, fourth_word, npt66_number, address_number, prefix_sum}, proofs.NetmapLemmas.itself}

-- a prefix of IPv6 as a number
pub zeroed_ipv6 : (addr : Addr) (n : ℕ) → IsTrue (is_v6 addr) → addr ≡ cleared addr n → address_number addr ≡ kept_bits 128 n (address_number addr)
zeroed_ipv6 (V6 a) n six zeroed = ap address_number zeroed
zeroed_ipv6 (V4 a) n six zeroed = cc

shares_number : (addr : Addr) (n a : ℕ) → SharesFirst n addr (V6 a) → first_bits 128 n (address_number addr) ≡ first_bits 128 n a
shares_number (V6 f) n a h = h
shares_number (V4 f) n a h = absurd h

-- the words of an address add up to it in one's complement
carried : (m r : ℕ) → (m + r) % 65535 ≡ (m / 65536 + (m % 65536 + r)) % 65535
carried m r = omega arith

carried_on : (n d e r : ℕ) → n / d / 65536 ≡ n / e → (n / d + r) % 65535 ≡ (n / e + (n / d % 65536 + r)) % 65535
carried_on n d e r h = carried (n / d) r ∙ ap (λ (q : ℕ). (q + (n / d % 65536 + r)) % 65535) h

first_carried : (n : ℕ) → n % 65535 ≡ (n / 65536 + n % 65536) % 65535
first_carried n = omega arith

in_order : (a b c d e f g h : ℕ) → a + (b + (c + (d + (e + (f + (g + h)))))) ≡ a + b + c + d + e + f + g + h
in_order a b c d e f g h = omega arith

pub words_sum_is : (n : ℕ) → n % 65535 ≡ words_sum n % 65535
words_sum_is n =
    let w0 : ℕ = n % 65536 in
    let w1 : ℕ = n / 2 ^ 16 % 65536 + w0 in
    let w2 : ℕ = n / 2 ^ 32 % 65536 + w1 in
    let w3 : ℕ = n / 2 ^ 48 % 65536 + w2 in
    let w4 : ℕ = n / 2 ^ 64 % 65536 + w3 in
    let w5 : ℕ = n / 2 ^ 80 % 65536 + w4 in
    first_carried n ∙ carried_on n (2 ^ 16) (2 ^ 32) w0 (div-div-eq-div-mul n (2 ^ 16) 65536) ∙ carried_on n (2 ^ 32) (2 ^ 48) w1 (div-div-eq-div-mul n (2 ^ 32) 65536)
    ∙ carried_on n (2 ^ 48) (2 ^ 64) w2 (div-div-eq-div-mul n (2 ^ 48) 65536)
    ∙ carried_on n (2 ^ 64) (2 ^ 80) w3 (div-div-eq-div-mul n (2 ^ 64) 65536)
    ∙ carried_on n (2 ^ 80) (2 ^ 96) w4 (div-div-eq-div-mul n (2 ^ 80) 65536)
    ∙ carried_on n (2 ^ 96) (2 ^ 112) w5 (div-div-eq-div-mul n (2 ^ 96) 65536)
    ∙ ap (λ (s : ℕ). s % 65535)
    (in_order (n / 2 ^ 112) (n / 2 ^ 96 % 65536) (n / 2 ^ 80 % 65536) (n / 2 ^ 64 % 65536) (n / 2 ^ 48 % 65536) (n / 2 ^ 32 % 65536) (n / 2 ^ 16 % 65536)
    (n % 65536))

prefix_parts : (m : ℕ) → m % 65535 ≡ (m / 2 ^ 32 + m / 2 ^ 16 % 65536 + m % 65536) % 65535
prefix_parts m = first_carried m ∙ carried_on m (2 ^ 16) (2 ^ 32) (m % 65536) (div-div-eq-div-mul m (2 ^ 16) 65536) ∙ ap (λ (s : ℕ). s % 65535) (omega arith)

prefix_sum_is : (f m : ℕ) → f ≡ m * 2 ^ 80 → prefix_sum f % 65535 ≡ m % 65535
prefix_sum_is f m e =
    let third : f / 2 ^ 80 ≡ m = omega arith in
    let second : f / 2 ^ 96 ≡ m / 2 ^ 16 = sym (div-div-eq-div-mul f (2 ^ 80) (2 ^ 16)) ∙ ap (λ (x : ℕ). x / 2 ^ 16) third in
    let first : f / 2 ^ 112 ≡ m / 2 ^ 32 = sym (div-div-eq-div-mul f (2 ^ 80) (2 ^ 32)) ∙ ap (λ (x : ℕ). x / 2 ^ 32) third in
    (λ i. (first i + second i % 65536 + third i % 65536) % 65535) ∙ sym (prefix_parts m)

prefix_sum_bound : (t : ℕ) → t < 2 ^ 128 → prefix_sum t ≤ 3 * 65535
prefix_sum_bound t h = omega arith

-- what is in front of 80 bits
halves : (n : ℕ) → n ≤ 48 → 128 - n ≡ 48 - n + 80
halves n h = omega arith

abbrev front : ℕ → ℕ → ℕ
front n t = t / 2 ^ (128 - n) * 2 ^ (48 - n)

abbrev subnet : ℕ → ℕ → ℕ
subnet n a = a / 2 ^ 80 % 2 ^ (48 - n)

regrouped : (d q : ℕ) → d * (q * 2 ^ 80) ≡ d * q * 2 ^ 80
regrouped d q = omega arith

front_is : (n t : ℕ) → n ≤ 48 → t ≡ kept_bits 128 n t → t ≡ front n t * 2 ^ 80
front_is n t h zeroed =
    let power : 2 ^ (128 - n) ≡ 2 ^ (48 - n) * 2 ^ 80 = ap (λ (k : ℕ). 2 ^ k) (halves n h) ∙ pow-add 2 (48 - n) 80 in
    zeroed ∙ ap (λ (p : ℕ). t / 2 ^ (128 - n) * p) power ∙ regrouped (t / 2 ^ (128 - n)) (2 ^ (48 - n))

joined : (t b f q r : ℕ) → t ≡ f * 2 ^ 80 → b ≡ q * 2 ^ 80 + r → t + b ≡ (f + q) * 2 ^ 80 + r
joined t b f q r e g = omega arith

placed : (n t a : ℕ) → n ≤ 48 → t ≡ kept_bits 128 n t → in_block 128 t n a ≡ (front n t + subnet n a) * 2 ^ 80 + a % 2 ^ 80
placed n t a h zeroed =
    joined t (a % 2 ^ (128 - n)) (front n t) (subnet n a) (a % 2 ^ 80) (front_is n t h zeroed)
    (ap (λ (k : ℕ). a % 2 ^ k) (halves n h) ∙ mod-pow-add a (48 - n) 80)

low_part : (a : ℕ) → a % 2 ^ 80 ≡ fourth_word a * 2 ^ 64 + a % 2 ^ 64
low_part a = mod-pow-add a 16 64

parts : (u m a w : ℕ) → u ≡ m * 2 ^ 80 + a % 2 ^ 80 → u / 2 ^ 80 * 2 ^ 80 + w * 2 ^ 64 + u % 2 ^ 64 ≡ m * 2 ^ 80 + w * 2 ^ 64 + a % 2 ^ 64
parts u m a w e = omega (arith, low_part a)

own : (a m : ℕ) → a ≡ m * 2 ^ 80 + a % 2 ^ 80 → a ≡ m * 2 ^ 80 + fourth_word a * 2 ^ 64 + a % 2 ^ 64
own a m e = omega (arith, low_part a)

three : (x m w l : ℕ) → x ≡ m * 2 ^ 80 + w * 2 ^ 64 + l → w < 2 ^ 16 → l < 2 ^ 64 → (x / 2 ^ 80 ≡ m) × (x / 2 ^ 64 % 2 ^ 16 ≡ w) × (x % 2 ^ 64 ≡ l)
three x m w l e h k = (omega arith, omega arith, omega arith)

weighed : (m w l : ℕ) → (m * 2 ^ 80 + w * 2 ^ 64 + l) % 65535 ≡ (m + w + l) % 65535
weighed m w l = omega arith

balanced : (t f q w l sf st : ℕ) → sf % 65535 ≡ f % 65535 → st % 65535 ≡ t % 65535 → st ≤ 3 * 65535
    → (t + q + adjusted_word w sf st + l) % 65535 ≡ (f + q + w + l) % 65535
balanced t f q w l sf st e g h = omega arith

returned : (w sf st : ℕ) → w < 65536 → w ≢ 65535 → sf ≤ 3 * 65535 → st ≤ 3 * 65535 → adjusted_word (adjusted_word w sf st) st sf ≡ w
returned w sf st small other h k = omega arith

word_bound : (n : ℕ) → n % 65535 < 2 ^ 16
word_bound n = omega arith

module _ (n f t a : ℕ) (short : n ≤ 48) (zf : f ≡ kept_bits 128 n f) (zt : t ≡ kept_bits 128 n t) (same : first_bits 128 n f ≡ first_bits 128 n a) where
  abbrev word : ℕ
  word = adjusted_word (fourth_word a) (prefix_sum f) (prefix_sum t)

  translated : npt66_number f t n a ≡ (front n t + subnet n a) * 2 ^ 80 + word * 2 ^ 64 + a % 2 ^ 64
  translated = parts (in_block 128 t n a) (front n t + subnet n a) a word (placed n t a short zt)

  original : a ≡ (front n f + subnet n a) * 2 ^ 80 + fourth_word a * 2 ^ 64 + a % 2 ^ 64
  original = own a (front n f + subnet n a) (sym (itself 128 n f a zf same) ∙ placed n f a short zf)

  neutral : t < 2 ^ 128 → words_sum (npt66_number f t n a) % 65535 ≡ words_sum a % 65535
  neutral fits =
      sym (words_sum_is (npt66_number f t n a)) ∙ ap (λ (v : ℕ). v % 65535) translated
      ∙ weighed (front n t + subnet n a) word (a % 2 ^ 64)
      ∙ balanced (front n t) (front n f) (subnet n a) (fourth_word a) (a % 2 ^ 64) (prefix_sum f) (prefix_sum t)
      (prefix_sum_is f (front n f) (front_is n f short zf)) (prefix_sum_is t (front n t) (front_is n t short zt)) (prefix_sum_bound t fits)
      ∙ sym (weighed (front n f + subnet n a) (fourth_word a) (a % 2 ^ 64))
      ∙ ap (λ (v : ℕ). v % 65535) (sym original)
      ∙ words_sum_is a

  back : f < 2 ^ 128 → t < 2 ^ 128 → fourth_word a ≢ 65535 → npt66_number t f n (npt66_number f t n a) ≡ a
  back f_fits t_fits other =
      let x : ℕ = npt66_number f t n a in
      let low : a % 2 ^ 64 < 2 ^ 64 = omega arith in
      let small : fourth_word a < 65536 = omega arith in
      let found = three (npt66_number f t n a) (front n t + subnet n a) word (a % 2 ^ 64) translated
      (word_bound (fourth_word a + prefix_sum f + (3 * 65535 - prefix_sum t))) low in
      let again = parts (in_block 128 f n x) (front n f + subnet n x) x (adjusted_word (fourth_word x) (prefix_sum t) (prefix_sum f)) (placed n f x short zf) in
      let inner : subnet n x ≡ subnet n a =
      ap (λ (v : ℕ). v % 2 ^ (48 - n)) found.0 ∙ mul-add-mod_self_right (t / 2 ^ (128 - n)) (2 ^ (48 - n)) (subnet n a) ∙ mod-mod (a / 2 ^ 80) (2 ^ (48 - n)) in
      let fourth : adjusted_word (fourth_word x) (prefix_sum t) (prefix_sum f) ≡ fourth_word a =
      ap (λ (v : ℕ). adjusted_word v (prefix_sum t) (prefix_sum f)) found.1
      ∙ returned (fourth_word a) (prefix_sum f) (prefix_sum t) small other (prefix_sum_bound f f_fits) (prefix_sum_bound t t_fits) in
      again ∙ (λ i. (front n f + inner i) * 2 ^ 80 + fourth i * 2 ^ 64 + found.2 i) ∙ sym original

pub npt66_neutral : Npt66IsNeutral
npt66_neutral from to a are fits has =
    neutral to.len (address_number from.addr) (address_number to.addr) a are.short
    (zeroed_ipv6 from.addr to.len are.from_ipv6 (subst (λ (k : ℕ). from.addr ≡ cleared from.addr k) are.one_length from.zeroed))
    (zeroed_ipv6 to.addr to.len are.to_ipv6 to.zeroed)
    (shares_number from.addr to.len a (subst (λ (k : ℕ). SharesFirst k from.addr (V6 a)) are.one_length has)) fits

pub npt66_back : Npt66ComesBack
npt66_back from to a are from_fits to_fits has other =
    subst (λ (k : ℕ). npt66_number (address_number to.addr) (address_number from.addr) k (npt66_number (address_number from.addr) (address_number to.addr) to.len a) ≡ a)
    (sym are.one_length)
    (back to.len (address_number from.addr) (address_number to.addr) a are.short
    (zeroed_ipv6 from.addr to.len are.from_ipv6 (subst (λ (k : ℕ). from.addr ≡ cleared from.addr k) are.one_length from.zeroed))
    (zeroed_ipv6 to.addr to.len are.to_ipv6 to.zeroed)
    (shares_number from.addr to.len a (subst (λ (k : ℕ). SharesFirst k from.addr (V6 a)) are.one_length has)) from_fits to_fits other)
