-- The address that stands where one was written, or not.
use Rattle.std.proofs.Common.{◌≡◌, ℕ, ◌+◌, ◌*◌, ◌/◌, ◌%◌, ◌^◌, ◌<◌, ◌≤◌, true, Option, List, [], ◌∷◌, length, refl, ap, ◌∙◌, inl, arith}
use Rattle.std.specs.Prelude.{⊤, slice_index}
use Rattle.npf_fields.specs.Field.{number32, number64, number128}
use Rattle.npf_types.specs.declared.{address.Addr.{Addr, TheVariants.{V4, V6}}, change.End.End}
use Rattle.npf_key.specs.Translated.{address_there, fitting, shares_family}
use Rattle.npf_rewrite.specs.{declared.word.WordAt.WordAt, Address.{address_words, end_words, word_of, words_v4, words_v6}}
use Rattle.npf_rewrite.specs.{TranslatedFacts.{AddressFits, EndFits}, Word.byte_there}
use Rattle.npf_rewrite.proofs.TotalLemmas.{Between, Inside, after, byte_after-elsewhere, byte_after-lower, byte_after-upper, value_at}
use Rattle.npf_rewrite.proofs.EndLemmas.{address-has, address_size, between-from, fitted, inside-from, shifts}

-- these words stand at their places
abbrev pub AllThere : (ℕ → ℕ) → List WordAt → Type 0
AllThere g [] = ⊤
AllThere g (w ∷ ws) = (value_at g w.at ≡ w.value) × AllThere g ws

inside-before : (at n lo : ℕ) (ws : List WordAt) (f : ℕ → ℕ) (k : ℕ) → Inside at n lo ws → k < lo
    → after ws f k ≡ f k
inside-before at n lo [] f k i h = refl
inside-before at n lo (w ∷ ws) f k i h =
    inside-before at n (w.at + 2) ws (after (w ∷ []) f) k i.1.1 (omega (arith, i.0))
    ∙ byte_after-elsewhere w k (f k) (inl (omega (arith, i.0)))

-- words that were written in rising order stand at their places
pub all-there : (at n from lo hi : ℕ) (ws : List WordAt) (f g : ℕ → ℕ) → Inside at n from ws
    → Between lo hi ws → ((k : ℕ) → lo ≤ k → k < hi → g k ≡ after ws f k) → AllThere g ws
all-there at n from lo hi [] f g i b each = tt
all-there at n from lo hi (w ∷ ws) f g i b each =
    let h = after (w ∷ []) f in
    let upper = each w.at b.0 (omega (arith, b.1.0))
    ∙ inside-before at n (w.at + 2) ws h w.at i.1.1 (omega arith)
    ∙ byte_after-upper w w.at (f w.at) refl in
    let lower = each (w.at + 1) (omega (arith, b.0)) (omega (arith, b.1.0))
    ∙ inside-before at n (w.at + 2) ws h (w.at + 1) i.1.1 (omega arith)
    ∙ byte_after-lower w (w.at + 1) (f (w.at + 1)) refl in (
      omega (arith, upper, lower),
      all-there at n (w.at + 2) lo hi ws h g i.1.1 b.1.1 each,
    )

digits : (a : ℕ) → a < 2 ^ 128
    → 2 ^ 112 * word_of a 112 + 2 ^ 96 * word_of a 96 + 2 ^ 80 * word_of a 80 + 2 ^ 64 * word_of a 64
    + 2 ^ 48 * word_of a 48 + 2 ^ 32 * word_of a 32 + 2 ^ 16 * word_of a 16 + word_of a 0 ≡ a
digits a small =
    let e16 : 2 ^ 16 * (a / 2 ^ 16) + a / 2 ^ 0 % 2 ^ 16 ≡ a = omega arith in
    let e32 : 2 ^ 16 * (a / 2 ^ 32) + a / 2 ^ 16 % 2 ^ 16 ≡ a / 2 ^ 16 = omega arith in
    let e48 : 2 ^ 16 * (a / 2 ^ 48) + a / 2 ^ 32 % 2 ^ 16 ≡ a / 2 ^ 32 = omega arith in
    let e64 : 2 ^ 16 * (a / 2 ^ 64) + a / 2 ^ 48 % 2 ^ 16 ≡ a / 2 ^ 48 = omega arith in
    let e80 : 2 ^ 16 * (a / 2 ^ 80) + a / 2 ^ 64 % 2 ^ 16 ≡ a / 2 ^ 64 = omega arith in
    let e96 : 2 ^ 16 * (a / 2 ^ 96) + a / 2 ^ 80 % 2 ^ 16 ≡ a / 2 ^ 80 = omega arith in
    let e112 : 2 ^ 16 * (a / 2 ^ 112) + a / 2 ^ 96 % 2 ^ 16 ≡ a / 2 ^ 96 = omega arith in
    let e128 : a / 2 ^ 112 % 2 ^ 16 ≡ a / 2 ^ 112 = omega arith in
    omega arith

number128-is : (bytes : List ℕ) (at a : ℕ) → a < 2 ^ 128 → AllThere (slice_index bytes) (words_v6 at a)
    → number128 bytes at ≡ a
number128-is bytes at a small t =
    let f = slice_index bytes in
    let six : at + 6 ≡ at + 4 + 2 = omega arith in
    let ten : at + 10 ≡ at + 8 + 2 = omega arith in
    let twelve : at + 12 ≡ at + 8 + 4 = omega arith in
    let fourteen : at + 14 ≡ at + 8 + 4 + 2 = omega arith in
    let two = t.1 in
    let four = two.1 in
    let third = four.1 in
    let eight = third.1 in
    let fifth = eight.1 in
    let sixth = fifth.1 in
    omega (
      arith,
      digits a small,
      t.0,
      two.0,
      four.0,
      third.0,
      eight.0,
      fifth.0,
      sixth.0,
      sixth.1.0,
      ap (value_at f) six,
      ap (value_at f) ten,
      ap (value_at f) twelve,
      ap (value_at f) fourteen,
    )

number32-is : (bytes : List ℕ) (at a : ℕ) → a < 2 ^ 32 → AllThere (slice_index bytes) (words_v4 at a)
    → number32 bytes at ≡ a
number32-is bytes at a small t = omega (arith, t.0, t.1.0)

-- the address at a place, of this address's family
abbrev pub address_at : List ℕ → ℕ → Addr → Addr
address_at bytes at (V4 _) = V4 (number32 bytes at)
address_at bytes at (V6 _) = V6 (number128 bytes at)

address-is : (bytes : List ℕ) (at : ℕ) (src x : Addr) → shares_family x src ≡ true → AddressFits x
    → AllThere (slice_index bytes) (address_words at x) → address_at bytes at src ≡ x
address-is bytes at (V4 _) (V4 a) same fits t = ap V4 (number32-is bytes at a fits t)
address-is bytes at (V6 _) (V6 a) same fits t = ap V6 (number128-is bytes at a fits t)
address-is bytes at (V4 _) (V6 a) same fits t = absurd cc
address-is bytes at (V6 _) (V4 a) same fits t = absurd cc

words-are : (at : ℕ) (src x : Addr) (f g : ℕ → ℕ) → shares_family x src ≡ true
    → ((k : ℕ) → at ≤ k → k < at + address_size src → g k ≡ after (address_words at x) f k)
    → AllThere g (address_words at x)
words-are at src x f g same each =
    let n = length (shifts src) in
    let hi = at + address_size src in
    all-there at n at at hi (address_words at x) f g
    (address-has src x at (Inside at n at) same
    (λ a. inside-from at n at 0 a (shifts src) (omega arith) (omega arith)))
    (address-has src x at (Between at hi) same
    (λ a. between-from at hi at a (shifts src) (omega arith) (omega arith))) each

-- the numbers of bytes that are the same
number32-same : (old new : List ℕ) (at : ℕ)
    → ((k : ℕ) → at ≤ k → k < at + 4 → slice_index new k ≡ slice_index old k)
    → number32 new at ≡ number32 old at
number32-same old new at same =
    omega (
      arith,
      same at (omega arith) (omega arith),
      same (at + 1) (omega arith) (omega arith),
      same (at + 2) (omega arith) (omega arith),
      same (at + 2 + 1) (omega arith) (omega arith),
    )

number64-same : (old new : List ℕ) (at : ℕ)
    → ((k : ℕ) → at ≤ k → k < at + 8 → slice_index new k ≡ slice_index old k)
    → number64 new at ≡ number64 old at
number64-same old new at same =
    omega (
      arith,
      number32-same old new at (λ k from below. same k from (omega arith)),
      number32-same old new (at + 4) (λ k from below. same k (omega arith) (omega arith)),
    )

pub address-same : (old new : List ℕ) (at : ℕ) (src : Addr)
    → ((k : ℕ) → at ≤ k → k < at + address_size src → slice_index new k ≡ slice_index old k)
    → address_at new at src ≡ address_at old at src
address-same old new at (V4 _) same = ap V4 (number32-same old new at same)
address-same old new at (V6 _) same =
    let upper = number64-same old new at (λ k from below. same k from (omega arith)) in
    let lower = number64-same old new (at + 8) (λ k from below. same k (omega arith) (omega arith)) in
    ap V6 (omega (arith, upper, lower))

-- where an end was written, or not, its address stands
pub address-there : (old new : List ℕ) (at : ℕ) (src : Addr) (end : Option End)
    → EndFits (fitting src end)
    → ((k : ℕ) → at ≤ k → k < at + address_size src
    → slice_index new k ≡ byte_there (end_words at (fitting src end)) k (slice_index old k))
    → address_at new at src ≡ address_there (fitting src end) (address_at old at src)
address-there old new at src end =
    let Q : Option End → Type 0 = λ o. EndFits o
    → ((k : ℕ) → at ≤ k → k < at + address_size src
    → slice_index new k ≡ byte_there (end_words at o) k (slice_index old k))
    → address_at new at src ≡ address_there o (address_at old at src) in
    fitted src Q (λ fits each. address-same old new at src each)
    (λ e same fits each. address-is new at src e.addr same fits
    (words-are at src e.addr (slice_index old) (slice_index new) same each)) end
