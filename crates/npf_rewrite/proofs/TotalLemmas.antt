-- The sum of words of which some are written.
use Rattle.std.proofs.Common.{◌≡◌, ℕ, zero, suc, ◌+◌, ◌-◌, ◌*◌, ◌/◌, ◌%◌, ◌^◌, ◌<◌, ◌≤◌, ◌⊎◌, List, [], ◌∷◌, ◌++◌, refl, ap, ◌∙◌, inl, inr, arith}
use Rattle.std.{proofs.lemmas.Bool.Decides.nat_tests, specs.Prelude.{⊤, slice_index}}
use Rattle.npf_fields.specs.Field.{number16}
use Rattle.npf_rewrite.specs.{declared.word.WordAt.WordAt, Sum.{sum_after, sum_after_word}, Verified.words_total, Word.{byte_after, byte_there}}

-- the bytes once these words are written
abbrev pub after : List WordAt → (ℕ → ℕ) → ℕ → ℕ
after ws f k = byte_there ws k (f k)

abbrev pub value_at : (ℕ → ℕ) → ℕ → ℕ
value_at f at = 2 ^ 8 * f at + f (at + 1)

-- these words lie between two places
abbrev pub Between : ℕ → ℕ → List WordAt → Type 0
Between lo hi [] = ⊤
Between lo hi (w ∷ ws) = (lo ≤ w.at) × ((w.at + 2 ≤ hi) × Between lo hi ws)

pub byte_after-elsewhere : (w : WordAt) (k x : ℕ) → (k < w.at) ⊎ (w.at + 2 ≤ k) → byte_after w k x ≡ x
byte_after-elsewhere w k x (inl h) = grind (arith, nat_tests)
byte_after-elsewhere w k x (inr h) = grind (arith, nat_tests)

pub byte_after-upper : (w : WordAt) (k x : ℕ) → k ≡ w.at → byte_after w k x ≡ w.value / 2 ^ 8
byte_after-upper w k x h = grind (arith, nat_tests)

pub byte_after-lower : (w : WordAt) (k x : ℕ) → k ≡ w.at + 1 → byte_after w k x ≡ w.value % 2 ^ 8
byte_after-lower w k x h = grind (arith, nat_tests)

-- elsewhere the bytes are the same
pub after-elsewhere : (lo hi : ℕ) (ws : List WordAt) (f : ℕ → ℕ) (k : ℕ) → Between lo hi ws
    → (k < lo) ⊎ (hi ≤ k) → after ws f k ≡ f k
after-elsewhere lo hi [] f k b h = refl
after-elsewhere lo hi (w ∷ ws) f k b (inl h) =
    after-elsewhere lo hi ws (after (w ∷ []) f) k b.1.1 (inl h)
    ∙ byte_after-elsewhere w k (f k) (inl (omega (arith, b.0)))
after-elsewhere lo hi (w ∷ ws) f k b (inr h) =
    after-elsewhere lo hi ws (after (w ∷ []) f) k b.1.1 (inr h)
    ∙ byte_after-elsewhere w k (f k) (inr (omega (arith, b.1.0)))

-- a total is that of its own bytes
pub words_total-same : (f g : ℕ → ℕ) (at n : ℕ)
    → ((k : ℕ) → at ≤ k → k < at + 2 * n → f k ≡ g k) → words_total f at n ≡ words_total g at n
words_total-same f g at zero same = refl
words_total-same f g at (suc n) same =
    let rest = words_total-same f g (at + 2) n (λ k from to. same k (omega arith) (omega arith)) in
    omega (arith, same at (omega arith) (omega arith), same (at + 1) (omega arith) (omega arith), rest)

-- a word that is counted and is written
words_total-one : (f : ℕ → ℕ) (w : WordAt) (at n k : ℕ) → w.at ≡ at + 2 * k → k < n
    → words_total (after (w ∷ []) f) at n + value_at f w.at ≡ words_total f at n + w.value
words_total-one f w at (suc n) zero e h =
    let rest = words_total-same (after (w ∷ []) f) f (at + 2) n
    (λ k from to. byte_after-elsewhere w k (f k) (inr (omega arith))) in
    let upper = byte_after-upper w at (f at) (omega arith) in
    let lower = byte_after-lower w (at + 1) (f (at + 1)) (omega arith) in
    let one = ap f (let same : w.at ≡ at = omega arith in same) in
    let two = ap f (let same : w.at + 1 ≡ at + 1 = omega arith in same) in
    omega (arith, rest, upper, lower, one, two)
words_total-one f w at (suc n) (suc k) e h =
    let rest = words_total-one f w (at + 2) n k (omega arith) (omega arith) in
    let upper = byte_after-elsewhere w at (f at) (inl (omega arith)) in
    let lower = byte_after-elsewhere w (at + 1) (f (at + 1)) (inl (omega arith)) in
    omega (arith, rest, upper, lower)
words_total-one f w at zero k e h = absurd (omega arith)

-- words that are counted from a place on, in rising order
abbrev pub Inside : ℕ → ℕ → ℕ → List WordAt → Type 0
Inside at n lo [] = ⊤
Inside at n lo (w ∷ ws) =
    (lo ≤ w.at) × (((k : ℕ) × ((w.at ≡ at + 2 * k) × (k < n))) × Inside at n (w.at + 2) ws)

abbrev pub olds : (ℕ → ℕ) → List WordAt → ℕ
olds f [] = 0
olds f (w ∷ ws) = value_at f w.at + olds f ws

abbrev pub news : List WordAt → ℕ
news [] = 0
news (w ∷ ws) = w.value + news ws

pub olds-same : (f g : ℕ → ℕ) (at n lo : ℕ) (ws : List WordAt) → Inside at n lo ws
    → ((k : ℕ) → lo ≤ k → f k ≡ g k) → olds f ws ≡ olds g ws
olds-same f g at n lo [] i same = refl
olds-same f g at n lo (w ∷ ws) i same =
    let rest = olds-same f g at n (w.at + 2) ws i.1.1 (λ k from. same k (omega (arith, i.0))) in
    omega (arith, rest, same w.at i.0, same (w.at + 1) (omega (arith, i.0)))

-- the total of words of which some are written
pub words_total-after : (f : ℕ → ℕ) (at n lo : ℕ) (ws : List WordAt) → Inside at n lo ws
    → words_total (after ws f) at n + olds f ws ≡ words_total f at n + news ws
words_total-after f at n lo [] i = refl
words_total-after f at n lo (w ∷ ws) i =
    let g = after (w ∷ []) f in
    let rest = words_total-after g at n (w.at + 2) ws i.1.1 in
    let same = olds-same g f at n (w.at + 2) ws i.1.1
    (λ k from. byte_after-elsewhere w k (f k) (inr from)) in
    let one = words_total-one f w at n i.1.0.0 i.1.0.1.0 i.1.0.1.1 in
    omega (arith, rest, same, one)

-- words that are words
abbrev pub AllFit : List WordAt → Type 0
AllFit [] = ⊤
AllFit (w ∷ ws) = (w.value < 2 ^ 16) × AllFit ws

module _ (empty : ℕ) (stands : (empty ≡ 0) ⊎ (empty ≡ 0xffff)) where
  sum_after_word-follows : (sum old new : ℕ) → sum < 2 ^ 16 → old < 2 ^ 16 → new < 2 ^ 16
      → (x : ℕ) → (x + old + sum) % 65535 ≡ 0
      → (x + new + sum_after_word empty sum old new) % 65535 ≡ 0
  sum_after_word-follows sum old new s o n x h = grind (arith, nat_tests, stands)

  sum_after_word-fits : (sum old new : ℕ) → sum < 2 ^ 16 → sum_after_word empty sum old new < 2 ^ 16
  sum_after_word-fits sum old new s = grind (arith, nat_tests, stands)

  -- a sum follows the words that are written
  pub sum_after-follows : (bytes : List ℕ) (ws : List WordAt) (sum : ℕ)
      → ((k : ℕ) → slice_index bytes k < 2 ^ 8) → AllFit ws → sum < 2 ^ 16
      → (x : ℕ) → (x + olds (slice_index bytes) ws + sum) % 65535 ≡ 0
      → (x + news ws + sum_after empty bytes ws sum) % 65535 ≡ 0
  sum_after-follows bytes [] sum small fit s x h = h
  sum_after-follows bytes (w ∷ ws) sum small fit s x h =
      let old = number16 bytes w.at in
      let o : old < 2 ^ 16 = omega (arith, small w.at, small (w.at + 1)) in
      let next = sum_after_word empty sum old w.value in
      let one = sum_after_word-follows sum old w.value s o fit.0
      (x + olds (slice_index bytes) ws) (ap (λ (n : ℕ). n % 65535) (omega arith) ∙ h) in
      let rest = sum_after-follows bytes ws next small fit.1
      (sum_after_word-fits sum old w.value s) (x + w.value)
      (ap (λ (n : ℕ). n % 65535) (omega arith) ∙ one) in
      ap (λ (n : ℕ). n % 65535) (omega arith) ∙ rest

-- a sum that follows is one
pub sum_after-fits : (bytes : List ℕ) (ws : List WordAt) (sum : ℕ) → sum < 2 ^ 16 → sum_after 0 bytes ws sum < 2 ^ 16
sum_after-fits bytes [] sum s = s
sum_after-fits bytes (w ∷ ws) sum s =
    sum_after-fits bytes ws _ (sum_after_word-fits 0 (inl refl) sum (number16 bytes w.at) w.value s)

pub olds-append : (f : ℕ → ℕ) (ws vs : List WordAt) → olds f (ws ++ vs) ≡ olds f ws + olds f vs
olds-append f [] vs = omega arith
olds-append f (w ∷ ws) vs = omega (arith, olds-append f ws vs)

pub news-append : (ws vs : List WordAt) → news (ws ++ vs) ≡ news ws + news vs
news-append [] vs = omega arith
news-append (w ∷ ws) vs = omega (arith, news-append ws vs)

pub fit-append : (ws vs : List WordAt) → AllFit ws → AllFit vs → AllFit (ws ++ vs)
fit-append [] vs p q = q
fit-append (w ∷ ws) vs p q = (p.0, fit-append ws vs p.1 q)

inside-after : (at n lo mid : ℕ) (ws : List WordAt) → lo ≤ mid → Inside at n mid ws → Inside at n lo ws
inside-after at n lo mid [] h i = tt
inside-after at n lo mid (w ∷ ws) h i = (omega (arith, i.0), i.1)

pub inside-append : (at n lo mid from : ℕ) (ws vs : List WordAt) → from ≤ mid → Inside at n from ws
    → Between lo mid ws → Inside at n mid vs → Inside at n from (ws ++ vs)
inside-append at n lo mid from [] vs h i b j = inside-after at n from mid vs h j
inside-append at n lo mid from (w ∷ ws) vs h i b j =
    (i.0, (i.1.0, inside-append at n lo mid (w.at + 2) ws vs b.1.0 i.1.1 b.1.1 j))

-- a total is that of its first words and of the others
pub words_total-split : (f : ℕ → ℕ) (at mid a b n : ℕ) → mid ≡ at + 2 * a → n ≡ a + b
    → words_total f at n ≡ words_total f at a + words_total f mid b
words_total-split f at mid zero b n e h =
    let whole : n ≡ b = omega arith in
    let place : mid ≡ at = omega arith in
    omega (arith, ap (words_total f at) whole, ap (λ k. words_total f k b) place)
words_total-split f at mid (suc a) b n e h =
    let whole : n ≡ suc (a + b) = omega arith in
    let rest = words_total-split f (at + 2) mid a b (a + b) (omega arith) refl in
    ap (words_total f at) whole ∙ omega (arith, rest)

-- a header of which the words behind the twentieth byte stay
pub header-total : (f g : ℕ → ℕ) (ip n : ℕ) → 10 ≤ n
    → ((k : ℕ) → ip + 20 ≤ k → k < ip + 2 * n → g k ≡ f k)
    → words_total g ip n + (words_total f ip 6 + words_total f (ip + 12) 4)
    ≡ words_total f ip n + (words_total g ip 6 + words_total g (ip + 12) 4)
header-total f g ip n long same =
    let split = λ (x : ℕ → ℕ).
    words_total-split x ip (ip + 12) 6 (n - 6) n (omega arith) (omega arith)
    ∙ ap (λ r. words_total x ip 6 + r)
    (words_total-split x (ip + 12) (ip + 20) 4 (n - 10) (n - 6) (omega arith) (omega arith)) in
    let rest = words_total-same g f (ip + 20) (n - 10) (λ k from to. same k from (omega arith)) in
    omega (arith, split f, split g, rest)
