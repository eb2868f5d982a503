-- The total of words of which some are written, in any order, where none overlaps another.
use Rattle.std.{proofs.Common.{◌≡◌, ℕ, ◌+◌, ◌*◌, ◌<◌, ◌≤◌, ◌⊎◌, [], ◌∷◌, ◌++◌, List, refl, ap, inl, inr, arith}, specs.Prelude.⊤}
use Rattle.npf_rewrite.specs.{declared.word.WordAt.WordAt, Verified.words_total}
use Rattle.npf_rewrite.proofs.TotalLemmas.{Between, Inside, after, after-elsewhere, byte_after-elsewhere, news, olds, words_total-after}
use Rattle.npf_rewrite.{specs.Word.byte_there, proofs.WordLemmas.byte_there-append}

-- a word overlaps none of these
abbrev pub Apart : WordAt → List WordAt → Type 0
Apart w [] = ⊤
Apart w (v ∷ vs) = ((v.at + 2 ≤ w.at) ⊎ (w.at + 2 ≤ v.at)) × Apart w vs

-- words that are counted from a place on, each at an even distance, and none of which overlaps another
abbrev pub Scattered : ℕ → ℕ → List WordAt → Type 0
Scattered at n [] = ⊤
Scattered at n (w ∷ ws) =
    ((k : ℕ) × ((w.at ≡ at + 2 * k) × (k < n))) × (Apart w ws × Scattered at n ws)

-- the bytes of the others stay where a word is written
olds-apart : (f : ℕ → ℕ) (w : WordAt) (vs : List WordAt) → Apart w vs
    → olds (after (w ∷ []) f) vs ≡ olds f vs
olds-apart f w [] h = refl
olds-apart f w (v ∷ vs) (inl below, rest) =
    omega (
      arith,
      olds-apart f w vs rest,
      byte_after-elsewhere w v.at (f v.at) (inl (omega (arith, below))),
      byte_after-elsewhere w (v.at + 1) (f (v.at + 1)) (inl (omega (arith, below))),
    )
olds-apart f w (v ∷ vs) (inr above, rest) =
    omega (
      arith,
      olds-apart f w vs rest,
      byte_after-elsewhere w v.at (f v.at) (inr (omega (arith, above))),
      byte_after-elsewhere w (v.at + 1) (f (v.at + 1)) (inr (omega (arith, above))),
    )

pub total-scattered : (f : ℕ → ℕ) (at n : ℕ) (ws : List WordAt) → Scattered at n ws
    → words_total (after ws f) at n + olds f ws ≡ words_total f at n + news ws
total-scattered f at n [] h = refl
total-scattered f at n (w ∷ ws) h =
    let g = after (w ∷ []) f in
    let rest = total-scattered g at n ws h.1.1 in
    let same = olds-apart f w ws h.1.0 in
    let one = words_total-after f at n w.at (w ∷ []) (omega arith, (h.0, tt)) in
    omega (arith, rest, same, one)

pub apart-between : (w : WordAt) (lo hi : ℕ) (vs : List WordAt) → Between lo hi vs
    → (w.at + 2 ≤ lo) ⊎ (hi ≤ w.at) → Apart w vs
apart-between w lo hi [] b h = tt
apart-between w lo hi (v ∷ vs) b (inl below) =
    (inr (omega (arith, b.0, below)), apart-between w lo hi vs b.1.1 (inl below))
apart-between w lo hi (v ∷ vs) b (inr above) =
    (inl (omega (arith, b.1.0, above)), apart-between w lo hi vs b.1.1 (inr above))

pub apart-append : (w : WordAt) (vs us : List WordAt) → Apart w vs → Apart w us → Apart w (vs ++ us)
apart-append w [] us a b = b
apart-append w (v ∷ vs) us a b = (a.0, apart-append w vs us a.1 b)

-- two groups, of which the first lies within places that the other keeps clear of
pub scattered-append : (at n : ℕ) (ws vs : List WordAt) (lo hi lo' hi' : ℕ)
    → Between lo hi ws → Between lo' hi' vs → (hi ≤ lo') ⊎ (hi' ≤ lo)
    → Scattered at n ws → Scattered at n vs → Scattered at n (ws ++ vs)
scattered-append at n [] vs lo hi lo' hi' b c h s t = t
scattered-append at n (w ∷ ws) vs lo hi lo' hi' b c (inl h) s t = (
  s.0,
  (
    apart-append w ws vs s.1.0 (apart-between w lo' hi' vs c (inl (omega (arith, b.1.0, h)))),
    scattered-append at n ws vs lo hi lo' hi' b.1.1 c (inl h) s.1.1 t,
  ),
)
scattered-append at n (w ∷ ws) vs lo hi lo' hi' b c (inr h) s t = (
  s.0,
  (
    apart-append w ws vs s.1.0 (apart-between w lo' hi' vs c (inr (omega (arith, b.0, h)))),
    scattered-append at n ws vs lo hi lo' hi' b.1.1 c (inr h) s.1.1 t,
  ),
)

pub apart-inside : (at n lo : ℕ) (w : WordAt) (ws : List WordAt) → w.at + 2 ≤ lo → Inside at n lo ws → Apart w ws
apart-inside at n lo w [] h i = tt
apart-inside at n lo w (v ∷ vs) h i =
    (inr (omega (arith, i.0, h)), apart-inside at n (v.at + 2) w vs (omega (arith, i.0, h)) i.1.1)

-- words in rising order are scattered
pub scattered-inside : (at n lo : ℕ) (ws : List WordAt) → Inside at n lo ws → Scattered at n ws
scattered-inside at n lo [] i = tt
scattered-inside at n lo (w ∷ ws) i =
    (i.1.0, (apart-inside at n (w.at + 2) w ws (omega arith) i.1.1, scattered-inside at n (w.at + 2) ws i.1.1))

-- and scattered words lie among those that are counted
pub scattered-between : (at n : ℕ) (ws : List WordAt) → Scattered at n ws → Between at (at + 2 * n) ws
scattered-between at n [] s = tt
scattered-between at n (w ∷ ws) s =
    let k = s.0.0 in
    let place = s.0.1.0 in
    let within = s.0.1.1 in
    (omega (arith, place), (omega (arith, place, within), scattered-between at n ws s.1.1))

-- one more word behind the others
pub scattered-last : (at n : ℕ) (ws : List WordAt) (w : WordAt) → Scattered at n ws → Apart w ws
    → Scattered at n (w ∷ []) → Scattered at n (ws ++ w ∷ [])
scattered-last at n [] w s a t = t
scattered-last at n (v ∷ vs) w s a t =
    (s.0, (apart-append v vs (w ∷ []) s.1.0 (turned a.0, tt), scattered-last at n vs w s.1.1 a.1 t))
  where
    turned : (v.at + 2 ≤ w.at) ⊎ (w.at + 2 ≤ v.at) → (w.at + 2 ≤ v.at) ⊎ (v.at + 2 ≤ w.at)
    turned (inl h) = inr h
    turned (inr h) = inl h

-- the bytes from a place on, where some words are written in front of it
module _ (o q p h s u e : List WordAt) (lo at k x : ℕ) (behind : at ≤ k) (front : Between lo at o)
    (sum : Between lo at u) where
  out : (ws : List WordAt) → Between lo at ws → (y : ℕ) → byte_there ws k y ≡ y
  out ws b y = after-elsewhere lo at ws (λ _. y) k b (inr behind)

  pub behind-there : byte_there (o ++ q ++ p ++ (h ++ s ++ u ++ e)) k x ≡ byte_there (q ++ p ++ h ++ s ++ e) k x
  behind-there =
      let y = byte_there p k (byte_there q k x) in
      let one = byte_there-append (o ++ q ++ p) (h ++ s ++ u ++ e) k x in
      let two = byte_there-append (o ++ q) p k x in
      let three = byte_there-append o q k x in
      let four = out o front x in
      let five = byte_there-append (h ++ s ++ u) e k y in
      let six = byte_there-append (h ++ s) u k y in
      let seven = out u sum (byte_there (h ++ s) k y) in
      let eight = byte_there-append h s k y in
      let nine = byte_there-append (q ++ p ++ h ++ s) e k x in
      let ten = byte_there-append (q ++ p ++ h) s k x in
      let eleven = byte_there-append (q ++ p) h k x in
      let twelve = byte_there-append q p k x in
      cc

pub wider : (lo hi lo' hi' : ℕ) (ws : List WordAt) → lo' ≤ lo → hi ≤ hi' → Between lo hi ws → Between lo' hi' ws
wider lo hi lo' hi' [] p q b = tt
wider lo hi lo' hi' (w ∷ ws) p q b =
    (omega (arith, p, b.0), (omega (arith, q, b.1.0), wider lo hi lo' hi' ws p q b.1.1))

-- words in rising order lie between the first place and the last
pub inside-between : (at n lo : ℕ) (ws : List WordAt) → Inside at n lo ws → Between lo (at + 2 * n) ws
inside-between at n lo [] i = tt
inside-between at n lo (w ∷ ws) i = (
  i.0,
  (
    omega (arith, i.1.0.1.0, i.1.0.1.1),
    wider (w.at + 2) (at + 2 * n) lo (at + 2 * n) ws (omega (arith, i.0)) (omega arith) (inside-between at n (w.at + 2) ws i.1.1),
  ),
)

-- the bytes in front of a place, where the other words are written behind it, and none in a place for `u`
module _ (o q p h s u e : List WordAt) (at hi k x : ℕ) (front : k < at) (all : Between at hi (q ++ p ++ h ++ s ++ e))
    (none : u ≡ []) where
  pub front-there : byte_there (o ++ q ++ p ++ (h ++ s ++ u ++ e)) k x ≡ byte_there o k x
  front-there =
      let z = byte_there o k x in
      let y = byte_there p k (byte_there q k z) in
      let one = byte_there-append (o ++ q ++ p) (h ++ s ++ u ++ e) k x in
      let two = byte_there-append (o ++ q) p k x in
      let three = byte_there-append o q k x in
      let five = byte_there-append (h ++ s ++ u) e k y in
      let six = byte_there-append (h ++ s) u k y in
      let seven = ap (λ ws. byte_there ws k (byte_there (h ++ s) k y)) none in
      let eight = byte_there-append h s k y in
      let nine = byte_there-append (q ++ p ++ h ++ s) e k z in
      let ten = byte_there-append (q ++ p ++ h) s k z in
      let eleven = byte_there-append (q ++ p) h k z in
      let twelve = byte_there-append q p k z in
      let last = after-elsewhere at hi (q ++ p ++ h ++ s ++ e) (λ _. z) k all (inl front) in
      cc
