-- The pieces among packets, by their places.
use Rattle.std.proofs.Common.{◌≡◌, ℕ, ◌+◌, ◌-◌, ◌<◌, ◌≤◌, ◌∙◌, ⊎_elim, zero, suc, refl, sym, ap, subst, List, [], ◌∷◌, length, get_or, arith}
use Rattle.std.{specs.{Prelude.Contains, List.AllZip}, proofs.lemmas.List.Elements.{Contains-append_cases, Contains-append_left, Contains-append_right}}
use Rattle.npf_shelf.proofs.ListLemmas.{Contains-first}
use Rattle.npf_traffic.specs.declared.packet.Packet.{Packet}
use Rattle.npf_pieces.specs.declared.{arrived.Arrived.Arrived, piece.{Piece.Piece, Seen.Seen}}
use Rattle.npf_reass_sets.specs.Among.{arrived_at, arrived_from}

-- what holds of two lists side by side
pub all_zip_at : {A B : Type 0} (R : A → B → Type 0) (xs : List A) (ys : List B) (i : ℕ) (d : A) (e : B) → AllZip R xs ys → i < length xs
    → R (get_or xs i d) (get_or ys i e)
all_zip_at R [] ys i d e all h = absurd (omega (arith, h))
all_zip_at R (x ∷ xs) [] i d e all h = absurd all
all_zip_at R (x ∷ xs) (y ∷ ys) zero d e all h = all.0
all_zip_at R (x ∷ xs) (y ∷ ys) (suc i) d e all h = all_zip_at R xs ys i d e all.1 (omega (arith, h))

pub all_zip_long : {A B : Type 0} (R : A → B → Type 0) (xs : List A) (ys : List B) → AllZip R xs ys → length xs ≡ length ys
all_zip_long R [] [] all = refl
all_zip_long R [] (y ∷ ys) all = absurd all
all_zip_long R (x ∷ xs) [] all = absurd all
all_zip_long R (x ∷ xs) (y ∷ ys) all = omega (arith, all_zip_long R xs ys all.1)

-- the packet of the piece's place is seen as the piece, and has its time
pub record IsAtPlace (first : ℕ) (packets : List Packet) (seens : List Seen) (a : Arrived) : Type 0 where
  pub from : first ≤ a.place
  pub here : a.place - first < length packets
  pub seen : (d : Seen) → get_or seens (a.place - first) d ≡ Seen.Piece a.piece
  pub time : (d : Packet) → (get_or packets (a.place - first) d).time ≡ a.time

at_first : (first : ℕ) (p : Packet) (packets : List Packet) (s : Seen) (seens : List Seen) (a : Arrived) → Contains (arrived_at first p.time s) a
    → IsAtPlace first (p ∷ packets) (s ∷ seens) a
at_first first p packets Seen.NoFragment seens a c = absurd (omega (arith, c.1))
at_first first p packets Seen.Bad seens a c = absurd (omega (arith, c.1))
at_first first p packets (Seen.Piece piece) seens a c =
    let none : c.0 ≡ 0 = omega (arith, c.1) in
    let this : Arrived = record { place = first; time = p.time; piece = piece } in
    let is : this ≡ a = ap (λ (k : ℕ). get_or (this ∷ []) k a) (sym none) ∙ c.2 in
    let there : a.place - first ≡ 0 = omega (arith, ap (λ (x : Arrived). x.place) is) in
    record {
      from = omega (arith, ap (λ (x : Arrived). x.place) is);
      here = omega (arith, there);
      seen = λ d. ap (λ (k : ℕ). get_or (Seen.Piece piece ∷ seens) k d) there ∙ ap (λ (x : Arrived). Seen.Piece x.piece) is;
      time = λ d. ap (λ (k : ℕ). (get_or (p ∷ packets) k d).time) there ∙ ap (λ (x : Arrived). x.time) is;
    }

pub at_place : (first : ℕ) (packets : List Packet) (seens : List Seen) (a : Arrived) → Contains (arrived_from first packets seens) a
    → IsAtPlace first packets seens a
at_place first [] seens a c = absurd (omega (arith, c.1))
at_place first (p ∷ packets) [] a c = absurd (omega (arith, c.1))
at_place first (p ∷ packets) (s ∷ seens) a c = ⊎_elim
    (λ (c : Contains (arrived_at first p.time s) a). at_first first p packets s seens a c)
    (λ (c : Contains (arrived_from (suc first) packets seens) a).
    let x = at_place (suc first) packets seens a c in
    let next : a.place - first ≡ suc (a.place - suc first) = omega (arith, x.from) in
    record {
      from = omega (arith, x.from);
      here = omega (arith, next, x.here);
      seen = λ d. ap (λ (k : ℕ). get_or (s ∷ seens) k d) next ∙ x.seen d;
      time = λ d. ap (λ (k : ℕ). (get_or (p ∷ packets) k d).time) next ∙ x.time d;
    })
    (Contains-append_cases (arrived_at first p.time s) (arrived_from (suc first) packets seens) a c)

-- and each packet that is seen as a piece is among them
pub piece_among : (first : ℕ) (packets : List Packet) (seens : List Seen) (i : ℕ) (d : Packet) (e : Seen) (piece : Piece) → i < length packets → i < length seens
    → get_or seens i e ≡ Seen.Piece piece
    → Contains (arrived_from first packets seens) (record { place = first + i; time = (get_or packets i d).time; piece = piece })
piece_among first [] seens i d e piece h k is = absurd (omega (arith, h))
piece_among first (p ∷ packets) [] i d e piece h k is = absurd (omega (arith, k))
piece_among first (p ∷ packets) (s ∷ seens) zero d e piece h k is =
    let this : Arrived = record { place = first + 0; time = p.time; piece = piece } in
    let at : Arrived = record { place = first; time = p.time; piece = piece } in
    let same : at ≡ this = ap (λ (n : ℕ). let x : Arrived = record { place = n; time = p.time; piece = piece } in x) (omega arith) in
    Contains-append_left (arrived_at first p.time s) (arrived_from (suc first) packets seens) this
    (subst (λ (x : Seen). Contains (arrived_at first p.time x) this) (sym is) (subst (λ (x : Arrived). Contains (at ∷ []) x) same (Contains-first at [])))
piece_among first (p ∷ packets) (s ∷ seens) (suc i) d e piece h k is =
    let this : Arrived = record { place = suc first + i; time = (get_or packets i d).time; piece = piece } in
    let that : Arrived = record { place = first + suc i; time = (get_or packets i d).time; piece = piece } in
    let same : this ≡ that = ap (λ (n : ℕ). let x : Arrived = record { place = n; time = (get_or packets i d).time; piece = piece } in x) (omega arith) in
    Contains-append_right (arrived_at first p.time s) (arrived_from (suc first) packets seens) that
    (subst (λ (x : Arrived). Contains (arrived_from (suc first) packets seens) x) same (piece_among (suc first) packets seens i d e piece (omega (arith, h)) (omega (arith, k)) is))
