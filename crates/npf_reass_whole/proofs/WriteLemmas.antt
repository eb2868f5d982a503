-- Packets that are changed at several places, one change after the other: the last of a place is the one that stands.
use Rattle.std.proofs.Common.{◌≡◌, ◌≢◌, ℕ, ◌<◌, ◌∙◌, ◌⊎◌, ⊎_elim, inl, inr, zero, suc, refl, sym, ap, List, [], ◌∷◌, length, get_or, arith}
use Rattle.std.{specs.Prelude.Contains, proofs.lemmas.Bool.cases_eq}
use Rattle.npf_shelf.proofs.ListLemmas.{Contains-cons_cases, Contains-first, Contains-later}
use Rattle.npf_traffic.specs.declared.packet.Packet.{Packet}
use Rattle.npf_pieces.specs.DatagramAt.{with_packet}

pub length-with_packet : (change : Packet → Packet) (place : ℕ) (packets : List Packet) → length (with_packet change place packets) ≡ length packets
length-with_packet change place [] = refl
length-with_packet change zero (p ∷ packets) = refl
length-with_packet change (suc place) (p ∷ packets) = omega (arith, length-with_packet change place packets)

changed_there : (change : Packet → Packet) (place : ℕ) (packets : List Packet) (d : Packet) → place < length packets
    → get_or (with_packet change place packets) place d ≡ change (get_or packets place d)
changed_there change place [] d h = absurd (omega (arith, h))
changed_there change zero (p ∷ packets) d h = refl
changed_there change (suc place) (p ∷ packets) d h = changed_there change place packets d (omega (arith, h))

kept_elsewhere : (change : Packet → Packet) (place i : ℕ) (packets : List Packet) (d : Packet) → i ≢ place
    → get_or (with_packet change place packets) i d ≡ get_or packets i d
kept_elsewhere change place i [] d h = refl
kept_elsewhere change zero zero (p ∷ packets) d h = absurd (h refl)
kept_elsewhere change zero (suc i) (p ∷ packets) d h = refl
kept_elsewhere change (suc place) zero (p ∷ packets) d h = refl
kept_elsewhere change (suc place) (suc i) (p ∷ packets) d h = kept_elsewhere change place i packets d (λ e. h (ap suc e))

module _ {W : Type 0} (place_of : W → ℕ) (change : W → Packet → Packet) (last_stands : (v w : W) (p : Packet) → change w (change v p) ≡ change w p) where
  abbrev pub written : List W → List Packet → List Packet
  written [] packets = packets
  written (w ∷ ws) packets = written ws (with_packet (change w) (place_of w) packets)

  -- one of the changes made of the old packet the new one
  pub record IsWritten (ws : List W) (i : ℕ) (old new : Packet) : Type 0 where
    pub one : W
    pub among : Contains ws one
    pub at : place_of one ≡ i
    pub is : new ≡ change one old

  -- no change was at this place
  pub record IsUnwritten (ws : List W) (i : ℕ) (old new : Packet) : Type 0 where
    pub same : new ≡ old
    pub none : (w : W) → Contains ws w → place_of w ≢ i

  at_place : (w : W) (packets : List Packet) (i : ℕ) (d : Packet) → i < length packets → i ≡ place_of w
      → get_or (with_packet (change w) (place_of w) packets) i d ≡ change w (get_or packets i d)
  at_place w packets i d h e = rw e (changed_there (change w) (place_of w) packets d (rw e at h))

  module _ (w : W) (ws : List W) (packets : List Packet) (i : ℕ) (d : Packet) (h : i < length packets) where
    abbrev next : List Packet
    next = with_packet (change w) (place_of w) packets

    abbrev old : Packet
    old = get_or packets i d

    changed_twice : (v : W) → change v (get_or next i d) ≡ change v old
    changed_twice v =
        ⊎_elim (λ (e : i ≡ place_of w). ap (change v) (at_place w packets i d h e) ∙ last_stands w v old)
        (λ (n : i ≢ place_of w). ap (change v) (kept_elsewhere (change w) (place_of w) i packets d n))
        (cases_eq i (place_of w))

    by_more : (new : Packet) → IsWritten ws i (get_or next i d) new ⊎ IsUnwritten ws i (get_or next i d) new
        → IsWritten (w ∷ ws) i old new ⊎ IsUnwritten (w ∷ ws) i old new
    by_more new (inl x) = inl (record { one = x.one; among = Contains-later w x.one ws x.among; at = x.at; is = x.is ∙ changed_twice x.one })
    by_more new (inr x) =
        ⊎_elim (λ (e : i ≡ place_of w). inl (record { one = w; among = Contains-first w ws; at = sym e; is = x.same ∙ at_place w packets i d h e }))
        (λ (n : i ≢ place_of w). inr (record {
          same = x.same ∙ kept_elsewhere (change w) (place_of w) i packets d n;
          none = λ v c. ⊎_elim (λ (e : w ≡ v). λ k. n (sym k ∙ ap place_of (sym e))) (λ (c : Contains ws v). x.none v c) (Contains-cons_cases w v ws c);
        }))
        (cases_eq i (place_of w))

  pub written_or_not : (ws : List W) (packets : List Packet) (i : ℕ) (d : Packet) → i < length packets
      → IsWritten ws i (get_or packets i d) (get_or (written ws packets) i d) ⊎ IsUnwritten ws i (get_or packets i d) (get_or (written ws packets) i d)
  written_or_not [] packets i d h = inr (record { same = refl; none = λ w c. absurd (omega (arith, c.1)) })
  written_or_not (w ∷ ws) packets i d h =
      by_more w ws packets i d h (get_or (written ws (next w ws packets i d h)) i d)
      (written_or_not ws (next w ws packets i d h) i d (omega (arith, h, length-with_packet (change w) (place_of w) packets)))
