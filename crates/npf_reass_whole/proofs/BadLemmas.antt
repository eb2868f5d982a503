-- Fragments that are held as bad, packet by packet.
use Rattle.std.proofs.{Common.{◌≡◌, ◌≢◌, ℕ, ◌+◌, ◌<◌, ◌≤◌, ◌∙◌, ⊎_elim, sym, subst, List, length, get_or, set, arith, get_or-set_other}, lemmas.Bool.cases_lt}
use Rattle.std.proofs.lemmas.List.{get_or-set_same, get_or_default}
use Rattle.npf_traffic.specs.declared.packet.Packet.{Packet}
use Rattle.npf_pieces.specs.{declared.piece.Seen.Seen, Piece.{OneSeeing, SeenAs}}
use Rattle.npf_reass_whole.specs.Run.{HeldIfBad}

pub held_if_bad : OneSeeing → (packet new : Packet) (r : Seen) → SeenAs packet r → HeldIfBad packet new r
    → (seen : Seen) → SeenAs packet seen → HeldIfBad packet new seen
held_if_bad law packet new r sees h seen is = subst (HeldIfBad packet new) (law packet r seen sees is) h

module _ (old cur : List Packet) (place : ℕ) (x new p : Packet) (inside : place < length cur) (at : x ≡ get_or cur place p)
    (held : (seen : Seen) → SeenAs x seen → HeldIfBad x new seen)
    (rest : (k : ℕ) (d : Packet) → place ≤ k → get_or cur k d ≡ get_or old k d) where
  pub bad_rest : (k : ℕ) (d : Packet) → place + 1 ≤ k → get_or (set cur place new) k d ≡ get_or old k d
  bad_rest k d h =
      let other : k ≢ place = omega (arith, h) in
      get_or-set_other cur place k new d other ∙ rest k d (omega (arith, h))

  is_old : (d : Packet) → x ≡ get_or old place d
  is_old d = at ∙ get_or_default cur place p d inside ∙ rest place d (omega arith)

  at_place : (d : Packet) (seen : Seen) → SeenAs (get_or old place d) seen → HeldIfBad (get_or old place d) (get_or (set cur place new) place d) seen
  at_place d seen sees =
      subst (λ (y : Packet). HeldIfBad (get_or old place d) y seen) (sym (get_or-set_same cur place new d inside))
      (subst (λ (y : Packet). HeldIfBad y new seen) (is_old d) (held seen (subst (λ (y : Packet). SeenAs y seen) (sym (is_old d)) sees)))

  pub bad_done : ((k : ℕ) (d : Packet) (seen : Seen) → k < place → SeenAs (get_or old k d) seen → HeldIfBad (get_or old k d) (get_or cur k d) seen)
      → (k : ℕ) (d : Packet) (seen : Seen) → k < place + 1 → SeenAs (get_or old k d) seen → HeldIfBad (get_or old k d) (get_or (set cur place new) k d) seen
  bad_done done k d seen h sees =
      ⊎_elim (λ (lt : k < place).
      let other : k ≢ place = omega (arith, lt) in
      subst (λ (y : Packet). HeldIfBad (get_or old k d) y seen) (sym (get_or-set_other cur place k new d other)) (done k d seen lt sees))
      (λ (le : place ≤ k).
      let same : place ≡ k = omega (arith, le, h) in
      subst (λ (n : ℕ). SeenAs (get_or old n d) seen → HeldIfBad (get_or old n d) (get_or (set cur place new) n d) seen) same (at_place d seen) sees)
      (cases_lt k place)
