-- The packets on which a rule of each order decides.
use Rattle.std.proofs.Common.{◌≡◌, ℕ, ◌+◌, ◌<◌, ◌≤◌, ◌==◌, ◌&&◌, ◌||◌, Bool, true, false, not, Option, Some, None, Result, Ok, Err, IfOk, IfSome}
use Rattle.std.proofs.Common.{length, sym, ap, ◌∙◌, inl, inr, arith}
use Rattle.std.specs.List.{list_any, range_with_len}
use Rattle.std.proofs.lemmas.Bool.{and_from, and_parts, cases_lt, false≢true}
use Rattle.std.proofs.Math.Bool.{and-true}
use Rattle.std.proofs.lemmas.Option.{slice_get_past}
use Rattle.npf_types.specs.declared.{direction.Dir.Dir, facts.Facts.Facts, interface.IfId.IfId}
use Rattle.npf_products.specs.declared.packet.CellPacket.{CellPacket}
use Rattle.npf_reach.specs.{Kinds.{IsPacket, held_at}, Packets.{IsOf, has_packet}, declared.packets.Packets.Packets}
use Rattle.npf_search.specs.{Region.decides, declared.decider.Decider.Decider}
use Rattle.npf_steps.specs.declared.steps.Stopped.{Stopped}
use Rattle.npf_judge.specs.Order.{meets_entry, passes_here}
use Rattle.npf_judge.proofs.FirstLemmas.{decides_from}
use Rattle.npf_compare.specs.declared.side.RuleSide.{RuleSide}
use Rattle.npf_compare.specs.Side.{AreBothFirst, AreMatched, AreOfBoth, AreUnlike, effect_at, is_first_at, meets_at}

-- an item alone decides where it holds, and none does anyway
alone_decides : (h : ℕ → Bool) (decider : Decider) (at count : ℕ) → decider.first ≡ at → decider.place ≡ 0 → decider.count ≡ count
    → decides h decider ≡ (0 == count || h at)
alone_decides h decider at count first place is =
    ap (λ n. (n == decider.count || h (decider.first + n)) && not (list_any h (range_with_len decider.first n))) place
    ∙ ap (λ n. (0 == n || h (decider.first + 0)) && true) is
    ∙ ap (λ n. (0 == count || h (n + 0)) && true) first
    ∙ and-true (0 == count || h (at + 0))
    ∙ (let same : at + 0 ≡ at = omega arith in ap (λ n. 0 == count || h n) same)

module _ (old new : RuleSide) (packets : Packets) (is : AreOfBoth old new packets) (at : ℕ) where
  -- the packets that an old rule matches
  pub matched_are : (matched : Packets) (decider : Decider) → decider.first ≡ at → decider.place ≡ 0
      → (at < length old.order.now → decider.count ≡ 1) → (length old.order.now ≤ at → decider.count ≡ 0)
      → IsOf packets.tables.now packets.products.now matched
      → ((facts : Facts) (ifid : IfId) (dir : Dir) → IsPacket facts ifid
      → has_packet matched facts ifid dir ≡ (has_packet packets facts ifid dir && decides (held_at packets.tables.now packets.products.now facts ifid dir) decider))
      → AreMatched old packets at matched
  matched_are matched decider first place one none of narrowed = record {
    of = of;
    has = λ facts ifid dir packet.
        let h = held_at packets.tables.now packets.products.now facts ifid dir in
        narrowed facts ifid dir packet ∙ ap (λ b. b && decides h decider) (is.all facts ifid dir packet)
        ∙ elim (cases_lt at (length old.order.now)) [
          | inl low ↦ alone_decides h decider at 1 first place (one low) ∙ is.old_held at facts ifid dir low
          | inr past ↦
              alone_decides h decider at 0 first place (none past)
              ∙ sym (ap (passes_here (meets_entry old.tables.now facts ifid dir)) (slice_get_past old.order.now at past))
        ];
  }

  -- those of them on which it decides, and on which a new one does
  module _ (other : ℕ) (matched decided both : Packets) (by_new by_old : Decider) (own : AreMatched old packets at matched)
      (new_first : by_new.first ≡ length old.order.now) (new_count : by_new.count ≡ length new.order.now) (new_place : by_new.place ≡ other)
      (old_first : by_old.first ≡ 0) (old_count : by_old.count ≡ length old.order.now) (old_place : by_old.place ≡ at)
      (of : IsOf matched.tables.now matched.products.now decided)
      (first : (facts : Facts) (ifid : IfId) (dir : Dir) → IsPacket facts ifid
      → has_packet decided facts ifid dir ≡ (has_packet matched facts ifid dir && decides (held_at matched.tables.now matched.products.now facts ifid dir) by_new))
      (second : (facts : Facts) (ifid : IfId) (dir : Dir) → IsPacket facts ifid
      → has_packet both facts ifid dir ≡ (has_packet decided facts ifid dir && decides (held_at decided.tables.now decided.products.now facts ifid dir) by_old)) where
    both_are : (facts : Facts) (ifid : IfId) (dir : Dir) → IsPacket facts ifid
        → has_packet both facts ifid dir ≡ ((meets_at old at facts ifid dir && is_first_at new other facts ifid dir) && is_first_at old at facts ifid dir)
    both_are facts ifid dir packet =
        let h = held_at packets.tables.now packets.products.now facts ifid dir in
        let decided_new : decides h by_new ≡ is_first_at new other facts ifid dir =
        decides_from (meets_entry new.tables.now facts ifid dir) (length old.order.now) h new.order.now by_new new_first new_count (λ k low. is.new_held k facts ifid dir low)
        ∙ ap (λ n. is_first_at new n facts ifid dir) new_place in
        let decided_old : decides h by_old ≡ is_first_at old at facts ifid dir =
        decides_from (meets_entry old.tables.now facts ifid dir) 0 h old.order.now by_old old_first old_count
        (λ k low. let same : 0 + k ≡ k = omega arith in ap h same ∙ is.old_held k facts ifid dir low)
        ∙ ap (λ n. is_first_at old n facts ifid dir) old_place in
        let same : has_packet decided facts ifid dir ≡ (meets_at old at facts ifid dir && is_first_at new other facts ifid dir) =
        first facts ifid dir packet
        ∙ ap (λ b. b && decides (held_at matched.tables.now matched.products.now facts ifid dir) by_new) (own.has facts ifid dir packet)
        ∙ ap (λ ts. meets_at old at facts ifid dir && decides (held_at ts matched.products.now facts ifid dir) by_new) own.of.tables_are
        ∙ ap (λ ps. meets_at old at facts ifid dir && decides (held_at packets.tables.now ps facts ifid dir) by_new) own.of.products_are
        ∙ ap (λ b. meets_at old at facts ifid dir && b) decided_new in
        second facts ifid dir packet
        ∙ ap (λ b. b && decides (held_at decided.tables.now decided.products.now facts ifid dir) by_old) same
        ∙ ap (λ ts. (meets_at old at facts ifid dir && is_first_at new other facts ifid dir) && decides (held_at ts decided.products.now facts ifid dir) by_old) (of.tables_are ∙ own.of.tables_are)
        ∙ ap (λ ps. (meets_at old at facts ifid dir && is_first_at new other facts ifid dir) && decides (held_at packets.tables.now ps facts ifid dir) by_old)
        (of.products_are ∙ own.of.products_are)
        ∙ ap (λ b. (meets_at old at facts ifid dir && is_first_at new other facts ifid dir) && b) decided_old

    pub none_both : ((facts : Facts) (ifid : IfId) (dir : Dir) → IsPacket facts ifid → has_packet both facts ifid dir ≡ false)
        → (packet : CellPacket) → AreBothFirst old new at other packet → ⊥
    none_both none packet are =
        let facts = packet.facts in
        let ifid = packet.ifid in
        let dir = packet.dir in
        let meets = (and_parts (meets_at old at facts ifid dir) _ are.by_old).0 in
        false≢true (sym (none facts ifid dir are.possible) ∙ both_are facts ifid dir are.possible
        ∙ and_from (meets_at old at facts ifid dir && is_first_at new other facts ifid dir) (is_first_at old at facts ifid dir)
        (and_from (meets_at old at facts ifid dir) (is_first_at new other facts ifid dir) meets are.by_new) are.by_old)

    pub unlike_found : ¬ effect_at old at ≡ effect_at new other
        → (result : Result (Option CellPacket) Stopped) → IfOk result (λ found. IfSome found (λ packet. IsPacket packet.facts packet.ifid))
        → IfOk result (λ found. IfSome found (λ packet. has_packet both packet.facts packet.ifid packet.dir ≡ true))
        → IfOk result (λ found. IfSome found (AreUnlike old new at other))
    unlike_found otherwise (Ok (Some found)) packet there =
        let facts = found.facts in
        let ifid = found.ifid in
        let dir = found.dir in
        let parts = and_parts (meets_at old at facts ifid dir && is_first_at new other facts ifid dir) (is_first_at old at facts ifid dir)
        (sym (both_are facts ifid dir packet) ∙ there) in
        record {
          first = record { possible = packet; by_old = parts.1; by_new = (and_parts (meets_at old at facts ifid dir) (is_first_at new other facts ifid dir) parts.0).1 };
          otherwise = otherwise;
        }
    unlike_found otherwise (Ok None) packet there = there
    unlike_found otherwise (Err stopped) packet there = there
