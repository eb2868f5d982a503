-- Packets that the groups in front leave to a group.
use Rattle.std.proofs.Common.{◌≡◌, ℕ, zero, suc, ◌+◌, ◌-◌, ◌<◌, ◌≤◌, ◌&&◌, Bool, true, false, not, List, [], ◌∷◌, ◌++◌, Option, Some, None, Result, Ok, Err, IfOk, IfSome}
use Rattle.std.proofs.Common.{length, slice_get, take, refl, sym, subst, ap, ◌∙◌, inl, inr, arith}
use Rattle.std.specs.List.{list_any}
use Rattle.std.proofs.lemmas.Bool.{and_from, and_parts, cases_Bool, false≢true, not-true, not_from_false}
use Rattle.std.proofs.lemmas.List.{length-take-le, take_all}
use Rattle.std.proofs.lemmas.Option.{slice_get_past}
use Rattle.npf_types.specs.declared.{direction.Dir.Dir, facts.Facts.Facts, interface.IfId.IfId}
use Rattle.npf_model.specs.{declared.group.Group.Group, Describes.Tables}
use Rattle.npf_precedence.specs.declared.entry.RuleEntry.{RuleEntry}
use Rattle.npf_precedence.specs.Precedence.{in_order}
use Rattle.npf_products.specs.declared.packet.CellPacket.{CellPacket}
use Rattle.npf_reach.specs.{Kinds.{IsPacket, held_at}, Packets.{IsOf, has_packet}, declared.packets.Packets.Packets}
use Rattle.npf_search.specs.{Region.decides, declared.decider.Decider.Decider}
use Rattle.npf_steps.specs.declared.steps.Stopped.{Stopped}
use Rattle.npf_judge.specs.Order.{is_first, meets_entry, passes_here}
use Rattle.npf_judge.proofs.FirstLemmas.{decides_from}
use Rattle.npf_lint.specs.Order.{IsRuleOrder, matches_at}
use Rattle.npf_dead_groups.specs.Comes.{ReachesGroup, IsDeadGroup, IsGroupFinding, applies_at, is_answered_before}
use Rattle.npf_dead_groups.specs.Entries.{AreGroupedEntries}
use Rattle.npf_dead_groups.proofs.EntryLemmas.{entries_count, front_any, front_below, own_applies}

get_taken : {X : Type 0} (n : ℕ) (xs : List X) (i : ℕ) → i < n → slice_get (take n xs) i ≡ slice_get xs i
get_taken zero xs i low = absurd (omega arith)
get_taken (suc n) [] i low = refl
get_taken (suc n) (x ∷ xs) zero low = refl
get_taken (suc n) (x ∷ xs) (suc i) low = get_taken n xs i (omega arith)

-- the place behind all of some items is where none of them passes
first_past : {X : Type 0} (test : X → Bool) (xs : List X) (n : ℕ) → length xs ≡ n → is_first test xs n ≡ not (list_any test xs)
first_past test xs n count =
    ap (λ o. passes_here test o && not (list_any test (take n xs))) (slice_get_past xs n (omega (arith, count)))
    ∙ ap (λ ys. not (list_any test ys)) (take_all n xs (omega (arith, count)))

module _ (groups : List Group) (entries : List RuleEntry) (are : AreGroupedEntries groups entries) (packets of_group left : Packets) (is : IsRuleOrder entries packets)
    (place front : ℕ) (low : place < length groups) (is_front : front ≡ length (in_order (take place groups)))
    (at : ℕ) (here : at ≡ length entries - length groups + place)
    (matched : (facts : Facts) (ifid : IfId) (dir : Dir) → IsPacket facts ifid → has_packet of_group facts ifid dir ≡ matches_at packets.tables.now entries at facts ifid dir)
    (of : IsOf packets.tables.now packets.products.now of_group)
    (none : Decider) (first : none.first ≡ 0) (count : none.count ≡ front) (last : none.place ≡ front)
    (narrowed : (facts : Facts) (ifid : IfId) (dir : Dir) → IsPacket facts ifid
    → has_packet left facts ifid dir ≡ (has_packet of_group facts ifid dir && decides (held_at of_group.tables.now of_group.products.now facts ifid dir) none)) where
  few : front ≤ length entries
  few = omega (arith, is_front, front_below groups place, entries_count groups entries are place)

  none_in_front : (facts : Facts) (ifid : IfId) (dir : Dir)
      → decides (held_at packets.tables.now packets.products.now facts ifid dir) none ≡ not (is_answered_before packets.tables.now groups place facts ifid dir)
  none_in_front facts ifid dir =
      let test = meets_entry packets.tables.now facts ifid dir in
      let taken : length (take front entries) ≡ front = length-take-le front entries few in
      decides_from test 0 (held_at packets.tables.now packets.products.now facts ifid dir) (take front entries) none first (count ∙ sym taken)
      (λ k within.
      let same : 0 + k ≡ k = omega arith in
      ap (held_at packets.tables.now packets.products.now facts ifid dir) same
      ∙ is.held k facts ifid dir (omega (arith, within, taken, few))
      ∙ sym (ap (passes_here test) (get_taken front entries k (omega (arith, within, taken)))))
      ∙ ap (is_first test (take front entries)) last
      ∙ first_past test (take front entries) front taken
      ∙ ap (λ n. not (list_any test (take n entries))) is_front
      ∙ ap (λ b. not b) (front_any groups entries are place packets.tables.now facts ifid dir)

  left_has : (facts : Facts) (ifid : IfId) (dir : Dir) → IsPacket facts ifid
      → has_packet left facts ifid dir ≡ (applies_at packets.tables.now groups place facts ifid dir && not (is_answered_before packets.tables.now groups place facts ifid dir))
  left_has facts ifid dir packet =
      narrowed facts ifid dir packet
      ∙ ap (λ ts. has_packet of_group facts ifid dir && decides (held_at ts of_group.products.now facts ifid dir) none) of.tables_are
      ∙ ap (λ ps. has_packet of_group facts ifid dir && decides (held_at packets.tables.now ps facts ifid dir) none) of.products_are
      ∙ ap (λ b. has_packet of_group facts ifid dir && b) (none_in_front facts ifid dir)
      ∙ ap (λ b. b && not (is_answered_before packets.tables.now groups place facts ifid dir))
      (matched facts ifid dir packet ∙ own_applies groups entries are place packets.tables.now facts ifid dir at here low)

  pub dead : ((facts : Facts) (ifid : IfId) (dir : Dir) → IsPacket facts ifid → has_packet left facts ifid dir ≡ false) → IsDeadGroup packets.tables.now groups place
  dead nothing facts ifid dir packet applies = elim (cases_Bool (is_answered_before packets.tables.now groups place facts ifid dir)) [
    | inl answered ↦ answered
    | inr unanswered ↦
        absurd (false≢true (sym (nothing facts ifid dir packet) ∙ left_has facts ifid dir packet
        ∙ and_from (applies_at packets.tables.now groups place facts ifid dir) (not (is_answered_before packets.tables.now groups place facts ifid dir)) applies
        (not_from_false (is_answered_before packets.tables.now groups place facts ifid dir) unanswered)))
  ]

  pub comes : (result : Result (Option CellPacket) Stopped) → IfOk result (λ found. IfSome found (λ packet. IsPacket packet.facts packet.ifid))
      → IfOk result (λ found. IfSome found (λ packet. has_packet left packet.facts packet.ifid packet.dir ≡ true))
      → IfOk result (λ found. IfSome found (ReachesGroup packets.tables.now groups place))
  comes (Ok (Some found)) packet there =
      let parts = and_parts (applies_at packets.tables.now groups place found.facts found.ifid found.dir)
      (not (is_answered_before packets.tables.now groups place found.facts found.ifid found.dir)) (sym (left_has found.facts found.ifid found.dir packet) ∙ there) in
      record {
        possible = packet;
        applies = parts.0;
        left = not-true (is_answered_before packets.tables.now groups place found.facts found.ifid found.dir) parts.1;
      }
  comes (Ok None) packet there = there
  comes (Err stopped) packet there = there

-- ---- all groups
pub is_finding : (tables : Tables) (groups : List Group) (place : ℕ) (found : Option CellPacket) → (found ≡ None → IsDeadGroup tables groups place)
    → IfSome found (ReachesGroup tables groups place) → IsGroupFinding tables groups place found
is_finding tables groups place None none some = none refl
is_finding tables groups place (Some packet) none some = some

pub each_more : {X : Type 0} (P : ℕ → X → Type 0) (found : List X) (x : X) → ((k : ℕ) → IfSome (slice_get found k) (P k)) → P (length found) x
    → (k : ℕ) → IfSome (slice_get (found ++ x ∷ []) k) (P k)
each_more P [] x each here zero = here
each_more P [] x each here (suc k) = subst (λ o. IfSome o (P (suc k))) (sym (slice_get_past [] k (omega arith))) tt
each_more P (y ∷ ys) x each here zero = each zero
each_more P (y ∷ ys) x each here (suc k) = each_more (λ n. P (suc n)) ys x (λ n. each (suc n)) here k
