-- The differences that are told so far.
use Rattle.std.proofs.Common.{◌≡◌, ℕ, ◌+◌, ◌<◌, ◌≤◌, cond, List, [], ◌∷◌, ◌++◌, Some, None, length, map, slice_index}
use Rattle.std.proofs.Common.{refl, sym, subst, ap, inl, inr, arith}
use Rattle.std.specs.List.{All, AllPairs, Contains}
use Rattle.std.proofs.lemmas.Bool.{cases_eq, cases_lt, le-ltb, lt-ltb}
use Rattle.std.proofs.lemmas.List.{map-append, Elements.{All-push, All-weaker, Contains-append_left, Contains-push, at_from_Contains}}
use Rattle.npf_products.specs.declared.packet.CellPacket.{CellPacket}
use Rattle.npf_compare.specs.declared.difference.RuleDifference.{RuleDifference}
use Rattle.npf_compare.specs.declared.side.RuleSide.{RuleSide}
use Rattle.npf_compare.specs.Difference.{IsEarlierDifference, IsEarlierPair, IsEarlierRule, rule_pair}
use Rattle.npf_compare.specs.Side.{AreUnlike, place_in, rule_or_none}
use Rattle.npf_compare.specs.Told.{AreToldBefore, AreToldUpto, IsToldOrAlike, IsToldOf}
use Rattle.npf_compare.proofs.PlaceLemmas.{pairs_push}

-- ---- places of rules
pub rule_there : (count place : ℕ) → place < count → rule_or_none count place ≡ Some place
rule_there count place low = ap (λ b. cond b (Some place) None) (lt-ltb place count low)

pub no_rule_there : (count place : ℕ) → count ≤ place → rule_or_none count place ≡ None
no_rule_there count place past = ap (λ b. cond b (Some place) None) (le-ltb place count past)

earlier_in : (count one next : ℕ) → one < next → next ≤ count → IsEarlierRule (rule_or_none count one) (rule_or_none count next)
earlier_in count one next less within =
    subst (λ o. IsEarlierRule o (rule_or_none count next)) (sym (rule_there count one (omega (arith, less, within)))) (elim (cases_lt next count) [
      | inl low ↦ subst (IsEarlierRule (Some one)) (sym (rule_there count next low)) less
      | inr past ↦ subst (IsEarlierRule (Some one)) (sym (no_rule_there count next past)) tt
    ])

module _ (old new : RuleSide) where
  -- ---- what is settled stays so
  settled_more : (differences : List RuleDifference) (more : RuleDifference) (place other : ℕ) → IsToldOrAlike old new differences place other
      → IsToldOrAlike old new (differences ++ more ∷ []) place other
  settled_more differences more place other settled packet first = elim (settled packet first) [
    | inl same ↦ inl same
    | inr there ↦ inr (subst (λ all. Contains all (place_in old place, place_in new other)) (sym (map-append rule_pair differences (more ∷ [])))
        (Contains-append_left (map rule_pair differences) (rule_pair more ∷ []) (place_in old place, place_in new other) there))
  ]

  settled_told : (differences : List RuleDifference) (place other : ℕ) (packet : CellPacket)
      → IsToldOrAlike old new (differences ++ record { old = place_in old place; new = place_in new other; packet = packet } ∷ []) place other
  settled_told differences place other packet own first =
      let more : RuleDifference = record { old = place_in old place; new = place_in new other; packet = packet } in
      inr (subst (λ all. Contains all (place_in old place, place_in new other)) (sym (map-append rule_pair differences (more ∷ [])))
      (Contains-push (map rule_pair differences) (place_in old place, place_in new other)))

  pub settled_all : (others : List ℕ) (differences : List RuleDifference) (place : ℕ)
      → ((k : ℕ) → k < length others → IsToldOrAlike old new differences place (slice_index others k))
      → (other : ℕ) → Contains others other → IsToldOrAlike old new differences place other
  settled_all others differences place settled other there =
      let here = at_from_Contains others other there in
      subst (IsToldOrAlike old new differences place) (here.2 0) (settled here.0 here.1)

  -- ---- one old rule
  module _ (place : ℕ) (others : List ℕ) where
    pub told_begins : (differences : List RuleDifference) → place ≤ length old.order.now → AreToldBefore old new place differences
        → AreToldUpto old new place others 0 differences differences
    told_begins differences within told = record {
      each = told.each;
      ordered = told.ordered;
      earlier = λ next further inside. told.earlier next (omega (arith, further)) inside;
      in_front = λ k from low.
          All-weaker (λ (difference : RuleDifference). IsEarlierRule difference.old (place_in old place))
          (λ difference. IsEarlierPair (rule_pair difference) (place_in old place, place_in new (slice_index others k)))
          (λ difference is. inl is) differences (told.earlier place (omega arith) within);
      kept = λ one other settled. settled;
      settled = λ k low. absurd (omega (arith, low));
    }

    module _ (upto : ℕ) (before after : List RuleDifference) (told : AreToldUpto old new place others upto before after) where
      pub told_ends : AreToldBefore old new (place + 1) after
      told_ends = record {
        each = told.each;
        ordered = told.ordered;
        earlier = λ next further inside. told.earlier next (omega (arith, further)) inside;
      }

      -- the next new rule is settled already
      pub told_same : IsToldOrAlike old new after place (slice_index others upto) → AreToldUpto old new place others (upto + 1) before after
      told_same here = record {
        each = told.each;
        ordered = told.ordered;
        earlier = told.earlier;
        in_front = λ k from low. told.in_front k (omega (arith, from)) low;
        kept = told.kept;
        settled = λ k below low. elim (cases_eq k upto) [
          | inl same ↦ subst (λ n. IsToldOrAlike old new after place (slice_index others n)) (sym same) here
          | inr other ↦ told.settled k (omega (arith, below, other)) low
        ];
      }

      -- or told
      pub told_more : (packet : CellPacket) → upto < length others → place ≤ length old.order.now → All (λ other. other ≤ length new.order.now) others
          → AllPairs (λ one next. one < next) others
          → AreUnlike old new (slice_index old.at.now place) (slice_index new.at.now (slice_index others upto)) packet
          → AreToldUpto old new place others (upto + 1) before
          (after ++ record { old = place_in old place; new = place_in new (slice_index others upto); packet = packet } ∷ [])
      told_more packet low inside within rising unlike =
          let other = slice_index others upto in
          let more : RuleDifference = record { old = place_in old place; new = place_in new other; packet = packet } in
          record {
            each = All-push (IsToldOf old new) after more told.each (record {
              place = place;
              other = other;
              old_within = inside;
              new_within = within upto 0 low;
              old_is = refl;
              new_is = refl;
              unlike = unlike;
            });
            ordered = pairs_push IsEarlierDifference more after (told.in_front upto (omega arith) low) told.ordered;
            earlier = λ next further behind.
                All-push (λ (difference : RuleDifference). IsEarlierRule difference.old (place_in old next)) after more (told.earlier next further behind)
                (earlier_in (length old.order.now) place next further behind);
            in_front = λ k from below.
                All-push (λ (difference : RuleDifference). IsEarlierPair (rule_pair difference) (place_in old place, place_in new (slice_index others k))) after more
                (told.in_front k (omega (arith, from)) below)
                (inr (refl, earlier_in (length new.order.now) other (slice_index others k) (rising upto k 0 (omega (arith, from)) below) (within k 0 below)));
            kept = λ one next settled. settled_more after more one next (told.kept one next settled);
            settled = λ k below short. elim (cases_eq k upto) [
              | inl same ↦
                  subst (λ n. IsToldOrAlike old new (after ++ more ∷ []) place (slice_index others n)) (sym same) (settled_told after place other packet)
              | inr next ↦ settled_more after more place (slice_index others k) (told.settled k (omega (arith, below, next)) short)
            ];
          }
