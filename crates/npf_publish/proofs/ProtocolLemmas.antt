-- The rule survives each step: a change that doesn't lower the number nor passes the last one, and what seats learn and tell.
use Rattle.std.proofs.Common.{◌≡◌, ℕ, ◌+◌, ◌≤◌, ◌≢◌, max, List, [], ◌∷◌, ◌++◌, zero-le, fold, set, refl, subst, sym, ⊎_elim, le_refl, le_trans, arith}
use mathlib.Core.Option.{some}
use lib.ListN.{get_elem?}
use Rattle.left_right.specs.Register.{Admits, TurnsAt, Forks, Merges}
use Rattle.atomic_table.proofs.Lists.{at_set, at_snoc}
use Rattle.npf_publish.specs.declared.protocol.{Published.Published, SeatView.SeatView}
use Rattle.npf_publish.specs.Protocol.{IsKnown, NeverFalls, SeesNumber, SeesFirst, renumbered, unseated}

-- what may be shown next
record Follows (shown next : Published) : Type 0 where
  up : shown.number ≤ next.number
  same : next.last ≡ shown.last
  within : next.number ≤ next.last

stays : (shown : Published) (views : List SeatView) → NeverFalls shown views → Follows shown shown
stays shown views rule = record { up = le_refl shown.number; same = refl; within = rule.within }

still_known : (shown next : Published) (view : SeatView) → Follows shown next → IsKnown shown view → IsKnown next view
still_known shown next view follows known = record {
  seen = le_trans known.seen follows.up;
  last = subst (λ (n : ℕ). n ≤ view.last) (sym follows.same) known.last;
}

-- one seat's view changes
changed : (shown next : Published) (views : List SeatView) (seat : ℕ) (own : SeatView) → Follows shown next → NeverFalls shown views → IsKnown next own → NeverFalls next (set views seat own)
changed shown next views seat own follows rule known = record {
  within = follows.within;
  fits = subst (λ (n : ℕ). n ≤ 18446744073709551615) (sym follows.same) rule.fits;
  known = λ j view is. ⊎_elim (λ (t : (j ≡ seat) × (own ≡ view)). subst (λ (v : SeatView). IsKnown next v) t.1 known)
      (λ (t : (j ≢ seat) × (get_elem? views j ≡ some view)). still_known shown next view follows (rule.known j view t.1))
      (at_set views seat j own view is);
}

-- one more seat
seated : (shown : Published) (views : List SeatView) (own : SeatView) → NeverFalls shown views → IsKnown shown own → NeverFalls shown (views ++ own ∷ [])
seated shown views own rule known = record {
  within = rule.within;
  fits = rule.fits;
  known = λ j view is. ⊎_elim (rule.known j view) (λ (same : own ≡ view). subst (λ (v : SeatView). IsKnown shown v) same known) (at_snoc views own view j is);
}

nothing_known : (shown : Published) (views : List SeatView) → NeverFalls shown views → IsKnown shown unseated
nothing_known shown views rule = record { seen = zero-le; last = rule.fits }

pub admits : Admits NeverFalls unseated
admits shown views rule = seated shown views unseated rule (nothing_known shown views rule)

pub forks : (seat : ℕ) (view : SeatView) → Forks NeverFalls seat view view view
forks seat view shown views rule at =
    let known = rule.known seat view at in
    seated shown (set views seat view) view (changed shown shown views seat view (stays shown views rule) rule known) known

pub merges : (seat : ℕ) (view : SeatView) (other : ℕ) (told : SeatView) →
    Merges NeverFalls seat view other told (record { seen = max view.seen told.seen; last = told.last; looks = view.looks }) unseated
merges seat view other told shown views rule at apart there =
    let both : SeatView = record { seen = max view.seen told.seen; last = told.last; looks = view.looks } in
    let known : IsKnown shown told = ⊎_elim (λ (t : (other ≡ seat) × (both ≡ told)). absurd (apart t.0))
    (λ (t : (other ≢ seat) × (get_elem? views other ≡ some told)). rule.known other told t.1) (at_set views seat other both told there) in
    let own = (rule.known seat view at).seen in
    let heard = known.seen in
    let same = stays shown views rule in
    let once = changed shown shown views seat both same rule (record { seen = omega arith; last = known.last }) in
    changed shown shown (set views seat both) other unseated same once (nothing_known shown views rule)

looks : (seat : ℕ) (view : SeatView) (shown next : Published) → Follows shown next → TurnsAt NeverFalls seat view shown next SeesNumber
looks seat view shown next follows views rule at =
    let known = rule.known seat view at in
    let own : SeatView = record { seen = next.number; last = view.last; looks = view.looks + 1 } in
    let below : next.last ≤ view.last = subst (λ (n : ℕ). n ≤ view.last) (sym follows.same) known.last in (
      own,
      changed shown next views seat own follows rule (record { seen = le_refl next.number; last = below }),
      record { seen = known.seen; last = le_trans follows.within below; now = refl; same = refl; looks = refl },
    )

-- a reader's look
pub read_look : (seat : ℕ) (view : SeatView) (shown : Published) → TurnsAt NeverFalls seat view shown shown SeesNumber
read_look seat view shown views rule = looks seat view shown shown (stays shown views rule) views rule

-- the publisher's first look, with nothing to publish
pub first_look : (seat : ℕ) (view : SeatView) (shown next : Published) (numbers : List ℕ) → numbers ≡ [] → next ≡ fold renumbered shown numbers → TurnsAt NeverFalls seat view shown next SeesFirst
first_look seat view shown next numbers none is =
    let same : next ≡ shown = subst (λ (ns : List ℕ). next ≡ fold renumbered shown ns) none is in
    subst (λ (y : Published). TurnsAt NeverFalls seat view shown y SeesFirst) (sym same) (λ views rule at.
    let own : SeatView = record { seen = shown.number; last = shown.last; looks = view.looks + 1 } in (
      own,
      changed shown shown views seat own (stays shown views rule) rule (record { seen = le_refl shown.number; last = le_refl shown.last }),
      record { now = refl; last = refl },
    ))

-- the publisher's step to a number
pub next_look : (seat : ℕ) (view : SeatView) (shown next : Published) (numbers : List ℕ) (number : ℕ) → numbers ≡ number ∷ [] → shown.number ≤ number →
    number ≤ shown.last → next ≡ fold renumbered shown numbers → TurnsAt NeverFalls seat view shown next SeesNumber
next_look seat view shown next numbers number one up within is =
    let same : next ≡ renumbered shown number = subst (λ (ns : List ℕ). next ≡ fold renumbered shown ns) one is in
    subst (λ (y : Published). TurnsAt NeverFalls seat view shown y SeesNumber) (sym same) (looks seat view shown (renumbered shown number) (record { up = up; same = refl; within = within }))
