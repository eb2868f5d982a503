-- Passes that are split and joined.
use Rattle.std.{proofs.Common.{◌≡◌, ◌≤◌, false, sym, subst, arith}, specs.List.Contains}
use Rattle.npf_core.specs.{declared.entry.Entry.Entry, History.Legal, Meaning.Meaning}
use Rattle.npf_connections.specs.{Joining.{IsSplit, new_pass}, Pass.{Pass, IsPass, all_places}}
use Rattle.npf_seats.proofs.PrefixLemmas.{none_listed}

-- who gave up one of its places is a pass still, and not all are its own
pub giver_pass : {S A R : Type 0} (m : Meaning S A R) (old now given : Pass (Entry S A R)) → IsPass m old →
    old.entered ≡ false → old.places ≤ all_places → IsSplit old now given → IsPass m given → IsPass m now
giver_pass {S} {A} {R} m old now given pass out most split has = subst (IsPass m) (sym split.left) (record {
  legal = legal;
  stays = λ id listed. absurd (none_listed id (subst (λ ids. Contains ids id) (pass.unanswered out) listed));
  building = λ id listed. absurd (none_listed id (subst (λ ids. Contains ids id) (pass.idle out) listed));
  unanswered = pass.unanswered;
  idle = pass.idle;
  alone = λ all. absurd (omega (arith, all, most));
  most = pass.most;
})
  where
    legal : Legal m old.slots now.history
    legal = let is : IsPass m (new_pass old.slots given.number now.history) = subst (IsPass m) split.gives has in is.legal
