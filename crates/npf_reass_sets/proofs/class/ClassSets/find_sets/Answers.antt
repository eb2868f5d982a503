use Rattle.std.proofs.{Common.refl, lemmas.List.Sorted.All-permutation}
use Rattle.npf_pieces.specs.Overlap.{IsTaken}
use Rattle.npf_reass_sets.proofs.DecideLemmas.{decided}
use Rattle.npf_reass_sets.proofs.class.ClassSets.find_sets.Goals as goal

pub sets_by_key-requires : goal.sets_by_key-requires
sets_by_key-requires c = record {
  taken = rw c.as_slice.ensures.value (All-permutation IsTaken c.args.self.now.arrived.items c.sort_by_key.new.arrived.items c.sort_by_key.ensures.same c.requires.taken);
}

pub returns : goal.returns
returns c =
    decided c.args.self.now.arrived.items c.sort_by_key.new.arrived.items c.in_ok-self.field-0.items c.sort_by_key.ensures.same c.sort_by_key.ensures.sorts
    (rw c.as_slice.ensures.value at c.in_ok-self.ensures.found) (rw c.as_slice.ensures.value at c.in_ok-self.ensures.places) _ refl refl
