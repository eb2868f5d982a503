use Rattle.std.proofs.{Common.{◌≡◌, rules}, lemmas.Fn.always_returns_same}
use Rattle.npf_reass_sets.proofs.SortLemmas.{sort_numbers, sorted_in_place}
use Rattle.npf_reass_sets.proofs.class.sort_by_key.Goals as goal

pub returns-clause-sorts : goal.returns-clause-sorts
returns-clause-sorts c =
    let sorts = c.sort_unstable_by_key.ensures in
    let computes = always_returns_same _ (λ a r. r ≡ sort_numbers a.0.now) _ (λ a r q k. search rules) in
    sorted_in_place c.args.arrived.now.items c.sort_unstable_by_key.new.self.items sorts.permutation (sorts.sorted sort_numbers computes) c.requires
