use Rattle.std.proofs.Common.{◌≡◌, sym, subst, List, [], All, map}
use Rattle.npf_pieces.specs.{declared.arrived.{Arrived.Arrived, SetAt.SetAt}, Datagram.WholeIfComplete, Sets.{set_at, sets_from}}
use Rattle.npf_pieces_tests.proofs.JoiningLemmas.{all_whole}
use Rattle.npf_pieces_tests.proofs.joining.join_pieces.Goals as goal

pub lay_out-requires-clause-whole : goal.lay_out-requires-clause-whole
lay_out-requires-clause-whole c =
    let arrived = c.in_ok-arrived.arrived.items in
    let sets = c.in_ok-sets.sets.items in
    let are = subst (λ (list : List Arrived). map (set_at list) sets ≡ sets_from [] list) c.as_slice.ensures.value c.in_ok-sets.ensures.sets in
    let all = all_whole arrived sets c.complete_set_is_whole.ensures c.in_ok-arrived.ensures.taken are in
    let same = subst (λ (list : List Arrived). All (λ (set : SetAt). WholeIfComplete (set_at list set)) sets) (sym c.as_slice-2.ensures.value) all in
    subst (All (λ (set : SetAt). WholeIfComplete (set_at c.as_slice-2.result.now set))) (sym c.as_slice-3.ensures.value) same
