-- What is left of a list of connections without one of them.
use Rattle.std.{proofs.{Common.{◌≡◌, List}, lemmas.Bool.not-true}, specs.{List.Contains, Prelude.not}}
use Rattle.npf_shelf.proofs.ListLemmas.{Contains-filter_parts}
use Rattle.npf_core.{specs.{declared.conn_id.ConnId.ConnId, NextState.is_id}, proofs.EqualityLemmas.is_id-Decides}
use Rattle.npf_connections.specs.Answered.{without}

pub Contains-without_parts : (id other : ConnId) (ids : List ConnId) → Contains (without other ids) id → Contains ids id × ¬ (id ≡ other)
Contains-without_parts id other ids c =
    let kept = Contains-filter_parts (λ (x : ConnId). not (is_id x other)) ids id c in
    (kept.0, λ same. let is = (is_id-Decides id other).1 same in let isnt = not-true (is_id id other) kept.1 in absurd cc)
