use Rattle.std.proofs.{Common.{List, ℕ, ◌++◌, ◌∷◌, [], map, subst, take, arith}, lemmas.List.length_push}
use Rattle.npf_types.specs.Name.{name_bytes}
use Rattle.npf_model.specs.declared.table.TableDecl.{TableDecl}
use Rattle.npf_expand_values.{specs.Place.ArePlaces, proofs.PlaceLemmas.names_more}
use Rattle.npf_expand_values.proofs.declarations.places_of_tables.Goals as goal

pub loop-table-preserved : goal.loop-table-preserved
loop-table-preserved c =
    let i = c.loop-table.table-index in
    let name_of : TableDecl → List ℕ = λ table. name_bytes table.name in
    let front = take i (map name_of c.args.tables.now) in
    let text = c.as_bytes.result.now in
    let was = c.loop-table.invariant in
    let pushed : ArePlaces c.add.new.self (front ++ text ∷ []) = c.in_ok-add.ensures.added front was.named in
    record {
      counted = omega (arith, pushed.counted, length_push front text, was.named.counted, was.counted);
      named = subst (ArePlaces c.add.new.self) (names_more name_of c.args.tables.now i c.table-item.result _ text c.loop-table-test.true c.table-item.is c.as_bytes.ensures.value) pushed;
    }
