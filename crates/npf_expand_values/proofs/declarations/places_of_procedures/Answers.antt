use Rattle.std.proofs.{Common.{List, ℕ, ◌++◌, ◌∷◌, [], map, subst, take, arith}, lemmas.List.length_push}
use Rattle.npf_model.specs.declared.procedure.Procedure.{Procedure}
use Rattle.npf_expand_values.{specs.Place.ArePlaces, proofs.PlaceLemmas.names_more}
use Rattle.npf_expand_values.proofs.declarations.places_of_procedures.Goals as goal

pub loop-procedure-preserved : goal.loop-procedure-preserved
loop-procedure-preserved c =
    let i = c.loop-procedure.procedure-index in
    let name_of : Procedure → List ℕ = λ procedure. procedure.name in
    let front = take i (map name_of c.args.procedures.now) in
    let text = c.as_slice.result.now in
    let was = c.loop-procedure.invariant in
    let pushed : ArePlaces c.add.new.self (front ++ text ∷ []) = c.in_ok-add.ensures.added front was.named in
    record {
      counted = omega (arith, pushed.counted, length_push front text, was.named.counted, was.counted);
      named = subst (ArePlaces c.add.new.self) (names_more name_of c.args.procedures.now i c.procedure-item.result _ text c.loop-procedure-test.true c.procedure-item.is c.as_slice.ensures) pushed;
    }
