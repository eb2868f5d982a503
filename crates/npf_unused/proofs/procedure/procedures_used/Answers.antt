use Rattle.std.proofs.Common.{◌++◌, [], ◌∷◌, ap₂, sym, ◌∙◌, zero-add}
use Rattle.std.proofs.lemmas.List.FromFn.{map-range_with_len_more}
use Rattle.npf_unused.specs.declared.usable.Usable.TheVariants.{Procedure}
use Rattle.npf_unused.specs.Unused.{is_used}
use Rattle.npf_unused.proofs.procedure.procedures_used.Goals as goal

pub loop-place-preserved : goal.loop-place-preserved
loop-place-preserved c =
    let place = c.loop-place.place in
    c.in_ok-push.ensures.items
    ∙ ap₂ (λ used one. used ++ one ∷ []) c.loop-place.invariant c.is_used.ensures
    ∙ sym (map-range_with_len_more (λ place. is_used c.args.model.now (Procedure place)) 0 place place (zero-add place))
