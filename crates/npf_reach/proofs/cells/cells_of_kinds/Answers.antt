use Rattle.std.proofs.Common.{◌≡◌, List, [], ◌∷◌, ◌++◌, get_or, map, take, sym, subst, ap, ◌∙◌, arith}
use Rattle.std.specs.Prelude.{All}
use Rattle.std.proofs.lemmas.List.{map-append, take_more, Elements.{All-push}}
use Rattle.npf_products.specs.declared.kind.PacketKind.{PacketKind}
use Rattle.npf_reach.specs.declared.kind_cells.KindCells.{KindCells}
use Rattle.npf_reach.specs.Kinds.{IsKindOf, cells_kind}
use Rattle.npf_reach.proofs.cells.cells_of_kinds.Goals as goal

pub loop-kind-preserved : goal.loop-kind-preserved
loop-kind-preserved c =
    let kinds = c.args.kinds.now in
    let i = c.loop-kind.kind-index in
    let cells = c.loop-kind.cells.items in
    let one = c.in_ok-kind_cells.field-0 in
    let inv = c.loop-kind.invariant in
    let P : KindCells → _ = IsKindOf c.args.tables.now c.args.products.now in
    record {
      each = subst (All P) (sym c.in_ok-push.ensures.items) (All-push P cells one inv.each c.in_ok-kind_cells.ensures.of);
      kinds =
          ap (map cells_kind) c.in_ok-push.ensures.items ∙ map-append cells_kind cells (one ∷ [])
          ∙ ap (λ (ks : List PacketKind). ks ++ cells_kind one ∷ []) inv.kinds
          ∙ ap (λ (k : PacketKind). take i kinds ++ k ∷ []) c.in_ok-kind_cells.ensures.kind
          ∙ sym (take_more kinds i _ c.loop-kind-test.true);
      most = c.in_ok-kind_cells.ensures.most ∙ inv.most;
      rises = omega (arith, c.in_ok-kind_cells.ensures.rises, inv.rises);
    }
