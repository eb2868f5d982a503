use Rattle.std.proofs.Common.{◌≡◌, ◌<◌, ◌++◌, ◌∷◌, [], Ok, length, get_or, sym, subst, ap, ◌∙◌, arith}
use Rattle.std.specs.Prelude.{All}
use Rattle.std.proofs.lemmas.List.Elements.{All-get_or, All-push}
use Rattle.npf_reach.specs.declared.part.KindPart.{KindPart}
use Rattle.npf_reach.specs.Kinds.{IsKindOf}
use Rattle.npf_reach.specs.Packets.{parts_have}
use Rattle.npf_reach.proofs.PacketsLemmas.{narrowed_more, narrowed_none}
use Rattle.npf_reach.proofs.packets.Packets.narrow.Goals as goal
use Rattle.npf_reach.proofs.packets.Packets.narrow.Goals.{in-Some+in_ok-push, in_default}

pub loop-part-preserved : goal.loop-part-preserved
loop-part-preserved c =
    let tables = c.args.self.now.tables.now in
    let products = c.args.self.now.products.now in
    let old = c.args.self.now.parts.items in
    let i = c.loop-part.part-index in
    let part = c.part-item.result in
    let parts = c.loop-part.parts.items in
    let inv = c.loop-part.invariant in
    let P : KindPart → Type 0 = λ it. IsKindOf tables products it.cells.now in
    let xs_is = c.deref-part-items.ensures.value in
    let low : i < length old = omega (arith, c.loop-part-test.true, ap length xs_is) in
    let is : part ≡ get_or old i part = c.part-item.is ∙ ap (λ xs. get_or xs i part) xs_is in
    let own : P part = subst P (sym is) (All-get_or P old i part low c.requires.of.kinds) in
    elim c.match-branch-2.branch [
      | in-Some+in_ok-push w ↦
          let new = w.in-Some.narrowed in
          let items : c.match-branch-2.parts.items ≡ parts ++ new ∷ [] = ap (λ v. v.items) w.parts-is ∙ w.in_ok-push.ensures.items in
          let cells = rw w.in-Some.is at c.in_ok-narrowed.ensures.cells in
          let same = rw w.in-Some.is at c.in_ok-narrowed.ensures.narrowed in
          let here : P new = subst (IsKindOf tables products) (sym cells) own in
          record {
            of = subst (All P) (sym items) (All-push P parts new inv.of here);
            narrowed = λ facts ifid dir packet.
                ap (λ ps. parts_have ps facts ifid dir) items
                ∙ narrowed_more facts ifid dir tables products c.args.decider packet old parts part new i c.requires.known low is own (inv.narrowed facts ifid dir packet)
                (same facts ifid dir packet);
            most = c.in_ok-narrowed.ensures.most ∙ inv.most;
            rises = omega (arith, c.in_ok-narrowed.ensures.rises, inv.rises);
          }
      | in_default w ↦
          record {
            of = subst (All P) (sym (ap (λ v. v.items) w.parts-is)) inv.of;
            narrowed = λ facts ifid dir packet.
                ap (λ v. parts_have v.items facts ifid dir) w.parts-is
                ∙ narrowed_none facts ifid dir tables products c.args.decider packet old parts part i c.requires.known low is own (inv.narrowed facts ifid dir packet)
                (c.in_ok-narrowed.ensures.none (ap Ok w.in_default.is) facts ifid dir packet);
            most = c.in_ok-narrowed.ensures.most ∙ inv.most;
            rises = omega (arith, c.in_ok-narrowed.ensures.rises, inv.rises);
          }
    ]
