use Rattle.std.proofs.{Common.{rules, ◌≡◌, ◌+◌, ◌++◌, ◌∙◌, List, [], ◌∷◌, take, ap, sym, subst, arith}, lemmas.List.{take_all, take_more}}
use Rattle.std.proofs.lemmas.Slice.Zip.{all_zipped_more}
use Rattle.npf_model.specs.declared.iface.Iface.{Iface}
use Rattle.npf_ctl_output.specs.{declared.crossings.Crossings.Crossings, Crossings.{AreCrossingsOf, IsCrossingsOf}}
use Rattle.npf_ctl_output.proofs.crossings.crossings_of.Goals as goal

pub loop-iface-preserved : goal.loop-iface-preserved
loop-iface-preserved c =
    let list = c.as_slice-list.result.now in
    let made = c.loop-iface.crossings.items in
    let i = c.loop-iface.iface-index in
    let iface = c.iface-item.result in
    let more : take (i + 1) list ≡ take i list ++ iface ∷ [] =
    take_more list i iface (omega arith) ∙ ap (λ (one : Iface). take i list ++ one ∷ []) (sym c.iface-item.is) in
    let next : Crossings = record { into = c.of-into.result; out_of = c.of-out_of.result } in
    let one : IsCrossingsOf iface next = record {
      into = record { name = c.of-into.ensures.name; dir = c.of-into.ensures.dir };
      out_of = record { name = c.of-out_of.ensures.name; dir = c.of-out_of.ensures.dir };
    } in
    rw c.push_reserved.ensures.items (record {
      so_far = subst (λ (ifaces : List Iface). AreCrossingsOf ifaces (made ++ next ∷ [])) (sym more)
          (all_zipped_more IsCrossingsOf (take i list) made iface next c.loop-iface.invariant.so_far one);
      room = search rules;
    })

pub returns : goal.returns
returns c =
    let list = c.as_slice-list.result.now in
    let whole = take_all c.loop-iface.iface-index list (omega arith) ∙ c.as_slice-list.ensures in
    subst (λ (ifaces : List Iface). AreCrossingsOf ifaces c.loop-iface.crossings.items) whole c.loop-iface.invariant.so_far
