use Rattle.std.proofs.{Common.{◌++◌, ◌∷◌, [], subst, take, arith}, lemmas.List.length_push}
use Rattle.npf_types.specs.Name.{name_bytes}
use Rattle.npf_model.specs.declared.iface.Iface.{Iface}
use Rattle.npf_expand_values.{specs.{Parted.iface_texts, Place.ArePlaces}, proofs.PlaceLemmas.names_more}
use Rattle.npf_expand_values.proofs.iface.places_of.Goals as goal

pub loop-iface-preserved : goal.loop-iface-preserved
loop-iface-preserved c =
    let i = c.loop-iface.iface-index in
    let front = take i (iface_texts c.args.list.now) in
    let text = c.as_bytes.result.now in
    let was = c.loop-iface.invariant in
    let pushed : ArePlaces c.add.new.self (front ++ text ∷ []) = c.in_ok-add.ensures.added front was.named in
    record {
      counted = omega (arith, pushed.counted, length_push front text, was.named.counted, was.counted);
      named = subst (ArePlaces c.add.new.self)
          (names_more (λ (iface : Iface). name_bytes iface.name) c.args.list.now i c.iface-item.result _ text c.loop-iface-test.true c.iface-item.is c.as_bytes.ensures.value) pushed;
    }
