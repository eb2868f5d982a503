use Rattle.std.proofs.Common.{◌≡◌, [], ◌∷◌, ap, sym, ◌∙◌, subst, arith}
use Rattle.npf_core.specs.declared.{act.Act.TheVariants.Look, reply.Reply.TheVariants.ToLook}
use Rattle.npf_connections.{proofs.AddLemmas.adds_more, specs.{Adding.Adds, Pass.Pass}}
use Rattle.npf_connections_tests.proofs.sharing.look_once.Goals as goal

pub returns-clause-did : goal.returns-clause-did
returns-clause-did g c =
    let V = g.C.Connections.view in
    let old = V c.args.pass.now in
    let in_stay = V c.enter.new.pass in
    let looked = V c.look-found.new.pass in
    let now = V c.leave.new.pass in
    let entered = c.enter.ensures.view.view in
    let looks = c.look-found.ensures.view.view in
    let left = c.leave.ensures.view.view in
    let number : in_stay.number ≡ old.number = ap (λ (p : Pass _). p.number) entered in
    let joined : in_stay.joined ≡ old.joined = ap (λ (p : Pass _). p.joined) entered in
    let number_on : looked.number ≡ old.number = ap (λ (p : Pass _). p.number) looks ∙ number in
    let joined_on : looked.joined ≡ old.joined = ap (λ (p : Pass _). p.joined) looks ∙ joined in
    let adds = adds_more old in_stay looked.history [] _ number joined c.enter.ensures.adds c.look-found.ensures.adds.adds in
    let all = adds_more old looked now.history _ [] number_on joined_on adds c.leave.ensures.adds in
    let mine : Adds old now.history (record { seat = old.number; act = Look c.args.n c.args.key; reply = ToLook c.look-found.result } ∷ []) =
    subst (λ seat. Adds old now.history (record { seat = seat; act = Look c.args.n c.args.key; reply = ToLook c.look-found.result } ∷ [])) number all in
    let on : now.sweeps ≡ old.sweeps =
    ap (λ (p : Pass _). p.sweeps) left ∙ (ap (λ (p : Pass _). p.sweeps) looks ∙ ap (λ (p : Pass _). p.sweeps) entered) in
    record {
      later = record {
        slots = ap (λ (p : Pass _). p.slots) left ∙ (ap (λ (p : Pass _). p.slots) looks ∙ ap (λ (p : Pass _). p.slots) entered);
        number = ap (λ (p : Pass _). p.number) left ∙ number_on;
        entered = c.leave.ensures.out.out ∙ sym c.requires.out.out;
        places = ap (λ (p : Pass _). p.places) left ∙ (ap (λ (p : Pass _). p.places) looks ∙ ap (λ (p : Pass _). p.places) entered);
        begins = record { rest = mine.rest; goes_on = mine.goes_on };
        sweeps = omega (arith, on);
        epoch = omega (arith, c.enter.ensures.view.epoch, c.look-found.ensures.view.epoch, c.leave.ensures.view.epoch);
      };
      joined = ap (λ (p : Pass _). p.joined) left ∙ joined_on;
      adds = mine;
    }
