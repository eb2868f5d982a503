use Rattle.std.proofs.Common.{◌≡◌, ◌<◌, ◌+◌, ◌∙◌, ℕ, Bool, true, false, cond, Option, Some, List, [], ◌∷◌, length, drop, get_or, bytes_eq, sym, ap, arith}
use Rattle.std.proofs.lemmas.List.{drop_all, drop_more}
use Rattle.npf_types.specs.{declared.interface.IfId.IfId, Name.name_bytes}
use Rattle.npf_model.specs.{Numbering.{is_named, number_of_place}, Verdict.first_where}
use Rattle.npf_model.proofs.iface.number_of_name.Goals as goal

first_step : {X : Type 0} (test : X → Bool) (n i : ℕ) (xs : List X) (x : X) → i < length xs → x ≡ get_or xs i x → (here : Bool) → test x ≡ here →
    first_where test n (drop i xs) ≡ cond here (Some n) (first_where test (n + 1) (drop (i + 1) xs))
first_step test n i xs x within is here e =
    ap (first_where test n) (drop_more xs i x within ∙ ap (λ y. y ∷ drop (i + 1) xs) (sym is)) ∙ ap (λ b. cond b (Some n) (first_where test (n + 1) (drop (i + 1) xs))) e

abbrev id_at : Option ℕ → IfId
id_at place = record { 0 = number_of_place place }

pub returns-then-eq : goal.returns-then-eq
returns-then-eq c =
    let test = is_named c.args.name.now in
    let iface = c.iface-item.result in
    let i = c.loop-iface.iface-index in
    let named : c.eq.result ≡ test iface =
    c.eq.ensures ∙ ap (λ b. bytes_eq b c.as_bytes-in-loop-iface.result.now) c.as_bytes.ensures.value ∙ ap (bytes_eq (name_bytes iface.name)) c.as_bytes-in-loop-iface.ensures.value in
    c.number_of_place.ensures ∙ ap id_at (sym (c.loop-iface.invariant.behind
    ∙ first_step test c.loop-iface.place i c.args.ifaces.now iface c.loop-iface-test.true c.iface-item.is true (sym named ∙ c.if-eq.true)))

pub loop-iface-preserved : goal.loop-iface-preserved
loop-iface-preserved c =
    let test = is_named c.args.name.now in
    let iface = c.iface-item.result in
    let i = c.loop-iface.iface-index in
    let named : c.eq.result ≡ test iface =
    c.eq.ensures ∙ ap (λ b. bytes_eq b c.as_bytes-in-loop-iface.result.now) c.as_bytes.ensures.value ∙ ap (bytes_eq (name_bytes iface.name)) c.as_bytes-in-loop-iface.ensures.value in
    record {
      counted = omega (arith, c.loop-iface.invariant.counted);
      behind = c.loop-iface.invariant.behind
          ∙ first_step test c.loop-iface.place i c.args.ifaces.now iface c.loop-iface-test.true c.iface-item.is false (sym named ∙ c.if-eq.false);
    }

pub returns : goal.returns
returns c =
    let test = is_named c.args.name.now in
    let i = c.loop-iface.iface-index in
    let none : drop i c.args.ifaces.now ≡ [] = drop_all i c.args.ifaces.now c.loop-iface-test.false in
    sym (ap id_at (c.loop-iface.invariant.behind ∙ ap (first_where test c.loop-iface.place) none))
