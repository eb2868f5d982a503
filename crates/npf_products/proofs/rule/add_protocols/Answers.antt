use Rattle.std.proofs.Common.{◌≡◌, ◌≢◌, ◌∙◌, Some, None, length, sym}
use Rattle.std.proofs.lemmas.Bool.{eq-eqb, false≢true}
use Rattle.std.proofs.lemmas.Result.{on_ok_weaker}
use Rattle.npf_products.specs.Kind.{kind_protocol}
use Rattle.npf_products.proofs.AddsLemmas.{adds_as}
use Rattle.npf_products.proofs.AgreeLemmas.{protocol_known, protocol_unknown}
use Rattle.npf_products.proofs.rule.add_protocols.Goals as goal

pub returns-in-Some : goal.returns-in-Some
returns-in-Some c =
    let kind = c.args.kind in
    let some : length c.args.protos.now ≢ 0 = λ none. false≢true (sym c.if-is_empty.false ∙ c.is_empty.ensures ∙ eq-eqb (length c.args.protos.now) 0 none) in
    let known : kind_protocol kind.family kind.carried ≡ Some c.in-Some.protocol = sym c.protocol.ensures ∙ c.in-Some.is in
    on_ok_weaker _ (λ adds. adds_as kind _ _ _ _ (adds kind) (λ tables facts ifid dir packet.
    c.lists_protocol.ensures ∙ protocol_known kind c.args.protos.now c.in-Some.protocol known some tables facts ifid dir packet)) c.add_test.ensures

pub returns-in-None : goal.returns-in-None
returns-in-None c =
    let kind = c.args.kind in
    let some : length c.args.protos.now ≢ 0 = λ none. false≢true (sym c.if-is_empty.false ∙ c.is_empty.ensures ∙ eq-eqb (length c.args.protos.now) 0 none) in
    let unknown : kind_protocol kind.family kind.carried ≡ None = sym c.protocol.ensures ∙ c.in-None.is in
    on_ok_weaker _ (λ adds. adds_as kind _ _ _ _ (adds kind) (protocol_unknown kind c.args.protos.now unknown some)) c.add_listed.ensures
