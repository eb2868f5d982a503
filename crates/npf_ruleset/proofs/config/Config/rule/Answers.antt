use Rattle.std.proofs.Common.{◌≡◌, Some, get_or, subst, sym}
use Rattle.npf_ruleset.{specs.Place.{IsPlaceOfRule, placed_at, placed_rule}, proofs.ConfigLemmas.{has_rule, is_placed}}
use Rattle.npf_ruleset.proofs.config.Config.rule.Goals as goal

pub placed_at-requires : goal.placed_at-requires
placed_at-requires c =
    let flat = c.index-as_slice-i.result in
    subst (λ groups. IsPlaceOfRule groups (get_or c.as_slice-2.result.now c.args.i flat).place) (sym c.as_slice.ensures)
    (subst (λ rule. IsPlaceOfRule c.args.self.now.model.groups rule.place) c.index-as_slice-i.is
    (is_placed c.args.self.now c.args.i flat c.requires (subst (λ rules. flat ≡ get_or rules c.args.i flat) c.as_slice-2.ensures c.index-as_slice-i.is)))

pub returns : goal.returns
returns c =
    let flat = c.index-as_slice-i.result in
    has_rule c.args.self.now c.args.i flat c.requires (subst (λ rules. flat ≡ get_or rules c.args.i flat) c.as_slice-2.ensures c.index-as_slice-i.is) (placed_rule c.placed_at.result)
    (subst (λ rule. placed_at c.args.self.now.model.groups rule.place ≡ Some (placed_rule c.placed_at.result)) (sym c.index-as_slice-i.is)
    (subst (λ groups. placed_at groups (get_or c.as_slice-2.result.now c.args.i flat).place ≡ Some (placed_rule c.placed_at.result)) c.as_slice.ensures c.placed_at.ensures))
