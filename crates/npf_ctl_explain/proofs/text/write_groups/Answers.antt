use Rattle.std.proofs.Common.{◌≡◌, ◌∙◌, ◌<◌, ◌++◌, ◌+◌, ℕ, List, Some, length, map, get_or, slice_get, refl, sym, ap, ap₂, arith}
use Rattle.std.proofs.lemmas.Option.{slice_get_read}
use Rattle.npf_model.specs.declared.group.Group.{Group}
use Rattle.npf_precedence.specs.Entry.{ordered_rule}
use Rattle.npf_ctl_explain.specs.{Beside.beside, Text.{group_text, nth_group_text}}
use Rattle.npf_ctl_explain.proofs.{BesideLemmas.{each_more, got}, GroupLemmas.{few_front, group_beside, rules_more}}
use Rattle.npf_ctl_explain.proofs.text.write_groups.Goals as goal

pub rules_of-requires : goal.rules_of-requires
rules_of-requires c =
    let few = few_front c.args.model.now.groups c.loop-at.at in
    let count = c.loop-at.invariant.count in
    let most = c.requires in
    omega arith

pub overflow_add-first : goal.overflow_add-first
overflow_add-first c =
    let groups = c.args.model.now.groups in
    let at = c.loop-at.at in
    let group = c.group-item.result in
    let low : at < length groups = omega (arith, c.loop-at-test.true, ap length c.as_slice-group-items.ensures) in
    let is : group ≡ get_or groups at group = c.group-item.is ∙ ap (λ (gs : List Group). get_or gs at group) c.as_slice-group-items.ensures in
    let more = rules_more groups at c.loop-at.first group c.in_ok-rules.rules.items low is c.loop-at.invariant.count c.in_ok-rules.ensures in
    let few = few_front groups (at + 1) in
    let most = c.requires in
    let len : c.len-first.result ≡ length c.in_ok-rules.rules.items = cc (c.len-first.ensures, c.in_ok-rules.rules.ok.0) in
    omega arith

pub loop-at-preserved : goal.loop-at-preserved
loop-at-preserved c =
    let model = c.args.model.now in
    let groups = model.groups in
    let told = c.args.told.now in
    let at = c.loop-at.at in
    let into = c.loop-at.into.items in
    let group = c.group-item.result in
    let rules = c.in_ok-rules.rules.items in
    let low : at < length groups = omega (arith, c.loop-at-test.true, ap length c.as_slice-group-items.ensures) in
    let is : group ≡ get_or groups at group = c.group-item.is ∙ ap (λ (gs : List Group). get_or gs at group) c.as_slice-group-items.ensures in
    let len : c.len-first.result ≡ length rules = cc (c.len-first.ensures, c.in_ok-rules.rules.ok.0) in
    let own = ap (map ordered_rule) c.as_slice.ensures.value ∙ c.in_ok-rules.ensures in
    let here = group_beside model at c.loop-at.first _ group _ c.loop-at.invariant.count own
    ∙ ap₂ (λ x y. beside (nth_group_text model at) x y) (sym (slice_get_read groups (length groups) at group refl low is))
    (got told at c.get.result c.get.ensures.lookup.1 c.get.ensures.lookup.3) in
    record {
      so_far = each_more (λ k. beside (nth_group_text model k) (slice_get groups k) (slice_get told k)) c.args.into.now.items into _ at c.loop-at.invariant.so_far
          (c.in_ok-write_told_group.ensures ∙ ap (λ text. into ++ text) here);
      count = ap (λ n. c.loop-at.first + n) len ∙ rules_more groups at c.loop-at.first group rules low is c.loop-at.invariant.count c.in_ok-rules.ensures;
    }
