-- A walk over the flat rules gives the configuration's verdict.
use Rattle.std.proofs.Common.{◌≡◌, ◌≤◌, ℕ, ◌+◌, Bool, true, false, List, [], ◌∷◌, ◌++◌, All, Option, Some, None, length, take, drop}
use Rattle.std.{proofs.Common.{refl, sym, subst, ap, ◌∙◌, arith, suc, slice_get, drop_of_length-le}, specs.List.AllZip}
use Rattle.std.{proofs.lemmas.{List.{length-append, length-drop}, Option.slice_get_within}, specs.{Prelude.if◌then◌else◌, Option.{option_map, option_or}}}
use Rattle.npf_model.specs.{declared.group.Group.Group, Verdict.{all_rules, group_answer, rules_of, verdict}, Configuration.verdict_of}
use Rattle.npf_bpfgen.specs.Premise.{AreBytes}
use Rattle.npf_packet.specs.PacketField.{IsPacketOf}
use Rattle.npf_ruleset.specs.{declared.{config.Config.Config, flat.{FlatGroup.FlatGroup, FlatRule.FlatRule}, packet.PacketView.PacketView}, Binding.is_bound}
use Rattle.npf_ruleset.specs.{Configuration.configuration, Flat.{IsFlatGroup, IsFlatRule}, Packet.{answer_in, flat_answer}, Tables.entries}
use Rattle.npf_ruleset.proofs.{BindingLemmas.bound_group, FinalLemmas.none_final, PairLemmas.{drop_here, zip_behind, zip_front, zip_of}}
use Rattle.std.proofs.lemmas.Slice.Zip.{AllZip-long}
use Rattle.npf_ruleset.proofs.MatchLemmas.{answer_alike}

-- what is left of a walk: the groups from a place on, and their rules
pub record Remains (config : Config) (packet : PacketView) (first index : ℕ) (rules : List FlatRule) : Type 0 where
  pub verdict_is : verdict_of (configuration config) packet.facts.now packet.ifid packet.dir
      ≡ verdict (entries packet.tables.now) packet.facts.now packet.ifid packet.dir first (drop index config.model.groups)
  pub related : AllZip (IsFlatRule config.model.groups) (all_rules (drop index config.model.groups)) rules
  pub room : first + length rules ≡ length config.rules

module _ (config : Config) (packet : PacketView) where
  pub begins : packet.tables.now ≡ config.tables.items → Remains config packet 0 0 config.rules
  begins same = record {
    verdict_is = ap (λ tables. verdict (entries tables) packet.facts.now packet.ifid packet.dir 0 config.model.groups) (sym same);
    related = zip_of (IsFlatRule config.model.groups) (all_rules config.model.groups) config.rules config.flat.rule_count config.flat.each_rule;
    room = (let whole : 0 + length config.rules ≡ length config.rules = omega arith in whole);
  }

  pub ends : (first index : ℕ) (rules : List FlatRule) → Remains config packet first index rules → length config.groups ≤ index
      → None ≡ verdict_of (configuration config) packet.facts.now packet.ifid packet.dir
  ends first index rules left past =
      let none : drop index config.model.groups ≡ [] = drop_of_length-le config.model.groups (let e = config.flat.group_count in omega arith) in
      sym (left.verdict_is ∙ ap (verdict (entries packet.tables.now) packet.facts.now packet.ifid packet.dir first) none)

  module _ (first index : ℕ) (rules : List FlatRule) (left : Remains config packet first index rules) (flat : FlatGroup)
      (is : slice_get config.groups index ≡ Some flat) where
    -- the group there, which is the first of those that are left
    here : (group : Group) × (drop index config.model.groups ≡ group ∷ drop (suc index) config.model.groups) × (slice_get config.model.groups index ≡ Some group)
    here = drop_here config.model.groups index (let within = slice_get_within config.groups index flat is in let e = config.flat.group_count in omega arith)

    stands : IsFlatGroup here.0 flat
    stands = config.flat.each_group index here.0 flat here.2 is

    parts : AllZip (IsFlatRule config.model.groups) (rules_of here.0 ++ all_rules (drop (suc index) config.model.groups)) rules
    parts = subst (λ groups. AllZip (IsFlatRule config.model.groups) (all_rules groups) rules) here.1 left.related

    pub count_fits : flat.count ≤ length rules
    count_fits =
        let len = AllZip-long (IsFlatRule config.model.groups) (rules_of here.0 ++ all_rules (drop (suc index) config.model.groups)) rules parts in
        let sum = length-append (rules_of here.0) (all_rules (drop (suc index) config.model.groups)) in
        let count = stands.count in omega arith

    inside : AllZip (IsFlatRule config.model.groups) (rules_of here.0) (take flat.count rules)
    inside = subst (λ k. AllZip (IsFlatRule config.model.groups) (rules_of here.0) (take k rules)) (sym stands.count)
        (zip_front (IsFlatRule config.model.groups) (rules_of here.0) (all_rules (drop (suc index) config.model.groups)) rules parts)

    pub no_finals : flat.finals ≡ false → All (λ (rule : FlatRule). rule.last ≡ false) (take flat.count rules)
    no_finals none = none_final config.model.groups here.0 (take flat.count rules) inside (sym stands.finals ∙ none)

    behind : AllZip (IsFlatRule config.model.groups) (all_rules (drop (suc index) config.model.groups)) (drop flat.count rules)
    behind = subst (λ k. AllZip (IsFlatRule config.model.groups) (all_rules (drop (suc index) config.model.groups)) (drop k rules)) (sym stands.count)
        (zip_behind (IsFlatRule config.model.groups) (rules_of here.0) (all_rules (drop (suc index) config.model.groups)) rules parts)

    module _ (bytes : AreBytes packet.ip.now) (seen : IsPacketOf packet.ip.now packet.facts.now) where
      -- the group's answer, or else that of those behind it
      divided : verdict_of (configuration config) packet.facts.now packet.ifid packet.dir
          ≡ option_or (option_map (λ k. first + k) (answer_in packet flat (take flat.count rules)))
          (verdict (entries packet.tables.now) packet.facts.now packet.ifid packet.dir (first + flat.count) (drop (suc index) config.model.groups))
      divided =
          left.verdict_is
          ∙ ap (verdict (entries packet.tables.now) packet.facts.now packet.ifid packet.dir first) here.1
          ∙ rw (sym (bound_group here.0.dir here.0.on flat.binding stands.binding packet.ifid packet.dir)) (rw (sym stands.count) (
          ap (λ o. option_or o (verdict (entries packet.tables.now) packet.facts.now packet.ifid packet.dir (first + flat.count) (drop (suc index) config.model.groups)))
          (applied (is_bound flat.binding packet.ifid packet.dir) (group_answer (entries packet.tables.now) packet.facts.now packet.ifid packet.dir first (rules_of here.0))
          (flat_answer packet (take flat.count rules)) (answer_alike packet bytes seen config.model.groups first (rules_of here.0) (take flat.count rules) inside))))
        where
          applied : (b : Bool) (o q : Option ℕ) → o ≡ option_map (λ k. first + k) q → (if b then o else None) ≡ option_map (λ k. first + k) (if b then q else None)
          applied true o q same = same
          applied false o q same = refl

      pub decided : (at : ℕ) → Some at ≡ answer_in packet flat (take flat.count rules) → Some (first + at) ≡ verdict_of (configuration config) packet.facts.now packet.ifid packet.dir
      decided at answer = sym (divided ∙ sym
          (ap (λ o. option_or (option_map (λ k. first + k) o)
          (verdict (entries packet.tables.now) packet.facts.now packet.ifid packet.dir (first + flat.count) (drop (suc index) config.model.groups))) answer))

      pub goes_on : None ≡ answer_in packet flat (take flat.count rules) → Remains config packet (first + flat.count) (index + 1) (drop flat.count rules)
      goes_on answer =
          let next : suc index ≡ index + 1 = omega arith in
          let fits = count_fits in
          let len = length-drop flat.count rules in
          let room = left.room in
          subst (λ k. Remains config packet (first + flat.count) k (drop flat.count rules)) next (record {
            verdict_is = divided ∙ sym
                (ap (λ o. option_or (option_map (λ k. first + k) o)
                (verdict (entries packet.tables.now) packet.facts.now packet.ifid packet.dir (first + flat.count) (drop (suc index) config.model.groups))) answer);
            related = behind;
            room = omega arith;
          })
