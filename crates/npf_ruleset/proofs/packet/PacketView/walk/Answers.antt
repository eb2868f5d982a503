use Rattle.std.proofs.Common.{◌≡◌, ◌<◌, ◌≤◌, ◌+◌, ℕ, false, Some, List, All, length, refl, slice_get, slice_index_or, sym, subst, ap, ◌∙◌}
use Rattle.std.proofs.lemmas.Option.{slice_get_read}
use Rattle.npf_ruleset.specs.{declared.flat.{FlatGroup.FlatGroup, FlatRule.FlatRule}, Packet.answer_in}
use Rattle.npf_ruleset.proofs.WalkLemmas.{Remains, begins, ends, count_fits, decided, goes_on, no_finals}
use Rattle.npf_ruleset.proofs.packet.PacketView.walk.Goals as goal

-- the group at a place of the list that the loop goes over
at_place : (items groups : List FlatGroup) (index : ℕ) (flat : FlatGroup) → items ≡ groups → index < length items → flat ≡ slice_index_or items index flat → slice_get groups index ≡ Some flat
at_place items groups index flat same within is = subst (λ list. slice_get list index ≡ Some flat) same (slice_get_read items (length items) index flat refl within is)

pub loop-group-init : goal.loop-group-init
loop-group-init c =
    let packet = c.args.self.now in
    subst (Remains c.args.config.now packet 0 0) (sym c.rules-rules.ensures) (begins c.args.config.now packet c.requires.tables)

pub split_at-requires : goal.split_at-requires
split_at-requires c =
    let packet = c.args.self.now in
    count_fits c.args.config.now packet c.loop-group.first c.loop-group.group-index c.loop-group.rules.now c.loop-group.invariant
    c.group-item.result
    (at_place c.groups-group-items.result.now c.args.config.now.groups c.loop-group.group-index c.group-item.result c.groups-group-items.ensures c.loop-group-test.true c.group-item.is)

pub answer_in-requires : goal.answer_in-requires
answer_in-requires c =
    let packet = c.args.self.now in
    subst (λ rules. c.group-item.result.finals ≡ false → All (λ (rule : FlatRule). rule.last ≡ false) rules) (sym c.split_at.ensures.front)
    (no_finals c.args.config.now packet c.loop-group.first c.loop-group.group-index c.loop-group.rules.now c.loop-group.invariant
    c.group-item.result
    (at_place c.groups-group-items.result.now c.args.config.now.groups c.loop-group.group-index c.group-item.result c.groups-group-items.ensures c.loop-group-test.true c.group-item.is))

pub returns-in-Some : goal.returns-in-Some
returns-in-Some c =
    let packet = c.args.self.now in
    let group : FlatGroup = c.group-item.result in
    decided c.args.config.now packet c.loop-group.first c.loop-group.group-index c.loop-group.rules.now c.loop-group.invariant group
    (at_place c.groups-group-items.result.now c.args.config.now.groups c.loop-group.group-index c.group-item.result c.groups-group-items.ensures c.loop-group-test.true c.group-item.is)
    c.requires.bytes c.requires.packet c.in-Some.at
    (sym c.in-Some.is ∙ c.answer_in.ensures.value ∙ ap (answer_in packet group) c.split_at.ensures.front)

pub loop-group-preserved : goal.loop-group-preserved
loop-group-preserved c =
    let packet = c.args.self.now in
    let group : FlatGroup = c.group-item.result in
    subst (Remains c.args.config.now packet (c.loop-group.first + group.count) (c.loop-group.group-index + 1)) (sym c.split_at.ensures.back)
    (goes_on c.args.config.now packet c.loop-group.first c.loop-group.group-index c.loop-group.rules.now c.loop-group.invariant group
    (at_place c.groups-group-items.result.now c.args.config.now.groups c.loop-group.group-index c.group-item.result c.groups-group-items.ensures c.loop-group-test.true c.group-item.is)
    c.requires.bytes c.requires.packet
    (sym c.in_default.is ∙ c.answer_in.ensures.value ∙ ap (answer_in packet group) c.split_at.ensures.front))

pub returns : goal.returns
returns c =
    let packet = c.args.self.now in
    ends c.args.config.now packet c.loop-group.first c.loop-group.group-index c.loop-group.rules.now c.loop-group.invariant
    (subst (λ list. length list ≤ c.loop-group.group-index) c.groups-group-items.ensures c.loop-group-test.false)
