-- Packets that both configurations pass alike.
use Rattle.std.proofs.Common.{◌≡◌, ℕ, ◌+◌, ◌<◌, ◌≤◌, ◌&&◌, Bool, true, false, Option, Some, None, IfSome, is_some, length, slice_get}
use Rattle.std.proofs.Common.{refl, sym, subst, ap, ◌∙◌, inl, inr, arith}
use Rattle.std.proofs.lemmas.Bool.{and_from, and_parts, cases_eq, false≢true}
use Rattle.std.proofs.lemmas.Option.{slice_get_past}
use Rattle.npf_types.specs.declared.{direction.Dir.Dir, facts.Facts.Facts, interface.IfId.IfId}
use Rattle.npf_products.specs.declared.packet.CellPacket.{CellPacket}
use Rattle.npf_reach.specs.declared.packets.Packets.{Packets}
use Rattle.npf_reach.specs.{Kinds.IsPacket, Packets.has_packet}
use Rattle.npf_treatment.specs.declared.rule.RuleEffect.{RuleEffect}
use Rattle.npf_judge.specs.Order.{is_first, meets_entry}
use Rattle.npf_judge.proofs.FirstLemmas.{first_found, some_first}
use Rattle.npf_compare_maps.specs.declared.{comparison.MapComparison.MapComparison, side.RankedConfig.RankedConfig}
use Rattle.npf_compare_maps.specs.MapDifference.{IsPassing, rule_effect_on}
use Rattle.npf_compare_maps.specs.Side.{IsAlikeAmong, IsRanked, IsTreatedAs, config_after, config_before, config_of, entry_effect}

-- ---- the rules of an order, one after the other
-- the rule at this place decides on the packet
abbrev pub is_decided_at : RankedConfig → ℕ → CellPacket → Bool
is_decided_at config at packet = is_first (meets_entry config.tables.now packet.facts packet.ifid packet.dir) config.order.now at

-- no packet on which a rule in front of this place decides is such a one
abbrev pub AreNoneBefore : RankedConfig → (CellPacket → Type 0) → ℕ → Type 0
AreNoneBefore config P at = (k : ℕ) → k < at → (packet : CellPacket) → is_decided_at config k packet ≡ true → ¬ P packet

module _ (config : RankedConfig) (P : CellPacket → Type 0) where
  -- nothing was found
  pub nothing_found : (found : Option CellPacket) → is_some found ≡ false → found ≡ None
  nothing_found None none = refl
  nothing_found (Some packet) none = absurd (false≢true (sym none))

  pub nothing_else : (found : Option CellPacket) → ((packet : CellPacket) → found ≡ Some packet → ⊥) → found ≡ None
  nothing_else None other = refl
  nothing_else (Some packet) other = absurd (other packet refl)

  pub none_before : AreNoneBefore config P 0
  none_before k low = absurd (omega arith)

  pub none_more : (at : ℕ) → AreNoneBefore config P at → ((packet : CellPacket) → is_decided_at config at packet ≡ true → ¬ P packet) → AreNoneBefore config P (at + 1)
  none_more at before here k low packet decided = elim (cases_eq k at) [
    | inl same ↦ here packet (subst (λ n. is_decided_at config n packet ≡ true) same decided)
    | inr other ↦ before k (omega (arith, low, other)) packet decided
  ]

  -- nor is one on which no rule decides
  pub none_at_end : (at : ℕ) → length config.order.now ≤ at → AreNoneBefore config P at
      → ((packet : CellPacket) → is_decided_at config (length config.order.now) packet ≡ true → ¬ P packet) → (packet : CellPacket) → ¬ P packet
  none_at_end at past before behind packet is =
      let first = some_first (meets_entry config.tables.now packet.facts packet.ifid packet.dir) config.order.now in
      elim (cases_eq first.0 (length config.order.now)) [
        | inl last ↦ behind packet (subst (λ n. is_decided_at config n packet ≡ true) last first.2) is
        | inr other ↦ before first.0 (omega (arith, other, first.1, past)) packet first.2 is
      ]

-- what the rule at a place does is done to what it decides on
pub effect_decided : (config : RankedConfig) → IsRanked config → (at : ℕ) (packet : CellPacket) → is_decided_at config at packet ≡ true
    → rule_effect_on (config_of config) packet.facts packet.ifid packet.dir ≡ entry_effect config (slice_get config.order.now at)
effect_decided config ranked at packet decided =
    ranked packet.facts packet.ifid packet.dir
    ∙ ap (entry_effect config) (first_found (meets_entry config.tables.now packet.facts packet.ifid packet.dir) config.order.now at decided)

-- behind the last rule packets are blocked
blocked_behind : (config : RankedConfig) → IsRanked config → (packet : CellPacket) → is_decided_at config (length config.order.now) packet ≡ true
    → ¬ IsPassing (rule_effect_on (config_of config) packet.facts packet.ifid packet.dir)
blocked_behind config ranked packet decided passing =
    subst IsPassing (effect_decided config ranked (length config.order.now) packet decided
    ∙ ap (entry_effect config) (slice_get_past config.order.now (length config.order.now) (omega arith))) passing

-- ---- packets to which the configuration after does this
module _ (config : RankedConfig) (ranked : IsRanked config) (among : Packets) (effect : RuleEffect) where
  pub no_packets_treated : ((facts : Facts) (ifid : IfId) (dir : Dir) → IsPacket facts ifid → has_packet among facts ifid dir ≡ false)
      → (packet : CellPacket) → ¬ IsTreatedAs (config_of config) among effect packet
  no_packets_treated none packet is = false≢true (sym (none packet.facts packet.ifid packet.dir is.possible) ∙ is.has)

  pub otherwise_treated : (at : ℕ) → ¬ entry_effect config (slice_get config.order.now at) ≡ effect → (packet : CellPacket) → is_decided_at config at packet ≡ true
      → ¬ IsTreatedAs (config_of config) among effect packet
  otherwise_treated at other packet decided is = other (sym (effect_decided config ranked at packet decided) ∙ is.treated)

  pub all_asked : IsPassing effect → (at : ℕ) → length config.order.now ≤ at → AreNoneBefore config (IsTreatedAs (config_of config) among effect) at
      → (packet : CellPacket) → ¬ IsTreatedAs (config_of config) among effect packet
  all_asked passing at past before =
      none_at_end config (IsTreatedAs (config_of config) among effect) at past before
      (λ packet decided is. blocked_behind config ranked packet decided (subst IsPassing (sym is.treated) passing))

  module _ (at : ℕ) (left : Packets) (narrowed : (facts : Facts) (ifid : IfId) (dir : Dir) → IsPacket facts ifid
      → has_packet left facts ifid dir ≡ (has_packet among facts ifid dir && is_first (meets_entry config.tables.now facts ifid dir) config.order.now at)) where
    pub none_treated : ((facts : Facts) (ifid : IfId) (dir : Dir) → IsPacket facts ifid → has_packet left facts ifid dir ≡ false)
        → (packet : CellPacket) → is_decided_at config at packet ≡ true → ¬ IsTreatedAs (config_of config) among effect packet
    none_treated none packet decided is =
        false≢true (sym (none packet.facts packet.ifid packet.dir is.possible) ∙ narrowed packet.facts packet.ifid packet.dir is.possible
        ∙ and_from (has_packet among packet.facts packet.ifid packet.dir) (is_decided_at config at packet) is.has decided)

    pub some_treated : entry_effect config (slice_get config.order.now at) ≡ effect → (found : Option CellPacket) → IfSome found (λ packet. IsPacket packet.facts packet.ifid)
        → IfSome found (λ packet. has_packet left packet.facts packet.ifid packet.dir ≡ true) → IfSome found (IsTreatedAs (config_of config) among effect)
    some_treated same None possible has = has
    some_treated same (Some packet) possible has =
        let parts = and_parts (has_packet among packet.facts packet.ifid packet.dir) (is_decided_at config at packet)
        (sym (narrowed packet.facts packet.ifid packet.dir possible) ∙ has) in
        record { possible = possible; has = parts.0; treated = effect_decided config ranked at packet parts.1 ∙ same }

-- ---- packets that both pass alike
module _ (comparison : MapComparison) (ranked : IsRanked comparison.before.config) (among : Packets) where
  abbrev config : RankedConfig
  config = comparison.before.config

  abbrev IsOne : CellPacket → Type 0
  IsOne = IsAlikeAmong (config_before comparison) (config_after comparison) among

  pub no_packets_alike : ((facts : Facts) (ifid : IfId) (dir : Dir) → IsPacket facts ifid → has_packet among facts ifid dir ≡ false) → (packet : CellPacket) → ¬ IsOne packet
  no_packets_alike none packet is = false≢true (sym (none packet.facts packet.ifid packet.dir is.alike.possible) ∙ is.has)

  pub blocked_alike : (at : ℕ) → ¬ IsPassing (entry_effect config (slice_get config.order.now at)) → (packet : CellPacket) → is_decided_at config at packet ≡ true → ¬ IsOne packet
  blocked_alike at blocked packet decided is = blocked (subst IsPassing (effect_decided config ranked at packet decided) is.alike.passes)

  pub all_passed : (at : ℕ) → length config.order.now ≤ at → AreNoneBefore config IsOne at → (packet : CellPacket) → ¬ IsOne packet
  all_passed at past before = none_at_end config IsOne at past before (λ packet decided is. blocked_behind config ranked packet decided is.alike.passes)

  module _ (at : ℕ) (effect : RuleEffect) (left : Packets) (does : effect ≡ entry_effect config (slice_get config.order.now at))
      (narrowed : (facts : Facts) (ifid : IfId) (dir : Dir) → IsPacket facts ifid
      → has_packet left facts ifid dir ≡ (has_packet among facts ifid dir && is_first (meets_entry config.tables.now facts ifid dir) config.order.now at)) where
    pub none_alike : ((packet : CellPacket) → ¬ IsTreatedAs (config_after comparison) left effect packet)
        → (packet : CellPacket) → is_decided_at config at packet ≡ true → ¬ IsOne packet
    none_alike none packet decided is = none packet (record {
      possible = is.alike.possible;
      has = narrowed packet.facts packet.ifid packet.dir is.alike.possible
          ∙ and_from (has_packet among packet.facts packet.ifid packet.dir) (is_decided_at config at packet) is.has decided;
      treated = sym is.alike.alike ∙ effect_decided config ranked at packet decided ∙ sym does;
    })

    pub some_alike : IsPassing effect → (found : Option CellPacket) → IfSome found (IsTreatedAs (config_after comparison) left effect) → IfSome found IsOne
    some_alike passing None treated = treated
    some_alike passing (Some packet) treated =
        let parts = and_parts (has_packet among packet.facts packet.ifid packet.dir) (is_decided_at config at packet)
        (sym (narrowed packet.facts packet.ifid packet.dir treated.possible) ∙ treated.has) in
        let done = effect_decided config ranked at packet parts.1 ∙ sym does in
        record {
          has = parts.0;
          alike = record { possible = treated.possible; passes = subst IsPassing (sym done) passing; alike = done ∙ sym treated.treated };
        }
