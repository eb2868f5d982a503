-- Changes come to one answer: what two results of stages have in common, one stage behind the other.
use Rattle.std.proofs.Common.{◌≡◌, ℕ, Some, Result, Ok, Err, List, length, ◌+◌, nat_le, slice_get, sym, refl, ap, subst, ◌∙◌, arith, if◌then◌else◌}
use Rattle.std.proofs.lemmas.Option.{same_Some}
use Rattle.npf_types.specs.{declared.{limits.TheConstants.MAX_TABLE_ENTRIES, name.Name.Name, prefix.Prefix.Prefix}, Settled.AreSettled}
use Rattle.npf_types.{proofs.StageLemmas.andthen_settled, specs.Stages.{Stage, ◌andthen◌, asks_that, gives, goes_on, stops}}
use Rattle.npf_faults.specs.declared.fault.Excess.TheVariants.{Entries}
use Rattle.npf_model.specs.{declared.table.Kind.{Kind, TheVariants.{Const, Ipset}}, Configuration.Configuration}
use Rattle.npf_config_changes.specs.{declared.fault.ChangeFault.{ChangeFault, TheVariants.UnknownRule}, ChangeLaws.HasOneResult}
use Rattle.npf_config_changes.specs.Changes.{FlushesRules, RemovesRule, found_ruleset, with_ruleset, FindsRuleset}
use Rattle.npf_config_changes.specs.Entries.{AddsEntry, AllowsChange, FindsTable, beginning, GainsEntry, IsTableAt, LosesEntry, RemovesEntry, TableAt, absent}
use Rattle.npf_config_changes.specs.Entries.{allowed, found, gained, lost, present, read_only, unknown, with_entries, wrong_kind}
use Rattle.npf_config_changes.specs.{Rulesets.{Ruleset, has_rule, rulesets_named, with_rule_removed, with_rules_flushed}, Told.{told_count, too_many}}
use Rattle.npf_config_changes.proofs.EntryLemmas.{count_there}

-- stages come to one result where the first does, and the next ones do
pub one_after : {A B F : Type 0} (first : Stage A F) (next : A → Stage B F) → HasOneResult first → ((a : A) → HasOneResult (next a)) → HasOneResult (first andthen next)
one_after first next one_first one_next one two (stops {fault = f} is) (stops {fault = g} other) = let same = one_first (Err f) (Err g) is other in cc
one_after first next one_first one_next one two (stops {fault = f} is) (goes_on {a = b} other _) = let same = one_first (Err f) (Ok b) is other in cc
one_after first next one_first one_next one two (goes_on {a = a} is _) (stops {fault = g} other) = let same = one_first (Ok a) (Err g) is other in cc
one_after {A} first next one_first one_next one two (goes_on {a = a} is then_is) (goes_on {a = b} other then_other) =
    let same_first = one_first (Ok a) (Ok b) is other in
    let same : a ≡ b = cc in
    one_next b one two (subst (λ (x : A). next x one) same then_is) then_other

-- a stage that is told by an equation
pub one_told : {A F : Type 0} (result : Result A F) → HasOneResult (λ other. other ≡ result)
one_told result one two is other = is ∙ sym other

module _ (old : Configuration) (name : Name) where
  abbrev finds : Stage Ruleset ChangeFault
  finds = FindsRuleset name old.model

  pub one_removal : (id : ℕ) → HasOneResult (RemovesRule old name id)
  one_removal id =
      let next = with_ruleset name (with_rule_removed id) old in
      one_after finds _ (one_told (found_ruleset (rulesets_named name old.model)))
      (λ dynamic. one_after (asks_that (has_rule id dynamic) UnknownRule) _ (one_told (if has_rule id dynamic then Ok tt else Err UnknownRule)) (λ _. one_told (Ok next)))

  pub one_flush : HasOneResult (FlushesRules old name)
  one_flush = one_after finds _ (one_told (found_ruleset (rulesets_named name old.model))) (λ _. one_told (Ok (with_ruleset name with_rules_flushed old)))

-- the table of a name is one
module _ (kinds : List Kind) (old : Configuration) (name : Name) where
  one_table : (one two : TableAt) → IsTableAt name kinds old one → IsTableAt name kinds old two → one ≡ two
  one_table one two is other =
      let place : one.place ≡ two.place = same_Some one.place two.place (sym is.first ∙ other.first) in
      let kind : one.kind ≡ two.kind = same_Some one.kind two.kind (sym is.kind ∙ ap (slice_get kinds) place ∙ other.kind) in
      let entries : one.entries ≡ two.entries = same_Some one.entries two.entries (sym is.entries ∙ ap (slice_get old.tables) place ∙ other.entries) in
      ap (λ at. record { place = at; kind = one.kind; entries = one.entries }) place
      ∙ ap (λ (kind : Kind). record { place = two.place; kind = kind; entries = one.entries }) kind
      ∙ ap (λ (all : List Prefix). record { place = two.place; kind = two.kind; entries = all }) entries

  table_found : (table : TableAt) → FindsTable name kinds old (Ok table) → IsTableAt name kinds old table
  table_found table (found is) = is

  table_settled : AreSettled (FindsTable name kinds old) (FindsTable name kinds old)
  table_settled one two (found _) (found _) = tt
  table_settled one two (found is) (unknown none) = let first = is.first in cc
  table_settled one two (unknown none) (found is) = let first = is.first in cc
  table_settled one two (unknown _) (unknown _) = refl

permission_settled : (kind : Kind) (prefix : Prefix) → AreSettled (AllowsChange kind prefix) (AllowsChange kind prefix)
permission_settled kind prefix one two (allowed _) (allowed _) = tt
permission_settled kind prefix one two (allowed may) (read_only is) = may.writable is
permission_settled kind prefix one two (allowed may) (wrong_kind is not) = not (may.fits is)
permission_settled kind prefix one two (read_only is) (allowed may) = may.writable is
permission_settled kind prefix one two (read_only _) (read_only _) = refl
permission_settled kind prefix one two (read_only is) (wrong_kind other _) = let never : Const ≡ Ipset = sym is ∙ other in cc
permission_settled kind prefix one two (wrong_kind is not) (allowed may) = not (may.fits is)
permission_settled kind prefix one two (wrong_kind other _) (read_only is) = let never : Const ≡ Ipset = sym is ∙ other in cc
permission_settled kind prefix one two (wrong_kind _ _) (wrong_kind _ _) = refl

gains_settled : (entries : List Prefix) (prefix : Prefix) → AreSettled (GainsEntry entries prefix) (GainsEntry entries prefix)
gains_settled entries prefix one two (gained _ _ _ _) (gained _ _ _ _) = tt
gains_settled entries prefix one two (gained not _ _ _) (present is) = not is
gains_settled entries prefix one two (present is) (gained not _ _ _) = not is
gains_settled entries prefix one two (present _) (present _) = refl

loses_settled : (entries : List Prefix) (prefix : Prefix) → AreSettled (LosesEntry entries prefix) (LosesEntry entries prefix)
loses_settled entries prefix one two (lost _ _ _ _) (lost _ _ _ _) = tt
loses_settled entries prefix one two (lost is _ _ _) (absent not) = not is
loses_settled entries prefix one two (absent not) (lost is _ _ _) = not is
loses_settled entries prefix one two (absent _) (absent _) = refl

gained_one : (entries new : List Prefix) (prefix : Prefix) → GainsEntry entries prefix (Ok new) → length new ≡ length entries + 1
gained_one entries new prefix (gained _ _ _ count) = count

abbrev asks : ℕ → Stage (Unit {0}) ChangeFault
asks count = asks_that (nat_le count MAX_TABLE_ENTRIES) (too_many beginning Entries (told_count count))

-- as many entries are few in both, or too many in both
kept_settled : (count more : ℕ) (a b : Configuration) → count ≡ more → AreSettled (asks count andthen λ _. gives a) (asks more andthen λ _. gives b)
kept_settled count more a b same one two (stops is) (stops there) = cc
kept_settled count more a b same one two (stops is) (goes_on there _) = cc
kept_settled count more a b same one two (goes_on is _) (stops there) = cc
kept_settled count more a b same one two (goes_on _ is) (goes_on _ there) = rw (is, there) tt

given_settled : (a b : Configuration) → AreSettled {F = ChangeFault} (gives a) (gives b)
given_settled a b one two is there = rw (is, there) tt

module _ (kinds : List Kind) (old : Configuration) (name : Name) (prefix : Prefix) where
  -- what is made of a table that may be changed settles the change
  changed : (change : TableAt → Stage Configuration ChangeFault)
      → ((table : TableAt) → slice_get old.tables table.place ≡ Some table.entries → AreSettled (change table) (change table))
      → AreSettled (FindsTable name kinds old andthen λ table. AllowsChange table.kind prefix andthen λ _. change table)
      (FindsTable name kinds old andthen λ table. AllowsChange table.kind prefix andthen λ _. change table)
  changed change settled = andthen_settled (FindsTable name kinds old) _ (table_settled kinds old name) (λ table other is there.
      let found = table_found kinds old name table is in
      subst (λ (other : TableAt). AreSettled (AllowsChange table.kind prefix andthen λ _. change table) (AllowsChange other.kind prefix andthen λ _. change other))
      (one_table kinds old name table other found (table_found kinds old name other there))
      (andthen_settled (AllowsChange table.kind prefix) _ (permission_settled table.kind prefix) (λ _ _ _ _. settled table found.entries)))

  pub settled_addition : AreSettled (AddsEntry kinds old name prefix) (AddsEntry kinds old name prefix)
  settled_addition = changed _ (λ table there. andthen_settled (GainsEntry table.entries prefix) _ (gains_settled table.entries prefix)
      (λ one other is also. kept_settled _ _ _ _ (omega (
        arith,
        gained_one table.entries one prefix is,
        gained_one table.entries other prefix also,
        count_there old.tables table.place table.entries one there,
        count_there old.tables table.place table.entries other there,
      ))))

  pub settled_removal : AreSettled (RemovesEntry kinds old name prefix) (RemovesEntry kinds old name prefix)
  settled_removal = changed _ (λ table _. andthen_settled (LosesEntry table.entries prefix) _ (loses_settled table.entries prefix)
      (λ one other _ _. given_settled (with_entries table.place one old) (with_entries table.place other old)))
