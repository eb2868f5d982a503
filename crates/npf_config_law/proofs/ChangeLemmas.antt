-- What changes make of configurations that are one is one.
use Rattle.std.proofs.Common.{◌≡◌, ◌+◌, ℕ, Some, Result, Ok, Err, List, ◌∷◌, ◌++◌, nat_le, take, drop, slice_get, refl, sym, ap, subst, ◌∙◌}
use Rattle.std.{specs.List.AllZip, proofs.lemmas.Option.same_Some}
use Rattle.npf_types.specs.declared.{limits.TheConstants.MAX_TABLE_ENTRIES, name.Name.Name, prefix.Prefix.Prefix}
use Rattle.npf_types.specs.Stages.{Stage, ◌andthen◌, asks_that, gives, goes_on, stops}
use Rattle.npf_faults.specs.declared.fault.Excess.TheVariants.{Entries}
use Rattle.npf_model.specs.{declared.{iface.Iface.Iface, model.Model.Model, table.Kind.{Kind, TheVariants.{Const, Ipset}}}, Configuration.Configuration}
use Rattle.npf_model.specs.{Describes.Tables, Verdict.first_where}
use Rattle.npf_ruleset.proofs.PairLemmas.{zip_each}
use Rattle.npf_config.specs.Tables.{entry_count}
use Rattle.npf_config_changes.specs.{declared.fault.ChangeFault.ChangeFault, Additions.AddsRule}
use Rattle.npf_config_changes.specs.ChangeLaws.{AreOneAnswer, AreToldAlike, HasOneResult, OneAddition, OneFlush, OneRemoval, equal}
use Rattle.npf_config_changes.specs.Changes.{FlushesRules, RemovesRule}
use Rattle.npf_config_changes.specs.Entries.{AddsEntry, AllowsChange, FindsTable, GainsEntry, LosesEntry, RemovesEntry, TableAt, absent, allowed, beginning}
use Rattle.npf_config_changes.specs.{Entries.{found, gained, lost, present, read_only, unknown, with_entries, wrong_kind}, Rulesets.are_one_name}
use Rattle.npf_config_changes.specs.Told.{told_count, too_many}
use Rattle.npf_config_law.{specs.{Answers.AreOne, Entries.{AreOneConfiguration, AreSameEntries}}, proofs.AnswerLemmas.one_behind}
use Rattle.npf_config_law.proofs.EntryLemmas.{same_at, same_count, same_gained, same_lost}

-- both changes make one configuration, or are refused for faults that are told alike
abbrev pub AreOneChange : Result Configuration ChangeFault → Result Configuration ChangeFault → Type 0
AreOneChange = AreOne AreOneConfiguration AreToldAlike

abbrev with_tables : Tables → Configuration → Configuration
with_tables tables config = record config { tables = tables }

abbrev answer_with : Tables → Result Configuration ChangeFault → Result Configuration ChangeFault
answer_with tables (Ok config) = Ok (with_tables tables config)
answer_with tables (Err fault) = Err fault

-- a change that has one answer, whatever tables stand beside it
module _ (Change : Configuration → Stage Configuration ChangeFault)
    (moves : (old : Configuration) (tables : Tables) (result : Result Configuration ChangeFault) → Change old result → Change (with_tables tables old) (answer_with tables result))
    (one_answer : (old : Configuration) (one two : Result Configuration ChangeFault) → Change old one → Change old two → AreOneAnswer one two) where
  keeps : (old next : Configuration) → Change old (Ok next) → next.tables ≡ old.tables
  keeps old next is = ap (λ (config : Configuration). config.tables) (one_answer old (Ok next) (Ok (with_tables old.tables next)) is (moves old old.tables (Ok next) is))

  module _ (old last : Configuration) (same : AreOneConfiguration old last) where
    moved : (result : Result Configuration ChangeFault) → Change old result → Change last (answer_with last.tables result)
    moved result is =
        subst (λ (config : Configuration). Change config (answer_with last.tables result)) (ap (λ (model : Model). record { model = model; tables = last.tables }) same.model)
        (moves old last.tables result is)

    agrees : (one two : Result Configuration ChangeFault) → Change old one → Change last two → AreOneChange one two
    agrees (Ok a) (Ok b) is there =
        let is_same : with_tables last.tables a ≡ b = one_answer last (Ok (with_tables last.tables a)) (Ok b) (moved (Ok a) is) there in
        record {
          model = ap (λ (config : Configuration). config.model) is_same;
          tables = subst (λ (tables : Tables). AllZip AreSameEntries a.tables tables) (ap (λ (config : Configuration). config.tables) is_same)
              (subst (λ (tables : Tables). AllZip AreSameEntries tables last.tables) (sym (keeps old a is)) same.tables);
        }
    agrees (Ok a) (Err g) is there = one_answer last (Ok (with_tables last.tables a)) (Err g) (moved (Ok a) is) there
    agrees (Err f) (Ok b) is there = one_answer last (Err f) (Ok b) (moved (Err f) is) there
    agrees (Err f) (Err g) is there = one_answer last (Err f) (Err g) (moved (Err f) is) there

answer_of : {A : Type 0} (stage : Stage A ChangeFault) → HasOneResult stage → (one two : Result A ChangeFault) → stage one → stage two → AreOneAnswer one two
answer_of stage is (Ok a) (Ok b) one two = let same = is (Ok a) (Ok b) one two in cc
answer_of stage is (Err f) (Err g) one two = let same = is (Err f) (Err g) one two in equal cc
answer_of stage is (Ok a) (Err g) one two = let same = is (Ok a) (Err g) one two in cc
answer_of stage is (Err f) (Ok b) one two = let same = is (Err f) (Ok b) one two in cc

-- changes of rules
module _ (name : Name) where
  -- the configuration with the rule that a text writes
  abbrev pub Adds : List Iface → List ℕ → Configuration → Stage Configuration ChangeFault
  Adds ifaces text old = AddsRule old name ifaces text andthen λ added. gives added.0

  abbrev added_with : Tables → Result (Configuration × ℕ) ChangeFault → Result (Configuration × ℕ) ChangeFault
  added_with tables (Ok added) = Ok (with_tables tables added.0, added.1)
  added_with tables (Err fault) = Err fault

  pair_with : (ifaces : List Iface) (text : List ℕ) (old : Configuration) (tables : Tables) (result : Result (Configuration × ℕ) ChangeFault)
      → AddsRule old name ifaces text result → AddsRule (with_tables tables old) name ifaces text (added_with tables result)
  pair_with ifaces text old tables _ (stops is) = stops is
  pair_with ifaces text old tables _ (goes_on is (stops reads)) = goes_on is (stops reads)
  pair_with ifaces text old tables _ (goes_on is (goes_on reads (stops means))) = goes_on is (goes_on reads (stops means))
  pair_with ifaces text old tables _ (goes_on is (goes_on reads (goes_on means (stops kept)))) = goes_on is (goes_on reads (goes_on means (stops kept)))
  pair_with ifaces text old tables _ (goes_on is (goes_on reads (goes_on means (goes_on kept given)))) =
      goes_on is (goes_on reads (goes_on means (goes_on kept (ap (added_with tables) given))))

  adds_with : (ifaces : List Iface) (text : List ℕ) (old : Configuration) (tables : Tables) (result : Result Configuration ChangeFault) → Adds ifaces text old result
      → Adds ifaces text (with_tables tables old) (answer_with tables result)
  adds_with ifaces text old tables _ (stops {fault = f} is) = stops (pair_with ifaces text old tables (Err f) is)
  adds_with ifaces text old tables _ (goes_on {a = added} is given) = goes_on (pair_with ifaces text old tables (Ok added) is) (ap (answer_with tables) given)

  one_adding : OneAddition → (ifaces : List Iface) (text : List ℕ) (old : Configuration) (one two : Result Configuration ChangeFault) → Adds ifaces text old one
      → Adds ifaces text old two → AreOneAnswer one two
  one_adding once ifaces text old _ _ (stops {fault = f} is) (stops {fault = g} there) = once old name ifaces text (Err f) (Err g) is there
  one_adding once ifaces text old _ _ (stops {fault = f} is) (goes_on {a = b} there _) = absurd (once old name ifaces text (Err f) (Ok b) is there)
  one_adding once ifaces text old _ _ (goes_on {a = a} is _) (stops {fault = g} there) = absurd (once old name ifaces text (Ok a) (Err g) is there)
  one_adding once ifaces text old one two (goes_on {a = a} is given) (goes_on {a = b} there also) =
      let same : a ≡ b = once old name ifaces text (Ok a) (Ok b) is there in
      answer_of (λ result. result ≡ Ok b.0) (λ one two here last. here ∙ sym last) one two (given ∙ ap (λ (added : Configuration × ℕ). Ok added.0) same) also

  removes_with : (id : ℕ) (old : Configuration) (tables : Tables) (result : Result Configuration ChangeFault) → RemovesRule old name id result
      → RemovesRule (with_tables tables old) name id (answer_with tables result)
  removes_with id old tables _ (stops is) = stops is
  removes_with id old tables _ (goes_on is (stops asks)) = goes_on is (stops asks)
  removes_with id old tables _ (goes_on is (goes_on asks given)) = goes_on is (goes_on asks (ap (answer_with tables) given))

  flushes_with : (old : Configuration) (tables : Tables) (result : Result Configuration ChangeFault) → FlushesRules old name result
      → FlushesRules (with_tables tables old) name (answer_with tables result)
  flushes_with old tables _ (stops is) = stops is
  flushes_with old tables _ (goes_on is given) = goes_on is (ap (answer_with tables) given)

  module _ (old last : Configuration) (same : AreOneConfiguration old last) where
    pub additions_agree : OneAddition → (ifaces : List Iface) (text : List ℕ) (one two : Result Configuration ChangeFault) → Adds ifaces text old one → Adds ifaces text last two
        → AreOneChange one two
    additions_agree once ifaces text = agrees (Adds ifaces text) (adds_with ifaces text) (one_adding once ifaces text) old last same

    pub removals_agree : OneRemoval → (id : ℕ) (one two : Result Configuration ChangeFault) → RemovesRule old name id one → RemovesRule last name id two → AreOneChange one two
    removals_agree once id = agrees (λ config. RemovesRule config name id) (removes_with id) (λ config. answer_of (RemovesRule config name id) (once config name id)) old last same

    pub flushes_agree : OneFlush → (one two : Result Configuration ChangeFault) → FlushesRules old name one → FlushesRules last name two → AreOneChange one two
    flushes_agree once = agrees (λ config. FlushesRules config name) flushes_with (λ config. answer_of (FlushesRules config name) (once config name)) old last same

-- changes of a table's entries

record IsSameTable (one two : TableAt) : Type 0 where
  pub place : one.place ≡ two.place
  pub kind : one.kind ≡ two.kind
  pub entries : AreSameEntries one.entries two.entries

abbrev IsSameUnit : Unit {0} → Unit {0} → Type 0
IsSameUnit one two = one ≡ two

-- a change is allowed, or refused for one fault
one_permission : (kind : Kind) (prefix : Prefix) (one two : Result (Unit {0}) ChangeFault) → AllowsChange kind prefix one → AllowsChange kind prefix two → AreOne IsSameUnit AreToldAlike one two
one_permission kind prefix _ _ (allowed _) (allowed _) = refl
one_permission kind prefix _ _ (allowed may) (read_only is) = may.writable is
one_permission kind prefix _ _ (allowed may) (wrong_kind is not) = not (may.fits is)
one_permission kind prefix _ _ (read_only is) (allowed may) = may.writable is
one_permission kind prefix _ _ (read_only _) (read_only _) = equal refl
one_permission kind prefix _ _ (read_only is) (wrong_kind other _) = let never : Const ≡ Ipset = sym is ∙ other in cc
one_permission kind prefix _ _ (wrong_kind is not) (allowed may) = not (may.fits is)
one_permission kind prefix _ _ (wrong_kind other _) (read_only is) = let never : Const ≡ Ipset = sym is ∙ other in cc
one_permission kind prefix _ _ (wrong_kind _ _) (wrong_kind _ _) = equal refl

module _ (prefix : Prefix) (ps qs : List Prefix) (same : AreSameEntries ps qs) where
  one_gain : (one two : Result (List Prefix) ChangeFault) → GainsEntry ps prefix one → GainsEntry qs prefix two → AreOne AreSameEntries AreToldAlike one two
  one_gain _ _ (gained {new = more} not gains once count) (gained {new = also} not' gains' once' count') = same_gained ps qs same prefix more also gains gains' count count'
  one_gain _ _ (gained not _ _ _) (present is) = not ((same.same prefix).1 is)
  one_gain _ _ (present is) (gained not _ _ _) = not ((same.same prefix).0 is)
  one_gain _ _ (present _) (present _) = equal refl

  one_loss : (one two : Result (List Prefix) ChangeFault) → LosesEntry ps prefix one → LosesEntry qs prefix two → AreOne AreSameEntries AreToldAlike one two
  one_loss _ _ (lost {new = more} is loses once count) (lost {new = also} is' loses' once' count') = same_lost ps qs same prefix more also loses loses' count count'
  one_loss _ _ (lost is _ _ _) (absent not) = not ((same.same prefix).0 is)
  one_loss _ _ (absent not) (lost is _ _ _) = not ((same.same prefix).1 is)
  one_loss _ _ (absent _) (absent _) = equal refl

module _ (kinds : List Kind) (name : Name) (prefix : Prefix) (old last : Configuration) (same : AreOneConfiguration old last) where
  one_table : (one two : Result TableAt ChangeFault) → FindsTable name kinds old one → FindsTable name kinds last two → AreOne IsSameTable AreToldAlike one two
  one_table _ _ (found {table = a} is) (found {table = b} there) =
      let places = ap (λ (model : Model). first_where (λ other. are_one_name other.name name) 0 model.tables) same.model in
      let place : a.place ≡ b.place = same_Some a.place b.place (sym is.first ∙ places ∙ there.first) in
      record {
        place = place;
        kind = same_Some a.kind b.kind (sym is.kind ∙ ap (slice_get kinds) place ∙ there.kind);
        entries = zip_each AreSameEntries old.tables last.tables same.tables a.place a.entries b.entries is.entries (ap (slice_get last.tables) place ∙ there.entries);
      }
  one_table _ _ (found is) (unknown none) =
      let first = is.first in
      let places = ap (λ (model : Model). first_where (λ other. are_one_name other.name name) 0 model.tables) same.model in
      cc
  one_table _ _ (unknown none) (found there) =
      let first = there.first in
      let places = ap (λ (model : Model). first_where (λ other. are_one_name other.name name) 0 model.tables) same.model in
      cc
  one_table _ _ (unknown _) (unknown _) = equal refl

  table_is : (table : TableAt) (config : Configuration) → FindsTable name kinds config (Ok table) → slice_get config.tables table.place ≡ Some table.entries
  table_is table config (found is) = is.entries

  -- the table at this place has these entries
  one_entries : (one two : TableAt) → IsSameTable one two → (ps qs : List Prefix) → AreSameEntries ps qs → AreOneConfiguration (with_entries one.place ps old) (with_entries two.place qs last)
  one_entries one two table ps qs entries = record {
    model = same.model;
    tables = subst (λ (place : ℕ). AllZip AreSameEntries (take one.place old.tables ++ ps ∷ drop (one.place + 1) old.tables) (take place last.tables ++ qs ∷ drop (place + 1) last.tables))
        table.place (same_at one.place old.tables last.tables ps qs same.tables entries);
  }

  abbrev asks : ℕ → Stage (Unit {0}) ChangeFault
  asks count = asks_that (nat_le count MAX_TABLE_ENTRIES) (too_many beginning Entries (told_count count))

  -- as many entries are few in both, or too many in both
  one_kept : (count more : ℕ) (a b : Configuration) → count ≡ more → AreOneConfiguration a b → (one two : Result Configuration ChangeFault) → (asks count andthen λ _. gives a) one
      → (asks more andthen λ _. gives b) two → AreOneChange one two
  one_kept count more a b counts configs _ _ (stops {fault = f} is) (stops {fault = g} there) = let moved = ap asks counts in equal cc
  one_kept count more a b counts configs _ two (stops is) (goes_on there _) = cc
  one_kept count more a b counts configs one _ (goes_on is _) (stops there) = cc
  one_kept count more a b counts configs one two (goes_on _ is) (goes_on _ there) = rw (is, there) configs

  one_given : (a b : Configuration) → AreOneConfiguration a b → (one two : Result Configuration ChangeFault) → one ≡ Ok a → two ≡ Ok b → AreOneChange one two
  one_given a b configs one two is there = rw (is, there) configs

  pub entries_agree_added : (one two : Result Configuration ChangeFault) → AddsEntry kinds old name prefix one → AddsEntry kinds last name prefix two → AreOneChange one two
  entries_agree_added = one_behind IsSameTable AreOneConfiguration AreToldAlike (FindsTable name kinds old) (FindsTable name kinds last) _ _ one_table
      (λ a b _ _ table. one_behind IsSameUnit AreOneConfiguration AreToldAlike (AllowsChange a.kind prefix) (AllowsChange b.kind prefix) _ _
      (λ one two is there. one_permission a.kind prefix one two is (subst (λ (kind : Kind). AllowsChange kind prefix two) (sym table.kind) there))
      (λ _ _ _ _ _. one_behind AreSameEntries AreOneConfiguration AreToldAlike (GainsEntry a.entries prefix) (GainsEntry b.entries prefix) _ _
      (one_gain prefix a.entries b.entries table.entries)
      (λ ps qs _ _ entries. let configs = one_entries a b table ps qs entries in
      one_kept (entry_count (with_entries a.place ps old).tables) (entry_count (with_entries b.place qs last).tables)
      (with_entries a.place ps old) (with_entries b.place qs last) (same_count _ _ configs.tables) configs)))

  pub entries_agree_removed : (one two : Result Configuration ChangeFault) → RemovesEntry kinds old name prefix one → RemovesEntry kinds last name prefix two → AreOneChange one two
  entries_agree_removed = one_behind IsSameTable AreOneConfiguration AreToldAlike (FindsTable name kinds old) (FindsTable name kinds last) _ _ one_table
      (λ a b _ _ table. one_behind IsSameUnit AreOneConfiguration AreToldAlike (AllowsChange a.kind prefix) (AllowsChange b.kind prefix) _ _
      (λ one two is there. one_permission a.kind prefix one two is (subst (λ (kind : Kind). AllowsChange kind prefix two) (sym table.kind) there))
      (λ _ _ _ _ _. one_behind AreSameEntries AreOneConfiguration AreToldAlike (LosesEntry a.entries prefix) (LosesEntry b.entries prefix) _ _
      (one_loss prefix a.entries b.entries table.entries)
      (λ ps qs _ _ entries. one_given (with_entries a.place ps old) (with_entries b.place qs last) (one_entries a b table ps qs entries))))
