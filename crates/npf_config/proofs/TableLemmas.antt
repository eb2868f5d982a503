-- What is read of tables so far, and where reading them stops.
use Rattle.std.proofs.Common.{◌≡◌, ◌≢◌, ◌≤◌, ◌<◌, ◌+◌, ℕ, Option, Some, None, List, [], ◌∷◌, ◌++◌, length, get_or, map, take, drop, refl, sym, ap, subst, ◌∙◌, arith}
use Rattle.std.{specs.{List.{AllPairs, AllZip}, declared.sync.Arc.Arc, Arc.arc_value}, proofs.lemmas.List.{drop_more, map-append, take-append-drop, take_more}}
use Rattle.std.proofs.lemmas.List.Sums.{sum_by_push}
use Rattle.npf_types.specs.declared.limits.TheConstants.{MAX_TABLE_ENTRIES, MAX_TEXT_BYTES}
use Rattle.npf_shelf.proofs.ListLemmas.{AllZip-push_two}
use Rattle.npf_model.specs.declared.table.TableDecl.{TableDecl}
use Rattle.npf_table.specs.{declared.table.Table.Table, Table.{kind_of, prefixes}}
use Rattle.npf_outside.specs.declared.files.FileFault.{FileFault, TheVariants.{Failed, Long, NoMemory}}
use Rattle.npf_outside.specs.Files.{FilesMoment, IsLonger, SameReadFaults, Tree as FileTree}
use Rattle.npf_ruleset.specs.Tables.{entries}
use Rattle.npf_config.specs.{declared.fault.LoadFault.LoadFault, Reading.{ComesTo, IsUnread, OnlyReads}, Refusal.{IsPastLimit, bad_line, too_many}}
use Rattle.npf_config.specs.declared.fault.LoadFault.TheVariants as Load
use Rattle.npf_config.specs.TableSteps.{IsReadTable, StopsAtLimit, StopsAtTable, StopsAtTables}
use Rattle.npf_config.specs.Tables.{AreFirstEntries, AreFirstTables, HaveKinds, IsTableText, declared_kinds, entry_count}

pub no_reads : (moment : FilesMoment) → OnlyReads moment moment
no_reads moment = record {
  contents = refl;
  write_faults = refl;
  read_faults = omega arith;
  read_faults_of = λ name. omega arith;
  taken = omega arith;
}

pub reads_after : (one other last : FilesMoment) → OnlyReads one other → OnlyReads other last → OnlyReads one last
reads_after one other last first second = record {
  contents = second.contents ∙ first.contents;
  write_faults = second.write_faults ∙ first.write_faults;
  read_faults = (let a = first.read_faults in let b = second.read_faults in omega arith);
  read_faults_of = λ name. (let a = first.read_faults_of name in let b = second.read_faults_of name in omega arith);
  taken = (let a = first.taken in let b = second.taken in omega arith);
}

pub faultless_after : (one other last : FilesMoment) → SameReadFaults one other → SameReadFaults other last → SameReadFaults one last
faultless_after one other last first second = record { all = second.all ∙ first.all; each = λ name. second.each name ∙ first.each name }

-- what is told of a table's file now was told before
told_before : (before now : FilesMoment) (file : Option (List ℕ)) (text : List ℕ) → OnlyReads before now → IsTableText now.contents file text → IsTableText before.contents file text
told_before before now file text reads told = subst (λ (contents : Option FileTree). IsTableText contents file text) reads.contents told

longer_before : (contents : Option FileTree) (name : List ℕ) (most first then last : ℕ) → first ≤ then → IsLonger contents name most then last → IsLonger contents name most first last
longer_before None name most first then last rose longer = omega arith
longer_before (Some tree) name most first then last rose longer = longer

pub unread_before : (before now last : FilesMoment) (name : List ℕ) (fault : FileFault) → OnlyReads before now → IsUnread name now last fault → IsUnread name before last fault
unread_before before now last name Failed reads unread =
    let all = reads.read_faults in
    let each = reads.read_faults_of name in
    (omega (arith, unread.0), omega (arith, unread.1))
unread_before before now last name Long reads unread =
    longer_before before.contents name MAX_TEXT_BYTES before.taken now.taken last.taken reads.taken
    (subst (λ (contents : Option FileTree). IsLonger contents name MAX_TEXT_BYTES now.taken last.taken) reads.contents unread)
unread_before before now last name NoMemory reads unread = absurd unread

-- these tables were read of these declarations, with so many entries
pub record ReadSoFar {Z : Type 0} (first now : FilesMoment) (decls : List TableDecl) (tables : List (Arc Table Z)) (count : ℕ) : Type 0 where
  pub read : AreFirstTables first.contents decls (entries tables)
  pub kinds : HaveKinds decls tables
  pub counted : count ≡ entry_count (entries tables)
  pub reads : OnlyReads first now
  pub faultless : SameReadFaults first now

pub none_read : {Z : Type 0} (moment : FilesMoment) → ReadSoFar {Z = Z} moment moment [] [] 0
none_read moment = record {
  read = record { each = tt; few = omega arith };
  kinds = refl;
  counted = refl;
  reads = no_reads moment;
  faultless = record { all = refl; each = λ name. refl };
}

module _ {Z : Type 0} (first now next : FilesMoment) (decls : List TableDecl) (decl : TableDecl) (tables : List (Arc Table Z)) (count : ℕ)
    (so_far : ReadSoFar first now decls tables count) where
  first_entries : (table : Table) → IsReadTable now.contents decl table → AllPairs (λ p q. p ≢ q) (prefixes table) → AreFirstEntries first.contents decl (prefixes table)
  first_entries table is once = record {
    text = is.text;
    told = told_before first now decl.file is.text so_far.reads is.told;
    written = is.read.entries;
    once = once;
  }

  pub one_more : (more : Arc Table Z) (sum : ℕ) → OnlyReads now next → SameReadFaults now next → IsReadTable now.contents decl (arc_value more)
      → AllPairs (λ p q. p ≢ q) (prefixes (arc_value more)) → sum ≡ count + length (prefixes (arc_value more)) → sum ≤ MAX_TABLE_ENTRIES
      → ReadSoFar first next (decls ++ decl ∷ []) (tables ++ more ∷ []) sum
  one_more more sum reads faultless is once counted few =
      let split : entries (tables ++ more ∷ []) ≡ entries tables ++ prefixes (arc_value more) ∷ [] = map-append (λ (table : Arc Table Z). prefixes (arc_value table)) tables (more ∷ []) in
      let total : entry_count (entries (tables ++ more ∷ [])) ≡ entry_count (entries tables) + length (prefixes (arc_value more)) =
      ap entry_count split ∙ sum_by_push length (entries tables) (prefixes (arc_value more)) in
      let was = so_far.counted in
      record {
        read = record {
          each = subst (AllZip (AreFirstEntries first.contents) (decls ++ decl ∷ [])) (sym split)
              (AllZip-push_two (AreFirstEntries first.contents) decls (entries tables) decl (prefixes (arc_value more)) so_far.read.each (first_entries (arc_value more) is once));
          few = omega arith;
        };
        kinds = ap (map kind_of) (map-append arc_value tables (more ∷ [])) ∙ map-append kind_of (map arc_value tables) (arc_value more ∷ [])
            ∙ ap (λ kinds. kinds ++ kind_of (arc_value more) ∷ []) so_far.kinds ∙ ap (λ kind. declared_kinds decls ++ kind ∷ []) is.read.of_kind
            ∙ sym (map-append (λ (decl : TableDecl). decl.kind) decls (decl ∷ []));
        counted = omega arith;
        reads = reads_after first now next so_far.reads reads;
        faultless = faultless_after first now next so_far.faultless faultless;
      }

  module _ (all behind : List TableDecl) (are : all ≡ decls ++ decl ∷ behind) where
    comes : ComesTo first all decl (entries tables)
    comes = record { front = decls; behind = behind; are = are; read = so_far.read }

    pub stops_there : (fault : LoadFault) → StopsAtTable now next decl fault → StopsAtTables first next all fault
    stops_there (Load.Conf fault) stops =
        let bad = stops.0 in (
          bad_line decl (entries tables) comes
              (record { text = bad.text; told = told_before first now decl.file bad.text so_far.reads bad.told; number = bad.number; bad = bad.bad; tells = bad.tells }),
          faultless_after first now next so_far.faultless stops.1,
        )
    stops_there (Load.File span name fault) stops = record {
      decl = decl;
      tables = entries tables;
      comes = comes;
      unread = record { named = stops.named; place = stops.place; unread = unread_before first now next name fault so_far.reads stops.unread };
    }
    stops_there Load.NoMemory stops = tt

    pub past_limit : (table : Table) (fault : LoadFault) → IsReadTable now.contents decl table → AllPairs (λ p q. p ≢ q) (prefixes table) → SameReadFaults now next
        → StopsAtLimit count (prefixes table) decl fault → StopsAtTables first next all fault
    past_limit table (Load.Conf fault) is once faultless past = (
      too_many decl (entries tables) (prefixes table) comes (first_entries table is once) (subst (λ n. IsPastLimit n (prefixes table) decl fault) so_far.counted past),
      faultless_after first now next so_far.faultless faultless,
    )
    past_limit table (Load.File span name fault) is once faultless past = absurd past
    past_limit table Load.NoMemory is once faultless past = absurd past

-- a declaration that is read at a place, with those in front of it and behind it
module _ (decls : List TableDecl) (i : ℕ) (decl : TableDecl) (within : i < length decls) (is : decl ≡ get_or decls i decl) where
  pub front_and_here : take (i + 1) decls ≡ take i decls ++ decl ∷ []
  front_and_here = take_more decls i decl within ∙ ap (λ (d : TableDecl). take i decls ++ d ∷ []) (sym is)

  pub split_here : decls ≡ take i decls ++ decl ∷ drop (i + 1) decls
  split_here =
      let here : drop i decls ≡ decl ∷ drop (i + 1) decls = drop_more decls i decl within ∙ ap (λ (d : TableDecl). d ∷ drop (i + 1) decls) (sym is) in
      sym (take-append-drop i decls) ∙ ap (λ (rest : List TableDecl). take i decls ++ rest) here
