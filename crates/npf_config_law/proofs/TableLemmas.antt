-- The tables of a configuration are read in one way, and stop at one fault.
use Rattle.std.proofs.Common.{◌≡◌, ◌≤◌, ◌<◌, ◌+◌, ℕ, Option, Some, None, inl, inr, List, [], ◌∷◌, ◌++◌, length, sym, ap, subst, ◌∙◌, arith}
use Rattle.std.{specs.{Prelude.{IsSomeAnd, ◌⊎◌}, List.AllZip}, proofs.lemmas.{Bool.cases_order, List.Sums.sum_by-cons}}
use Rattle.std.proofs.lemmas.Option.{get_or_from_slice_get, same_Some, slice_get_within}
use Rattle.npf_types.specs.declared.{limits.TheConstants.{MAX_TABLE_ENTRIES, MAX_TEXT_BYTES}, prefix.Prefix.Prefix, span.Span.Span}
use Rattle.npf_faults.specs.declared.fault.{ConfFault.ConfFault, Excess.TheVariants.Entries, Fault.TheVariants.{BadTableFile, TooMany}}
use Rattle.npf_model.specs.{declared.table.{Kind.Kind, TableDecl.TableDecl}, Describes.Tables}
use Rattle.npf_table.specs.TableFile.{AreEntries, IsFirstBadLine, lines}
use Rattle.npf_outside.specs.{declared.files.FileFault.TheVariants.Long, Counts.count_after, Files.{FilesMoment, Has, IsLonger, Tree as FileTree}}
use Rattle.npf_config.specs.{declared.fault.LoadFault.{LoadFault, TheVariants.{Conf, File}}, Reading.{ComesTo, HasUnreadFile}}
use Rattle.npf_config.specs.{Refusal.{HasBadLine, IsPastLimit}, Tables.{AreFirstEntries, AreFirstTables, IsTableText, entry_count, file_place}}
use Rattle.npf_config_law.{specs.Entries.AreSameEntries, proofs.EntryLemmas.{same_count, same_read}}
use Rattle.npf_config_law.proofs.PartLemmas.{Parted, after, before as in_front, here, parted}

-- the first bad line is one
one_bad : (kind : Kind) (all : List (List ℕ)) (n m : ℕ) → IsFirstBadLine kind all n → IsFirstBadLine kind all m → n ≡ m
one_bad kind all n m is there = by (cases_order is.before there.before)
  where
    by : (is.before ≡ there.before) ⊎ ((is.before < there.before) ⊎ (there.before < is.before)) → n ≡ m
    by (inl same) = is.counted ∙ ap (λ (k : ℕ). k + 1) same ∙ sym there.counted
    by (inr (inl less)) = absurd (there.first is.before less is.line is.there is.bad)
    by (inr (inr more)) = absurd (is.first there.before more there.line there.there there.bad)

module _ (tree : FileTree) (contents : Option FileTree) (told : contents ≡ Some tree) where
  file_is : (name text : List ℕ) → Has contents name text → tree name ≡ Some text
  file_is name text has = subst (λ (all : Option FileTree). Has all name text) told has

  -- a table's file is one text
  one_text : (file : Option (List ℕ)) (text other : List ℕ) → IsTableText contents file text → IsTableText contents file other → text ≡ other
  one_text None text other is there = is ∙ sym there
  one_text (Some name) text other is there = same_Some text other (sym (file_is name text is.0) ∙ file_is name other there.0)

  not_longer : (name text : List ℕ) (old new : ℕ) → Has contents name text → length text ≤ MAX_TEXT_BYTES → ¬ IsLonger contents name MAX_TEXT_BYTES old new
  not_longer name text old new has few is =
      let longer : IsSomeAnd (tree name) (λ bytes. MAX_TEXT_BYTES < length bytes) = subst (λ (all : Option FileTree). IsLonger all name MAX_TEXT_BYTES old new) told is in
      let over : MAX_TEXT_BYTES < length text = subst (λ (found : Option (List ℕ)). IsSomeAnd found (λ bytes. MAX_TEXT_BYTES < length bytes)) (file_is name text has) longer in
      omega (arith, over, few)

  entries_same : (decl : TableDecl) (ps qs : List Prefix) → AreFirstEntries contents decl ps → AreFirstEntries contents decl qs → AreSameEntries ps qs
  entries_same decl ps qs is there =
      let text : there.text ≡ is.text = one_text decl.file there.text is.text there.told is.told in
      same_read decl.kind (lines is.text) ps qs is.written (subst (λ (t : List ℕ). AreEntries decl.kind (lines t) qs) text there.written) is.once there.once

  pub tables_same : (decls : List TableDecl) (tables others : Tables) → AllZip (AreFirstEntries contents) decls tables → AllZip (AreFirstEntries contents) decls others
      → AllZip AreSameEntries tables others
  tables_same [] [] [] is there = tt
  tables_same (decl ∷ decls) (ps ∷ tables) (qs ∷ others) is there = (entries_same decl ps qs is.0 there.0, tables_same decls tables others is.1 there.1)
  tables_same [] (ps ∷ tables) others is there = absurd is
  tables_same [] [] (qs ∷ others) is there = absurd there
  tables_same (decl ∷ decls) [] others is there = absurd is
  tables_same (decl ∷ decls) (ps ∷ tables) [] is there = absurd there

  -- what a table that is read has in front of it
  pub record IsReadAmong (front : List TableDecl) (decl : TableDecl) (whole : Tables) : Type 0 where
    pub before : Tables
    pub entries : List Prefix
    pub read : AllZip (AreFirstEntries contents) front before
    pub own : AreFirstEntries contents decl entries
    pub few : entry_count before + length entries ≤ entry_count whole

  more_among : (front : List TableDecl) (first decl : TableDecl) (ps : List Prefix) (whole : Tables) → AreFirstEntries contents first ps → IsReadAmong front decl whole
      → IsReadAmong (first ∷ front) decl (ps ∷ whole)
  more_among front first decl ps whole is among = record {
    before = ps ∷ among.before;
    entries = among.entries;
    read = (is, among.read);
    own = among.own;
    few = (let few = among.few in omega (arith, few, sum_by-cons length ps among.before, sum_by-cons length ps whole));
  }

  read_among : (front behind : List TableDecl) (decl : TableDecl) (whole : Tables) → AllZip (AreFirstEntries contents) (front ++ decl ∷ behind) whole → IsReadAmong front decl whole
  read_among [] behind decl (ps ∷ whole) are = record { before = []; entries = ps; read = tt; own = are.0; few = omega (arith, sum_by-cons length ps whole) }
  read_among [] behind decl [] are = absurd are
  read_among (first ∷ front) behind decl (ps ∷ whole) are = more_among front first decl ps whole are.0 (read_among front behind decl whole are.1)
  read_among (first ∷ front) behind decl [] are = absurd are

module _ (tree : FileTree) (old now : FilesMoment) (told : old.contents ≡ Some tree) where
  -- why reading the tables stops at this one, where these were read before it
  pub data Stops (decl : TableDecl) (tables : Tables) : LoadFault → Type 0 where
    bad : {fault : ConfFault} → HasBadLine old decl fault → Stops decl tables (Conf fault)
    many : {fault : ConfFault} (entries : List Prefix) → AreFirstEntries old.contents decl entries → IsPastLimit (entry_count tables) entries decl fault → Stops decl tables (Conf fault)
    long : {span : Span} {name : List ℕ} → HasUnreadFile old now decl span name Long → Stops decl tables (File span name Long)

  pub record StopsAmong (decls : List TableDecl) (fault : LoadFault) : Type 0 where
    pub decl : TableDecl
    pub tables : Tables
    pub comes : ComesTo old decls decl tables
    pub stops : Stops decl tables fault

  bad_is_none : (decl : TableDecl) (entries : List Prefix) (fault : ConfFault) → AreFirstEntries old.contents decl entries → ¬ HasBadLine old decl fault
  bad_is_none decl entries fault are is =
      let text : is.text ≡ are.text = one_text tree old.contents told decl.file is.text are.text is.told are.told in
      let bad = subst (λ (t : List ℕ). IsFirstBadLine decl.kind (lines t) is.number) text is.bad in
      are.written.none_bad bad.line
      (bad.before, slice_get_within (lines are.text) bad.before bad.line bad.there, get_or_from_slice_get (lines are.text) bad.before bad.line bad.line bad.there) bad.bad

  text_is_short : (decl : TableDecl) (span : Span) (name text : List ℕ) → IsTableText old.contents decl.file text → ¬ HasUnreadFile old now decl span name Long
  text_is_short decl span name text is over =
      let named : IsTableText old.contents (Some name) text = subst (λ (file : Option (List ℕ)). IsTableText old.contents file text) over.named is in
      not_longer tree old.contents told name text old.taken now.taken named.0 named.1 over.unread

  -- a table that is read within the limit stops nothing
  passes : (decl : TableDecl) (tables : Tables) (entries : List Prefix) (fault : LoadFault) → AreFirstEntries old.contents decl entries
      → entry_count tables + length entries ≤ MAX_TABLE_ENTRIES → ¬ Stops decl tables fault
  passes decl tables entries _ are few (bad {fault = fault} is) = bad_is_none decl entries fault are is
  passes decl tables entries _ are few (long {span = span} {name = name} is) = text_is_short decl span name are.text are.told is
  passes decl tables entries _ are few (many others is past) =
      let same = entries_same tree old.contents told decl entries others are is in
      let as_many = same.count in
      let over = past.0 in
      omega (arith, as_many, over, few)

  -- a table stops the reading for one fault
  one_stop : (decl : TableDecl) (tables others : Tables) (one two : LoadFault) → entry_count tables ≡ entry_count others → Stops decl tables one → Stops decl others two → one ≡ two
  one_stop decl tables others _ _ count (bad is) (bad there) =
      let text : there.text ≡ is.text = one_text tree old.contents told decl.file there.text is.text there.told is.told in
      let number : is.number ≡ there.number = one_bad decl.kind (lines is.text) is.number there.number is.bad
      (subst (λ (t : List ℕ). IsFirstBadLine decl.kind (lines t) there.number) text there.bad) in
      ap Conf (is.tells ∙ ap (λ (n : ℕ). record { span = file_place decl; fault = BadTableFile n }) number ∙ sym there.tells)
  one_stop decl tables others _ _ count (bad {fault = fault} is) (many entries are past) = absurd (bad_is_none decl entries fault are is)
  one_stop decl tables others _ _ count (bad is) (long {span = span} {name = name} there) = absurd (text_is_short decl span name is.text is.told there)
  one_stop decl tables others _ _ count (many entries are past) (bad {fault = fault} is) = absurd (bad_is_none decl entries fault are is)
  one_stop decl tables others _ _ count (many entries are past) (many more also over) =
      let same = entries_same tree old.contents told decl entries more are also in
      let sum : count_after (entry_count tables) (length entries) ≡ count_after (entry_count others) (length more) =
      ap (λ (n : ℕ). count_after n (length entries)) count ∙ ap (count_after (entry_count others)) same.count in
      ap Conf (past.1 ∙ ap (λ (n : ℕ). record { span = decl.span; fault = TooMany Entries n }) sum ∙ sym over.1)
  one_stop decl tables others _ _ count (many entries are past) (long {span = span} {name = name} there) = absurd (text_is_short decl span name are.text are.told there)
  one_stop decl tables others _ _ count (long {span = span} {name = name} is) (bad there) = absurd (text_is_short decl span name there.text there.told is)
  one_stop decl tables others _ _ count (long {span = span} {name = name} is) (many entries are past) = absurd (text_is_short decl span name are.text are.told is)
  one_stop decl tables others _ _ count (long {span = p} {name = n} is) (long {span = q} {name = m} there) =
      let name : n ≡ m = same_Some n m (sym is.named ∙ there.named) in
      let place : p ≡ q = is.place ∙ sym there.place in
      ap (λ (span : Span). File span n Long) place ∙ ap (λ (file : List ℕ). File q file Long) name

  -- where all tables were read, none stops
  none_stops : (front behind : List TableDecl) (decl : TableDecl) (tables whole : Tables) (fault : LoadFault) → AreFirstTables old.contents (front ++ decl ∷ behind) whole
      → AllZip (AreFirstEntries old.contents) front tables → ¬ Stops decl tables fault
  none_stops front behind decl tables whole fault are read stops =
      let among = read_among tree old.contents told front behind decl whole are.each in
      let count = same_count tables among.before (tables_same tree old.contents told front tables among.before read among.read) in
      let most = are.few in
      let few = among.few in
      passes decl tables among.entries fault among.own (omega (arith, count, most, few)) stops

  pub read_or_stops : (decls : List TableDecl) (whole : Tables) (fault : LoadFault) → AreFirstTables old.contents decls whole → ¬ StopsAmong decls fault
  read_or_stops decls whole fault are is =
      none_stops is.comes.front is.comes.behind is.decl is.tables whole fault
      (subst (λ (all : List TableDecl). AreFirstTables old.contents all whole) is.comes.are are) is.comes.read.each is.stops

  pub one_stops : (decls : List TableDecl) (one two : LoadFault) → StopsAmong decls one → StopsAmong decls two → one ≡ two
  one_stops decls one two is there =
      by (parted is.comes.front there.comes.front is.comes.behind there.comes.behind is.decl there.decl (sym is.comes.are ∙ there.comes.are))
    where
      by : Parted is.comes.front there.comes.front is.decl there.decl → one ≡ two
      by (here front decl) =
          let read : AllZip (AreFirstEntries old.contents) is.comes.front there.tables =
          subst (λ (all : List TableDecl). AllZip (AreFirstEntries old.contents) all there.tables) (sym front) there.comes.read.each in
          one_stop is.decl is.tables there.tables one two
          (same_count is.tables there.tables (tables_same tree old.contents told is.comes.front is.tables there.tables is.comes.read.each read)) is.stops
          (subst (λ (d : TableDecl). Stops d there.tables two) (sym decl) there.stops)
      by (in_front more front) = absurd (none_stops is.comes.front more is.decl is.tables there.tables one
          (subst (λ (all : List TableDecl). AreFirstTables old.contents all there.tables) front there.comes.read) is.comes.read.each is.stops)
      by (after more front) = absurd (none_stops there.comes.front more there.decl there.tables is.tables two
          (subst (λ (all : List TableDecl). AreFirstTables old.contents all is.tables) front is.comes.read) there.comes.read.each there.stops)
