-- Conditions that are put behind others.
use Rattle.std.proofs.Common.{◌≡◌, ℕ, Bool, true, false, ◌&&◌, ◌||◌, ◌==◌, List, [], ◌∷◌, ◌++◌, get_or, map, not, refl, sym, ap, ◌∙◌}
use Rattle.std.{specs.List.{list_all, list_any}, proofs.lemmas.List.Folds.list_all-append}
use Rattle.npf_types.specs.declared.{direction.Dir.Dir, facts.Facts.Facts, interface.IfId.IfId}
use Rattle.npf_boxes.proofs.CellLemmas.{or_none}
use Rattle.npf_model.specs.Describes.{Tables}
use Rattle.npf_products.specs.declared.{condition.Condition.Condition, kind.PacketKind.PacketKind}
use Rattle.npf_products.specs.Adds.{AddsTest, PacketTest}
use Rattle.npf_products.specs.Condition.{Ranges, all_fit, fits, has_number, some_has, ranges_have, table_ranges, tables_in, unless_excluded}
use Rattle.npf_products.specs.Number.{IsPacketOfKind, numbers_of}
use Rattle.npf_products.proofs.RangeLemmas.{singles}

pub and_keep : (x y : Bool) → y ≡ true → (x && y) ≡ x
and_keep true y is = is
and_keep false y is = refl

pub and_assoc : (x y z : Bool) → ((x && y) && z) ≡ (x && (y && z))
and_assoc true y z = refl
and_assoc false y z = refl

-- the tests agree on packets of the kind
abbrev pub Agree : PacketKind → PacketTest → PacketTest → Type 0
Agree kind one other = (tables : Tables) (facts : Facts) (ifid : IfId) (dir : Dir) → IsPacketOfKind kind facts ifid
    → one tables facts ifid dir ≡ other tables facts ifid dir

pub adds_none : (kind : PacketKind) (old : List Condition) (test : PacketTest) → Agree kind test (λ tables facts ifid dir. true) → AddsTest kind old old test
adds_none kind old test each = record {
  same = λ tables facts ifid dir packet.
      let all = all_fit (table_ranges kind.family tables) (numbers_of facts ifid dir) old in
      sym (ap (λ b. all && b) (each tables facts ifid dir packet) ∙ and_keep all true refl);
}

pub adds_as : (kind : PacketKind) (old new : List Condition) (one test : PacketTest) → AddsTest kind old new one → Agree kind one test → AddsTest kind old new test
adds_as kind old new one test adds each = record {
  same = λ tables facts ifid dir packet.
      adds.same tables facts ifid dir packet
      ∙ ap (λ b. all_fit (table_ranges kind.family tables) (numbers_of facts ifid dir) old && b) (each tables facts ifid dir packet);
}

pub adds_then : (kind : PacketKind) (old middle new : List Condition) (one two test : PacketTest) → AddsTest kind old middle one → AddsTest kind middle new two
    → Agree kind (λ tables facts ifid dir. one tables facts ifid dir && two tables facts ifid dir) test → AddsTest kind old new test
adds_then kind old middle new one two test first second each = record {
  same = λ tables facts ifid dir packet.
      let all = all_fit (table_ranges kind.family tables) (numbers_of facts ifid dir) old in
      second.same tables facts ifid dir packet
      ∙ ap (λ b. b && two tables facts ifid dir) (first.same tables facts ifid dir packet)
      ∙ and_assoc all (one tables facts ifid dir) (two tables facts ifid dir)
      ∙ ap (λ b. all && b) (each tables facts ifid dir packet);
}

pub adds_one : (kind : PacketKind) (old new : List Condition) (condition : Condition) (test : PacketTest) → new ≡ old ++ condition ∷ []
    → Agree kind (λ tables facts ifid dir. fits (table_ranges kind.family tables) (numbers_of facts ifid dir) condition) test
    → AddsTest kind old new test
adds_one kind old new condition test is each = record {
  same = λ tables facts ifid dir packet.
      let fit : Condition → Bool = fits (table_ranges kind.family tables) (numbers_of facts ifid dir) in
      ap (list_all fit) is
      ∙ list_all-append fit old (condition ∷ [])
      ∙ ap (λ b. list_all fit old && b) (and_keep (fit condition) true refl ∙ each tables facts ifid dir packet);
}

-- a condition that names no table
pub fits_ranges : (tables : List Ranges) (numbers : List ℕ) (condition : Condition) → condition.excluded ≡ false → condition.tables.items ≡ []
    → fits tables numbers condition ≡ has_number condition.ranges.items (get_or numbers condition.dimension 0)
fits_ranges tables numbers condition included none =
    let n = get_or numbers condition.dimension 0 in
    let has = has_number condition.ranges.items n in
    ap (λ e. unless_excluded e (some_has (tables_in condition.dimension tables) condition n)) included
    ∙ ap (λ listed. has || list_any (ranges_have (tables_in condition.dimension tables) n) listed) none
    ∙ or_none has false refl

pub adds_and : (kind : PacketKind) (old middle new : List Condition) (one two : PacketTest) → AddsTest kind old middle one → AddsTest kind middle new two
    → AddsTest kind old new (λ tables facts ifid dir. one tables facts ifid dir && two tables facts ifid dir)
adds_and kind old middle new one two first second = adds_then kind old middle new one two _ first second (λ tables facts ifid dir packet. refl)

one_excluded : (tables : List Ranges) (numbers known : List ℕ) (condition : Condition) → condition.excluded ≡ true → condition.tables.items ≡ []
    → condition.dimension ≡ 3 → condition.ranges.items ≡ map (λ n. (n, n)) known
    → all_fit tables numbers (condition ∷ []) ≡ not (list_any (λ k. k == get_or numbers 3 0) known)
one_excluded tables numbers known condition excluded none dimension ranges =
    let n = get_or numbers condition.dimension 0 in
    let has = has_number condition.ranges.items n in
    and_keep _ true refl
    ∙ ap (λ e. unless_excluded e (some_has (tables_in condition.dimension tables) condition n)) excluded
    ∙ ap (λ listed. not (has || list_any (ranges_have (tables_in condition.dimension tables) n) listed)) none
    ∙ ap not (or_none has false refl ∙ ap (λ r. has_number r n) ranges ∙ singles known n)
    ∙ ap (λ d. not (list_any (λ k. k == get_or numbers d 0) known)) dimension

pub listed_excluded : (tables : List Ranges) (numbers known : List ℕ) (list : List Condition) (condition : Condition) → list ≡ condition ∷ []
    → condition.excluded ≡ true → condition.tables.items ≡ [] → condition.dimension ≡ 3 → condition.ranges.items ≡ map (λ n. (n, n)) known
    → all_fit tables numbers list ≡ not (list_any (λ k. k == get_or numbers 3 0) known)
listed_excluded tables numbers known list condition is excluded none dimension ranges =
    ap (all_fit tables numbers) is ∙ one_excluded tables numbers known condition excluded none dimension ranges
