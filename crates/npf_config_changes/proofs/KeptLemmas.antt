-- Programs that are kept, one part of the rules after another.
use Rattle.std.proofs.Common.{◌≡◌, ◌≤◌, ◌+◌, ◌==◌, ℕ, zero, suc, Bool, true, false, cond, not, Option, Some, List, [], ◌∷◌, ◌++◌, length, drop, filter}
use Rattle.std.{proofs.{Common.{flat_map, map, slice_get, take, refl, sym, ap, subst, ◌∙◌, append-nil, arith}, lemmas.Slice.Zip.AllZip-long}, specs.List.AllZip}
use Rattle.std.{specs.Prelude.if◌then◌else◌, proofs.lemmas.Grind.flat_map-append}
use Rattle.std.proofs.lemmas.{List.{append_assoc, length-append, length-map, map-append, take-map, take_more}, Option.{get_or_from_slice_get, slice_get_within}}
use Rattle.std.proofs.lemmas.List.Sums.{sum_by-append, sum_by-cons}
use Rattle.npf_types.specs.declared.{direction.Dir.Dir, name.Name.Name}
use Rattle.npf_model.specs.{declared.{group.Item.TheVariants.{One, Dynamic}, rule.{OnIf.OnIf, Rule.Rule}}, Verdict.{PlacedRule, rules_at}}
use Rattle.npf_bpf.specs.declared.insn.Insn.{Insn}
use Rattle.npf_ruleset.{specs.{declared.flat.FlatRule.FlatRule, Flat.{instructions, programs_of}}, proofs.PairLemmas.{zip_append, zip_behind, zip_front}}
use Rattle.npf_config_changes.specs.declared.change.RulesChange.{RulesChange, TheVariants.{Added, Removed, Flushed}}
use Rattle.npf_config_changes.specs.Kept.{AddsNone, IsServed, Keeps, Serves, ruleset_change, other_programs, programs_changed}
use Rattle.npf_config_changes.{specs.Rulesets.{are_one_name, item_with_ruleset}, proofs.FindLemmas.left_here}

none_for : (change : RulesChange) (before after : ℕ) → after ≤ before → AddsNone change before after
none_for (Added rule program) before after fewer = tt
none_for (Removed id) before after fewer = fewer
none_for Flushed before after fewer = fewer

none_after : (change : RulesChange) (one two three : ℕ) → AddsNone change one two → AddsNone change two three → AddsNone change one three
none_after (Added rule program) one two three first second = tt
none_after (Removed id) one two three first second = omega (arith, first, second)
none_after Flushed one two three first second = omega (arith, first, second)

-- with as much more on both sides
none_beside : (change : RulesChange) (before after more : ℕ) → AddsNone change before after → AddsNone change (before + more) (after + more)
none_beside (Added rule program) before after more fewer = tt
none_beside (Removed id) before after more fewer = omega (arith, fewer)
none_beside Flushed before after more fewer = omega (arith, fewer)

module _ (change : RulesChange) where
  pub keeps_none : (flats : List FlatRule) (old : List (List Insn)) → Keeps change [] flats flats old old
  keeps_none flats old = record {
    added = [];
    are = sym (append-nil old);
    each = tt;
    fewer = none_for change _ _ (omega arith);
    shorter = none_for change _ _ (omega arith);
  }

  pub keeps_both : (front behind : List PlacedRule) (flats mid left : List FlatRule) (old now new : List (List Insn)) → Keeps change front flats mid old now → Keeps change behind mid left now new
      → Keeps change (front ++ behind) flats left old new
  keeps_both front behind flats mid left old now new one two = record {
    added = one.added ++ two.added;
    are = two.are ∙ ap (λ all. all ++ two.added) one.are ∙ append_assoc old one.added two.added;
    each = zip_append Serves front behind one.added two.added one.each two.each;
    fewer = none_after change _ _ _ one.fewer two.fewer;
    shorter = none_after change _ _ _ one.shorter two.shorter;
  }

  -- what is kept of those in front leaves those behind
  pub keeps_here : (rules : List PlacedRule) (here behind : List FlatRule) (old new : List (List Insn)) → Keeps change rules here [] old new → Keeps change rules (here ++ behind) behind old new
  keeps_here rules here behind old new keeps =
      let count = length-append here behind in
      let sum : instructions (programs_of (here ++ behind)) ≡ instructions (programs_of here) + instructions (programs_of behind) =
      ap instructions (map-append (λ (flat : FlatRule). flat.program) here behind) ∙ sum_by-append length (programs_of here) (programs_of behind) in
      record {
        added = keeps.added;
        are = keeps.are;
        each = keeps.each;
        fewer = subst (λ n. AddsNone change n (length new + length behind)) (let e : length old + length here + length behind ≡ length old + length (here ++ behind) = omega arith in e)
            (subst (λ n. AddsNone change (length old + length here + length behind) n) (let e : length new + 0 + length behind ≡ length new + length behind = omega arith in e)
            (none_beside change (length old + length here) (length new + 0) (length behind) keeps.fewer));
        shorter = subst (λ n. AddsNone change n (instructions new + instructions (programs_of behind)))
            (let e : instructions old + instructions (programs_of here) + instructions (programs_of behind) ≡ instructions old + instructions (programs_of (here ++ behind)) = omega arith in e)
            (subst (λ n. AddsNone change (instructions old + instructions (programs_of here) + instructions (programs_of behind)) n)
            (let e : instructions new + 0 + instructions (programs_of behind) ≡ instructions new + instructions (programs_of behind) = omega arith in e)
            (none_beside change (instructions old + instructions (programs_of here)) (instructions new + 0) (instructions (programs_of behind)) keeps.shorter));
      }

  -- programs that are added of rules here
  pub keeps_added : (rules : List PlacedRule) (here : List FlatRule) (old new added : List (List Insn)) → new ≡ old ++ added → AllZip Serves rules added
      → AddsNone change (length here) (length added) → AddsNone change (instructions (programs_of here)) (instructions added) → Keeps change rules here [] old new
  keeps_added rules here old new added are serve fewer shorter =
      let count = ap length are ∙ length-append old added in
      let sum : instructions new ≡ instructions old + instructions added = ap instructions are ∙ sum_by-append length old added in
      record {
        added = added;
        are = are;
        each = serve;
        fewer = subst (λ n. AddsNone change n (length new + 0)) (let e : length here + length old ≡ length old + length here = omega arith in e)
            (subst (λ n. AddsNone change (length here + length old) n) (let e : length added + length old ≡ length new + 0 = omega arith in e)
            (none_beside change (length here) (length added) (length old) fewer));
        shorter = subst (λ n. AddsNone change n (instructions new + 0))
            (let e : instructions (programs_of here) + instructions old ≡ instructions old + instructions (programs_of here) = omega arith in e)
            (subst (λ n. AddsNone change (instructions (programs_of here) + instructions old) n) (let e : instructions added + instructions old ≡ instructions new + 0 = omega arith in e)
            (none_beside change (instructions (programs_of here)) (instructions added) (instructions old) shorter));
      }

  pub keeps_all : (rules : List PlacedRule) (here : List FlatRule) (old new : List (List Insn)) → new ≡ old ++ programs_of here → AllZip Serves rules (programs_of here)
      → Keeps change rules here [] old new
  keeps_all rules here old new are serve =
      keeps_added rules here old new (programs_of here) are serve
      (none_for change _ _ (let same = length-map here (λ (flat : FlatRule). flat.program) in omega arith)) (none_for change _ _ (omega arith))

-- the rules of a ruleset, bound as it is
module _ (dir : Option Dir) (on : Option OnIf) where
  abbrev placed_in : ℕ × Rule → PlacedRule
  placed_in numbered = record { within_dir = dir; within_on = on; rule = numbered.1 }

  others_step : (id : ℕ) (numbered : ℕ × Rule) (rules : List (ℕ × Rule)) (program : List Insn) (others : List (List Insn)) (same : Bool) → Serves (placed_in numbered) program
      → AllZip Serves (map placed_in (filter (λ one. not (one.0 == id)) rules)) others
      → AllZip Serves (map placed_in (cond (not same) (numbered ∷ filter (λ one. not (one.0 == id)) rules) (filter (λ one. not (one.0 == id)) rules))) (if same then others else program ∷ others)
  others_step id numbered rules program others true serves rest = rest
  others_step id numbered rules program others false serves rest = (serves, rest)

  others_serve : (id : ℕ) (rules : List (ℕ × Rule)) (flats : List FlatRule) → AllZip Serves (map placed_in rules) (programs_of flats)
      → AllZip Serves (map placed_in (filter (λ one. not (one.0 == id)) rules)) (other_programs id rules flats)
  others_serve id [] flats serve = tt
  others_serve id (numbered ∷ rules) [] serve = absurd serve
  others_serve id (numbered ∷ rules) (flat ∷ flats) serve = others_step id numbered rules flat.program (other_programs id rules flats) (numbered.0 == id) serve.0 (others_serve id rules flats serve.1)

  pub changed_serve : (change : RulesChange) → IsServed change → (next_id : ℕ) (rules : List (ℕ × Rule)) (flats : List FlatRule) → AllZip Serves (map placed_in rules) (programs_of flats)
      → AllZip Serves (map placed_in ((ruleset_change change (record { next_id = next_id; rules = rules })).rules)) (programs_changed change rules flats)
  changed_serve (Added rule program) served next_id rules flats serve =
      subst (λ all. AllZip Serves all (programs_of flats ++ program.now ∷ [])) (sym (map-append placed_in rules ((next_id, rule.now) ∷ [])))
      (zip_append Serves (map placed_in rules) (placed_in (next_id, rule.now) ∷ []) (programs_of flats) (program.now ∷ []) serve (served (placed_in (next_id, rule.now)) refl, tt))
  changed_serve (Removed id) served next_id rules flats serve = others_serve id rules flats serve
  changed_serve Flushed served next_id rules flats serve = tt

others_fewer : (id : ℕ) (rules : List (ℕ × Rule)) (flats : List FlatRule) → length (other_programs id rules flats) ≤ length flats
others_fewer id [] flats = omega arith
others_fewer id (numbered ∷ rules) [] = omega arith
others_fewer id (numbered ∷ rules) (flat ∷ flats) = step (numbered.0 == id) (others_fewer id rules flats)
  where
    step : (same : Bool) → length (other_programs id rules flats) ≤ length flats →
        length (if same then other_programs id rules flats else flat.program ∷ other_programs id rules flats) ≤ suc (length flats)
    step true rest = omega arith
    step false rest = omega arith

others_shorter : (id : ℕ) (rules : List (ℕ × Rule)) (flats : List FlatRule) → instructions (other_programs id rules flats) ≤ instructions (programs_of flats)
others_shorter id [] flats = omega arith
others_shorter id (numbered ∷ rules) [] = omega arith
others_shorter id (numbered ∷ rules) (flat ∷ flats) = rw (sum_by-cons length flat.program (programs_of flats)) (step (numbered.0 == id) (others_shorter id rules flats))
  where
    step : (same : Bool) → instructions (other_programs id rules flats) ≤ instructions (programs_of flats)
        → instructions (if same then other_programs id rules flats else flat.program ∷ other_programs id rules flats) ≤ length flat.program + instructions (programs_of flats)
    step true rest = omega arith
    step false rest = rw (sum_by-cons length flat.program (other_programs id rules flats)) (omega arith)

-- a ruleset has as many rules as programs
pub dynamic_len : (own : Name) (dir : Option Dir) (on : Option OnIf) (next_id : ℕ) (rules : List (ℕ × Rule)) (here : List FlatRule)
    → AllZip Serves (rules_at (Dynamic own dir on next_id rules)) (programs_of here) → length rules ≡ length here
dynamic_len own dir on next_id rules here serve =
    let len = AllZip-long Serves (rules_at (Dynamic own dir on next_id rules)) (programs_of here) serve in
    let placed = length-map rules (placed_in dir on) in
    let same = length-map here (λ (flat : FlatRule). flat.program) in
    omega arith

pub changed_fewer : (change : RulesChange) (rules : List (ℕ × Rule)) (flats : List FlatRule) → AddsNone change (length flats) (length (programs_changed change rules flats))
changed_fewer (Added rule program) rules flats = tt
changed_fewer (Removed id) rules flats = others_fewer id rules flats
changed_fewer Flushed rules flats = omega arith

pub changed_shorter : (change : RulesChange) (rules : List (ℕ × Rule)) (flats : List FlatRule) → AddsNone change (instructions (programs_of flats)) (instructions (programs_changed change rules flats))
changed_shorter (Added rule program) rules flats = tt
changed_shorter (Removed id) rules flats = others_shorter id rules flats
changed_shorter Flushed rules flats = omega arith

-- the rules of an item, as it is changed
module _ (change : RulesChange) (name : Name) (here : List FlatRule) (old new : List (List Insn)) where
  pub one_keeps : (rule : Rule) → AllZip Serves (rules_at (One rule)) (programs_of here) → new ≡ old ++ programs_of here
      → Keeps change (rules_at (item_with_ruleset name (ruleset_change change) (One rule))) here [] old new
  one_keeps rule serve are = keeps_all change (rules_at (One rule)) here old new are serve

  module _ (own : Name) (dir : Option Dir) (on : Option OnIf) (next_id : ℕ) (rules : List (ℕ × Rule)) (serve : AllZip Serves (rules_at (Dynamic own dir on next_id rules)) (programs_of here)) where
    pub other_keeps : are_one_name own name ≡ false → new ≡ old ++ programs_of here
        → Keeps change (rules_at (item_with_ruleset name (ruleset_change change) (Dynamic own dir on next_id rules))) here [] old new
    other_keeps differs are = rw differs (keeps_all change (rules_at (Dynamic own dir on next_id rules)) here old new are serve)

    pub named_keeps : IsServed change → are_one_name own name ≡ true → new ≡ old ++ programs_changed change rules here
        → Keeps change (rules_at (item_with_ruleset name (ruleset_change change) (Dynamic own dir on next_id rules))) here [] old new
    named_keeps served same are =
        rw same (keeps_added change _ here old new (programs_changed change rules here) are
        (changed_serve dir on change served next_id rules here serve) (changed_fewer change rules here) (changed_shorter change rules here))

-- one thing after another that has rules
pub rules_left : {X : Type 0} (rules : X → List PlacedRule) (xs : List X) (i : ℕ) (x : X) → slice_get xs i ≡ Some x → flat_map rules (drop i xs) ≡ rules x ++ flat_map rules (drop (i + 1) xs)
rules_left rules xs i x is = ap (flat_map rules) (left_here xs i x is)

module _ {X : Type 0} (rules : X → List PlacedRule) (changed : X → X) (xs : List X) (i : ℕ) (x : X) (is : slice_get xs i ≡ Some x) where
  pub rules_done : flat_map rules (map changed (take (i + 1) xs)) ≡ flat_map rules (map changed (take i xs)) ++ rules (changed x)
  rules_done =
      ap (λ front. flat_map rules (map changed front)) (take_more xs i x (slice_get_within xs i x is) ∙ ap (λ (y : X). take i xs ++ y ∷ []) (get_or_from_slice_get xs i x x is))
      ∙ ap (flat_map rules) (map-append changed (take i xs) (x ∷ []))
      ∙ flat_map-append rules (map changed (take i xs)) (changed x ∷ []) ∙ ap (λ last. flat_map rules (map changed (take i xs)) ++ last) (append-nil (rules (changed x)))

  module _ (change : RulesChange) (flats : List FlatRule) (old now new : List (List Insn)) where
    pub keeps_next : (left behind : List FlatRule) → Keeps change (flat_map rules (map changed (take i xs))) flats left old now → Keeps change (rules (changed x)) left behind now new
        → Keeps change (flat_map rules (map changed (take (i + 1) xs))) flats behind old new
    keeps_next left behind keeps one =
        subst (λ (all : List PlacedRule). Keeps change all flats behind old new) (sym rules_done)
        (keeps_both change (flat_map rules (map changed (take i xs))) (rules (changed x)) flats left behind old now new keeps one)

drop_map : (n : ℕ) (flats : List FlatRule) → drop n (programs_of flats) ≡ programs_of (drop n flats)
drop_map zero flats = refl
drop_map (suc n) [] = refl
drop_map (suc n) (flat ∷ flats) = drop_map n flats

-- flat rules are parted where those of some rules end
module _ (front more : List PlacedRule) (flats : List FlatRule) (serve : AllZip Serves (front ++ more) (programs_of flats)) where
  pub serve_within : length front ≤ length flats
  serve_within =
      let all = AllZip-long Serves (front ++ more) (programs_of flats) serve in
      let parts = length-append front more in
      let same = length-map flats (λ (flat : FlatRule). flat.program) in
      omega arith

  pub serve_front : AllZip Serves front (programs_of (take (length front) flats))
  serve_front =
      subst (AllZip Serves front) (take-map (λ (flat : FlatRule). flat.program) (length front) flats)
      (zip_front Serves front more (programs_of flats) serve)

  pub serve_behind : AllZip Serves more (programs_of (drop (length front) flats))
  serve_behind =
      subst (AllZip Serves more) (drop_map (length front) flats)
      (zip_behind Serves front more (programs_of flats) serve)
