-- Rules that are compiled one after another, and what is laid out of them.
use Rattle.std.proofs.Common.{◌≡◌, ◌<◌, ◌≤◌, ℕ, suc, ◌+◌, List, [], ◌∷◌, ◌++◌, Some, Result, Ok, Err, IfErr, IsErrAnd, All, length, take, drop, slice_get, refl, sym, subst, ap, ◌∙◌, inl, inr, arith}
use Rattle.std.{proofs.lemmas.{Slice.Zip.AllZip-long, Bool.Decides.leb_tells, List.{append_assoc, length-append, length-map, map-append}}, specs.List.AllZip}
use Rattle.std.proofs.lemmas.{List.{Elements.All-push, Sums.sum_by-cons}, Option.{get_or_from_slice_get, slice_get_within}}
use Rattle.npf_model.specs.{declared.group.Group.Group, Verdict.{PlacedRule, all_rules}}
use Rattle.npf_bpf.specs.declared.insn.Insn.{Insn}
use Rattle.npf_bpfgen.specs.{declared.fault.GenFault.GenFault, Program.RefusesRule, ProgramLength.program_length}
use Rattle.npf_bpfgen.specs.declared.fault.GenFault.TheVariants as Gen
use Rattle.npf_ruleset.specs.declared.{flat.FlatRule.FlatRule, place.RulePlace.RulePlace}
use Rattle.npf_ruleset.specs.{Flat.{IsCompiled, IsFlatRule, instructions, instructions_of, programs_of}, Layout.{ArePlacesOf, StandsAt, fault_there}}
use Rattle.npf_ruleset.{specs.{Place.{IsPlaceOfRule, placed_at}, Refusal.{AreProgramsOf, IsLight, RefusesAllRules}}, proofs.LayoutLemmas.{around, up_to}}
use Rattle.npf_ruleset.proofs.PairLemmas.{drop_here, zip_append, zip_each}

-- a fault that is handed on
pub passed : {T E : Type 0} (result : Result T E) (fault : E) (P : E → Type 0) → IsErrAnd result (λ e. e ≡ fault) → P fault → IfErr result P
passed (Ok value) fault P is holds = absurd is
passed (Err e) fault P is holds = subst P (sym is) holds

pub all_at : {X : Type 0} (P : X → Type 0) (xs : List X) (n : ℕ) (x : X) → All P xs → slice_get xs n ≡ Some x → P x
all_at P xs n x all at = subst P (get_or_from_slice_get xs n x x at) (all n x (slice_get_within xs n x at))

-- what isn't over the limit is within it
pub fits : (weight : ℕ) → (4096 < weight → ⊥) → weight ≤ 4096
fits weight light = elim (leb_tells weight 4096) [
  | inl is ↦ is.1
  | inr is ↦ absurd (light is.1)
]

-- the programs of rules have as many instructions together as the rules say
counted_pairs : (rules : List PlacedRule) (programs : List (List Insn)) → AllZip (λ (placed : PlacedRule). IsCompiled placed.rule) rules programs
    → instructions programs ≡ instructions_of rules
counted_pairs [] [] are = refl
counted_pairs (placed ∷ rules) (program ∷ programs) are =
    omega (
      arith,
      are.0.count,
      counted_pairs rules programs are.1,
      sum_by-cons length program programs,
      sum_by-cons (λ (placed : PlacedRule). program_length placed.rule) placed rules,
    )
counted_pairs [] (program ∷ programs) are = absurd are
counted_pairs (placed ∷ rules) [] are = absurd are

pub instructions_counted : (rules : List PlacedRule) (programs : List (List Insn)) → AreProgramsOf rules programs
    → instructions programs ≡ instructions_of rules
instructions_counted rules programs are = counted_pairs rules programs are.each

-- the rule of a place
module _ (groups : List Group) (places : List RulePlace) (are : ArePlacesOf groups places) (n : ℕ) (place : RulePlace) (here : slice_get places n ≡ Some place) where
  pub rule_here : (placed : PlacedRule) × (slice_get (all_rules groups) n ≡ Some placed)
  rule_here =
      let len = AllZip-long (StandsAt groups) (all_rules groups) places are in
      let within = slice_get_within places n place here in
      let found = drop_here (all_rules groups) n (omega arith) in (found.0, found.2)

  pub stands : StandsAt groups rule_here.0 place
  stands = zip_each (StandsAt groups) (all_rules groups) places are n rule_here.0 place rule_here.1 here

  pub is_place : IsPlaceOfRule groups place
  is_place = slice_get_within _ place.number rule_here.0 stands

  pub is_rule : (placed : PlacedRule) → placed_at groups place ≡ Some placed → slice_get (all_rules groups) n ≡ Some placed
  is_rule placed at = rule_here.1 ∙ sym stands ∙ at

module _ (rules : List PlacedRule) (n : ℕ) (placed : PlacedRule) (here : slice_get rules n ≡ Some placed) where
  pub compiled_more : (programs : List (List Insn)) (program : List Insn) → AreProgramsOf (take n rules) programs → IsCompiled placed.rule program → IsLight placed
      → AreProgramsOf (take (n + 1) rules) (programs ++ program ∷ [])
  compiled_more programs program are compiled light =
      let Compiled : PlacedRule → List Insn → Type 0 = λ placed. IsCompiled placed.rule in
      subst (λ front. AreProgramsOf front (programs ++ program ∷ [])) (sym (up_to rules n placed here)) (record {
        each = zip_append Compiled (take n rules) (placed ∷ []) programs (program ∷ []) are.each (compiled, tt);
        light = All-push IsLight (take n rules) placed are.light light;
      })

  pub refused_here : (programs : List (List Insn)) → AreProgramsOf (take n rules) programs → n ≡ length programs → (fault : GenFault) → RefusesRule placed.rule fault
      → RefusesAllRules rules (fault_there n fault)
  refused_here programs are count (Gen.TooLong weight) refuses = record {
    before = take n rules;
    heavy = placed;
    behind = drop (suc n) rules;
    are = around rules n placed here;
    at = (let len = AllZip-long (λ (placed : PlacedRule). IsCompiled placed.rule) (take n rules) programs are.each in omega arith);
    light = are.light;
    weighs = refuses.0;
    over = refuses.1;
  }
  refused_here programs are count Gen.NoMemory refuses = tt

at_end : {X : Type 0} (xs ys : List X) (x : X) → slice_get (xs ++ x ∷ ys) (length xs) ≡ Some x
at_end [] ys x = refl
at_end (y ∷ xs) ys x = at_end xs ys x

-- of the programs these are left, the others were laid out
module _ (groups : List Group) (places : List RulePlace) (are : ArePlacesOf groups places) (programs : List (List Insn)) (compiled : AreProgramsOf (all_rules groups) programs)
    (flats : List FlatRule) (program : List Insn) (rest : List (List Insn)) (left : programs ≡ programs_of flats ++ program ∷ rest) where
  next_program : slice_get programs (length flats) ≡ Some program
  next_program =
      let same = length-map flats (λ (flat : FlatRule). flat.program) in
      ap (λ all. slice_get all (length flats)) left ∙ subst (λ k. slice_get (programs_of flats ++ program ∷ rest) k ≡ Some program) same (at_end (programs_of flats) rest program)

  pub within_places : length flats < length places
  within_places =
      let within = slice_get_within programs (length flats) program next_program in
      let some = AllZip-long (λ (placed : PlacedRule). IsCompiled placed.rule) (all_rules groups) programs compiled.each in
      let all = AllZip-long (StandsAt groups) (all_rules groups) places are in
      omega arith

  -- one rule more is laid out
  pub laid_more : (placed : PlacedRule) → slice_get (all_rules groups) (length flats) ≡ Some placed → (flat : FlatRule) → (IsCompiled placed.rule program → IsFlatRule groups placed flat)
      → AllZip (IsFlatRule groups) (take (length flats) (all_rules groups)) flats → AllZip (IsFlatRule groups) (take (length (flats ++ flat ∷ [])) (all_rules groups)) (flats ++ flat ∷ [])
  laid_more placed here flat is laid =
      let stands = is (zip_each (λ (placed : PlacedRule). IsCompiled placed.rule) (all_rules groups) programs compiled.each (length flats) placed program here next_program) in
      subst (λ k. AllZip (IsFlatRule groups) (take k (all_rules groups)) (flats ++ flat ∷ [])) (sym (length-append flats (flat ∷ [])))
      (subst (λ front. AllZip (IsFlatRule groups) front (flats ++ flat ∷ [])) (sym (up_to (all_rules groups) (length flats) placed here))
      (zip_append (IsFlatRule groups) (take (length flats) (all_rules groups)) (placed ∷ []) flats (flat ∷ []) laid (stands, tt)))

  pub left_more : (flat : FlatRule) → flat.program ≡ program → programs ≡ programs_of (flats ++ flat ∷ []) ++ rest
  left_more flat is =
      left ∙ sym (append_assoc (programs_of flats) (program ∷ []) rest)
      ∙ ap (λ (one : List Insn). (programs_of flats ++ one ∷ []) ++ rest) (sym is)
      ∙ ap (λ all. all ++ rest) (sym (map-append (λ (flat : FlatRule). flat.program) flats (flat ∷ [])))
