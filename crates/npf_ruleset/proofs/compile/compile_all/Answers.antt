use Rattle.std.proofs.{Common.{◌≡◌, ◌≤◌, ◌+◌, ℕ, List, length, take, is_ok, subst, sym, ap, ◌∙◌, true≢false, arith}, lemmas.Slice.Zip.AllZip-long}
use Rattle.std.proofs.{Math.{Nat.min-eq_left, Seq.take-length}, lemmas.{List.length-take, Option.slice_get-get_or}}
use Rattle.npf_model.specs.Verdict.{PlacedRule, all_rules}
use Rattle.npf_ruleset.specs.{Flat.IsCompiled, Layout.StandsAt, Place.placed_rule, Refusal.{AreProgramsOf, IsCompilable, RefusesAllRules}}
use Rattle.npf_ruleset.proofs.CompileLemmas.{all_at, compiled_more, fits, is_place, is_rule, refused_here}
use Rattle.npf_ruleset.proofs.compile.compile_all.Goals as goal

pub placed_at-requires : goal.placed_at-requires
placed_at-requires c = is_place c.args.groups.now c.args.places.now c.requires.places c.loop-at.at _ (slice_get-get_or c.args.places.now c.loop-at.at _ c.loop-at-test.true)

pub compile-requires-clause-lists : goal.compile-requires-clause-lists
compile-requires-clause-lists c =
    let rule = is_rule c.args.groups.now c.args.places.now c.requires.places c.loop-at.at _
    (slice_get-get_or c.args.places.now c.loop-at.at _ c.loop-at-test.true) (placed_rule c.placed_at.result) c.placed_at.ensures in
    (all_at IsCompilable (all_rules c.args.groups.now) c.loop-at.at (placed_rule c.placed_at.result) c.requires.rules rule).lists

pub compile-requires-clause-tables : goal.compile-requires-clause-tables
compile-requires-clause-tables c =
    let rule = is_rule c.args.groups.now c.args.places.now c.requires.places c.loop-at.at _
    (slice_get-get_or c.args.places.now c.loop-at.at _ c.loop-at-test.true) (placed_rule c.placed_at.result) c.placed_at.ensures in
    (all_at IsCompilable (all_rules c.args.groups.now) c.loop-at.at (placed_rule c.placed_at.result) c.requires.rules rule).tables

pub returns-in-Err-clause-refuses : goal.returns-in-Err-clause-refuses
returns-in-Err-clause-refuses c =
    let groups = c.args.groups.now in
    let placed = placed_rule c.placed_at.result in
    let rule = is_rule groups c.args.places.now c.requires.places c.loop-at.at _ (slice_get-get_or c.args.places.now c.loop-at.at _ c.loop-at-test.true) placed c.placed_at.ensures in
    let many = AllZip-long (StandsAt groups) (all_rules groups) c.args.places.now c.requires.places in
    let test = c.loop-at-test.true in
    let len = AllZip-long (λ (placed : PlacedRule). IsCompiled placed.rule) (take c.loop-at.at (all_rules groups)) c.loop-at.programs.items c.loop-at.invariant.each in
    subst (RefusesAllRules (all_rules groups)) (sym c.fault_at.ensures)
    (refused_here (all_rules groups) c.loop-at.at placed rule c.loop-at.programs.items c.loop-at.invariant (before (all_rules groups) c.loop-at.at c.loop-at.programs.items (omega arith) len)
    c.in-Err.fault c.in-Err.ensures.refuses)
  where
    before : {X Y : Type 0} (xs : List X) (n : ℕ) (ys : List Y) → n ≤ length xs → length ys ≡ length (take n xs) → n ≡ length ys
    before xs n ys le len = sym (len ∙ length-take n xs ∙ min-eq_left le)

pub loop-at-preserved : goal.loop-at-preserved
loop-at-preserved c =
    let groups = c.args.groups.now in
    let placed = placed_rule c.placed_at.result in
    let rule = is_rule groups c.args.places.now c.requires.places c.loop-at.at _ (slice_get-get_or c.args.places.now c.loop-at.at _ c.loop-at-test.true) placed c.placed_at.ensures in
    subst (AreProgramsOf (take (c.loop-at.at + 1) (all_rules groups))) (sym c.in_ok-push-in-Ok.ensures.items)
    (compiled_more (all_rules groups) c.loop-at.at placed rule c.loop-at.programs.items c.in-Ok.program c.loop-at.invariant
    (record {
      value = c.in-Ok.ensures.value;
      valid = ∣ c.in-Ok.ensures.valid ∣₁;
      count = c.in-Ok.ensures.count;
      size = c.in-Ok.ensures.size;
    }) (fits _ (λ over. true≢false (ap is_ok (c.in-Ok.ensures.too_long.1 over)))))

pub fault_at-requires : goal.fault_at-requires
fault_at-requires c =
    let groups = c.args.groups.now in
    let many = AllZip-long (StandsAt groups) (all_rules groups) c.args.places.now c.requires.places in
    let test = c.loop-at-test.true in
    omega arith

pub returns-clause-ok : goal.returns-clause-ok
returns-clause-ok c =
    let groups = c.args.groups.now in
    let many = AllZip-long (StandsAt groups) (all_rules groups) c.args.places.now c.requires.places in
    let end = c.loop-at.auto.at-end in let past = c.loop-at-test.false in
    let last : c.loop-at.at ≡ length (all_rules groups) = omega arith in
    subst (λ rules. AreProgramsOf rules c.loop-at.programs.items) (ap (λ n. take n (all_rules groups)) last ∙ take-length (all_rules groups)) c.loop-at.invariant
