use Rattle.std.proofs.{Common.{◌≡◌, ◌≤◌, length, sym, ap, subst, ◌∙◌, arith}, lemmas.Slice.Zip.AllZip-long}
use Rattle.npf_faults.specs.declared.fault.Excess.TheVariants.{Instructions}
use Rattle.npf_model.specs.Verdict.{all_rules}
use Rattle.npf_config_changes.specs.{Additions.KeepsCounts, Kept.Serves, Told.{EndsUnlessMemory, too_many}}
use Rattle.npf_config_changes.proofs.{AdditionLemmas.{counts_kept, elements_over, instructions_over, rules_over}, NextLemmas.{are_programs, next_buildable}}
use Rattle.npf_config_changes.proofs.addition.keep_counts.Goals as goal

pub returns-then-count-gt-MAX_RULES-clause-passed : goal.returns-then-count-gt-MAX_RULES-clause-passed
returns-then-count-gt-MAX_RULES-clause-passed c =
    let model = c.args.model.now in
    let many = AllZip-long Serves (all_rules model.groups) c.args.programs.now c.requires.serve in
    let over = c.if-count-gt-MAX_RULES.true in
    subst (EndsUnlessMemory (KeepsCounts c.args.span model)) (sym c.past-many_rules.ensures) (rules_over c.args.span model (omega arith))

pub model_elements-elements-requires : goal.model_elements-elements-requires
model_elements-elements-requires c =
    let model = c.args.model.now in
    let many = AllZip-long Serves (all_rules model.groups) c.args.programs.now c.requires.serve in
    let within = c.if-count-gt-MAX_RULES.false in
    next_buildable model c.args.programs.now c.requires.serve (omega arith) c.requires.maps

pub returns-then-elements-clause-passed : goal.returns-then-elements-clause-passed
returns-then-elements-clause-passed c =
    let model = c.args.model.now in
    let many = AllZip-long Serves (all_rules model.groups) c.args.programs.now c.requires.serve in
    let within = c.if-count-gt-MAX_RULES.false in
    let few : length (all_rules model.groups) ≤ 4096 = omega arith in
    let elements = c.model_elements-elements.ensures in
    let over = c.if-elements.true in
    subst (EndsUnlessMemory (KeepsCounts c.args.span model)) (sym c.past-many_elements.ensures) (elements_over c.args.span model few (omega arith))

pub returns-then-total-clause-passed : goal.returns-then-total-clause-passed
returns-then-total-clause-passed c =
    let model = c.args.model.now in
    let many = AllZip-long Serves (all_rules model.groups) c.args.programs.now c.requires.serve in
    let within = c.if-count-gt-MAX_RULES.false in
    let few : length (all_rules model.groups) ≤ 4096 = omega arith in
    let elements = c.model_elements-elements.ensures in
    let not_many = c.if-elements.false in
    let total = c.instructions-total.ensures in
    let over = c.if-total.true in
    subst (EndsUnlessMemory (KeepsCounts c.args.span model)) (sym (c.past-many_instructions.ensures ∙ ap (too_many c.args.span Instructions) total))
    (instructions_over c.args.span model few (omega arith) c.args.programs.now (are_programs (all_rules model.groups) c.args.programs.now c.requires.serve) (omega arith))

pub returns-clause-kept : goal.returns-clause-kept
returns-clause-kept c =
    let model = c.args.model.now in
    let many = AllZip-long Serves (all_rules model.groups) c.args.programs.now c.requires.serve in
    let within = c.if-count-gt-MAX_RULES.false in
    let few : length (all_rules model.groups) ≤ 4096 = omega arith in
    let elements = c.model_elements-elements.ensures in
    let not_many = c.if-elements.false in
    let total = c.instructions-total.ensures in
    let short = c.if-total.false in
    counts_kept c.args.span model few (omega arith) c.args.programs.now (are_programs (all_rules model.groups) c.args.programs.now c.requires.serve) (omega arith)

pub returns-clause-few : goal.returns-clause-few
returns-clause-few c =
    let many = AllZip-long Serves (all_rules c.args.model.now.groups) c.args.programs.now c.requires.serve in
    let within = c.if-count-gt-MAX_RULES.false in
    omega arith
