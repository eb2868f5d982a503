use Rattle.std.proofs.Common.{◌≡◌, ◌<◌, ◌++◌, [], ◌∷◌, Some, List, length, take, slice_get, refl, subst, sym, ap, ◌∙◌, append-nil, rules}
use Rattle.std.{proofs.{lemmas.{Slice.Zip.AllZip-long, List.length-map, Option.slice_get-get_or}, Math.Seq.take-length}, specs.List.AllZip}
use Rattle.npf_model.specs.Verdict.{PlacedRule, all_rules}
use Rattle.npf_ruleset.specs.{declared.flat.FlatRule.FlatRule, Flat.{IsCompiled, IsFlatRule, programs_of}, Layout.StandsAt}
use Rattle.npf_ruleset.proofs.CompileLemmas.{is_place, laid_more, left_more, rule_here, stands, within_places}
use Rattle.npf_ruleset.proofs.compile.lay_out.Goals as goal

empty : {X : Type 0} (xs : List X) → length xs ≡ 0 → xs ≡ []
empty [] none = refl
empty (x ∷ xs) none = cc

pub loop-program-init : goal.loop-program-init
loop-program-init c = rw c.in_ok-rules.ensures.items (record {
  laid = tt;
  left = sym c.into_iter-program-iterator.ensures.into_iter_gives.0;
})

pub offset_bounds-places-len : goal.offset_bounds-places-len
offset_bounds-places-len c =
    let within = within_places c.args.groups.now c.args.places.now c.requires.places c.args.programs.items c.requires.programs c.loop-program.rules.items c.in-Some.program
    c.next.new.self.rest.items (c.loop-program.invariant.left ∙ ap (λ rest. programs_of c.loop-program.rules.items ++ rest) c.in-Some.ensures.steps.0) in
    let many = AllZip-long (StandsAt c.args.groups.now) (all_rules c.args.groups.now) c.args.places.now c.requires.places in
    search rules

pub bounds-places-len : goal.bounds-places-len
bounds-places-len c =
    subst (λ n. n < length c.args.places.now) (sym (c.len-in-loop-program.ensures ∙ c.loop-program.rules.ok.0))
    (within_places c.args.groups.now c.args.places.now c.requires.places c.args.programs.items c.requires.programs c.loop-program.rules.items c.in-Some.program
    c.next.new.self.rest.items (c.loop-program.invariant.left ∙ ap (λ rest. programs_of c.loop-program.rules.items ++ rest) c.in-Some.ensures.steps.0))

pub flat_rule-requires : goal.flat_rule-requires
flat_rule-requires c =
    let within = within_places c.args.groups.now c.args.places.now c.requires.places c.args.programs.items c.requires.programs c.loop-program.rules.items c.in-Some.program
    c.next.new.self.rest.items (c.loop-program.invariant.left ∙ ap (λ rest. programs_of c.loop-program.rules.items ++ rest) c.in-Some.ensures.steps.0) in
    let count : c.len-in-loop-program.result ≡ length c.loop-program.rules.items = c.len-in-loop-program.ensures ∙ c.loop-program.rules.ok.0 in
    is_place c.args.groups.now c.args.places.now c.requires.places c.len-in-loop-program.result _
    (slice_get-get_or c.args.places.now c.len-in-loop-program.result _ (subst (λ n. n < length c.args.places.now) (sym count) within))

pub loop-program-preserved : goal.loop-program-preserved
loop-program-preserved c =
    let groups = c.args.groups.now in
    let places = c.args.places.now in
    let flats = c.loop-program.rules.items in
    let rest = c.next.new.self.rest.items in
    let flat = c.flat_rule.result in
    let left = c.loop-program.invariant.left ∙ ap (λ rest. programs_of flats ++ rest) c.in-Some.ensures.steps.0 in
    let within = within_places groups places c.requires.places c.args.programs.items c.requires.programs flats c.in-Some.program rest left in
    let count : c.len-in-loop-program.result ≡ length flats = c.len-in-loop-program.ensures ∙ c.loop-program.rules.ok.0 in
    let there = slice_get-get_or places c.len-in-loop-program.result _ (subst (λ n. n < length places) (sym count) within) in
    let rule = rule_here groups places c.requires.places c.len-in-loop-program.result _ there in
    rw c.in_ok-push.ensures.items (record {
      laid = laid_more groups places c.requires.places c.args.programs.items c.requires.programs flats c.in-Some.program rest left rule.0
          (subst (λ n. slice_get (all_rules groups) n ≡ Some rule.0) count rule.1) flat
          (c.flat_rule.ensures.stands rule.0 (stands groups places c.requires.places c.len-in-loop-program.result _ there)) c.loop-program.invariant.laid;
      left = left_more groups places c.requires.places c.args.programs.items c.requires.programs flats c.in-Some.program rest left flat c.flat_rule.ensures.program;
    })

pub returns-clause-rules : goal.returns-clause-rules
returns-clause-rules c =
    let none = empty c.loop-program.program-iterator.rest.items (sym c.loop-program.program-iterator.rest.ok.0 ∙ c.in-None.ensures.steps.0) in
    let left = c.loop-program.invariant.left ∙ ap (λ rest. programs_of c.loop-program.rules.items ++ rest) none ∙ append-nil (programs_of c.loop-program.rules.items) in
    let all = AllZip-long (λ (placed : PlacedRule). IsCompiled placed.rule) (all_rules c.args.groups.now) c.args.programs.items c.requires.programs.each in
    let flats = length-map c.loop-program.rules.items (λ (flat : FlatRule). flat.program) in
    let len : length c.loop-program.rules.items ≡ length (all_rules c.args.groups.now) = sym (ap length left ∙ flats) ∙ all in
    subst (λ front. AllZip (IsFlatRule c.args.groups.now) front c.loop-program.rules.items)
    (ap (λ k. take k (all_rules c.args.groups.now)) len ∙ take-length (all_rules c.args.groups.now)) c.loop-program.invariant.laid

pub returns-clause-programs : goal.returns-clause-programs
returns-clause-programs c =
    let none = empty c.loop-program.program-iterator.rest.items (sym c.loop-program.program-iterator.rest.ok.0 ∙ c.in-None.ensures.steps.0) in
    sym (c.loop-program.invariant.left ∙ ap (λ rest. programs_of c.loop-program.rules.items ++ rest) none ∙ append-nil (programs_of c.loop-program.rules.items))
