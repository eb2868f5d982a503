-- What is seen of an answer is what holds of the class.
use Rattle.std.proofs.Common.{◌≡◌, ℕ, zero, suc, ◌+◌, ◌<◌, ◌≤◌, ◌&&◌, ◌||◌, Bool, true, false, not, is_some, List, [], ◌∷◌, Option, Some, None, length, get_or, refl, sym}
use Rattle.std.proofs.Common.{subst, ap, ◌∙◌, inl, inr, arith}
use Rattle.std.specs.List.{list_any, range_with_len}
use Rattle.std.proofs.lemmas.Bool.{and_from, and_parts, cases_Bool, cases_eq, cases_lt, false≢true, or_left, or_parts, or_right, true≢false}
use Rattle.std.proofs.lemmas.List.{get_or_past}
use Rattle.std.proofs.lemmas.Option.{none-some}
use Rattle.npf_types.specs.declared.{direction.Dir.Dir, facts.Facts.Facts, interface.IfId.IfId}
use Rattle.npf_model.specs.declared.{model.Model.Model, rule.Rule.Rule}
use Rattle.npf_model.specs.Configuration.{Configuration, verdict_of}
use Rattle.npf_products.specs.declared.packet.CellPacket.{CellPacket}
use Rattle.npf_judge.specs.declared.deciders.Deciders.{Deciders}
use Rattle.npf_judge.specs.Deciders.{IsClassAnswer, IsDecidedBy, IsWitnessFor, IsClassPacket}
use Rattle.npf_judge.specs.Says.{AreTreated, ClassIs, HasTreated, IsTreated, place_passes}
use Rattle.npf_ctl_query.specs.Seen.{says_by, shows_block, shows_pass, some_blocks, some_passes}

or_turned : (a b c : Bool) → (a || (b || c)) ≡ ((a || b) || c)
or_turned true b c = refl
or_turned false b c = refl

last_alone : (b : Bool) → (b || false) ≡ b
last_alone true = refl
last_alone false = refl

-- one number more
any_more : (test : ℕ → Bool) (first n : ℕ) → list_any test (range_with_len first (suc n)) ≡ (list_any test (range_with_len first n) || test (first + n))
any_more test first zero = last_alone (test first) ∙ ap test (let same : first ≡ first + 0 = omega arith in same)
any_more test first (suc n) =
    ap (λ b. test first || b) (any_more test (first + 1) n)
    ∙ or_turned (test first) (list_any test (range_with_len (first + 1) n)) (test (first + 1 + n))
    ∙ ap (λ k. (test first || list_any test (range_with_len (first + 1) n)) || test k) (let same : first + 1 + n ≡ first + suc n = omega arith in same)

any_next : (test : ℕ → Bool) (n : ℕ) (before now : Bool) → before ≡ list_any test (range_with_len 0 n) → now ≡ test n → (before || now) ≡ list_any test (range_with_len 0 (n + 1))
any_next test n before now b e =
    ap (λ x. x || now) b ∙ ap (λ x. list_any test (range_with_len 0 n) || x) (e ∙ ap test (let same : n ≡ 0 + n = omega arith in same))
    ∙ sym (any_more test 0 n) ∙ ap (λ k. list_any test (range_with_len 0 k)) (let next : suc n ≡ n + 1 = omega arith in next)

module _ (model : Model) (rules : List (Option CellPacket)) (place : ℕ) (before found passing : Bool)
    (told : found ≡ is_some (get_or rules place None)) (rule : passing ≡ place_passes model (Some place)) where
  pub pass_more : before ≡ some_passes model rules place → (before || (found && passing)) ≡ some_passes model rules (place + 1)
  pass_more b = any_next (shows_pass model rules) place before (found && passing) b (ap (λ x. x && passing) told ∙ ap (λ x. is_some (get_or rules place None) && x) rule)

  pub block_more : before ≡ some_blocks model rules place → (before || (found && not passing)) ≡ some_blocks model rules (place + 1)
  block_more b =
      any_next (shows_block model rules) place before (found && not passing) b
      (ap (λ x. x && not passing) told ∙ ap (λ x. is_some (get_or rules place None) && not x) rule)

some_true : (test : ℕ → Bool) (first n : ℕ) → list_any test (range_with_len first n) ≡ true → (k : ℕ) × (test k ≡ true)
some_true test first zero any = absurd (false≢true any)
some_true test first (suc n) any = elim (cases_Bool (test first)) [
  | inl holds ↦ (first, holds)
  | inr fails ↦ some_true test (first + 1) n (sym (ap (λ b. b || list_any test (range_with_len (first + 1) n)) fails) ∙ any)
]

any_at : (test : ℕ → Bool) (first n k : ℕ) → first ≤ k → k < first + n → test k ≡ true → list_any test (range_with_len first n) ≡ true
any_at test first zero k low high is = absurd (omega arith)
any_at test first (suc n) k low high is = elim (cases_eq first k) [
  | inl here ↦ or_left (test first) (list_any test (range_with_len (first + 1) n)) (ap test here ∙ is)
  | inr other ↦ or_right (test first) (list_any test (range_with_len (first + 1) n)) (any_at test (first + 1) n k (omega arith) (omega arith) is)
]

within : (rules : List (Option CellPacket)) (place : ℕ) (packet : CellPacket) → get_or rules place None ≡ Some packet → place < length rules
within rules place packet is = elim (cases_lt place (length rules)) [
  | inl low ↦ low
  | inr past ↦ absurd (none-some packet (sym (get_or_past rules place None past) ∙ is))
]

module _ (config : Configuration) (class : Rule) (answer : Deciders) (is : IsClassAnswer config class answer) where
  -- what was found for a rule is treated as the rule treats it
  treated_by : (rule : Option ℕ) (found : Option CellPacket) (passed : Bool) → IsWitnessFor config class rule found → is_some found ≡ true
      → place_passes config.model rule ≡ passed → HasTreated config class passed
  treated_by rule None passed by some same = absurd (false≢true some)
  treated_by rule (Some packet) passed by some same = record {
    facts = packet.facts;
    ifid = packet.ifid;
    dir = packet.dir;
    of_class = by.of_class;
    treated = ap (place_passes config.model) by.decided ∙ same;
  }

  -- something was found for the decider of each packet of the class
  found_for : (rule : Option ℕ) (found : Option CellPacket) → IsWitnessFor config class rule found → (facts : Facts) (ifid : IfId) (dir : Dir)
      → IsClassPacket config.tables class facts ifid dir → verdict_of config facts ifid dir ≡ rule → is_some found ≡ true
  found_for rule None none facts ifid dir of_class decided = absurd (none facts ifid dir (record { of_class = of_class; decided = decided }))
  found_for rule (Some packet) by facts ifid dir of_class decided = refl

  shown : (found : Option CellPacket) (place : ℕ) → get_or answer.rules.items place None ≡ found → is_some found ≡ true → place < length answer.rules.items
  shown None place e some = absurd (false≢true some)
  shown (Some packet) place e some = within answer.rules.items place packet e

  -- ---- packets that pass
  pub passes : some_passes config.model answer.rules.items (length answer.rules.items) ≡ true → HasTreated config class true
  passes some =
      let one = some_true (shows_pass config.model answer.rules.items) 0 (length answer.rules.items) some in
      let both = and_parts (is_some (get_or answer.rules.items one.0 None)) (place_passes config.model (Some one.0)) one.1 in
      treated_by (Some one.0) (get_or answer.rules.items one.0 None) true (is.rules one.0) both.0 both.1

  pass_seen : (rule : Option ℕ) (facts : Facts) (ifid : IfId) (dir : Dir) → IsClassPacket config.tables class facts ifid dir → verdict_of config facts ifid dir ≡ rule
      → place_passes config.model rule ≡ true → some_passes config.model answer.rules.items (length answer.rules.items) ≡ true
  pass_seen None facts ifid dir of_class decided passing = absurd (false≢true passing)
  pass_seen (Some place) facts ifid dir of_class decided passing =
      let some = found_for (Some place) (get_or answer.rules.items place None) (is.rules place) facts ifid dir of_class decided in
      any_at (shows_pass config.model answer.rules.items) 0 (length answer.rules.items) place (omega arith)
      (let low = shown (get_or answer.rules.items place None) place refl some in omega (arith, low))
      (and_from (is_some (get_or answer.rules.items place None)) (place_passes config.model (Some place)) some passing)

  pub never_passes : some_passes config.model answer.rules.items (length answer.rules.items) ≡ false → ¬ HasTreated config class true
  never_passes none one =
      false≢true (sym none ∙ pass_seen (verdict_of config one.facts one.ifid one.dir) one.facts one.ifid one.dir one.of_class refl one.treated)

  -- ---- packets that are blocked
  unturned : (b : Bool) → not b ≡ true → b ≡ false
  unturned true e = absurd (false≢true e)
  unturned false e = refl

  pub blocks : (some_blocks config.model answer.rules.items (length answer.rules.items) || is_some answer.none) ≡ true → HasTreated config class false
  blocks some = elim (cases_Bool (some_blocks config.model answer.rules.items (length answer.rules.items))) [
    | inl holds ↦
        let one = some_true (shows_block config.model answer.rules.items) 0 (length answer.rules.items) holds in
        let both = and_parts (is_some (get_or answer.rules.items one.0 None)) (not (place_passes config.model (Some one.0))) one.1 in
        treated_by (Some one.0) (get_or answer.rules.items one.0 None) false (is.rules one.0) both.0 (unturned (place_passes config.model (Some one.0)) both.1)
    | inr fails ↦ treated_by None answer.none false is.none (sym (ap (λ b. b || is_some answer.none) fails) ∙ some) refl
  ]

  block_seen : (rule : Option ℕ) (facts : Facts) (ifid : IfId) (dir : Dir) → IsClassPacket config.tables class facts ifid dir → verdict_of config facts ifid dir ≡ rule
      → place_passes config.model rule ≡ false → (some_blocks config.model answer.rules.items (length answer.rules.items) || is_some answer.none) ≡ true
  block_seen None facts ifid dir of_class decided blocking =
      or_right (some_blocks config.model answer.rules.items (length answer.rules.items)) (is_some answer.none) (found_for None answer.none is.none facts ifid dir of_class decided)
  block_seen (Some place) facts ifid dir of_class decided blocking =
      let some = found_for (Some place) (get_or answer.rules.items place None) (is.rules place) facts ifid dir of_class decided in
      or_left (some_blocks config.model answer.rules.items (length answer.rules.items)) (is_some answer.none)
      (any_at (shows_block config.model answer.rules.items) 0 (length answer.rules.items) place (omega arith)
      (let low = shown (get_or answer.rules.items place None) place refl some in omega (arith, low))
      (and_from (is_some (get_or answer.rules.items place None)) (not (place_passes config.model (Some place))) some (ap not blocking)))

  pub never_blocks : (some_blocks config.model answer.rules.items (length answer.rules.items) || is_some answer.none) ≡ false → ¬ HasTreated config class false
  never_blocks none one =
      false≢true (sym none ∙ block_seen (verdict_of config one.facts one.ifid one.dir) one.facts one.ifid one.dir one.of_class refl one.treated)

  -- ---- both
  treated_as : (b : Bool) (passed : Bool) → (b ≡ true → HasTreated config class passed) → (b ≡ false → ¬ HasTreated config class passed) → IsTreated config class passed b
  treated_as true passed so never = so refl
  treated_as false passed so never = never refl

  pub treated : (passed blocked : Bool) → passed ≡ some_passes config.model answer.rules.items (length answer.rules.items)
      → blocked ≡ (some_blocks config.model answer.rules.items (length answer.rules.items) || is_some answer.none) → AreTreated config class passed blocked
  treated passed blocked p b = record {
    passed = treated_as passed true (λ e. passes (sym p ∙ e)) (λ e. never_passes (sym p ∙ e));
    blocked = treated_as blocked false (λ e. blocks (sym b ∙ e)) (λ e. never_blocks (sym b ∙ e));
  }

  class_is : (passed blocked : Bool) → AreTreated config class passed blocked → ClassIs config class (says_by passed blocked)
  class_is true true are = are
  class_is true false are = are
  class_is false true are = are
  class_is false false are = are

  pub said : (seen : Bool × Bool) (undecided : Bool)
      → seen ≡ (some_passes config.model answer.rules.items (length answer.rules.items), some_blocks config.model answer.rules.items (length answer.rules.items))
      → undecided ≡ is_some answer.none → ClassIs config class (says_by seen.0 (seen.1 || undecided))
  said seen undecided both none =
      class_is seen.0 (seen.1 || undecided)
      (treated seen.0 (seen.1 || undecided) (ap (λ (pair : Bool × Bool). pair.0) both)
      (ap (λ (pair : Bool × Bool). pair.1 || undecided) both
      ∙ ap (λ b. some_blocks config.model answer.rules.items (length answer.rules.items) || b) none))
