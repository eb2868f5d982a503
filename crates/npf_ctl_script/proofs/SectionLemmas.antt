-- Where a script stands behind one command more.
use Rattle.std.proofs.{Common.{◌≡◌, Bool, true, false, cond, not, ◌&&◌, ◌||◌, List, [], ◌∷◌, ◌++◌, refl, sym, ap, ◌∙◌}, lemmas.List.Folds.list_any-append}
use Rattle.std.proofs.Math.Bool.{and-false}
use Rattle.npf_ctl_script.specs.declared.{command.LineCommand.LineCommand, section.Section.Section}
use Rattle.npf_ctl_script.specs.declared.command.LineCommand.TheVariants as Commands
use Rattle.npf_ctl_script.specs.declared.section.Section.TheVariants as Sections
use Rattle.npf_ctl_script.specs.Sections.{after_command, ends_with_packets, has_phase, is_packets, is_phase, section_behind, takes}

or_false : (b : Bool) → (b || false) ≡ b
or_false true = refl
or_false false = refl

or_true : (b : Bool) → (b || true) ≡ true
or_true true = refl
or_true false = refl

abbrev section_where : Bool → Bool → Section
section_where phase packets = cond phase (cond packets Sections.PhaseWithPackets Sections.Phase) Sections.Captures

-- a command that begins no phase
has_same : (front : List LineCommand) (c : LineCommand) → is_phase c ≡ false → has_phase (front ++ c ∷ []) ≡ has_phase front
has_same front c plain = list_any-append is_phase front (c ∷ []) ∙ ap (λ b. has_phase front || (b || false)) plain ∙ or_false (has_phase front)

-- and isn't `packets`
ends_same : (front : List LineCommand) (c : LineCommand) → is_phase c ≡ false → is_packets c ≡ false → ends_with_packets (front ++ c ∷ []) ≡ ends_with_packets front
ends_same [] c plain none = ap (λ b. (b && true) || false) none
ends_same (x ∷ front) c plain none =
    ap (λ b. (is_packets x && not b) || ends_with_packets (front ++ c ∷ [])) (has_same front c plain)
    ∙ ap (λ b. (is_packets x && not (has_phase front)) || b) (ends_same front c plain none)

section_same : (front : List LineCommand) (c : LineCommand) → is_phase c ≡ false → is_packets c ≡ false → section_behind (front ++ c ∷ []) ≡ section_behind front
section_same front c plain none =
    ap (λ b. section_where b (ends_with_packets (front ++ c ∷ []))) (has_same front c plain) ∙ ap (section_where (has_phase front)) (ends_same front c plain none)

has_begun : (front : List LineCommand) → has_phase (front ++ Commands.Phase ∷ []) ≡ true
has_begun front = list_any-append is_phase front (Commands.Phase ∷ []) ∙ or_true (has_phase front)

begins_without : (front : List LineCommand) → ends_with_packets (front ++ Commands.Phase ∷ []) ≡ false
begins_without [] = refl
begins_without (x ∷ front) =
    ap (λ b. (is_packets x && not b) || ends_with_packets (front ++ Commands.Phase ∷ [])) (has_begun front)
    ∙ ap (λ b. b || ends_with_packets (front ++ Commands.Phase ∷ [])) (and-false (is_packets x)) ∙ begins_without front

ends_with : (front : List LineCommand) → ends_with_packets (front ++ Commands.Packets ∷ []) ≡ true
ends_with [] = refl
ends_with (x ∷ front) =
    ap (λ b. (is_packets x && not (has_phase (front ++ Commands.Packets ∷ []))) || b) (ends_with front)
    ∙ or_true (is_packets x && not (has_phase (front ++ Commands.Packets ∷ [])))

-- `packets` is taken in a phase alone
taken_in_phase : (phase packets : Bool) → takes (section_where phase packets) Commands.Packets ≡ true → section_where phase true ≡ Sections.PhaseWithPackets
taken_in_phase true packets taken = refl
taken_in_phase false packets taken = cc

pub section_more : (front : List LineCommand) (c : LineCommand) → takes (section_behind front) c ≡ true
    → section_behind (front ++ c ∷ []) ≡ after_command (section_behind front) c
section_more front Commands.Phase taken =
    ap (λ b. section_where b (ends_with_packets (front ++ Commands.Phase ∷ []))) (has_begun front) ∙ ap (section_where true) (begins_without front)
section_more front Commands.Packets taken =
    ap (λ b. section_where b (ends_with_packets (front ++ Commands.Packets ∷ []))) (has_same front Commands.Packets refl)
    ∙ ap (section_where (has_phase front)) (ends_with front) ∙ taken_in_phase (has_phase front) (ends_with_packets front) taken
section_more front Commands.Capture taken = section_same front Commands.Capture refl refl
section_more front Commands.Reload taken = section_same front Commands.Reload refl refl
section_more front Commands.Rule taken = section_same front Commands.Rule refl refl
section_more front Commands.Table taken = section_same front Commands.Table refl refl
section_more front Commands.Expire taken = section_same front Commands.Expire refl refl
