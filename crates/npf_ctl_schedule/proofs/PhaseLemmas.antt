-- What the phases of a run have in all, and in which order they publish.
use Rattle.std.proofs.Common.{◌≡◌, ◌≤◌, ◌<◌, ◌+◌, ◌-◌, ℕ, Bool, true, false, cond, eqb, List, [], ◌∷◌, refl, sym, subst, ◌∙◌, arith, eqb-true}
use Rattle.npf_traffic.specs.{declared.phase.Command.{Command, TheVariants.Publish}, Phases.{packets_in, PublishFrom, PhasesPublishFrom}}
use Rattle.npf_traffic.proofs.PhaseLemmas.{packets_in-cons}
use Rattle.npf_ctl_script.specs.declared.script.ScriptLine.{ScriptLine}
use Rattle.npf_ctl_script.specs.declared.script.ScriptLine.TheVariants as Line
use Rattle.npf_ctl_schedule.specs.Schedule.{changes_in, makes_change, packets_wanted, phase_commands, phases_from}
use Rattle.npf_ctl_schedule.proofs.PartLemmas.{changes_of_parts, first_change, published_in, wanted_within}

rest_adds_up : (left : ℕ) (none : Bool) → eqb left 0 ≡ none → packets_in (cond none [] (record { packets = left; commands = [] } ∷ [])) ≡ left
rest_adds_up left true e = sym (eqb-true left 0 e)
rest_adds_up left false e = omega arith

sum_back : (wanted left rest : ℕ) → wanted ≤ left → rest ≡ left - wanted → wanted + rest ≡ left
sum_back wanted left rest within e = omega arith

pub phases_add_up : (made left : ℕ) (parts : List (List ScriptLine)) → packets_in (phases_from made left parts) ≡ left
phases_add_up made left [] = rest_adds_up left (eqb left 0) refl
phases_add_up made left (part ∷ parts) =
    let wanted = packets_wanted left part in
    let rest = phases_from (made + changes_in part) (left - wanted) parts in
    packets_in-cons (record { packets = wanted; commands = phase_commands made part }) rest
    ∙ sum_back wanted left (packets_in rest) (wanted_within left part) (phases_add_up (made + changes_in part) (left - wanted) parts)

order_more :
    (count made changes : ℕ) (more commands : List Command) (change : Bool) → made + (cond change 1 0 + changes) < count →
    (made + 1 + changes < count → PublishFrom count (made + 1) more) → (made + changes < count → PublishFrom count made commands) →
    PublishFrom count made (cond change (Publish (made + 1) ∷ more) commands)
order_more count made changes more commands true below one other = (refl, omega arith, one (omega arith))
order_more count made changes more commands false below one other = other (omega arith)

-- the commands of a phase publish its changes, in order
commands_in_order : (count made : ℕ) (part : List ScriptLine) → made + changes_in part < count → PublishFrom count made (phase_commands made part)
commands_in_order count made [] below = tt
commands_in_order count made (Line.Expire time ∷ part) below = commands_in_order count made part below
commands_in_order count made (line ∷ part) below =
    order_more count made (changes_in part) (phase_commands (made + 1) part) (phase_commands made part) (makes_change line)
    (let P : ℕ → Type 0 = λ n. made + n < count in subst P (first_change line part) below)
    (commands_in_order count (made + 1) part) (commands_in_order count made part)

rest_in_order : (count made left : ℕ) (none : Bool) → PhasesPublishFrom count made (cond none [] (record { packets = left; commands = [] } ∷ []))
rest_in_order count made left true = tt
rest_in_order count made left false = (tt, tt)

pub phases_in_order :
    (count made left : ℕ) (parts : List (List ScriptLine)) → made + changes_of_parts parts < count → PhasesPublishFrom count made (phases_from made left parts)
phases_in_order count made left [] below = rest_in_order count made left (eqb left 0)
phases_in_order count made left (part ∷ parts) below = (
  commands_in_order count made part (omega arith),
  (let P : ℕ → Type 0 = λ n. PhasesPublishFrom count (made + n) (phases_from (made + changes_in part) (left - packets_wanted left part) parts) in
      subst P (sym (published_in made part)) (phases_in_order count (made + changes_in part) (left - packets_wanted left part) parts (omega arith))),
)
