-- The settings without an effect are those that npf_check accepts so.
use Rattle.std.proofs.Common.{◌≡◌, ◌&&◌, ◌||◌, Bool, true, false, if◌then◌else◌, codes, refl}
use Rattle.std.specs.{Str.bytes_eq}
use Rattle.npf_syntax.specs.declared.stmt.Setting.{Setting}
use Rattle.npf_check.specs.Parameter.{is_switch_word, says_number, says_on}
use Rattle.npf_why.specs.{Laws.IdleSettingsAreAccepted}

-- a value with which a name is accepted that is one of them: that of `bpf.jit`, and that of the others
value_of : Bool → Setting
value_of true = Setting.Word (record { text = codes "on"; span = record { line = 1; col = 1; at = 0; len = 2 } }) (record { line = 1; col = 1; at = 0; len = 2 })
value_of false = Setting.Number (record { value = 1; span = record { line = 1; col = 1; at = 0; len = 1 } }) (record { line = 1; col = 1; at = 0; len = 1 })

accepted : (jit ip4 ip6 step : Bool) → (jit || (ip4 || (ip6 || (step || false)))) ≡ true
    → (if jit then is_switch_word (value_of jit) else if ip4 || ip6 then says_on (value_of jit) else step && says_number (value_of jit)) ≡ true
unfolding value_of
accepted true ip4 ip6 step is = refl
accepted false true ip6 step is = refl
accepted false false true step is = refl
accepted false false false true is = refl
accepted false false false false is = cc

listed : (jit ip4 ip6 step switch on number : Bool) → (if jit then switch else if ip4 || ip6 then on else step && number) ≡ true
    → (jit || (ip4 || (ip6 || (step || false)))) ≡ true
listed true ip4 ip6 step switch on number is = refl
listed false true ip6 step switch on number is = refl
listed false false true step switch on number is = refl
listed false false false true switch on number is = refl
listed false false false false switch on number is = cc

pub idle_settings_are_accepted_lem : IdleSettingsAreAccepted
idle_settings_are_accepted_lem name =
    let jit = bytes_eq name (codes "bpf.jit") in
    let ip4 = bytes_eq name (codes "ip4.reassembly") in
    let ip6 = bytes_eq name (codes "ip6.reassembly") in
    let step = bytes_eq name (codes "gc.step") in (
      (λ is. (value_of jit, accepted jit ip4 ip6 step is)),
      (λ is. listed jit ip4 ip6 step (is_switch_word is.0) (says_on is.0) (says_number is.0) is.1),
    )
