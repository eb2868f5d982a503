use Rattle.std.proofs.Common.{◌≡◌, ◌∙◌, ℕ, List, [], ◌∷◌, ◌++◌, ap, rules}
use Rattle.npf_ctl_input.specs.{Source.{line_of_tap, tap_of_capture}, declared.tap.NamedTap.NamedTap}
use Rattle.npf_ctl_script.specs.declared.script.ScriptLine.{ScriptLine}
use Rattle.npf_ctl_prepare.proofs.orders.line_of_capture.Goals as goal

pub returns-clause-value : goal.returns-clause-value
returns-clause-value c =
    let file : c.of_vec-file.result ≡ c.args.file.now = search rules in
    let line : ℕ × ScriptLine = (1, line_of_tap c.tap_of_capture-dir.result c.of_vec-file.result) in
    c.in_ok-push.ensures.items ∙ ap (λ (lines : List (ℕ × ScriptLine)). lines ++ line ∷ []) c.new-lines.ensures.items
    ∙ ap (λ (tap : NamedTap). (1, line_of_tap tap c.of_vec-file.result) ∷ []) c.tap_of_capture-dir.ensures ∙ ap (λ (name : List ℕ). (1, line_of_tap (tap_of_capture c.args.tap) name) ∷ []) file
