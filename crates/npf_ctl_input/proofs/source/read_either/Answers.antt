use Rattle.std.proofs.Common.{◌≡◌, ◌≤◌, ℕ, false, List, length, IsTrue, arith, refl, subst, sym}
use Rattle.npf_types.specs.declared.limits.TheConstants.{MAX_TEXT_BYTES}
use Rattle.npf_ctl_script.specs.{declared.script.ScriptFault.TheVariants.BadLine, Lines.{IsScript, RefusesScript}}
use Rattle.npf_ctl_input.{specs.Source.{BeginsAsCapture, alone, bad_line, longer, scripted}, proofs.RuleLemmas.script_fits}
use Rattle.npf_ctl_input.proofs.source.read_either.Goals as goal

-- the test said no
begins_not : (bytes shown : List ℕ) → shown ≡ bytes → (BeginsAsCapture shown → IsTrue false) → ¬ BeginsAsCapture bytes
begins_not bytes shown same test begins = let never = test (subst BeginsAsCapture (sym same) begins) in cc

pub returns-then-begins_as_capture-clause-comes : goal.returns-then-begins_as_capture-clause-comes
returns-then-begins_as_capture-clause-comes c = alone (subst BeginsAsCapture c.as_slice.ensures.value (c.if-begins_as_capture.ensures.0 refl))

pub returns-then-len-gt-MAX_TEXT_BYTES-clause-comes : goal.returns-then-len-gt-MAX_TEXT_BYTES-clause-comes
returns-then-len-gt-MAX_TEXT_BYTES-clause-comes c =
    let not_one = begins_not c.args.bytes.items c.as_slice.result.now c.as_slice.ensures.value c.if-begins_as_capture.ensures.1 in
    rw c.in_ok-text_of.ensures (longer not_one (omega arith))

pub returns-in-Ok-clause-comes : goal.returns-in-Ok-clause-comes
returns-in-Ok-clause-comes c =
    let not_one = begins_not c.args.bytes.items c.as_slice.result.now c.as_slice.ensures.value c.if-begins_as_capture.ensures.1 in
    scripted not_one (omega arith) (subst (λ (text : List ℕ). IsScript text c.in-Ok.script.lines) c.as_slice-2.ensures.value c.in-Ok.ensures.ok)

pub returns-in-Ok-clause-short : goal.returns-in-Ok-clause-short
returns-in-Ok-clause-short c =
    let few : length c.args.bytes.items ≤ MAX_TEXT_BYTES = omega arith in
    script_fits c.args.bytes.items c.in-Ok.script.lines few
    (subst (λ (text : List ℕ). IsScript text c.in-Ok.script.lines) c.as_slice-2.ensures.value c.in-Ok.ensures.ok)

pub returns-in-Err-BadLine-clause-comes : goal.returns-in-Err-BadLine-clause-comes
returns-in-Err-BadLine-clause-comes c =
    let not_one = begins_not c.args.bytes.items c.as_slice.result.now c.as_slice.ensures.value c.if-begins_as_capture.ensures.1 in
    let refuses = rw c.in-Err-BadLine.field-0-is at c.in-Err-BadLine.ensures.err in
    rw c.in_ok-text_of-in-Err-BadLine.ensures
    (bad_line not_one (omega arith) (subst (λ (text : List ℕ). RefusesScript text (BadLine c.in-Err-BadLine.line)) c.as_slice-2.ensures.value refuses))
