-- No line feed stands in a line.
use Rattle.std.proofs.Common.{◌≡◌, ◌<◌, ◌≤◌, ◌^◌, ◌==◌, ◌&&◌, ℕ, Bool, true, false, not, Option, Some, None, IfSome, List, [], ◌∷◌, ◌++◌, length, take, refl, sym, ap, ◌∙◌, lit≤, arith}
use Rattle.std.{specs.{Prelude.{nat_le, nat_lt, slice_index}, Char.digit_value, Fmt.decimal, List.before_first}, proofs.lemmas.List.Folds.list_all-append}
use Rattle.npf_types.specs.{declared.{action.Action.Action, change.Change.Change, name.Name.Name}, Name.name_bytes}
use Rattle.npf_timeouts.specs.{declared.timeouts.Timeouts.Timeouts, Timeouts.AreTimeouts}
use Rattle.npf_flow.specs.declared.flow.FlowKind.{FlowKind, TheVariants.{Tcp, Other}}
use Rattle.npf_saved.specs.{declared.saved.Saved.Saved, Fields.{FitsAction, FitsKind, FitsSaved}, File.ended_line}
use Rattle.npf_saved.specs.Spelling.{action_text, bit_text, change_text, conn_line, end_text, if_line, key_text, kind_text, or_dash, phase_number, side_text, state_text, timeouts_text}
use Rattle.npf_saved.proofs.CutLemmas.{lacks, lacks_both, word_before}
use Rattle.npf_saved.proofs.FieldLemmas.{action_lacks, end_lacks, key_lacks, name_lacks, optional_key_lacks, phase_small, side_lacks}
use Rattle.npf_saved.proofs.{TimeoutLemmas.feed_lacks, WordLemmas.{bit_lacks, decimal_lacks}}
use Rattle.npf_saved_file.specs.File.{IsFirstLine, is_line_feed}

foreign : 10 ≤ digit_value 10
foreign = lit≤ tt

pub if_lacks : (name : Name) → lacks 10 (if_line name) ≡ true
if_lacks name = lacks_both 10 32 (105 ∷ 102 ∷ []) (name_bytes name) refl refl (name_lacks 10 refl name)

change_lacks : (change : Change) → lacks 10 (change_text change) ≡ true
change_lacks change =
    lacks_both 10 47 (or_dash end_text change.src) (or_dash end_text change.dst ++ 47 ∷ bit_text change.neutral) (end_lacks 10 refl change.src refl refl) refl
    (lacks_both 10 47 (or_dash end_text change.dst) (bit_text change.neutral) (end_lacks 10 refl change.dst refl refl) refl (bit_lacks 10 refl refl change.neutral))

end_lacks_feed : (action : Action) (times : Timeouts) → FitsAction action → AreTimeouts times → lacks 10 (action_text action ++ timeouts_text times) ≡ true
end_lacks_feed action times fits are =
    list_all-append (λ byte. not (byte == 10)) (action_text action) (timeouts_text times)
    ∙ rw (action_lacks 10 foreign refl refl refl refl refl action fits, feed_lacks times are foreign) refl

kind_lacks : (kind : FlowKind) → FitsKind kind → lacks 10 (kind_text kind) ≡ true
kind_lacks (Tcp state) fits =
    let phase = decimal (phase_number state.phase) in
    let strict = bit_text state.strict in
    let forward = side_text state.forward in
    let backward = side_text state.backward in
    let sides = lacks_both 10 58 forward backward (side_lacks 10 foreign refl refl state.forward fits.0) refl (side_lacks 10 foreign refl refl state.backward fits.1) in
    let flags = lacks_both 10 58 strict (forward ++ 58 ∷ backward) (bit_lacks 10 refl refl state.strict) refl sides in
    let phases = lacks_both 10 58 phase (strict ++ 58 ∷ (forward ++ 58 ∷ backward)) (decimal_lacks 10 (phase_number state.phase) (phase_small state.phase) foreign) refl flags in
    lacks_both 10 58 (116 ∷ []) (phase ++ 58 ∷ (strict ++ 58 ∷ (forward ++ 58 ∷ backward))) refl refl phases
kind_lacks (Other true) fits = refl
kind_lacks (Other false) fits = refl

pub conn_lacks : (saved : Saved) → FitsSaved saved → lacks 10 (conn_line saved) ≡ true
conn_lacks saved fits =
    let forward = key_text saved.forward in
    let port = or_dash key_text saved.port in
    let backward = or_dash key_text saved.backward in
    let kind = kind_text saved.flow.kind in
    let last = decimal saved.flow.last in
    let there = change_text saved.flow.there in
    let back = change_text saved.flow.back in
    let action = action_text saved.flow.action ++ timeouts_text saved.flow.timeouts in
    let one = lacks_both 10 32 back action (change_lacks saved.flow.back) refl (end_lacks_feed saved.flow.action saved.flow.timeouts fits.flow.action fits.flow.timeouts) in
    let two = lacks_both 10 32 there (back ++ 32 ∷ action) (change_lacks saved.flow.there) refl one in
    let three = lacks_both 10 32 last (there ++ 32 ∷ (back ++ 32 ∷ action)) (decimal_lacks 10 saved.flow.last fits.flow.last foreign) refl two in
    let four = lacks_both 10 32 kind (last ++ 32 ∷ (there ++ 32 ∷ (back ++ 32 ∷ action))) (kind_lacks saved.flow.kind fits.flow.kind) refl three in
    let five = lacks_both 10 32 backward (kind ++ 32 ∷ (last ++ 32 ∷ (there ++ 32 ∷ (back ++ 32 ∷ action)))) (optional_key_lacks 10 refl saved.backward refl refl) refl four in
    let six = lacks_both 10 32 port (backward ++ 32 ∷ (kind ++ 32 ∷ (last ++ 32 ∷ (there ++ 32 ∷ (back ++ 32 ∷ action))))) (optional_key_lacks 10 refl saved.port refl refl) refl five in
    let seven = lacks_both 10 32 forward (port ++ 32 ∷ (backward ++ 32 ∷ (kind ++ 32 ∷ (last ++ 32 ∷ (there ++ 32 ∷ (back ++ 32 ∷ action)))))) (key_lacks 10 refl saved.forward refl) refl six in
    lacks_both 10 32 (99 ∷ 111 ∷ 110 ∷ 110 ∷ []) (forward ++ 32 ∷ (port ++ 32 ∷ (backward ++ 32 ∷ (kind ++ 32 ∷ (last ++ 32 ∷ (there ++ 32 ∷ (back ++ 32 ∷ action))))))) refl refl seven

-- so what it is followed by begins at its line feed
pub ends_there : (text line rest : List ℕ) → text ≡ ended_line line ++ rest → lacks 10 line ≡ true → IsFirstLine text line rest
ends_there text line rest is lack = record { spelled = is; whole = sym (word_before 10 text line rest (is ∙ again) lack) } where
  again : ended_line line ++ rest ≡ line ++ 10 ∷ rest
  again = by line where
    by : (l : List ℕ) → (l ++ 10 ∷ []) ++ rest ≡ l ++ 10 ∷ rest
    by [] = refl
    by (x ∷ l) = ap (λ t. x ∷ t) (by l)
