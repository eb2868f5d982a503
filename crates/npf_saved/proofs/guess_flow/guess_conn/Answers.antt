use Rattle.std.{proofs.Common.{◌≡◌, ◌++◌, ◌∷◌, ◌∙◌, codes, refl, sym, lit≤}, specs.Fmt.decimal}
use Rattle.npf_saved.{specs.Spelling.{action_text, change_text, key_text, kind_text, or_dash, timeouts_text}, proofs.CutLemmas.{rest_behind, word_before}}
use Rattle.npf_saved.proofs.{TimeoutLemmas.{times_kept, word_kept}, FieldLemmas.{action_lacks, change_is_word, key_lacks, kind_is_word, optional_key_lacks}, WordLemmas.decimal_lacks}
use Rattle.npf_saved.proofs.guess_flow.guess_conn.Goals as goal

pub returns-clause-value : goal.returns-clause-value
returns-clause-value c = λ saved fits is.
    let flow = saved.flow in
    let forward = key_text saved.forward in
    let port = or_dash key_text saved.port in
    let backward = or_dash key_text saved.backward in
    let kind = kind_text flow.kind in
    let last = decimal flow.last in
    let there = change_text flow.there in
    let back = change_text flow.back in
    let action = action_text flow.action in
    let forward_lacks = key_lacks 32 refl saved.forward refl in
    let port_lacks = optional_key_lacks 32 refl saved.port refl refl in
    let backward_lacks = optional_key_lacks 32 refl saved.backward refl refl in
    let kind_lacks = kind_is_word flow.kind fits.flow.kind in
    let last_lacks = decimal_lacks 32 flow.last fits.flow.last (lit≤ tt) in
    let there_lacks = change_is_word flow.there in
    let back_lacks = change_is_word flow.back in
    let end = action ++ timeouts_text flow.timeouts in
    let action_is_word = action_lacks 32 (lit≤ tt) refl refl refl refl refl flow.action fits.flow.action in
    let behind_7 = back ++ 32 ∷ end in
    let behind_6 = there ++ 32 ∷ behind_7 in
    let behind_5 = last ++ 32 ∷ behind_6 in
    let behind_4 = kind ++ 32 ∷ behind_5 in
    let behind_3 = backward ++ 32 ∷ behind_4 in
    let behind_2 = port ++ 32 ∷ behind_3 in
    let behind_1 = forward ++ 32 ∷ behind_2 in
    let one = c.cut.ensures.behind ∙ rest_behind 32 c.args.line.now (codes "conn") behind_1 is refl in
    let two = c.cut-2.ensures.behind ∙ rest_behind 32 c.cut.result.1.now forward behind_2 one forward_lacks in
    let three = c.cut-3.ensures.behind ∙ rest_behind 32 c.cut-2.result.1.now port behind_3 two port_lacks in
    let four = c.cut-4.ensures.behind ∙ rest_behind 32 c.cut-3.result.1.now backward behind_4 three backward_lacks in
    let five = c.cut-5.ensures.behind ∙ rest_behind 32 c.cut-4.result.1.now kind behind_5 four kind_lacks in
    let six = c.cut-6.ensures.behind ∙ rest_behind 32 c.cut-5.result.1.now last behind_6 five last_lacks in
    let seven = c.cut-7.ensures.behind ∙ rest_behind 32 c.cut-6.result.1.now there behind_7 six there_lacks in
    let eight = c.cut-8.ensures.behind ∙ rest_behind 32 c.cut-7.result.1.now back end seven back_lacks in
    let forward_is = c.guess_key.ensures.value saved.forward fits.forward (c.cut-2.ensures.word ∙ word_before 32 c.cut.result.1.now forward behind_2 one forward_lacks) in
    let port_is = c.guess_optional_key.ensures.value saved.port fits.port (c.cut-3.ensures.word ∙ word_before 32 c.cut-2.result.1.now port behind_3 two port_lacks) in
    let backward_is = c.guess_optional_key-2.ensures.value saved.backward fits.backward
    (c.cut-4.ensures.word ∙ word_before 32 c.cut-3.result.1.now backward behind_4 three backward_lacks) in
    let kind_is = c.guess_kind.ensures.value flow.kind fits.flow.kind (c.cut-5.ensures.word ∙ word_before 32 c.cut-4.result.1.now kind behind_5 four kind_lacks) in
    let last_is = c.guess_number.ensures flow.last fits.flow.last (c.cut-6.ensures.word ∙ word_before 32 c.cut-5.result.1.now last behind_6 five last_lacks) in
    let there_is = c.guess_change.ensures.value flow.there fits.flow.there (c.cut-7.ensures.word ∙ word_before 32 c.cut-6.result.1.now there behind_7 six there_lacks) in
    let back_is = c.guess_change-2.ensures.value flow.back fits.flow.back (c.cut-8.ensures.word ∙ word_before 32 c.cut-7.result.1.now back end seven back_lacks) in
    let action_is = c.guess_action.ensures.value flow.action fits.flow.action (c.cut-9.ensures.word ∙ word_kept c.cut-8.result.1.now action flow.timeouts eight action_is_word) in
    let timeouts_is = c.guess_timeouts.ensures.value flow.timeouts fits.flow.timeouts (c.cut-9.ensures.behind ∙ times_kept c.cut-8.result.1.now action flow.timeouts eight action_is_word) in
    let opener_is = sym fits.flow.opener in
    λ i. record {
      forward = forward_is i;
      port = port_is i;
      backward = backward_is i;
      flow = record { kind = kind_is i; last = last_is i; opener = opener_is i; there = there_is i; back = back_is i; action = action_is i; timeouts = timeouts_is i };
    }
