use Rattle.std.{proofs.Common.{◌≡◌, ◌++◌, ◌∷◌, ◌∙◌, ℕ, refl, lit≤}, specs.Fmt.decimal}
use Rattle.npf_timeouts.specs.declared.timeouts.Timeout.TheVariants.{TcpNew, TcpEstablished, TcpHalfClose, TcpTimeWait, TcpClose, OtherNew, OtherEstablished}
use Rattle.npf_timeouts.proofs.TimeoutsLemmas.{all_can_be_set}
use Rattle.npf_saved.proofs.{CutLemmas.{rest_behind, word_before}, TimeoutLemmas.time_lacks}
use Rattle.npf_saved.proofs.guess_flow.guess_times.Goals as goal

pub returns-clause-value : goal.returns-clause-value
returns-clause-value c = λ times are is.
    let tcp_new = decimal times.tcp_new in
    let tcp_established = decimal times.tcp_established in
    let tcp_half_close = decimal times.tcp_half_close in
    let tcp_time_wait = decimal times.tcp_time_wait in
    let tcp_close = decimal times.tcp_close in
    let other_new = decimal times.other_new in
    let other_established = decimal times.other_established in
    let tcp_new_lacks = time_lacks 32 (lit≤ tt) times.tcp_new (are TcpNew) in
    let tcp_established_lacks = time_lacks 32 (lit≤ tt) times.tcp_established (are TcpEstablished) in
    let tcp_half_close_lacks = time_lacks 32 (lit≤ tt) times.tcp_half_close (are TcpHalfClose) in
    let tcp_time_wait_lacks = time_lacks 32 (lit≤ tt) times.tcp_time_wait (are TcpTimeWait) in
    let tcp_close_lacks = time_lacks 32 (lit≤ tt) times.tcp_close (are TcpClose) in
    let other_new_lacks = time_lacks 32 (lit≤ tt) times.other_new (are OtherNew) in
    let behind_5 = other_new ++ 32 ∷ other_established in
    let behind_4 = tcp_close ++ 32 ∷ behind_5 in
    let behind_3 = tcp_time_wait ++ 32 ∷ behind_4 in
    let behind_2 = tcp_half_close ++ 32 ∷ behind_3 in
    let behind_1 = tcp_established ++ 32 ∷ behind_2 in
    let one = c.cut.ensures.behind ∙ rest_behind 32 c.args.words.now tcp_new behind_1 is tcp_new_lacks in
    let two = c.cut-2.ensures.behind ∙ rest_behind 32 c.cut.result.1.now tcp_established behind_2 one tcp_established_lacks in
    let three = c.cut-3.ensures.behind ∙ rest_behind 32 c.cut-2.result.1.now tcp_half_close behind_3 two tcp_half_close_lacks in
    let four = c.cut-4.ensures.behind ∙ rest_behind 32 c.cut-3.result.1.now tcp_time_wait behind_4 three tcp_time_wait_lacks in
    let five = c.cut-5.ensures.behind ∙ rest_behind 32 c.cut-4.result.1.now tcp_close behind_5 four tcp_close_lacks in
    let six = c.cut-6.ensures.behind ∙ rest_behind 32 c.cut-5.result.1.now other_new other_established five other_new_lacks in
    let tcp_new_is = c.guess_seconds.ensures.value times.tcp_new (are TcpNew) (c.cut.ensures.word ∙ word_before 32 c.args.words.now tcp_new behind_1 is tcp_new_lacks) in
    let tcp_established_is = c.guess_seconds-2.ensures.value times.tcp_established (are TcpEstablished)
    (c.cut-2.ensures.word ∙ word_before 32 c.cut.result.1.now tcp_established behind_2 one tcp_established_lacks) in
    let tcp_half_close_is = c.guess_seconds-3.ensures.value times.tcp_half_close (are TcpHalfClose)
    (c.cut-3.ensures.word ∙ word_before 32 c.cut-2.result.1.now tcp_half_close behind_3 two tcp_half_close_lacks) in
    let tcp_time_wait_is = c.guess_seconds-4.ensures.value times.tcp_time_wait (are TcpTimeWait)
    (c.cut-4.ensures.word ∙ word_before 32 c.cut-3.result.1.now tcp_time_wait behind_4 three tcp_time_wait_lacks) in
    let tcp_close_is = c.guess_seconds-5.ensures.value times.tcp_close (are TcpClose) (c.cut-5.ensures.word ∙ word_before 32 c.cut-4.result.1.now tcp_close behind_5 four tcp_close_lacks) in
    let other_new_is = c.guess_seconds-6.ensures.value times.other_new (are OtherNew)
    (c.cut-6.ensures.word ∙ word_before 32 c.cut-5.result.1.now other_new other_established five other_new_lacks) in
    let other_established_is = c.guess_seconds-7.ensures.value times.other_established (are OtherEstablished) six in
    λ i. record {
      tcp_new = tcp_new_is i;
      tcp_established = tcp_established_is i;
      tcp_half_close = tcp_half_close_is i;
      tcp_time_wait = tcp_time_wait_is i;
      tcp_close = tcp_close_is i;
      other_new = other_new_is i;
      other_established = other_established_is i;
    }

pub returns-clause-fits : goal.returns-clause-fits
returns-clause-fits c =
    all_can_be_set _ c.guess_seconds.ensures.fits c.guess_seconds-2.ensures.fits c.guess_seconds-3.ensures.fits c.guess_seconds-4.ensures.fits c.guess_seconds-5.ensures.fits
    c.guess_seconds-6.ensures.fits c.guess_seconds-7.ensures.fits
