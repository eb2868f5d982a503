-- Times that can be set, and those that hold where nothing is said.
use Rattle.std.proofs.{Common.{◌≡◌, ℕ, true, refl, arith}, lemmas.Bool.Decides.nat_tests}
use Rattle.npf_timeouts.specs.declared.timeouts.{Timeout.{Timeout, TheVariants.{TcpNew, TcpEstablished, TcpHalfClose, TcpTimeWait, TcpClose, OtherNew, OtherEstablished}}, Timeouts.Timeouts}
use Rattle.npf_timeouts.specs.Timeouts.{AreTimeouts, are_default, default_timeouts, is_timeout, with_timeout}

pub default_can_be_set : AreTimeouts default_timeouts
default_can_be_set TcpNew = refl
default_can_be_set _ = refl

-- each of seven can be set
pub all_can_be_set : (times : Timeouts) → is_timeout times.tcp_new ≡ true → is_timeout times.tcp_established ≡ true → is_timeout times.tcp_half_close ≡ true
    → is_timeout times.tcp_time_wait ≡ true → is_timeout times.tcp_close ≡ true → is_timeout times.other_new ≡ true → is_timeout times.other_established ≡ true
    → AreTimeouts times
all_can_be_set times new established half_close time_wait close other_new other_established TcpNew = new
all_can_be_set times new established half_close time_wait close other_new other_established TcpEstablished = established
all_can_be_set times new established half_close time_wait close other_new other_established TcpHalfClose = half_close
all_can_be_set times new established half_close time_wait close other_new other_established TcpTimeWait = time_wait
all_can_be_set times new established half_close time_wait close other_new other_established TcpClose = close
all_can_be_set times new established half_close time_wait close other_new other_established OtherNew = other_new
all_can_be_set times new established half_close time_wait close other_new other_established OtherEstablished = other_established

-- where one is set to such a time, all stay so
pub set_can_be_set : (timeout : Timeout) (n : ℕ) → is_timeout n ≡ true → (times : Timeouts) → AreTimeouts times → AreTimeouts (with_timeout timeout n times)
set_can_be_set TcpNew n is times are TcpNew = is
set_can_be_set TcpEstablished n is times are TcpEstablished = is
set_can_be_set TcpHalfClose n is times are TcpHalfClose = is
set_can_be_set TcpTimeWait n is times are TcpTimeWait = is
set_can_be_set TcpClose n is times are TcpClose = is
set_can_be_set OtherNew n is times are OtherNew = is
set_can_be_set OtherEstablished n is times are OtherEstablished = is
set_can_be_set _ n is times are other = are other

pub default_is : (times : Timeouts) → are_default times ≡ true → times ≡ default_timeouts
default_is times is =
    let new : times.tcp_new ≡ 30 = grind (arith, nat_tests) in
    let established : times.tcp_established ≡ 86400 = grind (arith, nat_tests) in
    let half_close : times.tcp_half_close ≡ 3600 = grind (arith, nat_tests) in
    let time_wait : times.tcp_time_wait ≡ 240 = grind (arith, nat_tests) in
    let close : times.tcp_close ≡ 10 = grind (arith, nat_tests) in
    let other_new : times.other_new ≡ 30 = grind (arith, nat_tests) in
    let other_established : times.other_established ≡ 60 = grind (arith, nat_tests) in
    λ i. record {
      tcp_new = new i;
      tcp_established = established i;
      tcp_half_close = half_close i;
      tcp_time_wait = time_wait i;
      tcp_close = close i;
      other_new = other_new i;
      other_established = other_established i;
    }
