-- How long a connection may be idle, in seconds. The times that hold where nothing else is said are this project's own, after
-- NetBSD's npf: a connection of TCP that is open may be idle for a day, and one that opens, closes or has closed for less; another
-- for 30 seconds, and for 60 once it is answered.
use Rattle.std.specs.Prelude.{◌≡◌, ℕ, nat_le, Bool, true, ◌&&◌, ◌==◌}
use Rattle.npf_timeouts.specs.declared.timeouts.Timeout.{Timeout}
use Rattle.npf_timeouts.specs.declared.timeouts.Timeout.TheVariants.{TcpNew, TcpEstablished, TcpHalfClose, TcpTimeWait, TcpClose, OtherNew, OtherEstablished}
use Rattle.npf_timeouts.specs.declared.timeouts.Timeouts.{Timeouts}

abbrev pub default_timeouts : Timeouts
default_timeouts = record {
  tcp_new = 30;
  tcp_established = 86400;
  tcp_half_close = 3600;
  tcp_time_wait = 240;
  tcp_close = 10;
  other_new = 30;
  other_established = 60;
}

abbrev pub timeout_of : Timeouts → Timeout → ℕ
timeout_of times TcpNew = times.tcp_new
timeout_of times TcpEstablished = times.tcp_established
timeout_of times TcpHalfClose = times.tcp_half_close
timeout_of times TcpTimeWait = times.tcp_time_wait
timeout_of times TcpClose = times.tcp_close
timeout_of times OtherNew = times.other_new
timeout_of times OtherEstablished = times.other_established

-- times with one of them set
abbrev pub with_timeout : Timeout → ℕ → Timeouts → Timeouts
with_timeout TcpNew seconds times = record times { tcp_new = seconds }
with_timeout TcpEstablished seconds times = record times { tcp_established = seconds }
with_timeout TcpHalfClose seconds times = record times { tcp_half_close = seconds }
with_timeout TcpTimeWait seconds times = record times { tcp_time_wait = seconds }
with_timeout TcpClose seconds times = record times { tcp_close = seconds }
with_timeout OtherNew seconds times = record times { other_new = seconds }
with_timeout OtherEstablished seconds times = record times { other_established = seconds }

-- each of the times is that which holds where nothing else is said
abbrev pub are_default : Timeouts → Bool
are_default times =
    times.tcp_new == default_timeouts.tcp_new
    && times.tcp_established == default_timeouts.tcp_established
    && times.tcp_half_close == default_timeouts.tcp_half_close
    && times.tcp_time_wait == default_timeouts.tcp_time_wait
    && times.tcp_close == default_timeouts.tcp_close
    && times.other_new == default_timeouts.other_new
    && times.other_established == default_timeouts.other_established

-- a time that can be set, in seconds: in thousandths of a second it fits 32 bits
abbrev pub is_timeout : ℕ → Bool
is_timeout seconds = nat_le 1 seconds && nat_le seconds 4294967

-- each of the times is one that can be set
abbrev pub AreTimeouts : Timeouts → Type 0
AreTimeouts times = (timeout : Timeout) → is_timeout (timeout_of times timeout) ≡ true
