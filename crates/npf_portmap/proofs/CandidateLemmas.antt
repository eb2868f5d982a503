-- How often a port stands among consecutive ones, and what is left of these once the first is
-- taken.
use Rattle.std.proofs.Common.{◌≡◌, ◌≤◌, ◌<◌, ◌==◌, ◌&&◌, ◌+◌, ◌-◌, ℕ, zero, suc, Bool, drop, if◌then◌else◌, nat_le, nat_lt, refl, arith}
use Rattle.std.{specs.{Prelude.count_by, List.range_with_len}, proofs.lemmas.Grind.common_steps}
use Rattle.npf_portmap.specs.Laws.{EachPortOnce}

pub left_of_run : (first end : ℕ) → first < end → range_with_len (first + 1) (end - (first + 1)) ≡ drop 1 (range_with_len first (end - first))
left_of_run first end h = let e : end - first ≡ suc (end - (first + 1)) = omega arith in rw e refl

pub ruleset taking = (left_of_run)

abbrev is_port : ℕ → ℕ → Bool
is_port port candidate = candidate == port

abbrev times : Bool → ℕ
times answer = if answer then 1 else 0

one_more : (port a n : ℕ) →
    (if a == port then 1 else 0) + times (nat_le (a + 1) port && nat_lt port (a + 1 + n)) ≡ times (nat_le a port && nat_lt port (a + suc n))
one_more port a n = grind (arith, common_steps)

count_of_run : (port a n : ℕ) → count_by (is_port port) (range_with_len a n) ≡ times (nat_le a port && nat_lt port (a + n))
count_of_run port a zero = grind (arith, common_steps)
count_of_run port a (suc n) = grind (arith, common_steps, one_more port a n, count_of_run port (a + 1) n)

two_runs : (min max first port : ℕ) → min ≤ first → first ≤ max →
    times (nat_le first port && nat_lt port (first + (max + 1 - first))) + times (nat_le min port && nat_lt port (min + (first - min)))
    ≡ times (nat_le min port && nat_le port max)
two_runs min max first port low high = grind (arith, common_steps)

pub port_once : EachPortOnce
port_once min max first port low high =
    grind (arith, common_steps, count_of_run port first (max + 1 - first), count_of_run port min (first - min), two_runs min max first port low high)

pub ruleset counting = (port_once)
