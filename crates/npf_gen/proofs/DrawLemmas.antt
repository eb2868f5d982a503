-- The state after one draw more, and the packet that three draws tell.
use Rattle.std.proofs.Common.{◌≡◌, ℕ, suc, ◌+◌, ◌*◌, ◌-◌, ◌/◌, ◌^◌, ap, refl, arith}
use Rattle.npf_gen.specs.{Draw.{following_state, drawn_state}, Datagram.datagram_of, Workload.nth_datagram}

after_draw : (number n m : ℕ) → m ≡ suc n → drawn_state number m ≡ following_state (drawn_state number n)
unfolding drawn_state
after_draw number n m e = ap (drawn_state number) e

-- three draws, from the state before them to that after them
module _ (number i : ℕ) (s t u v : ℕ) (before : s ≡ drawn_state number (3 * i)) (first : t ≡ following_state s)
    (second : u ≡ following_state t) (third : v ≡ following_state u) where
  after_first : t ≡ drawn_state number (3 * i + 1)
  after_first = rw (first, before, after_draw number (3 * i) (3 * i + 1) (omega arith)) refl

  after_second : u ≡ drawn_state number (3 * i + 2)
  after_second = rw (second, after_first, after_draw number (3 * i + 1) (3 * i + 2) (omega arith)) refl

  pub after_third : v ≡ drawn_state number (3 * (i + 1))
  after_third = rw (third, after_second, after_draw number (3 * i + 2) (3 * (i + 1)) (omega arith)) refl

  pub tells_packet : (host port server : ℕ) → host ≡ t / 2 ^ 33 → port ≡ u / 2 ^ 33 → server ≡ v / 2 ^ 33
      → datagram_of host port server ≡ nth_datagram number (i + 1)
  tells_packet host port server x y z =
      let one : 3 * (i + 1) - 2 ≡ 3 * i + 1 = omega arith in
      let two : 3 * (i + 1) - 1 ≡ 3 * i + 2 = omega arith in
      rw (x, y, z, after_first, after_second, after_third, one, two) refl
