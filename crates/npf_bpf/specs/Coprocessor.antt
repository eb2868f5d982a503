-- What a coprocessor tells a program about the packet (NetBSD's bpf(4), with the two functions that
-- NPF gives it):
--
--   function 0: M[0] is the packet's IP version, 4 or 6; M[1] the offset of layer 4, in bytes from
--               the packet's first; M[2] the protocol that it carries; A is M[0]
--   function 1: A is 1 where the table that A's low 31 bits number has the packet's source, where
--               A's top bit is set, or else its destination; otherwise A is 0
--
-- A table that doesn't exist has no members: `member` is false of its number.
use Rattle.std.specs.Prelude.{ℕ, Bool}

pub record Coprocessor : Type 0 where
  -- the IP version, the offset of layer 4, and the protocol
  pub header : ℕ × ℕ × ℕ
  -- whether the table of this number has the packet's source, or at `false` its destination
  pub member : ℕ → Bool → Bool
