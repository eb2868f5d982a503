-- The options of TCP (RFC 9293 section 3.2): an option is one byte, its kind, or has 0: kind, 1: length, which counts
-- both, and then as many bytes as are left of the length.
use Rattle.std.specs.Prelude.{◌≡◌, ℕ, ◌+◌, ◌==◌, ◌&&◌, nat_lt, nat_le, min, if◌then◌else◌, Option, Some, None, List, [], ◌∷◌, slice_index}
use Rattle.std.specs.Option.{option_or}
use Rattle.npf_packet.specs.declared.tcp_option.Options.{Options}
use Rattle.npf_packet.specs.Chain.{IsChain}

module _ (bytes : List ℕ) where
  -- the bytes of the option at a place; a no-operation (1) has no length
  abbrev pub option_len : ℕ → ℕ
  option_len at = if slice_index bytes at == 1 then 1 else slice_index bytes (at + 1)

  -- where the option ends that begins at `at`: none does at the header's end `to` or at the end of the options (0), nor
  -- where the length is missing, is below 2 or passes the header
  abbrev pub option_end : ℕ → ℕ → Option ℕ
  option_end to at =
      if nat_le to at then None
      else (if slice_index bytes at == 0 then None
      else (if slice_index bytes at == 1 then Some (at + 1)
      else (if nat_le to (at + 1) then None
      else (if nat_lt (option_len at) 2 then None
      else (if nat_lt to (at + option_len at) then None else Some (at + option_len at))))))

  -- the shift of a window scale: kind 3, length 3, at most 14 (RFC 7323 sections 2.2 and 2.3)
  abbrev pub scale_at : ℕ → Option ℕ
  scale_at at = if slice_index bytes at == 3 && option_len at == 3 then Some (min (slice_index bytes (at + 2)) 14) else None

  -- where the number of a maximum segment size is: kind 2, length 4 (RFC 9293 section 3.2)
  abbrev pub mss_at : ℕ → Option ℕ
  mss_at at = if slice_index bytes at == 2 && option_len at == 4 then Some (at + 2) else None

-- what the first place says that says something
abbrev pub first_said : (ℕ → Option ℕ) → List ℕ → Option ℕ
first_said says [] = None
first_said says (place ∷ places) = option_or (says place) (first_said says places)

-- the options between two places begin at a chain of places, and say this
pub record HasOptions (bytes : List ℕ) (from to : ℕ) (options : Options) : Type 0 where
  pub places : List ℕ
  pub last : ℕ
  pub chain : IsChain (option_end bytes to) from places last
  pub scale : options.scale ≡ first_said (scale_at bytes) places
  pub mss : options.mss_at ≡ first_said (mss_at bytes) places
