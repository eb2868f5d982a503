-- The sum of an error still verifies once the error is translated: the words that it counts add up
-- to a multiple of 65,535 (RFC 1071 section 1).
use Rattle.std.specs.Prelude.{◌≡◌, ℕ, ◌%◌, false, List, length, slice_index}
use Rattle.npf_types.specs.declared.address.Addr.TheVariants.{V4, V6}
use Rattle.npf_types.specs.declared.change.Change.{Change}
use Rattle.npf_types.specs.declared.facts.Facts.{Facts}
use Rattle.npf_rewrite.specs.Room.{HasRoom}
use Rattle.npf_rewrite.specs.Verified.{HasBytes, PortsFit, carried_total, pseudo_total}
use Rattle.npf_icmpalg.specs.declared.error.Inner.{Inner}
use Rattle.npf_icmpalg.specs.Error.{IsError}
use Rattle.npf_icmpalg.specs.ErrorTranslated.{ErrorTranslated}

-- that of ICMP counts the words from its header to the packet's end (RFC 792)
abbrev pub ErrorSumFollows : Type 0
ErrorSumFollows =
    (bytes translated : List ℕ) (facts : Facts) (inner : Inner) (change : Change) (a : ℕ)
    → HasBytes bytes → PortsFit facts change → facts.src ≡ V4 a → HasRoom (length bytes) facts
    → IsError bytes facts inner → change.neutral ≡ false
    → ErrorTranslated bytes facts inner change translated
    → carried_total (slice_index bytes) facts.l4_at facts.end % 65535 ≡ 0
    → carried_total (slice_index translated) facts.l4_at facts.end % 65535 ≡ 0

-- that of ICMPv6 counts a pseudo-header of the outer addresses besides (RFC 4443 section 2.3)
abbrev pub Icmpv6ErrorSumFollows : Type 0
Icmpv6ErrorSumFollows =
    (bytes translated : List ℕ) (facts : Facts) (inner : Inner) (change : Change) (a : ℕ)
    → HasBytes bytes → PortsFit facts change → facts.src ≡ V6 a → HasRoom (length bytes) facts
    → IsError bytes facts inner → change.neutral ≡ false
    → ErrorTranslated bytes facts inner change translated
    → pseudo_total (slice_index bytes) facts % 65535 ≡ 0
    → pseudo_total (slice_index translated) facts % 65535 ≡ 0
