-- What a sink over a stream holds while bytes move from its buffer to the stream. The stream tells what it holds before a move exactly
-- where it does so behind it.
use Rattle.std.proofs.Common.{◌≡◌, ℕ, List, [], ◌++◌, Option, Some, None, false, true, take, drop, sym, ap, ◌∙◌, append_assoc, append-nil, take-append-drop}
use Rattle.std.specs.{Option.is_some, Io.KnownBytes.{Keeps, append_known, Appends as KnownAppends}}
use Rattle.npf_outside.specs.Sink.{Appends, AppendsFront}

no_longer : (P : Type 0) → true ≡ false → P
no_longer P same = cc

not_yet : (P : Type 0) → false ≡ true → P
not_yet P same = cc

-- the front of what waits was written
pub moved : (a b : Option (List ℕ)) (n : ℕ) (all shown left : List ℕ) → is_some a ≡ is_some b → KnownAppends a b (take n shown) → shown ≡ all → left ≡ drop n all
    → Appends (append_known a all) (append_known b left) []
moved None None n all shown left same put is rest = tt
moved None (Some y) n all shown left same put is rest = not_yet _ same
moved (Some x) None n all shown left same put is rest = no_longer _ same
moved (Some x) (Some y) n all shown left same put is rest =
    ap (λ held. held ++ left) put ∙ append_assoc x (take n shown) left ∙ ap (λ s. x ++ (take n s ++ left)) is ∙ ap (λ l. x ++ (take n all ++ l)) rest
    ∙ ap (λ held. x ++ held) (take-append-drop n all) ∙ sym (append-nil (x ++ all))

-- the stream keeps what it holds, and what waits stays
pub kept : (a b : Option (List ℕ)) (waits : List ℕ) → is_some a ≡ is_some b → Keeps a b → Appends (append_known a waits) (append_known b waits) []
kept None None waits same keeps = tt
kept None (Some y) waits same keeps = not_yet _ same
kept (Some x) None waits same keeps = no_longer _ same
kept (Some x) (Some y) waits same keeps = ap (λ held. held ++ waits) keeps ∙ sym (append-nil (x ++ waits))

-- bytes were written where none wait
pub written : (a b : Option (List ℕ)) (waits bytes : List ℕ) → is_some a ≡ is_some b → KnownAppends a b bytes → waits ≡ [] → Appends (append_known a waits) (append_known b waits) bytes
written None None waits bytes same put none = tt
written None (Some y) waits bytes same put none = not_yet _ same
written (Some x) None waits bytes same put none = no_longer _ same
written (Some x) (Some y) waits bytes same put none =
    ap (λ w. y ++ w) none ∙ append-nil y ∙ put ∙ ap (λ held. held ++ bytes) (sym (append-nil x) ∙ ap (λ w. x ++ w) (sym none))

-- the front that was put
pub front_of : (old new : Option (List ℕ)) (n : ℕ) (bytes : List ℕ) → Appends old new (take n bytes) → AppendsFront old new bytes
front_of None None n bytes put = tt
front_of None (Some y) n bytes put = absurd put
front_of (Some x) None n bytes put = absurd put
front_of (Some x) (Some y) n bytes put = (take n bytes, drop n bytes, sym (take-append-drop n bytes), put)
