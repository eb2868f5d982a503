-- A packet that is sent keeps its version and its lengths.
use Rattle.std.{proofs.Common.{◌≡◌, ℕ, ◌+◌, ◌<◌, List, length, sym, ◌∙◌, subst, arith}, specs.Prelude.slice_index}
use Rattle.npf_types.specs.declared.facts.Facts.{Facts}
use Rattle.npf_rewrite.specs.{Lengths.{KeepsLengths, NormalisedKeepsLengths, SentKeepsLengths, TranslatedKeepsLengths}, Room.HasRoom}
use Rattle.npf_rewrite.proofs.{NormalisedLemmas.front-stays, PlacedLemmas.{front-same, laid}}

keeps : (facts : Facts) (old new : List ℕ) → length new ≡ length old
    → ((at : ℕ) → at < facts.ip_at + 6 → slice_index new at ≡ slice_index old at)
    → KeepsLengths facts old new
keeps facts old new size front =
    let ip = facts.ip_at in
    let first = front ip (omega arith) in
    let two = front (ip + 2) (omega arith) in
    let three = front (ip + 2 + 1) (omega arith) in
    let four = front (ip + 4) (omega arith) in
    let five = front (ip + 4 + 1) (omega arith) in
    record { size = size; front = front; version = cc; header = cc; end = cc }

pub translated_lengths_lem : TranslatedKeepsLengths
translated_lengths_lem bytes translated facts change room t =
    keeps facts bytes translated t.size
    (λ at below. front-same bytes translated facts change room.upper t at
    (omega (arith, below, (laid facts.ip_at facts.src).least)))

pub normalised_lengths_lem : NormalisedKeepsLengths
normalised_lengths_lem bytes normalised facts action room n =
    keeps facts bytes normalised n.size (front-stays bytes normalised facts action room n)

pub sent_lengths_lem : SentKeepsLengths
sent_lengths_lem bytes sent facts action change room s =
    let one = normalised_lengths_lem bytes s.normalised facts action room s.first in
    let two = translated_lengths_lem s.normalised sent facts change
    (subst (λ size. HasRoom size facts) (sym one.size) room) s.second in
    keeps facts bytes sent (two.size ∙ one.size)
    (λ at below. two.front at below ∙ one.front at below)
