-- The steps of the loops over packets, commands and workers.
use Rattle.std.proofs.Common.{◌≡◌, ℕ, ◌+◌, ◌≤◌, ◌<◌, ◌^◌, List, [], ◌∷◌, ◌++◌, All, map, length, take, drop, get_or, refl, ap, sym, subst, ◌∙◌, arith, suc}
use Rattle.std.{specs.List.AllZip, proofs.lemmas.List.{append_assoc, drop_more, length-take-le, map-append, take_more}}
use Rattle.std.{proofs.lemmas.List.Elements.{All-nil, All-cons, All-head, All-tail}, specs.Prelude.{Option, Some, None}}
use Rattle.npf_publish.specs.{declared.conf_reader.ConfReader.ConfReader, ConfReader.reader_range}
use Rattle.npf_engine.specs.Handles.{Asks}
use Rattle.npf_traffic.specs.declared.{packet.Packet.Packet, phase.{Command.{Command, TheVariants.{Publish, Expire}}, Phase.Phase}}
use Rattle.npf_runner.specs.Job.{IsJob, Job, with_numbers, numbered_from}
use Rattle.npf_traffic.specs.{Phases.{PhasesPublishFrom, PublishFrom, published_by}, Packet.IsShortPacket}

numbered_push : (first : ℕ) (packets : List Packet) (packet : Packet) →
    numbered_from first (packets ++ packet ∷ []) ≡ numbered_from first packets ++ record { number = first + length packets; packet = packet } ∷ []
numbered_push first [] packet = let same : first ≡ first + 0 = omega arith in ap (λ n. record { number = n; packet = packet } ∷ []) same
numbered_push first (p ∷ packets) packet =
    let same : first + 1 + length packets ≡ first + suc (length packets) = omega arith in
    ap (λ jobs. record { number = first; packet = p } ∷ jobs) (numbered_push (first + 1) packets packet
    ∙ ap (λ n. numbered_from (first + 1) packets ++ record { number = n; packet = packet } ∷ []) same)

-- one packet more is numbered
pub numbered_more : (first : ℕ) (packets : List Packet) (i : ℕ) (packet : Packet) → i < length packets → packet ≡ get_or packets i packet →
    numbered_from first (take (i + 1) packets) ≡ numbered_from first (take i packets) ++ record { number = first + i; packet = packet } ∷ []
numbered_more first packets i packet low at =
    let size : length (take i packets) ≡ i = length-take-le i packets (omega (arith, low)) in
    ap (numbered_from first) (take_more packets i packet low ∙ ap (λ p. take i packets ++ p ∷ []) (sym at))
    ∙ (numbered_push first (take i packets) packet ∙ ap (λ n. numbered_from first (take i packets) ++ record { number = first + n; packet = packet } ∷ []) size)

-- the first of those that are left
pub numbered_rest : (numbers : List ℕ) (packets : List Packet) (i n : ℕ) (packet : Packet) → i < length numbers → i < length packets → n ≡ get_or numbers i n → packet ≡ get_or packets i packet →
    with_numbers (drop i numbers) (drop i packets) ≡ record { number = n; packet = packet } ∷ with_numbers (drop (i + 1) numbers) (drop (i + 1) packets)
numbered_rest numbers packets i n packet low low' at at' =
    ap (λ ns. with_numbers ns (drop i packets)) (drop_more numbers i n low ∙ ap (λ m. m ∷ drop (i + 1) numbers) (sym at))
    ∙ ap (λ ps. with_numbers (n ∷ drop (i + 1) numbers) ps) (drop_more packets i packet low' ∙ ap (λ p. p ∷ drop (i + 1) packets) (sym at'))

pub asks_range : (old new : ConfReader) (asked : Option ℕ) → Asks old new asked → reader_range new ≡ reader_range old
asks_range old new None a = a.0
asks_range old new (Some number) a = a.range

pub jobs_numbered : (first : ℕ) (packets : List Packet) → 1 ≤ first → first + length packets < 2 ^ 64 → All IsShortPacket packets → All IsJob (numbered_from first packets)
jobs_numbered first [] some few short = All-nil IsJob
jobs_numbered first (packet ∷ packets) some few short =
    All-cons IsJob (record { number = first; packet = packet }) (numbered_from (first + 1) packets)
    (record { counts = some; fits = omega (arith, few); short = All-head IsShortPacket packet packets short })
    (jobs_numbered (first + 1) packets (omega (arith, some)) (omega (arith, few)) (All-tail IsShortPacket packet packets short))

pub numbered_length : (first : ℕ) (packets : List Packet) → length (numbered_from first packets) ≡ length packets
numbered_length first [] = refl
numbered_length first (packet ∷ packets) = ap suc (numbered_length (first + 1) packets)

-- publications in order stay below the count
pub published_below : (count last : ℕ) (commands : List Command) → PublishFrom count last commands → last < count → last + published_by commands < count
published_below count last [] p low = omega (arith, low)
published_below count last (Publish place ∷ commands) p low =
    let rest = published_below count (last + 1) commands p.2 (let e = p.0 in let f = p.1 in omega (arith, e, f)) in omega (arith, rest)
published_below count last (Expire time ∷ commands) p low = published_below count last commands p low

pub phases_from : (phases : List Phase) (i : ℕ) (phase : Phase) → i < length phases → phase ≡ get_or phases i phase → drop i phases ≡ phase ∷ drop (i + 1) phases
phases_from phases i phase low at = drop_more phases i phase low ∙ ap (λ p. p ∷ drop (i + 1) phases) (sym at)

pub phase_ordered : (count last : ℕ) (phases : List Phase) (i : ℕ) (phase : Phase) → i < length phases → phase ≡ get_or phases i phase → PhasesPublishFrom count last (drop i phases) →
    PublishFrom count last phase.commands × PhasesPublishFrom count (last + published_by phase.commands) (drop (i + 1) phases)
phase_ordered count last phases i phase low at ordered = subst (λ ps. PhasesPublishFrom count last ps) (phases_from phases i phase low at) ordered

-- one item goes over into what is made, which keeps this part of it
pub mapped_more : {X Y Z : Type 0} (f : X → Z) (g : Y → Z) (made new : List Y) (before after : List X) (x : X) (y : Y) → before ≡ x ∷ after → g y ≡ f x → new ≡ made ++ y ∷ [] →
    map g made ++ map f before ≡ map g new ++ map f after
mapped_more f g made new before after x y items same pushed =
    ap (λ xs. map g made ++ map f xs) items
    ∙ (sym (append_assoc (map g made) (f x ∷ []) (map f after))
    ∙ ap (λ zs. zs ++ map f after) (ap (λ z. map g made ++ z ∷ []) (sym same) ∙ sym (ap (map g) pushed ∙ map-append g made (y ∷ []))))

-- what holds of each job and of its worker holds place by place
pub zip_numbered : (R : Job → ℕ → Type 0) (first : ℕ) (packets : List Packet) (workers : List ℕ) → length workers ≡ length packets →
    ((i : ℕ) (packet : Packet) → i < length packets → packet ≡ get_or packets i packet → R (record { number = first + i; packet = packet }) (get_or workers i 0)) →
    AllZip R (numbered_from first packets) workers
zip_numbered R first [] [] n each = tt
zip_numbered R first [] (w ∷ workers) n each = absurd (omega (arith, n))
zip_numbered R first (p ∷ packets) [] n each = absurd (omega (arith, n))
zip_numbered R first (p ∷ packets) (w ∷ workers) n each = (
  (let same : first + 0 ≡ first = omega arith in subst (λ k. R (record { number = k; packet = p }) w) same (each 0 p (omega arith) refl)),
  zip_numbered R (first + 1) packets workers (omega (arith, n))
      (λ i packet low is. let same : first + suc i ≡ first + 1 + i = omega arith in
      subst (λ k. R (record { number = k; packet = packet }) (get_or workers i 0)) same (each (suc i) packet (omega (arith, low)) is)),
)
