-- One line more of a report.
use Rattle.std.proofs.Common.{◌≡◌, ℕ, ◌+◌, ◌<◌, ◌≤◌, List, [], ◌∷◌, ◌++◌, Option, length, get_or, drop, refl, sym, ap, ◌∙◌, append_assoc, append-nil, subst, arith}
use Rattle.std.proofs.lemmas.List.{drop_more, drop_all}
use Rattle.npf_model.specs.declared.iface.Iface.{Iface}
use Rattle.npf_outside.{specs.Sink.{IsPutTo, Appends, AppendsFront}, proofs.SinkLemmas.{IsPutTo-goes_on, IsPutTo-fails, IsPutTo-begins}}
use Rattle.npf_engine.specs.declared.outcome.Outcome.{Outcome}
use Rattle.npf_report.specs.{LineText.line_text, TotalText.total_text, declared.crossed.Crossed.Crossed}
use Rattle.npf_traffic.specs.declared.packet.Packet.{Packet}
use Rattle.npf_types.specs.Name.{name_bytes}
use Rattle.npf_ctl_output.specs.{Crossings.IsCrossedBy, Report.{lines_from, name_of_interface, report_text}}

-- the line of a packet with its outcome
abbrev pub line_of : List Iface → ℕ → Packet → Outcome → List ℕ
line_of ifaces n packet outcome = line_text n (name_of_interface ifaces packet.ifid) packet.dir outcome

-- what is said of a line by what the packet crossed
pub of_crossed : (P : List ℕ → Type 0) (ifaces : List Iface) (n : ℕ) (packet : Packet) (outcome : Outcome) (crossed : Crossed) → IsCrossedBy ifaces packet crossed →
    P (line_text n (name_bytes crossed.name) crossed.dir outcome) → P (line_of ifaces n packet outcome)
of_crossed P ifaces n packet outcome crossed by said =
    let same : line_text n (name_bytes crossed.name) crossed.dir outcome ≡ line_of ifaces n packet outcome = rw (by.name, by.dir) refl in
    subst P same said

module _ (ifaces : List Iface) (packets : List Packet) (outcomes : List Outcome) (old : Option (List ℕ)) (text rest : List ℕ) where
  -- of the text the lines from the place i on and the rest are left
  abbrev pub IsLeft : Option (List ℕ) → ℕ → Type 0
  IsLeft held k = IsPutTo old held text (lines_from ifaces (k + 1) (drop k packets) (drop k outcomes) ++ rest)

  module _ (now new : Option (List ℕ)) (i : ℕ) where
    module _ (packet : Packet) (outcome : Outcome) (within : i < length packets) (many : length outcomes ≡ length packets)
        (packet_is : packet ≡ get_or packets i packet) (outcome_is : outcome ≡ get_or outcomes i outcome) where
      next_line : lines_from ifaces (i + 1) (drop i packets) (drop i outcomes) ++ rest
          ≡ line_of ifaces (i + 1) packet outcome ++ (lines_from ifaces (i + 1 + 1) (drop (i + 1) packets) (drop (i + 1) outcomes) ++ rest)
      next_line =
          let ps : drop i packets ≡ packet ∷ drop (i + 1) packets = drop_more packets i packet within ∙ ap (λ p. p ∷ drop (i + 1) packets) (sym packet_is) in
          let os : drop i outcomes ≡ outcome ∷ drop (i + 1) outcomes = drop_more outcomes i outcome (omega (arith, within, many)) ∙ ap (λ o. o ∷ drop (i + 1) outcomes) (sym outcome_is) in
          rw (ps, os) (append_assoc (line_of ifaces (i + 1) packet outcome) (lines_from ifaces (i + 1 + 1) (drop (i + 1) packets) (drop (i + 1) outcomes)) rest)

      -- the next line was put
      pub line_put : IsLeft now i → Appends now new (line_of ifaces (i + 1) packet outcome) → IsLeft new (i + 1)
      line_put left put = IsPutTo-goes_on old now new text _ _ (subst (IsPutTo old now text) next_line left) put

      -- a front of it was put
      pub line_fails : IsLeft now i → AppendsFront now new (line_of ifaces (i + 1) packet outcome) → AppendsFront old new text
      line_fails left put = IsPutTo-fails old now new text _ _ (subst (IsPutTo old now text) next_line left) put

    -- behind the last line the rest comes next
    rest_next : length packets ≤ i → IsLeft now i → IsPutTo old now text (rest ++ [])
    rest_next past left = subst (IsPutTo old now text) (rw (drop_all i packets past, append-nil rest) refl) left

    -- a front of it was put
    pub rest_fails : length packets ≤ i → IsLeft now i → AppendsFront now new rest → AppendsFront old new text
    rest_fails past left put = IsPutTo-fails old now new text rest [] (rest_next past left) put

    -- it was put, and then nothing more
    pub rest_put : (last : Option (List ℕ)) → length packets ≤ i → IsLeft now i → Appends now new rest → Appends new last [] → IsPutTo old last text []
    rest_put last past left put stays =
        IsPutTo-goes_on old new last text [] [] (IsPutTo-goes_on old now new text rest [] (rest_next past left) put) stays

-- at the beginning all of the report is left
pub nothing_put : (ifaces : List Iface) (packets : List Packet) (outcomes : List Outcome) (old : Option (List ℕ)) →
    IsLeft ifaces packets outcomes old (report_text ifaces packets outcomes) (total_text outcomes) old 0
unfolding report_text
nothing_put ifaces packets outcomes old = IsPutTo-begins old (report_text ifaces packets outcomes)
