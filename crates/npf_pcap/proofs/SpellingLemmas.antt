-- What is written is a capture of the same records.
use Rattle.std.proofs.Common.{◌≡◌, ℕ, ◌+◌, ◌/◌, ◌%◌, ◌^◌, ◌∙◌, sym, ap, subst, refl, List, [], ◌∷◌, ◌++◌, length, take, drop, arith, append_assoc, length-append, All}
use Rattle.std.{proofs.lemmas.List.{drop-drop, take_at, drop_at, Elements.recursion_from_All}, specs.List.{flat_map, AllByRecursion}}
use Rattle.byteorder.specs.Numbers.{little_number-reads_back}
use Rattle.npf_types.specs.declared.link.Link.TheVariants.{Raw}
use Rattle.npf_pcap.specs.declared.{format.{Format.Format, Endianness.TheVariants.Little, Precision.TheVariants.Nano}, capture.Record.Record}
use Rattle.npf_pcap.specs.{Format.number_at, Record.{stored_len, record_len, Spells, AreRecords}, Capture.IsCapture}
use Rattle.npf_pcap.specs.Spelling.{record_bytes, capture_bytes, FitsCapture}

-- five pieces, appended one after the other
pub five_appended : (o a b c d e p q r s t : List ℕ) → p ≡ o ++ a → q ≡ p ++ b → r ≡ q ++ c → s ≡ r ++ d → t ≡ s ++ e
    → t ≡ o ++ (a ++ b ++ c ++ d ++ e)
five_appended o a b c d e p q r s t ep eq er es et =
    let whole : t ≡ ((((o ++ a) ++ b) ++ c) ++ d) ++ e = rw (et, es, er, eq, ep) refl in
    whole ∙ simp append_assoc

-- the format of what is written
abbrev written : Format
written = record { order = Little; precision = Nano }

-- bytes that begin with these numbers begin with the record
module _ (b tail : List ℕ) (r : Record) (fits : FitsCapture r) (seconds : number_at Little 4 b 0 ≡ r.time / 10 ^ 9)
    (fraction : number_at Little 4 b 4 ≡ r.time % 10 ^ 9) (stored : stored_len written b ≡ length r.bytes)
    (behind : drop 16 b ≡ r.bytes ++ tail) (size : length b ≡ 16 + length (r.bytes ++ tail)) where
  spells : Spells written b r
  spells = record {
    whole = record {
      header = omega arith;
      short = omega (arith, fits.short);
      whole = omega (arith, length-append r.bytes tail);
    };
    time = omega arith;
    stored = sym (ap (λ (n : ℕ). take n (drop 16 b)) stored ∙ ap (take (length r.bytes)) behind ∙ take_at r.bytes tail (length r.bytes) refl);
  }

  -- and what stands behind it is left
  left : drop (record_len written b) b ≡ tail
  left =
      ap (λ (n : ℕ). drop (16 + n) b) stored ∙ sym (drop-drop (length r.bytes) 16 b) ∙ ap (drop (length r.bytes)) behind
      ∙ drop_at r.bytes tail (length r.bytes) refl

-- the numbers of a record's spelling
module _ (r : Record) (tail : List ℕ) (fits : FitsCapture r) where
  seconds : number_at Little 4 (record_bytes r ++ tail) 0 ≡ r.time / 10 ^ 9
  seconds = little_number-reads_back 4 (r.time / 10 ^ 9) (drop 4 (record_bytes r ++ tail)) (omega (arith, fits.time))

  fraction : number_at Little 4 (record_bytes r ++ tail) 4 ≡ r.time % 10 ^ 9
  fraction = little_number-reads_back 4 (r.time % 10 ^ 9) (drop 8 (record_bytes r ++ tail)) (omega arith)

  stored : stored_len written (record_bytes r ++ tail) ≡ length r.bytes
  stored = little_number-reads_back 4 (length r.bytes) (drop 12 (record_bytes r ++ tail)) (omega (arith, fits.short))

  size : length (record_bytes r ++ tail) ≡ 16 + length (r.bytes ++ tail)
  size = omega arith

are_records : (rs : List Record) → AllByRecursion FitsCapture rs → AreRecords written (flat_map record_bytes rs) rs
are_records [] fits = refl
are_records (r ∷ rs) fits =
    let tail = flat_map record_bytes rs in
    let b = record_bytes r ++ tail in
    let here = spells b tail r fits.0 (seconds r tail fits.0) (fraction r tail fits.0) (stored r tail fits.0) refl (size r tail fits.0) in
    let behind = left b tail r fits.0 (seconds r tail fits.0) (fraction r tail fits.0) (stored r tail fits.0) refl (size r tail fits.0) in
    (here, subst (λ (c : List ℕ). AreRecords written c rs) (sym behind) (are_records rs fits.1))

-- a written capture is one of link Raw with these records
pub written_is_capture : (rs : List Record) → All FitsCapture rs → IsCapture (capture_bytes rs) Raw rs
written_is_capture rs fits = record {
  format = written;
  header = record { opens = record { whole = omega arith; magic = refl }; version = (refl, refl); link_type = refl };
  spelled = are_records rs (recursion_from_All FitsCapture rs fits);
}
