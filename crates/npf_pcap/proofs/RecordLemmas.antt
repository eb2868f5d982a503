-- Records are spelled in one way, and no bytes are records and have a bad one.
use Rattle.std.proofs.Common.{◌≡◌, ◌≢◌, ℕ, zero, suc, ◌+◌, ◌-◌, ◌*◌, ◌≤◌, ◌⊎◌, inl, inr, ◌∙◌, sym, ap, subst, refl, List, [], ◌∷◌, ◌++◌, length, take, drop, arith, add-one, append_assoc, length-drop}
use Rattle.std.proofs.lemmas.{Bool.cases_lt, List.append-nil}
use Rattle.npf_types.specs.declared.limits.TheConstants.{MAX_PACKET_BYTES}
use Rattle.npf_pcap.specs.declared.{format.Format.Format, capture.Record.Record, fault.CaptureFault.CaptureFault}
use Rattle.npf_pcap.specs.declared.fault.CaptureFault.TheVariants.{ShortHeader, BadMagic, BadVersion, BadLink, CutRecord, LongRecord, NoMemory}
use Rattle.npf_pcap.specs.Reading.{HasRecordFault, FailsRecord}
use Rattle.npf_pcap.specs.Record.{stored_len, record_len, time_of, HasRecord, Spells, AreRecords, AfterRecords, EndsInside, IsTooLong}

-- a way to be bad that no whole record has, nor the end
pub record IsBadness (format : Format) (Bad : List ℕ → Type 0) : Type 0 where
  pub not_whole : (b : List ℕ) → Bad b → HasRecord format b → ⊥
  pub not_end : (b : List ℕ) → Bad b → b ≢ []

pub cut_is_bad : (format : Format) → IsBadness format (EndsInside format)
cut_is_bad format = record {
  not_whole = λ b cut whole. elim cut.1 [ inl header ↦ absurd (omega arith) | inr behind ↦ absurd (omega arith) ];
  not_end = λ b cut. cut.0;
}

pub long_is_bad : (format : Format) → IsBadness format (IsTooLong format)
long_is_bad format = record {
  not_whole = λ b long whole. absurd (omega arith);
  not_end = λ b long end. absurd (omega (arith, ap length end));
}

pub cut_not_long : (format : Format) (b : List ℕ) → EndsInside format b → IsTooLong format b → ⊥
cut_not_long format b cut long = elim cut.1 [ inl header ↦ absurd (omega arith) | inr behind ↦ absurd (omega arith) ]

module _ (format : Format) where
  -- the first record is one alone
  same_record : (b : List ℕ) (r s : Record) → Spells format b r → Spells format b s → r ≡ s
  same_record b r s x y =
      ap (λ (t : ℕ). record { time = t; bytes = r.bytes }) (x.time ∙ sym y.time)
      ∙ ap (λ (bytes : List ℕ). record { time = s.time; bytes = bytes }) (x.stored ∙ sym y.stored)

  -- there's no record at the end
  no_record : (b : List ℕ) → b ≡ [] → HasRecord format b → ⊥
  no_record b end whole = absurd (omega (arith, ap length end, whole.header))

  pub same_records : (b : List ℕ) (rs ss : List Record) → AreRecords format b rs → AreRecords format b ss → rs ≡ ss
  same_records b [] [] _ _ = refl
  same_records b [] (s ∷ ss) end y = absurd (no_record b end y.0.whole)
  same_records b (r ∷ rs) [] x end = absurd (no_record b end x.0.whole)
  same_records b (r ∷ rs) (s ∷ ss) x y =
      ap (λ (q : Record). q ∷ rs) (same_record b r s x.0 y.0) ∙ ap (λ (qs : List Record). s ∷ qs) (same_records (drop (record_len format b) b) rs ss x.1 y.1)

  module _ (Bad : List ℕ → Type 0) (badness : IsBadness format Bad) where
    pub no_bad : (n : ℕ) (b : List ℕ) (rs : List Record) → AreRecords format b rs → AfterRecords format Bad n b → ⊥
    no_bad zero b [] end bad = badness.not_end b bad end
    no_bad zero b (r ∷ rs) x bad = badness.not_whole b bad x.0.whole
    no_bad (suc n) b [] end after = no_record b end after.0
    no_bad (suc n) b (r ∷ rs) x after = no_bad n _ rs x.1 after.1

    -- the first bad record has one number, and is where another one is
    pub meets : (Other : List ℕ → Type 0) → IsBadness format Other → (n m : ℕ) (b : List ℕ) → AfterRecords format Bad n b
        → AfterRecords format Other m b → (n ≡ m) × ((c : List ℕ) × (Bad c × Other c))
    meets Other other zero zero b x y = (refl, (b, (x, y)))
    meets Other other zero (suc m) b x y = absurd (badness.not_whole b x y.0)
    meets Other other (suc n) zero b x y = absurd (other.not_whole b y x.0)
    meets Other other (suc n) (suc m) b x y = let rest = meets Other other n m _ x.1 y.1 in (ap suc rest.0, rest.1)

-- n whole records have been read of `bytes`, `records`, and `rest` is left
pub record Progress (format : Format) (bytes rest : List ℕ) (n : ℕ) (records : List Record) : Type 0 where
  pub behind : AfterRecords format (λ left. left ≡ rest) n bytes
  pub found : (rs : List Record) → AreRecords format rest rs → AreRecords format bytes (records ++ rs)
  pub room : 16 * n + length rest ≤ length bytes

module _ (format : Format) where
  pub progress_start : (bytes : List ℕ) → Progress format bytes bytes 0 []
  progress_start bytes = record { behind = refl; found = λ rs x. x; room = omega arith }

  after_more : (n : ℕ) (b rest next : List ℕ) → AfterRecords format (λ left. left ≡ rest) n b → HasRecord format rest
      → next ≡ drop (record_len format rest) rest → AfterRecords format (λ left. left ≡ next) (suc n) b
  after_more zero b rest next here whole e =
      (subst (HasRecord format) (sym here) whole, ap (λ (c : List ℕ). drop (record_len format c) c) here ∙ sym e)
  after_more (suc n) b rest next there whole e =
      (there.0, after_more n (drop (record_len format b) b) rest next there.1 whole e)

  after_bad : (Bad : List ℕ → Type 0) (n : ℕ) (b rest : List ℕ) → AfterRecords format (λ left. left ≡ rest) n b → Bad rest
      → AfterRecords format Bad n b
  after_bad Bad zero b rest here bad = subst Bad (sym here) bad
  after_bad Bad (suc n) b rest there bad = (there.0, after_bad Bad n (drop (record_len format b) b) rest there.1 bad)

  -- one record more
  pub progress_more : (bytes rest next : List ℕ) (n : ℕ) (records : List Record) (r : Record) → Progress format bytes rest n records
      → Spells format rest r → next ≡ drop (record_len format rest) rest → Progress format bytes next (n + 1) (records ++ r ∷ [])
  progress_more bytes rest next n records r p spelled e = record {
    behind = rw add-one (after_more n bytes rest next p.behind spelled.whole e);
    found = λ rs x. rw append_assoc (p.found (r ∷ rs) (spelled, subst (λ (c : List ℕ). AreRecords format c rs) e x));
    room = let shorter : length next ≡ length rest - record_len format rest = ap length e ∙ length-drop (record_len format rest) rest in
        omega (arith, p.room, spelled.whole.whole);
  }

  -- nothing is left
  pub progress_end : (bytes rest : List ℕ) (n : ℕ) (records : List Record) → Progress format bytes rest n records → length rest ≡ 0
      → AreRecords format bytes records
  progress_end bytes [] n records p end = rw append-nil at (p.found [] refl)
  progress_end bytes (x ∷ rest) n records p end = absurd (omega arith)

  -- the next record is bad
  pub progress_fault : (bytes rest : List ℕ) (n : ℕ) (records : List Record) (e : CaptureFault) → Progress format bytes rest n records
      → FailsRecord format (n + 1) rest e → HasRecordFault format bytes e
  progress_fault bytes rest n records ShortHeader p fails = fails
  progress_fault bytes rest n records BadMagic p fails = fails
  progress_fault bytes rest n records BadVersion p fails = fails
  progress_fault bytes rest n records BadLink p fails = fails
  progress_fault bytes rest n records (CutRecord m) p fails =
      let number : m ≡ suc n = omega (arith, fails.0) in rw number (after_bad (EndsInside format) n bytes rest p.behind fails.1)
  progress_fault bytes rest n records (LongRecord m) p fails =
      let number : m ≡ suc n = omega (arith, fails.0) in rw number (after_bad (IsTooLong format) n bytes rest p.behind fails.1)
  progress_fault bytes rest n records NoMemory p fails = tt

  -- the record that bytes with a whole record begin with
  first_record : List ℕ → Record
  first_record b = record { time = time_of format b; bytes = take (stored_len format b) (drop 16 b) }

  -- the bytes are records, or the first bad record ends them or is too long
  abbrev pub RecordsOrBad : List ℕ → Type 0
  RecordsOrBad b =
      ((rs : List Record) × AreRecords format b rs)
      ⊎ (((n : ℕ) × AfterRecords format (EndsInside format) n b) ⊎ ((n : ℕ) × AfterRecords format (IsTooLong format) n b))

  -- what holds behind a whole record holds with it
  onward : (b : List ℕ) → HasRecord format b → RecordsOrBad (drop (record_len format b) b) → RecordsOrBad b
  unfolding first_record
  onward b whole (inl r) = inl (first_record b ∷ r.0, (record { whole = whole; time = refl; stored = refl }, r.1))
  onward b whole (inr (inl cut)) = inr (inl (suc cut.0, (whole, cut.1)))
  onward b whole (inr (inr long)) = inr (inr (suc long.0, (whole, long.1)))

  by_size : (size : ℕ) (b : List ℕ) → length b ≤ size → RecordsOrBad b
  by_size size [] fits = inl ([], refl)
  by_size zero (x ∷ b) fits = absurd (omega arith)
  by_size (suc size) (x ∷ b) fits = elim (cases_lt (length (x ∷ b)) 16) [
    | inl header ↦ inr (inl (zero, (λ e. cc, inl header)))
    | inr header ↦ elim (cases_lt MAX_PACKET_BYTES (stored_len format (x ∷ b))) [
      | inl long ↦ inr (inr (zero, (header, long)))
      | inr short ↦ elim (cases_lt (length (x ∷ b)) (record_len format (x ∷ b))) [
        | inl cut ↦ inr (inl (zero, (λ e. cc, inr (short, cut))))
        | inr whole ↦
            let rest = drop (record_len format (x ∷ b)) (x ∷ b) in
            let shorter : length rest ≤ size = omega (arith, length-drop (record_len format (x ∷ b)) (x ∷ b)) in
            onward (x ∷ b) (record { header = header; short = short; whole = whole }) (by_size size rest shorter)
      ]
    ]
  ]

  pub records_or_bad : (b : List ℕ) → RecordsOrBad b
  records_or_bad b = by_size (length b) b (omega arith)
