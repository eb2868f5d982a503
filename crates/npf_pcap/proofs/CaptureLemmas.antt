-- What the definition of a capture and those of its faults imply: no bytes are a capture and have a fault, or have two
-- faults, or are two captures; and each list of bytes is a capture or has a fault.
use Rattle.std.proofs.Common.{◌≡◌, ◌≢◌, ℕ, zero, suc, ◌<◌, ◌≤◌, ◌⊎◌, inl, inr, ◌∙◌, sym, ap, subst, refl, List, length, drop, arith, Result, Ok, Err, IfOk, IfErr, MatchResult, IsErrAnd}
use Rattle.std.proofs.lemmas.Bool.{cases_lt, cases_eq, cases_order}
use Rattle.npf_types.specs.declared.link.Link.{Link}
use Rattle.npf_pcap.specs.declared.{format.Format.Format, capture.{Record.Record, Capture.Capture}, fault.CaptureFault.CaptureFault}
use Rattle.npf_pcap.specs.declared.fault.CaptureFault.TheVariants.{ShortHeader, BadMagic, BadVersion, BadLink, CutRecord, LongRecord, NoMemory}
use Rattle.npf_fields.specs.Field.{number32}
use Rattle.npf_pcap.specs.{Format.number_at, Record.{AreRecords, IsFirstBad, EndsInside, IsTooLong}}
use Rattle.npf_pcap.specs.Capture.{IsCapture, HasCaptureFault, HasHeader, HasVersion, HasLink, Opens, HasBadRecord, HasOtherVersion, HasOtherLink}
use Rattle.npf_pcap.proofs.FormatLemmas.{same_format, same_link, format_or_none, link_or_none}
use Rattle.npf_pcap.proofs.RecordLemmas.{IsBadness, cut_is_bad, long_is_bad, cut_not_long, same_records, no_bad, meets, RecordsOrBad, records_or_bad}

-- the bytes begin with one magic number, and a header with one link
one_format : (b : List ℕ) (f g : Format) → Opens f b → Opens g b → f ≡ g
one_format b f g x y = same_format f g (sym x.magic ∙ y.magic)

one_link : (b : List ℕ) (f g : Format) (l m : Link) → HasHeader f l b → HasHeader g m b → l ≡ m
one_link b f g l m x y =
    let same = one_format b f g x.opens y.opens in
    same_link l m (sym x.link_type ∙ subst (λ (h : Format). HasLink h m b) (sym same) y.link_type)

-- where the tests of the version and of the link type fail they don't hold
no_version : (b : List ℕ) (f : Format) → HasOtherVersion b → Opens f b → HasVersion f b → ⊥
no_version b f x opens version =
    x.other (subst (λ (g : Format). HasVersion g b) (one_format b f x.format opens x.opens) version)

no_link : (b : List ℕ) (f : Format) (l : Link) → HasOtherLink b → HasHeader f l b → ⊥
no_link b f l x header =
    x.other l (subst (λ (g : Format). HasLink g l b) (one_format b f x.format header.opens x.opens) header.link_type)

-- a way for a record to be bad, in each format
AreBad : (Format → List ℕ → Type 0) → Type 0
AreBad Bad = (f : Format) → IsBadness f (Bad f)

no_bad_record : (Bad : Format → List ℕ → Type 0) → AreBad Bad → (n : ℕ) (b : List ℕ) (link : Link) (rs : List Record) → IsCapture b link rs
    → HasBadRecord Bad n b → ⊥
unfolding AreBad
no_bad_record Bad bad zero b link rs x y = y.bad
no_bad_record Bad bad (suc n) b link rs x y =
    let same = one_format b x.format y.format x.header.opens y.header.opens in
    no_bad x.format (Bad x.format) (bad x.format) n (drop 24 b) rs x.spelled
    (subst (λ (g : Format). IsFirstBad g (Bad g) (suc n) (drop 24 b)) (sym same) y.bad)

-- the first bad record has one number
one_bad_record : (A B : Format → List ℕ → Type 0) → AreBad A → AreBad B → (n m : ℕ) (b : List ℕ) → HasBadRecord A n b → HasBadRecord B m b
    → (n ≡ m) × ((f : Format) × ((c : List ℕ) × (A f c × B f c)))
unfolding AreBad
one_bad_record A B a b' zero m b x y = absurd x.bad
one_bad_record A B a b' (suc n) zero b x y = absurd y.bad
one_bad_record A B a b' (suc n) (suc m) b x y =
    let same = one_format b x.format y.format x.header.opens y.header.opens in
    let met = meets x.format (A x.format) (a x.format) (B x.format) (b' x.format) n m (drop 24 b) x.bad
    (subst (λ (g : Format). IsFirstBad g (B g) (suc m) (drop 24 b)) (sym same) y.bad) in
    (ap suc met.0, (x.format, met.1))

not_both : (n m : ℕ) (b : List ℕ) → HasBadRecord EndsInside n b → HasBadRecord IsTooLong m b → ⊥
unfolding AreBad
not_both n m b x y =
    let met = one_bad_record EndsInside IsTooLong cut_is_bad long_is_bad n m b x y in
    cut_not_long met.1.0 met.1.1.0 met.1.1.1.0 met.1.1.1.1

-- no bytes are a capture and have a fault
pub captures_have_no_fault : (b : List ℕ) (link : Link) (rs : List Record) (e : CaptureFault) → IsCapture b link rs → HasCaptureFault b e
    → e ≡ NoMemory
unfolding AreBad
captures_have_no_fault b link rs ShortHeader x fault = absurd (omega (arith, x.header.opens.whole))
captures_have_no_fault b link rs BadMagic x fault = absurd (fault.1 x.format x.header.opens.magic)
captures_have_no_fault b link rs BadVersion x fault = absurd (no_version b x.format fault x.header.opens x.header.version)
captures_have_no_fault b link rs BadLink x fault = absurd (no_link b x.format link fault x.header)
captures_have_no_fault b link rs (CutRecord n) x fault = absurd (no_bad_record EndsInside cut_is_bad n b link rs x fault)
captures_have_no_fault b link rs (LongRecord n) x fault = absurd (no_bad_record IsTooLong long_is_bad n b link rs x fault)
captures_have_no_fault b link rs NoMemory x fault = refl

-- no bytes are two captures
pub one_capture : (b : List ℕ) (l m : Link) (rs ss : List Record) → IsCapture b l rs → IsCapture b m ss → (l ≡ m) × (rs ≡ ss)
one_capture b l m rs ss x y =
    let same = one_format b x.format y.format x.header.opens y.header.opens in (
      one_link b x.format y.format l m x.header y.header,
      same_records x.format (drop 24 b) rs ss x.spelled (subst (λ (g : Format). AreRecords g (drop 24 b) ss) (sym same) y.spelled),
    )

-- The tests stand in an order, and this is the place of a fault's test. The tests of a record share theirs.
place : CaptureFault → ℕ
place ShortHeader = 0
place BadMagic = 1
place BadVersion = 2
place BadLink = 3
place (CutRecord _) = 4
place (LongRecord _) = 4
place NoMemory = 0

place_at_most : (e : CaptureFault) → place e ≤ 4
unfolding place
place_at_most ShortHeader = omega arith
place_at_most BadMagic = omega arith
place_at_most BadVersion = omega arith
place_at_most BadLink = omega arith
place_at_most (CutRecord _) = omega arith
place_at_most (LongRecord _) = omega arith
place_at_most NoMemory = omega arith

-- what the tests before a fault's own have shown
has_length : (b : List ℕ) (e : CaptureFault) → 0 < place e → HasCaptureFault b e → 24 ≤ length b
unfolding place
has_length b ShortHeader at fault = absurd (omega arith)
has_length b BadMagic at fault = fault.0
has_length b BadVersion at fault = fault.opens.whole
has_length b BadLink at fault = fault.opens.whole
has_length b (CutRecord _) at fault = fault.header.opens.whole
has_length b (LongRecord _) at fault = fault.header.opens.whole
has_length b NoMemory at fault = absurd (omega arith)

has_magic : (b : List ℕ) (e : CaptureFault) → 1 < place e → HasCaptureFault b e → (f : Format) × Opens f b
unfolding place
has_magic b ShortHeader at fault = absurd (omega arith)
has_magic b BadMagic at fault = absurd (omega arith)
has_magic b BadVersion at fault = (fault.format, fault.opens)
has_magic b BadLink at fault = (fault.format, fault.opens)
has_magic b (CutRecord _) at fault = (fault.format, fault.header.opens)
has_magic b (LongRecord _) at fault = (fault.format, fault.header.opens)
has_magic b NoMemory at fault = absurd (omega arith)

has_version : (b : List ℕ) (e : CaptureFault) → 2 < place e → HasCaptureFault b e → (f : Format) × (Opens f b × HasVersion f b)
unfolding place
has_version b ShortHeader at fault = absurd (omega arith)
has_version b BadMagic at fault = absurd (omega arith)
has_version b BadVersion at fault = absurd (omega arith)
has_version b BadLink at fault = (fault.format, (fault.opens, fault.version))
has_version b (CutRecord _) at fault = (fault.format, (fault.header.opens, fault.header.version))
has_version b (LongRecord _) at fault = (fault.format, (fault.header.opens, fault.header.version))
has_version b NoMemory at fault = absurd (omega arith)

has_header : (b : List ℕ) (e : CaptureFault) → 3 < place e → HasCaptureFault b e → (f : Format) × ((l : Link) × HasHeader f l b)
unfolding place
has_header b ShortHeader at fault = absurd (omega arith)
has_header b BadMagic at fault = absurd (omega arith)
has_header b BadVersion at fault = absurd (omega arith)
has_header b BadLink at fault = absurd (omega arith)
has_header b (CutRecord _) at fault = (fault.format, (fault.link, fault.header))
has_header b (LongRecord _) at fault = (fault.format, (fault.link, fault.header))
has_header b NoMemory at fault = absurd (omega arith)

-- bytes with a fault have none whose test comes later
none_later : (b : List ℕ) (e d : CaptureFault) → e ≢ NoMemory → place e < place d → HasCaptureFault b e → HasCaptureFault b d → ⊥
unfolding place
none_later b ShortHeader d n at x y = absurd (omega (arith, has_length b d at y))
none_later b BadMagic d n at x y = let opens = has_magic b d at y in x.1 opens.0 opens.1.magic
none_later b BadVersion d n at x y = let v = has_version b d at y in no_version b v.0 x v.1.0 v.1.1
none_later b BadLink d n at x y = let h = has_header b d at y in no_link b h.0 h.1.0 x h.1.1
none_later b (CutRecord _) d n at x y = absurd (omega (arith, place_at_most d))
none_later b (LongRecord _) d n at x y = absurd (omega (arith, place_at_most d))
none_later b NoMemory d n at x y = absurd (n refl)

-- of the faults whose tests share a place, bytes have one
same_at : (b : List ℕ) (e d : CaptureFault) → e ≢ NoMemory → d ≢ NoMemory → place e ≡ place d → HasCaptureFault b e → HasCaptureFault b d → d ≡ e
unfolding place AreBad
same_at b (CutRecord n) (CutRecord m) _ _ at x y = ap CutRecord (sym (one_bad_record EndsInside EndsInside cut_is_bad cut_is_bad n m b x y).0)
same_at b (CutRecord n) (LongRecord m) _ _ at x y = absurd (not_both n m b x y)
same_at b (LongRecord n) (CutRecord m) _ _ at x y = absurd (not_both m n b y x)
same_at b (LongRecord n) (LongRecord m) _ _ at x y = ap LongRecord (sym (one_bad_record IsTooLong IsTooLong long_is_bad long_is_bad n m b x y).0)
same_at b ShortHeader ShortHeader _ _ at x y = refl
same_at b BadMagic BadMagic _ _ at x y = refl
same_at b BadVersion BadVersion _ _ at x y = refl
same_at b BadLink BadLink _ _ at x y = refl
same_at b NoMemory d n _ at x y = absurd (n refl)
same_at b e NoMemory _ n at x y = absurd (n refl)
same_at b _ _ _ _ at x y = absurd (omega arith)

-- no bytes have two faults
pub one_fault : (b : List ℕ) (e d : CaptureFault) → e ≢ NoMemory → d ≢ NoMemory → HasCaptureFault b e → HasCaptureFault b d → d ≡ e
one_fault b e d n m x y = elim (cases_order (place e) (place d)) [
  | inl same ↦ same_at b e d n m same x y
  | inr (inl before) ↦ absurd (none_later b e d n before x y)
  | inr (inr behind) ↦ absurd (none_later b d e m behind y x)
]

-- a fault is want of memory, or says something of the bytes
memory_or_not : (e : CaptureFault) → (e ≡ NoMemory) ⊎ (e ≢ NoMemory)
memory_or_not ShortHeader = inr (λ e. cc)
memory_or_not BadMagic = inr (λ e. cc)
memory_or_not BadVersion = inr (λ e. cc)
memory_or_not BadLink = inr (λ e. cc)
memory_or_not (CutRecord _) = inr (λ e. cc)
memory_or_not (LongRecord _) = inr (λ e. cc)
memory_or_not NoMemory = inl refl

-- what reads nothing but captures, and refuses nothing but faults, reads each capture and refuses each fault
pub accepts : (b : List ℕ) (r : Result Capture CaptureFault) → IfOk r (λ c. IsCapture b c.link c.records) → IfErr r (λ e. HasCaptureFault b e)
    → (link : Link) (records : List Record) → IsCapture b link records
    → MatchResult r (λ c. (c.link ≡ link) × (c.records ≡ records)) (λ e. e ≡ NoMemory)
accepts b (Ok c) read fault link records x = one_capture b c.link link c.records records read x
accepts b (Err e) read fault link records x = captures_have_no_fault b link records e x fault

pub refuses : (b : List ℕ) (r : Result Capture CaptureFault) → IfOk r (λ c. IsCapture b c.link c.records) → IfErr r (λ e. HasCaptureFault b e)
    → (e : CaptureFault) → HasCaptureFault b e → e ≢ NoMemory → IsErrAnd r (λ f. (f ≡ e) ⊎ (f ≡ NoMemory))
refuses b (Ok c) read fault e x n = absurd (n (captures_have_no_fault b c.link c.records e read x))
refuses b (Err f) read fault e x n = elim (memory_or_not f) [ inl m ↦ inr m | inr m ↦ inl (one_fault b e f n m x fault) ]

-- the bytes are a capture or have a fault
Decided : List ℕ → Type 0
Decided b =
    ((link : Link) × ((rs : List Record) × IsCapture b link rs)) ⊎ ((e : CaptureFault) × ((e ≢ NoMemory) × HasCaptureFault b e))

-- behind a whole header there are records, or one that is bad
decided_behind : (b : List ℕ) (f : Format) (l : Link) → HasHeader f l b → RecordsOrBad f (drop 24 b) → Decided b
unfolding Decided
decided_behind b f l header (inl r) = inl (l, (r.0, record { format = f; header = header; spelled = r.1 }))
decided_behind b f l header (inr (inl cut)) =
    inr (CutRecord (suc cut.0), ((λ e. cc), record { format = f; link = l; header = header; bad = cut.1 }))
decided_behind b f l header (inr (inr long)) =
    inr (LongRecord (suc long.0), ((λ e. cc), record { format = f; link = l; header = header; bad = long.1 }))

version_or_not : (f : Format) (b : List ℕ) → HasVersion f b ⊎ ¬ HasVersion f b
version_or_not f b = elim (cases_eq (number_at f.order 2 b 4) 2) [
  | inl major ↦ elim (cases_eq (number_at f.order 2 b 6) 4) [
    | inl minor ↦ inl (major, minor)
    | inr other ↦ inr (λ v. other v.1)
  ]
  | inr other ↦ inr (λ v. other v.0)
]

decided_opened : (b : List ℕ) (f : Format) → Opens f b → Decided b
unfolding Decided
decided_opened b f opens = elim (version_or_not f b) [
  | inr other ↦ inr (BadVersion, ((λ e. cc), record { format = f; opens = opens; other = other }))
  | inl version ↦ elim (link_or_none (number_at f.order 4 b 20)) [
    | inr other ↦ inr (BadLink, ((λ e. cc), record { format = f; opens = opens; version = version; other = other }))
    | inl link ↦
        decided_behind b f link.0 (record { opens = opens; version = version; link_type = link.1 }) (records_or_bad f (drop 24 b))
  ]
]

-- each list of bytes is a capture or has a fault
pub capture_or_fault : (b : List ℕ)
    → ((link : Link) × ((rs : List Record) × IsCapture b link rs)) ⊎ ((e : CaptureFault) × ((e ≢ NoMemory) × HasCaptureFault b e))
unfolding Decided
capture_or_fault b = elim (cases_lt (length b) 24) [
  | inl short ↦ inr (ShortHeader, ((λ e. cc), short))
  | inr whole ↦ elim (format_or_none (number32 b 0)) [
    | inr other ↦ inr (BadMagic, ((λ e. cc), (whole, other)))
    | inl format ↦ decided_opened b format.0 (record { whole = whole; magic = format.1 })
  ]
]
