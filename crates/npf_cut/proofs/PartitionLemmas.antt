-- Classes that sets split, and numbers of classes.
use Rattle.std.proofs.Common.{◌≡◌, ◌≤◌, ◌<◌, ◌+◌, ◌-◌, ◌↔◌, ◌⊎◌, ◌≢◌, ℕ, List, [], ◌∷◌, ◌++◌, length, get_or, set, take, drop, replicate, vec_len, ap, inl, inr, ⊎_elim, sym, subst, ◌∙◌, arith}
use Rattle.std.specs.List.{between}
use Rattle.std.proofs.lemmas.{Bool.{cases_lt, cases_eq}, List.{get_or-set_same, get_or-set_other, get_or_append_left, get_or_at, get_or_default, get_or-replicate}}
use Rattle.std.proofs.lemmas.List.{length-set, length_push, length-replicate, take-append-drop, take-take, drop-take, Sums.sum_by-append}
use Rattle.npf_cut.specs.{declared.{partition.Partition.Partition, span.SetSpan.SetSpan}, Span.{IsSpanned, IsRunOfSet, interval_count}}
use Rattle.npf_cut.specs.Partition.{AreKnown, AreParts, AreFirsts, IsNumbering, IsRefinedBy, RespectsSets}
use Rattle.npf_cut.proofs.SpanLemmas.{among_first, first_among, among_between, between_among, spanned_cases, spanned_new, spanned_old}

-- an interval more is in a fresh class
pub moved_more : (old now next : List ℕ) (n fresh from at : ℕ)
    → ((k : ℕ) → k < n → (fresh ≤ get_or now k 0) ↔ ((fresh ≤ get_or old k 0) ⊎ ((from ≤ k) × (k < at))))
    → from ≤ at → ((k : ℕ) → k ≢ at → get_or next k 0 ≡ get_or now k 0) → fresh ≤ get_or next at 0
    → (k : ℕ) → k < n → (fresh ≤ get_or next k 0) ↔ ((fresh ≤ get_or old k 0) ⊎ ((from ≤ k) × (k < at + 1)))
moved_more old now next n fresh from at inv order others here k lt = ⊎_elim
    (λ (same : k ≡ at).
    (λ h. inr (omega arith, omega arith), λ h. subst (λ (m : ℕ). fresh ≤ get_or next m 0) (sym same) here))
    (λ (ne : k ≡ at → ⊥).
    let e : get_or next k 0 ≡ get_or now k 0 = others k ne in (
      λ h. ⊎_elim (λ (a : fresh ≤ get_or old k 0). inl a) (λ (b : (from ≤ k) × (k < at)). inr (b.0, omega (arith, b.1)))
          ((inv k lt).0 (omega (arith, h))),
      λ h. let now' : fresh ≤ get_or now k 0 = (inv k lt).1 (⊎_elim (λ (a : fresh ≤ get_or old k 0). inl a)
          (λ (b : (from ≤ k) × (k < at + 1)). inr (b.0, omega (arith, b.1, ne))) h) in omega arith,
    ))
    (cases_eq k at)

-- a span more has its intervals in fresh classes
pub spans_moved : (now next : List ℕ) (xs : List SetSpan) (y : SetSpan) (n fresh : ℕ)
    → ((k : ℕ) → k < n → (fresh ≤ get_or now k 0) ↔ IsSpanned xs k)
    → ((k : ℕ) → k < n → (fresh ≤ get_or next k 0) ↔ ((fresh ≤ get_or now k 0) ⊎ ((y.from ≤ k) × (k < y.to))))
    → (k : ℕ) → k < n → (fresh ≤ get_or next k 0) ↔ IsSpanned (xs ++ y ∷ []) k
spans_moved now next xs y n fresh inv step k lt = (
  λ h. ⊎_elim (λ (a : fresh ≤ get_or now k 0). spanned_old xs y k ((inv k lt).0 a))
      (λ (b : (y.from ≤ k) × (k < y.to)). spanned_new xs y k b.0 b.1) ((step k lt).0 h),
  λ h. (step k lt).1 (⊎_elim (λ (a : IsSpanned xs k). inl ((inv k lt).1 a)) (λ (b : (y.from ≤ k) × (k < y.to)). inr b) (spanned_cases xs y k h)),
)

-- what is split has an entry for each class
pub parts_known : (old classes parts : List ℕ) (fresh : ℕ) → AreParts old classes parts fresh → AreKnown classes parts
parts_known old classes parts fresh are = record {
  intervals = λ k d lt.
      let same = are.same_len in
      let room = are.room in
      let zero : get_or classes k 0 < length parts = ⊎_elim (λ (less : get_or classes k 0 < fresh). omega arith)
      (λ (ge : fresh ≤ get_or classes k 0). (are.moved k (omega arith) ge).0) (cases_lt (get_or classes k 0) fresh) in
      subst (λ (m : ℕ). m < length parts) (get_or_default classes k 0 d lt) zero;
  entries = are.entries;
}

-- the spans of a set more are told apart
pub respects_more : (spans : List SetSpan) (from to : ℕ) (old new : List ℕ) → IsRunOfSet spans from to → RespectsSets (take from spans) old
    → IsRefinedBy (between from to spans) old new → RespectsSets (take to spans) new
respects_more spans from to old new run had refined s j k ltj ltk same h =
    let len = refined.same_len in
    let order = run.rises in
    let all = run.within in
    let found = first_among spans to h.span all h.among in
    ⊎_elim
    (λ (early : found.0 < from).
    let one : get_or old j 0 ≡ get_or old k 0 = refined.finer j k (omega arith) (omega arith) same in
    let there = had s j k (omega arith) (omega arith) one
    record { span = h.span; among = among_first spans from found.0 h.span (omega arith) early found.2; of = h.of; from = h.from; to = h.to } in
    let at = first_among spans from there.span (omega arith) there.among in
    record { span = there.span; among = among_first spans to at.0 there.span all (omega (arith, at.1)) at.2; of = there.of; from = there.from; to = there.to })
    (λ (late : from ≤ found.0).
    let told = refined.told j k (omega arith) (omega arith) same
    record { span = h.span; among = among_between spans from to found.0 h.span all late found.1 found.2; from = h.from; to = h.to } in
    let at = between_among spans from to told.span all told.among in
    let of_one : (told.span).set ≡ (get_or spans from told.span).set =
    subst (λ (x : SetSpan). x.set ≡ (get_or spans from told.span).set) at.3 (run.same at.0 told.span at.1 at.2) in
    let of_other : (h.span).set ≡ (get_or spans from h.span).set =
    subst (λ (x : SetSpan). x.set ≡ (get_or spans from h.span).set) found.2 (run.same found.0 h.span late found.1) in
    let begin : get_or spans from told.span ≡ get_or spans from h.span = get_or_default spans from told.span h.span (omega arith) in
    record {
      span = told.span;
      among = among_first spans to at.0 told.span all at.2 at.3;
      of = of_one ∙ ap (λ (x : SetSpan). x.set) begin ∙ sym of_other ∙ h.of;
      from = told.from;
      to = told.to;
    })
    (cases_lt found.0 from)

pub respects_numbered : (spans : List SetSpan) (old new firsts : List ℕ) → RespectsSets spans old → IsNumbering old new firsts → RespectsSets spans new
respects_numbered spans old new firsts had numbered s j k ltj ltk same h =
    let len = numbered.same_len in
    had s j k (omega arith) (omega arith) (numbered.finer j k (omega arith) (omega arith) same) h

-- the classes of the first `count` intervals have their numbers, by the first interval of each
pub record HasNumbered (none : ℕ) (old new numbers firsts : List ℕ) (count : ℕ) : Type 0 where
  pub same_len : length new ≡ length old
  pub known : (k : ℕ) → k < length old → get_or old k 0 < length numbers
  pub left : (k : ℕ) → count ≤ k → get_or new k 0 ≡ get_or old k 0
  pub below : (k : ℕ) → k < count → get_or new k 0 < length firsts
  pub told : (k : ℕ) → k < count → get_or old (get_or firsts (get_or new k 0) 0) 0 ≡ get_or old k 0
  pub least : (k : ℕ) → k < count → get_or firsts (get_or new k 0) 0 ≤ k
  pub first : (class : ℕ) → class < length firsts → (get_or firsts class 0 < count) × (get_or new (get_or firsts class 0) 0 ≡ class)
  pub named : (class : ℕ) → class < length numbers → get_or numbers class 0 ≢ none
      → (get_or numbers class 0 < length firsts) × (get_or old (get_or firsts (get_or numbers class 0) 0) 0 ≡ class)

module _ (none : ℕ) (old new numbers firsts : List ℕ) (at : ℕ) (lt : at < length old) (had : HasNumbered none old new numbers firsts at) where
  class : ℕ
  class = get_or new at 0

  own : get_or old at 0 ≡ class
  unfolding class
  own = sym (had.left at (omega arith))

  pub numbered_old : get_or numbers (get_or new at 0) 0 ≢ none → HasNumbered none old (set new at (get_or numbers (get_or new at 0) 0)) numbers firsts (at + 1)
  unfolding class
  numbered_old some =
      let part : ℕ = get_or numbers class 0 in
      let len : length new ≡ length old = had.same_len in
      let is : get_or old at 0 ≡ class = own in
      let room : class < length numbers = subst (λ (m : ℕ). m < length numbers) is (had.known at lt) in
      let name = had.named class room some in
      let here : get_or (set new at part) at 0 ≡ part = get_or-set_same new at part 0 (omega arith) in
      record {
        same_len = length-set new at part ∙ len;
        known = had.known;
        left = λ k ge. get_or-set_other new at k part 0 (λ e. absurd (omega (arith, e))) ∙ had.left k (omega arith);
        below = λ k less. ⊎_elim
            (λ (e : k ≡ at). subst (λ (m : ℕ). get_or (set new at part) m 0 < length firsts) (sym e) (subst (λ (m : ℕ). m < length firsts) (sym here) name.0))
            (λ (ne : k ≡ at → ⊥). subst (λ (m : ℕ). m < length firsts) (sym (get_or-set_other new at k part 0 ne)) (had.below k (omega arith)))
            (cases_eq k at);
        told = λ k less. ⊎_elim
            (λ (e : k ≡ at). subst (λ (m : ℕ). get_or old (get_or firsts (get_or (set new at part) m 0) 0) 0 ≡ get_or old m 0) (sym e)
            (ap (λ (m : ℕ). get_or old (get_or firsts m 0) 0) here ∙ name.1 ∙ sym is))
            (λ (ne : k ≡ at → ⊥). ap (λ (m : ℕ). get_or old (get_or firsts m 0) 0) (get_or-set_other new at k part 0 ne) ∙ had.told k (omega arith))
            (cases_eq k at);
        least = λ k less. ⊎_elim
            (λ (e : k ≡ at).
            let e' : get_or firsts (get_or (set new at part) k 0) 0 ≡ get_or firsts part 0 =
            ap (λ (m : ℕ). get_or firsts (get_or (set new at part) m 0) 0) e ∙ ap (λ (m : ℕ). get_or firsts m 0) here in
            let f = (had.first part name.0).0 in omega arith)
            (λ (ne : k ≡ at → ⊥).
            let e' = ap (λ (m : ℕ). get_or firsts m 0) (get_or-set_other new at k part 0 ne) in let h = had.least k (omega arith) in omega arith)
            (cases_eq k at);
        first = λ c less.
            let f = had.first c less in
            (omega (arith, f.0), get_or-set_other new at (get_or firsts c 0) part 0 (λ e. absurd (omega (arith, e, f.0))) ∙ f.1);
        named = had.named;
      }

  pub numbered_new : HasNumbered none old (set new at (length firsts)) (set numbers (get_or new at 0) (length firsts)) (firsts ++ at ∷ []) (at + 1)
  unfolding class
  numbered_new =
      let part : ℕ = length firsts in
      let len : length new ≡ length old = had.same_len in
      let is : get_or old at 0 ≡ class = own in
      let room : class < length numbers = subst (λ (m : ℕ). m < length numbers) is (had.known at lt) in
      let here : get_or (set new at part) at 0 ≡ part = get_or-set_same new at part 0 (omega arith) in
      let long : length (firsts ++ at ∷ []) ≡ part + 1 = length_push firsts at in
      let names : length (set numbers class part) ≡ length numbers = length-set numbers class part in
      let begin : get_or (firsts ++ at ∷ []) part 0 ≡ at = get_or_at firsts at [] 0 part (λ i. part) in
      let stays : (m : ℕ) → m < part → get_or (firsts ++ at ∷ []) m 0 ≡ get_or firsts m 0 = λ m less. get_or_append_left firsts (at ∷ []) 0 m less in
      record {
        same_len = length-set new at part ∙ len;
        known = λ k less. let known = had.known k less in omega arith;
        left = λ k ge. get_or-set_other new at k part 0 (λ e. absurd (omega (arith, e))) ∙ had.left k (omega arith);
        below = λ k less. ⊎_elim
            (λ (e : k ≡ at). let e' : get_or (set new at part) k 0 ≡ part = ap (λ (m : ℕ). get_or (set new at part) m 0) e ∙ here in omega arith)
            (λ (ne : k ≡ at → ⊥). let e' = get_or-set_other new at k part 0 ne in let less' = had.below k (omega arith) in omega arith)
            (cases_eq k at);
        told = λ k less. ⊎_elim
            (λ (e : k ≡ at). subst (λ (m : ℕ). get_or old (get_or (firsts ++ at ∷ []) (get_or (set new at part) m 0) 0) 0 ≡ get_or old m 0) (sym e)
            (ap (λ (m : ℕ). get_or old (get_or (firsts ++ at ∷ []) m 0) 0) here ∙ ap (λ (m : ℕ). get_or old m 0) begin))
            (λ (ne : k ≡ at → ⊥).
            let less' : get_or new k 0 < part = had.below k (omega arith) in
            ap (λ (m : ℕ). get_or old (get_or (firsts ++ at ∷ []) m 0) 0) (get_or-set_other new at k part 0 ne)
            ∙ ap (λ (m : ℕ). get_or old m 0) (stays (get_or new k 0) less') ∙ had.told k (omega arith))
            (cases_eq k at);
        least = λ k less. ⊎_elim
            (λ (e : k ≡ at).
            let e' : get_or (firsts ++ at ∷ []) (get_or (set new at part) k 0) 0 ≡ at =
            ap (λ (m : ℕ). get_or (firsts ++ at ∷ []) (get_or (set new at part) m 0) 0) e ∙ ap (λ (m : ℕ). get_or (firsts ++ at ∷ []) m 0) here ∙ begin in
            omega arith)
            (λ (ne : k ≡ at → ⊥).
            let e' : get_or (firsts ++ at ∷ []) (get_or (set new at part) k 0) 0 ≡ get_or firsts (get_or new k 0) 0 =
            ap (λ (m : ℕ). get_or (firsts ++ at ∷ []) m 0) (get_or-set_other new at k part 0 ne) ∙ stays (get_or new k 0) (had.below k (omega arith)) in
            let h = had.least k (omega arith) in omega arith)
            (cases_eq k at);
        first = λ c less. ⊎_elim
            (λ (less' : c < part).
            let f = had.first c less' in
            let e : get_or (firsts ++ at ∷ []) c 0 ≡ get_or firsts c 0 = stays c less' in
            (omega (arith, f.0), ap (λ (m : ℕ). get_or (set new at part) m 0) e ∙ get_or-set_other new at (get_or firsts c 0) part 0 (λ e'. absurd (omega (arith, e', f.0))) ∙ f.1))
            (λ (ge : part ≤ c).
            let same : c ≡ part = omega arith in
            let e : get_or (firsts ++ at ∷ []) c 0 ≡ at = ap (λ (m : ℕ). get_or (firsts ++ at ∷ []) m 0) same ∙ begin in
            (omega arith, ap (λ (m : ℕ). get_or (set new at part) m 0) e ∙ here ∙ sym same))
            (cases_lt c part);
        named = λ c less some. ⊎_elim
            (λ (e : c ≡ class).
            let e' : get_or (set numbers class part) c 0 ≡ part = ap (λ (m : ℕ). get_or (set numbers class part) m 0) e ∙ get_or-set_same numbers class part 0 room in
            (omega arith, ap (λ (m : ℕ). get_or old (get_or (firsts ++ at ∷ []) m 0) 0) e' ∙ ap (λ (m : ℕ). get_or old m 0) begin ∙ is ∙ sym e))
            (λ (ne : c ≡ class → ⊥).
            let e' : get_or (set numbers class part) c 0 ≡ get_or numbers c 0 = get_or-set_other numbers class c part 0 ne in
            let name = had.named c (omega arith) (λ e''. some (e' ∙ e'')) in
            (omega (arith, name.0), ap (λ (m : ℕ). get_or old (get_or (firsts ++ at ∷ []) m 0) 0) e' ∙ ap (λ (m : ℕ). get_or old m 0) (stays (get_or numbers c 0) name.0) ∙ name.1))
            (cases_eq c class);
      }

-- an interval more has the number of its class, which is a new one where it had none
pub numbered_step : (none : ℕ) (old new numbers firsts numbers' firsts' : List ℕ) (at class part : ℕ) → at < length old → HasNumbered none old new numbers firsts at
    → class ≡ get_or new at 0 → part ≡ get_or numbers' class part
    → ((get_or numbers class 0 ≢ none) × (numbers' ≡ numbers) × (firsts' ≡ firsts)) ⊎ ((numbers' ≡ set numbers class (length firsts)) × (firsts' ≡ firsts ++ at ∷ []))
    → HasNumbered none old (set new at part) numbers' firsts' (at + 1)
numbered_step none old new numbers firsts numbers' firsts' at class part lt had of is how =
    let own' : get_or old at 0 ≡ class = sym (had.left at (omega arith)) ∙ sym of in
    let room : class < length numbers = subst (λ (m : ℕ). m < length numbers) own' (had.known at lt) in
    ⊎_elim
    (λ (h : (get_or numbers class 0 ≢ none) × (numbers' ≡ numbers) × (firsts' ≡ firsts)).
    let some : get_or numbers (get_or new at 0) 0 ≢ none = subst (λ (m : ℕ). get_or numbers m 0 ≢ none) of h.0 in
    let done = numbered_old none old new numbers firsts at lt had some in
    let e : get_or numbers (get_or new at 0) 0 ≡ part =
    ap (λ (m : ℕ). get_or numbers m 0) (sym of) ∙ get_or_default numbers class 0 part room ∙ ap (λ (l : List ℕ). get_or l class part) (sym h.1) ∙ sym is in
    subst (λ (m : ℕ). HasNumbered none old (set new at m) numbers' firsts' (at + 1)) e
    (subst (λ (l : List ℕ). HasNumbered none old (set new at (get_or numbers (get_or new at 0) 0)) l firsts' (at + 1)) (sym h.1)
    (subst (λ (l : List ℕ). HasNumbered none old (set new at (get_or numbers (get_or new at 0) 0)) numbers l (at + 1)) (sym h.2) done)))
    (λ (h : (numbers' ≡ set numbers class (length firsts)) × (firsts' ≡ firsts ++ at ∷ [])).
    let done = numbered_new none old new numbers firsts at lt had in
    let e : length firsts ≡ part = sym (get_or-set_same numbers class (length firsts) part room) ∙ ap (λ (l : List ℕ). get_or l class part) (sym h.0) ∙ sym is in
    let names : set numbers (get_or new at 0) (length firsts) ≡ numbers' = ap (λ (m : ℕ). set numbers m (length firsts)) (sym of) ∙ sym h.0 in
    subst (λ (m : ℕ). HasNumbered none old (set new at m) numbers' firsts' (at + 1)) e
    (subst (λ (l : List ℕ). HasNumbered none old (set new at (length firsts)) l firsts' (at + 1)) names
    (subst (λ (l : List ℕ). HasNumbered none old (set new at (length firsts)) (set numbers (get_or new at 0) (length firsts)) l (at + 1)) (sym h.1) done)))
    how

pub numbered_all : (none : ℕ) (old new numbers firsts : List ℕ) → HasNumbered none old new numbers firsts (length old) → IsNumbering old new firsts
numbered_all none old new numbers firsts had =
    let len : length new ≡ length old = had.same_len in
    record {
      same_len = len;
      finer = λ j k ltj ltk same. sym (had.told j ltj) ∙ ap (λ (m : ℕ). get_or old (get_or firsts m 0) 0) same ∙ had.told k ltk;
      numbered = record {
        below = λ k d lt. subst (λ (m : ℕ). m < length firsts) (get_or_default new k 0 d lt) (had.below k (omega arith));
        first = λ c less. let f = had.first c less in (omega (arith, f.0), f.1);
        least = λ k lt. had.least k (omega arith);
      };
    }

-- new entries, which all name the first class
pub known_first : (classes parts firsts : List ℕ) → AreFirsts classes firsts → parts ≡ replicate (length firsts) 0 → AreKnown classes parts
known_first classes parts firsts are is =
    let long : length parts ≡ length firsts = ap (λ (l : List ℕ). length l) is ∙ length-replicate (length firsts) 0 in
    record {
      intervals = λ k d lt. let h = are.below k d lt in omega arith;
      entries = λ k d lt.
          let zero : get_or parts k d ≡ 0 = ap (λ (l : List ℕ). get_or l k d) is ∙ get_or-replicate (length firsts) k 0 d (omega arith) in
          omega arith;
    }

-- the intervals of a span are in fresh classes, below a place
pub record IsSplitTo (old now : Partition) (fresh from at : ℕ) : Type 0 where
  pub same_len : vec_len now.classes ≡ vec_len old.classes
  pub room : fresh ≤ vec_len now.parts
  pub parts : (before : List ℕ) → AreParts before old.classes.items old.parts.items fresh → AreParts before now.classes.items now.parts.items fresh
  pub moved : (k : ℕ) → k < vec_len old.classes
      → (fresh ≤ get_or now.classes.items k 0) ↔ ((fresh ≤ get_or old.classes.items k 0) ⊎ ((from ≤ k) × (k < at)))

pub split_more : (old now next : Partition) (fresh from at : ℕ) → IsSplitTo old now fresh from at → from ≤ at → at < vec_len now.classes
    → vec_len next.classes ≡ vec_len now.classes → fresh ≤ vec_len next.parts
    → ((before : List ℕ) → AreParts before now.classes.items now.parts.items fresh → AreParts before next.classes.items next.parts.items fresh)
    → ((k : ℕ) → k ≢ at → get_or next.classes.items k 0 ≡ get_or now.classes.items k 0) → fresh ≤ get_or next.classes.items at 0
    → IsSplitTo old next fresh from (at + 1)
split_more old now next fresh from at had order within same room kept others here = record {
  same_len = same ∙ had.same_len;
  room = room;
  parts = λ before h. kept before (had.parts before h);
  moved = moved_more old.classes.items now.classes.items next.classes.items (vec_len old.classes) fresh from at had.moved order others here;
}

-- the intervals of the spans to a place are those to an earlier one, and those between
pub count_more : (spans : List SetSpan) (from to : ℕ) → from ≤ to → interval_count (take to spans) ≡ interval_count (take from spans) + interval_count (between from to spans)
count_more spans from to le =
    let n : ℕ = to - from in
    let whole : from + n ≡ to = omega arith in
    let parts : take (from + n) spans ≡ take from spans ++ take n (drop from spans) =
    sym (take-append-drop from (take (from + n) spans)) ∙ ap (λ (l : List SetSpan). l ++ drop from (take (from + n) spans)) (take-take from (from + n) spans (omega arith))
    ∙ ap (λ (l : List SetSpan). take from spans ++ l) (drop-take from n spans) in
    ap (λ (m : ℕ). interval_count (take m spans)) (sym whole) ∙ ap interval_count parts
    ∙ sum_by-append (λ (span : SetSpan). span.to - span.from) (take from spans) (take n (drop from spans))
