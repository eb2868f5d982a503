-- Which ways' keys a connection holds.
use Rattle.std.proofs.Common.{◌≡◌, ◌≢◌, Bool, true, false, [], IsTrue, refl, sym}
use Rattle.npf_types.specs.declared.key.Way.{Way, TheVariants.Backward}
use Rattle.npf_core.specs.{declared.{conn_id.ConnId.ConnId, held.Held.Held}, Machine.{Machine, HoldsNone}}
use Rattle.npf_connections.specs.Ways.{HoldsThese, KeepsWays}
use Rattle.npf_nat.specs.declared.map_plan.MapPlan.{MapPlan, TheVariants.{Fixed, Draw}}
use Rattle.npf_engine_opening.specs.Ways.{is_one_of, ways_before}

one_test : (a b : Bool) → (IsTrue a → IsTrue b) → (IsTrue b → IsTrue a) → a ≡ b
one_test true b there back = sym (there refl)
one_test false true there back = back refl
one_test false false there back = refl

module _ {S : Type 0} (k : Machine S) (id : ConnId) where
  -- a connection holds keys of one set of ways
  pub these_same : (held ways : Way → Bool) → HoldsThese k id held → HoldsThese k id ways → held ≡ ways
  these_same held ways p q = λ i way. one_test (held way) (ways way) (λ h. (q way).0 ((p way).1 h)) (λ h. (p way).0 ((q way).1 h)) i

  -- and none of another way
  pub none_of : (held : Way → Bool) (way : Way) → HoldsThese k id held → held way ≡ false → HoldsNone k id way
  none_of held way these not key holds = absurd (let is : IsTrue false = rw not at ((these way).0 (key, holds)) in cc)

  -- no way, where it holds no key
  pub holds_none : ((way : Way) → HoldsNone k id way) → HoldsThese k id (is_one_of [])
  holds_none none way = (λ some. absurd (none way some.0 some.1), λ (h : IsTrue false). absurd cc)

pub not_backward : (plan : MapPlan) → is_one_of (ways_before plan) Backward ≡ false
not_backward (Fixed there back) = refl
not_backward (Draw addr min max first) = refl

-- who is refused a key holds what it held
pub refused_holds : {S : Type 0} (k next : Machine S) (id : ConnId) (way : Way) (result : Held) (held : Way → Bool) → KeepsWays k next id way result →
    HoldsThese k id held → result ≢ Held.Done → HoldsThese next id held
refused_holds k next id way Held.Done held keeps these refused = absurd (refused refl)
refused_holds k next id way (Held.Taken holder) held keeps these refused = keeps held these
refused_holds k next id way Held.NoNode held keeps these refused = keeps held these
