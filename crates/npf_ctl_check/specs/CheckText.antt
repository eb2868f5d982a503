-- What is told of expectations.
use Rattle.std.specs.Prelude.{◌≡◌, ◌<◌, ◌+◌, ⊤, ℕ, Bool, not, All, Option, Some, None, List, [], ◌∷◌, ◌++◌, codes, length}
use Rattle.std.specs.Fmt.{decimal}
use Rattle.npf_types.specs.declared.direction.Dir.{Dir}
use Rattle.npf_types.specs.declared.facts.Facts.{Facts}
use Rattle.npf_types.specs.declared.interface.IfId.{IfId}
use Rattle.npf_model.specs.declared.iface.Iface.{Iface}
use Rattle.npf_model.specs.declared.rule.Rule.{Rule}
use Rattle.npf_model.specs.Configuration.{Configuration}
use Rattle.npf_products.specs.declared.packet.CellPacket.{CellPacket}
use Rattle.npf_judge.specs.Deciders.{IsDecidedBy}
use Rattle.npf_judge.specs.Says.{HasTreated, place_passes}
use Rattle.npf_ctl_query.specs.QueryText.{packet_line}
use Rattle.npf_ctl_check.specs.declared.expectation.Amount.{Amount}
use Rattle.npf_ctl_check.specs.declared.expectation.Amount.TheVariants.{Each, One}
use Rattle.npf_ctl_check.specs.declared.expectation.Expectation.{Expectation}
use Rattle.npf_ctl_check.specs.Met.{MeetsExpectation, wants_pass}

-- ---- the first decider that treats a packet in one way
-- rules stand by their places, and none behind all
abbrev pub StandsInFront : Option ℕ → Option ℕ → Type 0
StandsInFront (Some earlier) (Some place) = earlier < place
StandsInFront (Some earlier) None = ⊤
StandsInFront None rule = ⊥

-- it decides on the packet, which is one of the class, and passes or blocks it, and none that stands before it decides on a packet of the class so
pub record IsFirstTreating (config : Configuration) (class : Rule) (passed : Bool) (rule : Option ℕ) (packet : CellPacket) : Type 0 where
  pub treats : place_passes config.model rule ≡ passed
  pub decides : IsDecidedBy config class rule packet.facts packet.ifid packet.dir
  pub first : (earlier : Option ℕ) → StandsInFront earlier rule → place_passes config.model earlier ≡ passed
      → (facts : Facts) (ifid : IfId) (dir : Dir) → ¬ IsDecidedBy config class earlier facts ifid dir

-- ---- one expectation
-- where a line stands
abbrev pub place_text : List ℕ → ℕ → List ℕ
place_text file line = file ++ ((codes ":" ++ decimal line) ++ codes ": ")

-- how many lines expect something, and how many of these aren't met
abbrev pub counts_text : ℕ → ℕ → List ℕ
counts_text expected failed = (codes "checks " ++ decimal expected) ++ ((codes " failed " ++ decimal failed) ++ codes "\n")

module _ (file : List ℕ) (ifaces : List Iface) (config : Configuration) where
  -- a decider is against the expectation that all packets of the class are passed, or are blocked: the first one, told with its packet
  pub record IsAgainst (class : Rule) (passed : Bool) (line : ℕ) (text : List ℕ) : Type 0 where
    pub rule : Option ℕ
    pub packet : CellPacket
    pub first : IsFirstTreating config class (not passed) rule packet
    pub told : text ≡ place_text file line ++ packet_line ifaces config.model rule packet

  -- no packet of the class is passed, or blocked
  pub record IsWithout (class : Rule) (passed : Bool) (line : ℕ) (text : List ℕ) : Type 0 where
    pub none : ¬ HasTreated config class passed
    pub told : text ≡ place_text file line ++ codes "no packet\n"

  -- the line that tells that so many packets of a class aren't passed, or blocked
  abbrev pub FailsAmount : Rule → Bool → ℕ → Amount → List ℕ → Type 0
  FailsAmount class passed line Each text = IsAgainst class passed line text
  FailsAmount class passed line One text = IsWithout class passed line text

  -- the line that tells that an expectation isn't met
  abbrev pub Fails : Expectation → List ℕ → Type 0
  Fails expectation text = FailsAmount expectation.class (wants_pass expectation.wanted) expectation.line expectation.amount text

  -- what is told of an expectation: nothing where it is met, and else that it isn't
  abbrev pub TellsUnmet : Expectation → Option (List ℕ) → Type 0
  TellsUnmet expectation None = MeetsExpectation config expectation
  TellsUnmet expectation (Some text) = Fails expectation text

  -- ---- all
  -- what is told of expectations, in their order, and how many of them aren't met
  pub data AreUnmetTold : List Expectation → List ℕ → ℕ → Type 0 where
    nothing : AreUnmetTold [] [] 0
    met : (front : List Expectation) (expectation : Expectation) (text : List ℕ) (failed : ℕ) → AreUnmetTold front text failed → MeetsExpectation config expectation
        → AreUnmetTold (front ++ expectation ∷ []) text failed
    unmet : (front : List Expectation) (expectation : Expectation) (text line : List ℕ) (failed : ℕ) → AreUnmetTold front text failed → Fails expectation line
        → AreUnmetTold (front ++ expectation ∷ []) (text ++ line) (failed + 1)

  -- all that is told of expectations, of which so many aren't met: none exactly where each one is
  pub record IsCheckText (expectations : List Expectation) (failed : ℕ) (text : List ℕ) : Type 0 where
    pub lines : List ℕ
    pub are : AreUnmetTold expectations lines failed
    pub told : text ≡ lines ++ counts_text (length expectations) failed
    pub met : failed ≡ 0 → All (MeetsExpectation config) expectations
    pub unmet : All (MeetsExpectation config) expectations → failed ≡ 0
