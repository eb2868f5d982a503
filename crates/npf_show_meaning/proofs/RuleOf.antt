-- A rule, written and read again.
use Rattle.std.proofs.Common.{◌≡◌, inl, inr, ℕ, Bool, true, false, Option, Some, None, IfSome, option_map, List, [], ◌∷◌, ◌++◌, codes, refl, sym, ap, subst, ◌∙◌}
use Rattle.npf_types.specs.declared.decision.{Decision.{Decision, TheVariants.{Pass, Block}}, Return.{Return, TheVariants.{Nothing, Any, Rst, Icmp}}}
use Rattle.npf_types.specs.{declared.{direction.Dir.{Dir, TheVariants.{In, Out}}, span.Span.Span}, Name.name_bytes, NameText.is_name}
use Rattle.npf_lexer.specs.declared.token.Sign.TheVariants as Signs
use Rattle.npf_lexer.specs.declared.token.TokenKind.{TokenKind}
use Rattle.npf_lexer.specs.declared.token.TokenKind.TheVariants as Kind
use Rattle.npf_syntax.specs.declared.rule.{BlockReturn.BlockReturn, Direction.Direction, RuleAction.RuleAction, RuleTree.RuleTree, Stateful.Stateful}
use Rattle.npf_syntax.specs.declared.{value.IfaceTree.IfaceTree as WrittenIface, word.Str.Str}
use Rattle.npf_model.specs.declared.{iface.Iface.Iface, model.Model.Model, rule.{OnIf.OnIf, Rule.Rule, StateOpt.StateOpt}}
use Rattle.npf_model.specs.{declared.rule.StateOpt.TheVariants.{Not, OnInterface, Everywhere}, Count.elements_of}
use Rattle.npf_phrase.specs.Grammar.{meaning, optional, preceded, ◌&◌}
use Rattle.npf_parser_values.specs.{Token.{string, name_string, quoted, says, span_of}, Value.iface}
use Rattle.npf_parser.specs.Rule.{answer, action, stateful, direction, ends_walk, on, owner, rule, layer}
use Rattle.npf_expand_values.specs.{Declarations.table_number, Iface.{iface_faults, on_iface}, Source.declared_of}
use Rattle.npf_expand.specs.Rule.{return_of, decision_of, state_of_words, dir_of, filter_count, on_faults, rule_faults, rule_of_tree}
use Rattle.npf_show.specs.{Bound.{dir_pieces, on_pieces}, Filter.filter_pieces, Piece.optional_pieces}
use Rattle.npf_show.specs.Rule.{return_pieces, decision_pieces, state_pieces, final_pieces, name_of_procedure, apply_pieces, rule_pieces}
use Rattle.std.specs.Prelude.{slice_get}
use Rattle.npf_show_meaning.specs.Regular.{IsRegularOn}
use Rattle.npf_show_meaning.proofs.Goes.{Goes, Sees, HeadIn, Anything, token_goes, make, turn, keep, pick_first, pick_second, fit, said, absent, present, it_is, none_is, says_goes, pure_goes}
use Rattle.npf_show_meaning.proofs.{Lists.{onto, onto_both}, Says.nameless, Values.keyword}
use Rattle.npf_show_meaning.proofs.{FilterOf.{SaysFilter, IsFineFilter, filter_goes, filter_head, filter_starts}, EndsOf.where_stops, Blocks.feed}

abbrev pub IsText : List ℕ → Str → Type 0
IsText text s = s.text ≡ text

pub string_goes : (text : List ℕ) (ks : List TokenKind) → Goes string (IsText text) (Kind.Str text ∷ ks) ks
string_goes text ks = token_goes _ _ (IsText text) (Kind.Str text) ks (λ s. record { text = text; span = s }) (λ s. refl) (λ s. refl)

pub name_goes : (text : List ℕ) (ks : List TokenKind) → is_name text ≡ true → Goes name_string (IsText text) (Kind.Str text ∷ ks) ks
name_goes text ks is = fit (λ s same. ap is_name same ∙ is) (string_goes text ks)

-- what stands first where a part of a rule may be left out
abbrev pub on_starts : List TokenKind
on_starts = keyword (codes "on") ∷ filter_starts

abbrev final_starts : List TokenKind
final_starts = keyword (codes "final") ∷ on_starts

abbrev dir_starts : List TokenKind
dir_starts = keyword (codes "in") ∷ keyword (codes "out") ∷ final_starts

abbrev state_starts : List TokenKind
state_starts = keyword (codes "stateful") ∷ keyword (codes "stateful-all") ∷ dir_starts

answer_goes : (r : Return) (ks : List TokenKind) → HeadIn state_starts ks → Goes (optional answer) (λ o. return_of o ≡ r) (onto (return_pieces r) ks) ks
unfolding answer
answer_goes Nothing ks here = absent {g = answer} (none_is state_starts (λ s. refl) here) refl
answer_goes Any ks here = present {g = answer} (it_is (λ s. refl)) (pick_first (it_is (λ s. refl)) (says_goes (codes "return") BlockReturn.Return (λ a. return_of (Some a) ≡ Any) ks (λ s. refl)))
answer_goes Rst ks here =
    present {g = answer} (it_is (λ s. refl))
    (pick_second (it_is (λ s. refl)) (pick_first (it_is (λ s. refl)) (says_goes (codes "return-rst") BlockReturn.ReturnRst (λ a. return_of (Some a) ≡ Rst) ks (λ s. refl))))
answer_goes Icmp ks here =
    present {g = answer} (it_is (λ s. refl))
    (pick_second (it_is (λ s. refl)) (pick_second (it_is (λ s. refl)) (says_goes (codes "return-icmp") BlockReturn.ReturnIcmp (λ a. return_of (Some a) ≡ Icmp) ks (λ s. refl))))

action_goes : (d : Decision) (ks : List TokenKind) → HeadIn state_starts ks → Goes action (λ a. decision_of a ≡ d) (onto (decision_pieces d) ks) ks
unfolding action
action_goes Pass ks here = pick_second (it_is (λ s. refl)) (says_goes (codes "pass") RuleAction.Pass (λ a. decision_of a ≡ Pass) ks (λ s. refl))
action_goes (Block r) ks here = pick_first (it_is (λ s. refl)) (make (λ ts o is. ap Block is) (said (answer_goes r ks here)))

state_goes : (state : StateOpt) (ks : List TokenKind) → HeadIn dir_starts ks → Goes (optional stateful) (λ o. state_of_words o ≡ state) (onto (state_pieces state) ks) ks
unfolding stateful
state_goes Not ks here = absent {g = stateful} (none_is dir_starts (λ s. refl) here) refl
state_goes OnInterface ks here =
    present {g = stateful} (it_is (λ s. refl)) (pick_first (it_is (λ s. refl)) (says_goes (codes "stateful") Stateful.Stateful (λ a. state_of_words (Some a) ≡ OnInterface) ks (λ s. refl)))
state_goes Everywhere ks here =
    present {g = stateful} (it_is (λ s. refl)) (pick_second (it_is (λ s. refl)) (says_goes (codes "stateful-all") Stateful.StatefulAll (λ a. state_of_words (Some a) ≡ Everywhere) ks (λ s. refl)))

-- a direction, where none of these kinds stands first behind it that is a direction itself
pub dir_goes : (dir : Option Dir) (ks : List TokenKind) → (dir ≡ None → Sees false (meaning direction).starts ks)
    → Goes (optional direction) (λ o. option_map dir_of o ≡ dir) (onto (optional_pieces dir_pieces dir) ks) ks
unfolding direction
dir_goes None ks lacks = absent {g = direction} (lacks refl) refl
dir_goes (Some In) ks lacks =
    present {g = direction} (it_is (λ s. refl)) (pick_first (it_is (λ s. refl)) (says_goes (codes "in") Direction.In (λ a. Some (dir_of a) ≡ Some In) ks (λ s. refl)))
dir_goes (Some Out) ks lacks =
    present {g = direction} (it_is (λ s. refl)) (pick_second (it_is (λ s. refl)) (says_goes (codes "out") Direction.Out (λ a. Some (dir_of a) ≡ Some Out) ks (λ s. refl)))

not_dir : (ks : List TokenKind) → HeadIn final_starts ks → Sees false (meaning direction).starts ks
unfolding direction
not_dir ks here = none_is final_starts (λ s. refl) here

not_on : (ks : List TokenKind) → HeadIn filter_starts ks → Sees false (meaning on).starts ks
unfolding on
not_on ks here = none_is filter_starts (λ s. refl) here

-- what stands behind the head of a group, or behind a ruleset
abbrev pub head_stops : List TokenKind
head_stops = Kind.Sign Signs.OpenBrace ∷ feed ∷ []

abbrev bound_stops : List TokenKind
bound_stops = keyword (codes "on") ∷ head_stops

no_dir : (ks : List TokenKind) → HeadIn bound_stops ks → Sees false (meaning direction).starts ks
unfolding direction
no_dir ks here = none_is bound_stops (λ s. refl) here

no_on : (ks : List TokenKind) → HeadIn head_stops ks → Sees false (meaning on).starts ks
unfolding on
no_on ks here = none_is head_stops (λ s. refl) here

final_goes : (last : Bool) (ks : List TokenKind) → HeadIn on_starts ks → Goes ends_walk (λ b. b ≡ last) (onto (final_pieces last) ks) ks
unfolding ends_walk
final_goes false ks here = pick_second (none_is on_starts (λ s. refl) here) (pure_goes false (λ b. b ≡ false) ks refl)
final_goes true ks here = pick_first (it_is (λ s. refl)) (says_goes (codes "final") (λ _. true) (λ b. b ≡ true) ks (λ s. refl))

module _ (ifaces : List Iface) (model : Model) where
  -- the interface of a rule, a group or a map
  pub record SaysOn (bound : OnIf) (tree : WrittenIface) : Type 0 where
    pub faults : iface_faults (nameless ifaces) tree ≡ []
    pub gives : on_iface ifaces (nameless ifaces) tree ≡ bound

  on_says : (bound : OnIf) → IsRegularOn ifaces model bound → (s : Str) (span : Span) → IsText (name_bytes bound.name) s → SaysOn bound (WrittenIface.Str s span)
  on_says bound is s span same =
      let fits : is_name (name_bytes bound.name) ≡ true = bound.name.named in
      record { faults = rw (same, fits) refl; gives = rw (same, fits) (sym is) }

  pub iface_goes : (bound : OnIf) → IsRegularOn ifaces model bound → (ks : List TokenKind) → Goes iface (SaysOn bound) (Kind.Str (name_bytes bound.name) ∷ ks) ks
  unfolding iface
  iface_goes bound is ks =
      pick_first (it_is (λ s. refl)) (make (λ ts s same. on_says bound is s (span_of ts) same) (name_goes (name_bytes bound.name) ks bound.name.named))

  abbrev pub OnBound : Option OnIf → Option WrittenIface → Type 0
  OnBound bound o = (on_faults ifaces (nameless ifaces) o ≡ []) × (option_map (on_iface ifaces (nameless ifaces)) o ≡ bound)

  pub on_goes : (bound : Option OnIf) → IfSome bound (IsRegularOn ifaces model) → (ks : List TokenKind) → (bound ≡ None → Sees false (meaning on).starts ks)
      → Goes (optional on) (OnBound bound) (onto (optional_pieces on_pieces bound) ks) ks
  unfolding on
  on_goes None is ks lacks = absent {g = on} (lacks refl) (refl, refl)
  on_goes (Some bound) is ks lacks = present {g = on} (it_is (λ s. refl)) (said (keep (λ a says. (says.faults, ap Some says.gives)) (iface_goes bound is ks)))

  abbrev IsApplied : Option ℕ → Option Str → Type 0
  IsApplied number o = option_map (λ s. table_number (declared_of model).procedures s.text) o ≡ number

  abbrev IsNumbered : ℕ → Type 0
  IsNumbered number = table_number (declared_of model).procedures (name_of_procedure (slice_get model.procedures number)) ≡ number

  apply_goes : (number : Option ℕ) → IfSome number IsNumbered → (ks : List TokenKind)
      → Goes (optional (preceded (quoted (codes "apply")) string)) (IsApplied number) (onto (optional_pieces (apply_pieces model) number) (feed ∷ ks)) (feed ∷ ks)
  apply_goes None is ks = absent {g = preceded (quoted (codes "apply")) string} (it_is (λ s. refl)) refl
  apply_goes (Some number) is ks =
      let name = name_of_procedure (slice_get model.procedures number) in
      present {g = preceded (quoted (codes "apply")) string} {P = IsApplied (Some number)} (it_is (λ s. refl))
      (said (keep (λ s same. ap Some (ap (table_number (declared_of model).procedures) same ∙ is)) (string_goes name (feed ∷ ks))))

  -- what a rule needs so that it is read again
  pub record IsFineRule (r : Rule) : Type 0 where
    pub filter : IsFineFilter ifaces model r
    pub on : IfSome r.on (IsRegularOn ifaces model)
    pub procedure : IfSome r.procedure IsNumbered

  pub record SaysRule (r : Rule) (tree : RuleTree) : Type 0 where
    pub faults : rule_faults ifaces (nameless ifaces) tree ≡ []
    pub gives : rule_of_tree ifaces (nameless ifaces) (declared_of model) tree ≡ r
    pub count : filter_count ifaces (nameless ifaces) tree.filter ≡ elements_of r

  says_rule : (r : Rule) (tree : RuleTree) → decision_of tree.action ≡ r.decision → state_of_words tree.stateful ≡ r.state → option_map dir_of tree.dir ≡ r.dir → tree.last ≡ r.last
      → OnBound r.on tree.on → SaysFilter ifaces model r tree.filter → IsApplied r.procedure tree.apply → SaysRule r tree
  says_rule r tree decision state dir last bound says apply = record {
    faults = rw (bound.0, says.faults) refl;
    gives = rw (
      decision,
      state,
      dir,
      last,
      bound.1,
      apply,
      ap (λ x. x.v6) says.gives,
      ap (λ x. x.protos) says.gives,
      ap (λ x. x.flags) says.gives,
      ap (λ x. x.icmp) says.gives,
      ap (λ x. x.from) says.gives,
      ap (λ x. x.to) says.gives,
    ) refl;
    count = says.count;
  }

  rule_kinds : (r : Rule) (ks : List TokenKind) → onto (rule_pieces model r) ks
      ≡ onto (decision_pieces r.decision) (onto (state_pieces r.state) (onto (optional_pieces dir_pieces r.dir) (onto (final_pieces r.last) (onto (optional_pieces on_pieces r.on)
      (onto (filter_pieces model r) (onto (optional_pieces (apply_pieces model) r.procedure) ks))))))
  rule_kinds r ks =
      let d = decision_pieces r.decision in
      let s = state_pieces r.state in
      let dir = optional_pieces dir_pieces r.dir in
      let f = final_pieces r.last in
      let o = optional_pieces on_pieces r.on in
      let fi = filter_pieces model r in
      let ap = optional_pieces (apply_pieces model) r.procedure in
      onto_both (d ++ s ++ dir ++ f ++ o ++ fi) ap ks ∙ onto_both (d ++ s ++ dir ++ f ++ o) fi (onto ap ks) ∙ onto_both (d ++ s ++ dir ++ f) o (onto fi (onto ap ks))
      ∙ onto_both (d ++ s ++ dir) f (onto o (onto fi (onto ap ks))) ∙ onto_both (d ++ s) dir (onto f (onto o (onto fi (onto ap ks))))
      ∙ onto_both d s (onto dir (onto f (onto o (onto fi (onto ap ks)))))

  on_head : (bound : Option OnIf) (ks : List TokenKind) → HeadIn filter_starts ks → HeadIn on_starts (onto (optional_pieces on_pieces bound) ks)
  on_head None ks here = inr here
  on_head (Some bound) ks here = inl (_, refl)

  final_head : (last : Bool) (ks : List TokenKind) → HeadIn on_starts ks → HeadIn final_starts (onto (final_pieces last) ks)
  final_head false ks here = inr here
  final_head true ks here = inl (_, refl)

  dir_head : (dir : Option Dir) (ks : List TokenKind) → HeadIn final_starts ks → HeadIn dir_starts (onto (optional_pieces dir_pieces dir) ks)
  dir_head None ks here = inr (inr here)
  dir_head (Some In) ks here = inl (_, refl)
  dir_head (Some Out) ks here = inr (inl (_, refl))

  state_head : (state : StateOpt) (ks : List TokenKind) → HeadIn dir_starts ks → HeadIn state_starts (onto (state_pieces state) ks)
  state_head Not ks here = inr (inr here)
  state_head OnInterface ks here = inl (_, refl)
  state_head Everywhere ks here = inr (inl (_, refl))

  -- nothing that is written says whose sockets a rule is about
  no_owner : (ks : List TokenKind) → HeadIn where_stops ks → Goes (optional owner) Anything ks ks
  unfolding owner
  no_owner ks here = absent {g = owner} (none_is where_stops (λ s. refl) here) tt

  pub rule_goes : (r : Rule) → IsFineRule r → (ks : List TokenKind) → Goes rule (SaysRule r) (onto (rule_pieces model r) (feed ∷ ks)) (feed ∷ ks)
  unfolding rule
  rule_goes r is ks =
      let behind = feed ∷ ks in
      let k6 = onto (optional_pieces (apply_pieces model) r.procedure) behind in
      let k5 = onto (filter_pieces model r) k6 in
      let k4 = onto (optional_pieces on_pieces r.on) k5 in
      let k3 = onto (final_pieces r.last) k4 in
      let k2 = onto (optional_pieces dir_pieces r.dir) k3 in
      let k1 = onto (state_pieces r.state) k2 in
      let h5 = filter_head ifaces model r is.filter k6 in
      let h4 = on_head r.on k5 h5 in
      let h3 = final_head r.last k4 h4 in
      let h2 = dir_head r.dir k3 h3 in
      subst (λ from. Goes rule (SaysRule r) from behind) (sym (rule_kinds r behind))
      (make (λ ts a q. says_rule r (record {
        action = a.0;
        stateful = a.1.0;
        dir = a.1.1.0;
        last = a.1.1.1.0;
        on = a.1.1.1.1.0;
        filter = a.1.1.1.1.1.0;
        owner = a.1.1.1.1.1.1.0;
        apply = a.1.1.1.1.1.1.1;
        span = span_of ts;
      }) q.0 q.1.0 q.1.1.0 q.1.1.1.0 q.1.1.1.1.0 q.1.1.1.1.1.0 q.1.1.1.1.1.1.1)
      (turn (action_goes r.decision k1 (state_head r.state k2 h2))
      (turn (state_goes r.state k2 h2)
      (turn (dir_goes r.dir k3 (λ none. not_dir k3 h3))
      (turn (final_goes r.last k4 h4)
      (turn (on_goes r.on is.on k5 (λ none. not_on k5 h5))
      (turn (filter_goes ifaces model r is.filter k6 (apply_head r.procedure ks))
      (turn (no_owner k6 (apply_head r.procedure ks)) (apply_goes r.procedure is.procedure ks))))))))) where
        apply_head : (number : Option ℕ) (ks : List TokenKind) → HeadIn where_stops (onto (optional_pieces (apply_pieces model) number) (feed ∷ ks))
        apply_head None ks = inr (inl (ks, refl))
        apply_head (Some number) ks = inl (_, refl)

  -- the direction and the interface of a group or a ruleset
  bound_head : (bound : Option OnIf) (ks : List TokenKind) → HeadIn head_stops ks → HeadIn bound_stops (onto (optional_pieces on_pieces bound) ks)
  bound_head None ks here = inr here
  bound_head (Some bound) ks here = inl (_, refl)

  pub bound_goes : (dir : Option Dir) (bound : Option OnIf) → IfSome bound (IsRegularOn ifaces model) → (ks : List TokenKind) → HeadIn head_stops ks
      → Goes (optional direction & optional on) (λ a. (option_map dir_of a.0 ≡ dir) × OnBound bound a.1) (onto (optional_pieces dir_pieces dir) (onto (optional_pieces on_pieces bound) ks)) ks
  bound_goes dir bound is ks here =
      let behind = onto (optional_pieces on_pieces bound) ks in
      turn (dir_goes dir behind (λ none. no_dir behind (bound_head bound ks here))) (on_goes bound is ks (λ none. no_on ks here))

  no_layer : (ks : List TokenKind) → HeadIn bound_stops ks → Goes (optional layer) Anything ks ks
  no_layer ks here = absent {g = layer} (none_is bound_stops (λ s. refl) here) tt

  -- the same of a group's head, in which nothing says a layer
  pub head_bound_goes : (dir : Option Dir) (bound : Option OnIf) → IfSome bound (IsRegularOn ifaces model) → (ks : List TokenKind) → HeadIn head_stops ks
      → Goes (optional direction & optional layer & optional on) (λ a. (option_map dir_of a.0 ≡ dir) × (Anything a.1.0 × OnBound bound a.1.1))
      (onto (optional_pieces dir_pieces dir) (onto (optional_pieces on_pieces bound) ks)) ks
  head_bound_goes dir bound is ks here =
      let behind = onto (optional_pieces on_pieces bound) ks in
      let first = bound_head bound ks here in
      turn (dir_goes dir behind (λ none. no_dir behind first)) (turn (no_layer behind first) (on_goes bound is ks (λ none. no_on ks here)))

  -- a rule begins with its decision
  decision_head : (d : Decision) (ks : List TokenKind) → HeadIn (keyword (codes "pass") ∷ keyword (codes "block") ∷ []) (onto (decision_pieces d) ks)
  decision_head Pass ks = inl (_, refl)
  decision_head (Block r) ks = inr (inl (_, refl))

  pub rule_head : (r : Rule) (ks : List TokenKind) → HeadIn (keyword (codes "pass") ∷ keyword (codes "block") ∷ []) (onto (rule_pieces model r) ks)
  rule_head r ks = subst (HeadIn (keyword (codes "pass") ∷ keyword (codes "block") ∷ [])) (sym (rule_kinds r ks)) (decision_head r.decision _)
