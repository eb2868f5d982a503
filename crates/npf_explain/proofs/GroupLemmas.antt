-- What is told of groups and of maps, from the front to the end.
use Rattle.std.proofs.Common.{◌≡◌, ◌<◌, ◌≤◌, ℕ, suc, ◌+◌, ◌^◌, List, [], ◌∷◌, ◌++◌, Option, length, map, get_or, take, drop, refl, sym, ap, ◌∙◌, arith}
use Rattle.std.proofs.lemmas.{Grind.flat_map-append, List.{Concat.flat_map-cons, append-nil, length-append, length-map, length-take, take-append-drop, take_more}}
use Rattle.npf_types.specs.declared.{direction.Dir.Dir, facts.Facts.Facts, interface.IfId.IfId, limits.TheConstants.MAX_RULES}
use Rattle.npf_model.specs.{declared.{group.Group.Group, map.Map.Map}, Describes.Tables, Verdict.{all_rules, rules_of}}
use Rattle.npf_precedence.{specs.{declared.entry.RuleEntry.RuleEntry, Entry.ordered_rule, Precedence.{rules_from}}, proofs.OrderLemmas.length-rules_from}
use Rattle.npf_explain.specs.declared.{decider.Decider.Decider, told.{GroupTold.GroupTold, MapTold.MapTold, RuleTold.RuleTold, ToldGroup.ToldGroup}}
use Rattle.npf_explain.specs.Explanation.{group_told, groups_told, map_told, maps_told, rule_told, told_group}

map-through : {X Y Z : Type 0} (f : X → Y) (g : Y → Z) (xs : List X) → map (λ x. g (f x)) xs ≡ map g (map f xs)
map-through f g [] = refl
map-through f g (x ∷ xs) = ap (λ rest. g (f x) ∷ rest) (map-through f g xs)

-- what is told of the groups in front, and how many rules they have
pub record TellsFront (tables : Tables) (facts : Facts) (ifid : IfId) (dir : Dir) (decider : Option Decider) (front : List Group) (groups : List ToldGroup) (first : ℕ) : Type 0 where
  pub told : groups ≡ groups_told tables facts ifid dir decider 0 front
  pub count : first ≡ length (all_rules front)

-- so many rules stand in front of the next group
rules-push : (groups : List Group) (i : ℕ) (group : Group) → i < length groups → group ≡ get_or groups i group
    → length (all_rules (take (i + 1) groups)) ≡ length (all_rules (take i groups)) + length (rules_of group)
rules-push groups i group within at =
    ap (λ (gs : List Group). length (all_rules gs)) (take_more groups i group within)
    ∙ ap (λ (g : Group). length (all_rules (take i groups ++ g ∷ []))) (sym at)
    ∙ ap length (flat_map-append rules_of (take i groups) (group ∷ []))
    ∙ length-append (all_rules (take i groups)) (all_rules (group ∷ []))
    ∙ ap (λ rules. length (all_rules (take i groups)) + length rules) (append-nil (rules_of group))

-- and no more than there are
few-front : (groups : List Group) (k : ℕ) → length (all_rules (take k groups)) ≤ length (all_rules groups)
few-front groups k =
    let whole = ap (λ (gs : List Group). length (all_rules gs)) (sym (take-append-drop k groups)) in
    let parts = ap length (flat_map-append rules_of (take k groups) (drop k groups)) in
    let sum = length-append (all_rules (take k groups)) (all_rules (drop k groups)) in
    omega arith

count-rules : (group : Group) (first : ℕ) (rules : List RuleEntry) → map ordered_rule rules ≡ rules_from group first (rules_of group)
    → length rules ≡ length (rules_of group)
count-rules group first rules laid = sym (length-map rules ordered_rule) ∙ ap length laid ∙ length-rules_from group first (rules_of group)

-- so the count stays small
pub first_small : (groups : List Group) (i first : ℕ) → first ≡ length (all_rules (take i groups)) → length (all_rules groups) ≤ MAX_RULES → first < 2 ^ 63
first_small groups i first is few = let a = few-front groups i in omega arith

pub next_small : (groups : List Group) (i : ℕ) (group : Group) (first : ℕ) (rules : List RuleEntry) → i < length groups → group ≡ get_or groups i group
    → first ≡ length (all_rules (take i groups)) → length (all_rules groups) ≤ MAX_RULES → map ordered_rule rules ≡ rules_from group first (rules_of group)
    → first + length rules ≤ MAX_RULES
next_small groups i group first rules within at is few laid =
    let a = few-front groups (i + 1) in let b = rules-push groups i group within at in let c = count-rules group first rules laid in omega arith

module _ (tables : Tables) (facts : Facts) (ifid : IfId) (dir : Dir) where
  module _ (decider : Option Decider) where
    groups_told-push : (n : ℕ) (groups : List Group) (group : Group)
        → groups_told tables facts ifid dir decider n (groups ++ group ∷ [])
        ≡ groups_told tables facts ifid dir decider n groups ++ told_group tables facts ifid dir decider (n + length (all_rules groups)) group ∷ []
    groups_told-push n [] group = ap (λ k. told_group tables facts ifid dir decider k group ∷ []) (let e : n ≡ n + 0 = omega arith in e)
    groups_told-push n (g ∷ gs) group =
        let all = ap length (flat_map-cons rules_of g gs) ∙ length-append (rules_of g) (all_rules gs) in
        let next : n + length (rules_of g) + length (all_rules gs) ≡ n + length (all_rules (g ∷ gs)) = omega arith in
        ap (λ rest. told_group tables facts ifid dir decider n g ∷ rest)
        (groups_told-push (n + length (rules_of g)) gs group
        ∙ ap (λ k. groups_told tables facts ifid dir decider (n + length (rules_of g)) gs ++ told_group tables facts ifid dir decider k group ∷ []) next)

    -- one more group
    pub tells_group : (groups : List Group) (i : ℕ) (group : Group) (first : ℕ) (before after : List ToldGroup) (rules : List RuleEntry) (says : GroupTold) (told : ToldGroup)
        → i < length groups → group ≡ get_or groups i group
        → before ≡ groups_told tables facts ifid dir decider 0 (take i groups) → first ≡ length (all_rules (take i groups))
        → map ordered_rule rules ≡ rules_from group first (rules_of group)
        → says ≡ group_told tables facts ifid dir decider first group
        → told ≡ record { told = says; rules = map (λ entry. rule_told tables facts ifid dir decider says (ordered_rule entry)) rules }
        → after ≡ before ++ told ∷ []
        → after ≡ groups_told tables facts ifid dir decider 0 (take (i + 1) groups)
    tells_group groups i group first before after rules says told within at was count laid is tells adds =
        let one : told ≡ told_group tables facts ifid dir decider first group =
        tells ∙ ap (λ (s : GroupTold). record { told = s; rules = map (λ entry. rule_told tables facts ifid dir decider s (ordered_rule entry)) rules }) is
        ∙ ap (λ (rs : List RuleTold). record { told = group_told tables facts ifid dir decider first group; rules = rs })
        (map-through ordered_rule (rule_told tables facts ifid dir decider (group_told tables facts ifid dir decider first group)) rules
        ∙ ap (map (rule_told tables facts ifid dir decider (group_told tables facts ifid dir decider first group))) laid) in
        let place : first ≡ 0 + length (all_rules (take i groups)) = omega arith in
        adds ∙ ap (λ (g : ToldGroup). before ++ g ∷ []) one
        ∙ ap (λ (k : ℕ). before ++ told_group tables facts ifid dir decider k group ∷ []) place
        ∙ ap (λ (gs : List ToldGroup). gs ++ told_group tables facts ifid dir decider (0 + length (all_rules (take i groups))) group ∷ []) was
        ∙ sym (groups_told-push 0 (take i groups) group)
        ∙ ap (λ (g : Group). groups_told tables facts ifid dir decider 0 (take i groups ++ g ∷ [])) at
        ∙ sym (ap (groups_told tables facts ifid dir decider 0) (take_more groups i group within))

    -- one more group goes on so, and its rules are counted
    pub tells_more : (groups : List Group) (i : ℕ) (group : Group) (first next : ℕ) (before after : List ToldGroup) (rules given : List RuleEntry) (says : GroupTold) (told : ToldGroup)
        → i < length groups → group ≡ get_or groups i group
        → TellsFront tables facts ifid dir decider (take i groups) before first
        → map ordered_rule rules ≡ rules_from group first (rules_of group)
        → given ≡ rules → says ≡ group_told tables facts ifid dir decider first group
        → told ≡ record { told = says; rules = map (λ entry. rule_told tables facts ifid dir decider says (ordered_rule entry)) given }
        → after ≡ before ++ told ∷ [] → next ≡ first + length rules
        → TellsFront tables facts ifid dir decider (take (i + 1) groups) after next
    tells_more groups i group first next before after rules given says told within at front laid same is tells adds counts = record {
      told = tells_group groups i group first before after rules says told within at front.told front.count laid is
          (tells ∙ ap (λ (es : List RuleEntry). record { told = says; rules = map (λ entry. rule_told tables facts ifid dir decider says (ordered_rule entry)) es }) same) adds;
      count = let a = front.count in let b = rules-push groups i group within at in let c = count-rules group first rules laid in omega arith;
    }

  module _ (first : Option ℕ) where
    maps_told-push : (n : ℕ) (maps : List Map) (m : Map)
        → maps_told tables facts ifid dir first n (maps ++ m ∷ [])
        ≡ maps_told tables facts ifid dir first n maps ++ map_told tables facts ifid dir first (n + length maps) m ∷ []
    maps_told-push n [] m = ap (λ k. map_told tables facts ifid dir first k m ∷ []) (let e : n ≡ n + 0 = omega arith in e)
    maps_told-push n (one ∷ maps) m =
        let next : n + 1 + length maps ≡ n + suc (length maps) = omega arith in
        ap (λ rest. map_told tables facts ifid dir first n one ∷ rest)
        (maps_told-push (n + 1) maps m ∙ ap (λ k. maps_told tables facts ifid dir first (n + 1) maps ++ map_told tables facts ifid dir first k m ∷ []) next)

    -- one more map
    pub tells_map : (maps : List Map) (i : ℕ) (m : Map) (before after : List MapTold) (told : MapTold)
        → i < length maps → m ≡ get_or maps i m
        → before ≡ maps_told tables facts ifid dir first 0 (take i maps)
        → told ≡ map_told tables facts ifid dir first i m
        → after ≡ before ++ told ∷ []
        → after ≡ maps_told tables facts ifid dir first 0 (take (i + 1) maps)
    tells_map maps i m before after told within at was is adds =
        let count : i ≡ 0 + length (take i maps) = (let a = length-take i maps in omega arith) in
        adds ∙ ap (λ (t : MapTold). before ++ t ∷ []) is
        ∙ ap (λ (k : ℕ). before ++ map_told tables facts ifid dir first k m ∷ []) count
        ∙ ap (λ (ms : List MapTold). ms ++ map_told tables facts ifid dir first (0 + length (take i maps)) m ∷ []) was
        ∙ sym (maps_told-push 0 (take i maps) m)
        ∙ ap (λ (one : Map). maps_told tables facts ifid dir first 0 (take i maps ++ one ∷ [])) at
        ∙ sym (ap (maps_told tables facts ifid dir first 0) (take_more maps i m within))
