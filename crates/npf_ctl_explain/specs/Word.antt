-- The words in which an explanation tells of groups, rules and maps.
use Rattle.std.specs.Prelude.{ℕ, List, ◌++◌, codes}
use Rattle.npf_ruleset.specs.declared.misfit.Part.{Part}
use Rattle.npf_ruleset.specs.declared.misfit.Part.TheVariants.{Direction, Interface, Family, Protocol, Flags, Icmp, Source, SourcePort, Destination, DestinationPort}
use Rattle.npf_explain.specs.declared.told.GroupTold.{GroupTold}
use Rattle.npf_explain.specs.declared.told.GroupTold.TheVariants as GroupSays
use Rattle.npf_explain.specs.declared.told.MapTold.{MapTold}
use Rattle.npf_explain.specs.declared.told.MapTold.TheVariants as MapSays
use Rattle.npf_explain.specs.declared.told.RuleTold.{RuleTold}
use Rattle.npf_explain.specs.declared.told.RuleTold.TheVariants as RuleSays
use Rattle.npf_explain.specs.declared.told.Unasked.{Unasked}
use Rattle.npf_explain.specs.declared.told.Unasked.TheVariants.{BehindFinal, GroupElsewhere, GroupAnswered}
use Rattle.npf_ctl_query.specs.QueryText.{ordinal_text}

abbrev pub part_word : Part → List ℕ
part_word Direction = codes "direction"
part_word Interface = codes "interface"
part_word Family = codes "family"
part_word Protocol = codes "protocol"
part_word Flags = codes "flags"
part_word Icmp = codes "icmp"
part_word Source = codes "source"
part_word SourcePort = codes "source-port"
part_word Destination = codes "destination"
part_word DestinationPort = codes "destination-port"

abbrev pub unasked_words : Unasked → List ℕ
unasked_words BehindFinal = codes "behind a final rule"
unasked_words GroupElsewhere = codes "group elsewhere"
unasked_words GroupAnswered = codes "a group answered"

abbrev pub group_words : GroupTold → List ℕ
group_words GroupSays.Applies = codes " applies"
group_words GroupSays.OtherDirection = codes " other direction"
group_words GroupSays.OtherInterface = codes " other interface"
group_words GroupSays.NotReached = codes " not reached"

abbrev pub rule_words : RuleTold → List ℕ
rule_words (RuleSays.Misfits part) = codes " no " ++ part_word part
rule_words RuleSays.Decides = codes " decides"
rule_words (RuleSays.Overridden by) = codes " overridden by " ++ ordinal_text by
rule_words (RuleSays.NotReached why) = codes " not reached: " ++ unasked_words why

abbrev pub map_words : MapTold → List ℕ
map_words (MapSays.Misfits part) = codes " no " ++ part_word part
map_words MapSays.Applies = codes " applies"
map_words MapSays.NotReached = codes " not reached"
