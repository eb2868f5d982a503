-- The words of each sentence, and the sentence on a fault of which nothing is known but its number.
use Rattle.std.specs.Prelude.{ℕ, List, codes}
use Rattle.npf_faults.specs.declared.fault.Excess.TheVariants as Excess
use Rattle.npf_faults.specs.declared.fault.Fault.{Fault}
use Rattle.npf_faults.specs.declared.fault.Fault.TheVariants as Faults
use Rattle.npf_why.specs.declared.sentence.Sentence.{Sentence}
use Rattle.npf_why.specs.declared.sentence.Sentence.TheVariants as Say

abbrev pub words : Sentence → List ℕ
words Say.NoToken = codes "no token begins so"
words Say.HardwareAddress = codes "no token begins so: addresses of layer 2, six pairs of hexadecimal digits, aren't built"
words Say.OpenString = codes "the string has no end in its line"
words Say.NumberTooLarge = codes "a number is at most 4294967295"
words Say.CannotGoOn = codes "the text can't go on with "
words Say.LineEnds = codes "the text can't go on with the end of the line"
words Say.TextEnds = codes "the text can't go on with its end"
words (Say.NumberUnfit _) = codes "a number here is at most "
words Say.RangeUnfit = codes "a range goes up, and both of its numbers have to fit here"
words Say.PrefixUnfit = codes "a prefix has at most 32 bits, or 128 of IPv6"
words Say.NameUnfit = codes "a name has 1 to 15 letters, digits, dots, dashes and underscores, a letter first"
words Say.FlagsUnfit = codes "flags are letters of FSRPAUEW"
words Say.FileNameUnfit = codes "the name of a file is UTF-8"
words Say.VariableUnfit = codes "what can't stand here is the value of "
words Say.UndefinedVariable = codes "nothing before here defines "
words Say.NoSuchInterface = codes "the file of interfaces (--ifaces FILE) has no such interface, or no such address of it"
words Say.UnknownName = codes "there is no such service, protocol or message; its number can stand here"
words Say.EmptyList = codes "a list has an element at least"
words Say.BadIfaceLine = codes "a line of the file of interfaces is the name of one and its addresses, with spaces between"
words Say.BadTableLine = codes "a line of the file of a table is an address, or where its type takes them a prefix"
words Say.NoDefaultGroup = codes "there is no `group default`"
words Say.SecondDefaultGroup = codes "there is a second `group default`"
words Say.UndefinedTable = codes "nothing defines this table"
words Say.UndefinedProcedure = codes "nothing defines this procedure"
words Say.NoCommonFamily = codes "`family`, `from` and `to` have no address family in common"
words Say.PortsWithoutTcpUdp = codes "ports stand beside TCP and UDP alone"
words Say.RepeatedName = codes "this name is given already"
words Say.ImpossibleMap = codes "its two sides aren't those of a map; npf.conf(5), under Maps, has which are"
words Say.Unbuilt = codes "this program doesn't have this, or not with this value, whether npf.conf(5) has it or not"
words Say.ManyRules = codes "there are more rules than a configuration may have"
words Say.ManyTables = codes "there are more tables than a configuration may have"
words Say.ManyMaps = codes "there are more maps than a configuration may have"
words Say.ManyProcedures = codes "there are more procedures than a configuration may have"
words Say.ManyElements = codes "there are more elements of lists than a configuration may have; a table can stand for a list of addresses"
words Say.ManyEntries = codes "the tables up to here have more entries than a configuration may have"
words Say.HeavyRule = codes "this rule weighs more than one may, as its lists are long; a table can stand for a list of addresses"
words Say.ManyInstructions = codes "the rules take more instructions than a configuration may have; a table can stand for a list of addresses"

abbrev pub sentence_of : Fault → Sentence
sentence_of Faults.BadByte = Say.NoToken
sentence_of Faults.OpenString = Say.OpenString
sentence_of Faults.NumberTooLarge = Say.NumberTooLarge
sentence_of Faults.Expected = Say.CannotGoOn
sentence_of Faults.UnknownVariable = Say.UndefinedVariable
sentence_of Faults.UnknownInterface = Say.NoSuchInterface
sentence_of Faults.UnknownService = Say.UnknownName
sentence_of Faults.EmptyList = Say.EmptyList
sentence_of Faults.BadIfaceFile = Say.BadIfaceLine
sentence_of Faults.NoDefault = Say.NoDefaultGroup
sentence_of Faults.TwoDefaults = Say.SecondDefaultGroup
sentence_of Faults.UnknownTable = Say.UndefinedTable
sentence_of Faults.UnknownProcedure = Say.UndefinedProcedure
sentence_of Faults.FamilyMix = Say.NoCommonFamily
sentence_of Faults.PortNeedsTcpUdp = Say.PortsWithoutTcpUdp
sentence_of Faults.DuplicateName = Say.RepeatedName
sentence_of Faults.BadMap = Say.ImpossibleMap
sentence_of Faults.Unbuilt = Say.Unbuilt
sentence_of (Faults.BadTableFile _) = Say.BadTableLine
sentence_of (Faults.TooMany Excess.Rules _) = Say.ManyRules
sentence_of (Faults.TooMany Excess.Tables _) = Say.ManyTables
sentence_of (Faults.TooMany Excess.Maps _) = Say.ManyMaps
sentence_of (Faults.TooMany Excess.Procedures _) = Say.ManyProcedures
sentence_of (Faults.TooMany Excess.Elements _) = Say.ManyElements
sentence_of (Faults.TooMany Excess.Entries _) = Say.ManyEntries
sentence_of (Faults.TooMany Excess.Weight _) = Say.HeavyRule
sentence_of (Faults.TooMany Excess.Instructions _) = Say.ManyInstructions
