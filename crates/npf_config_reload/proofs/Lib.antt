mod CompileLemmas
mod EachLemmas
mod LayoutLemmas
mod ReloadLemmas
mod RulesetLemmas
mod TakenLemmas
