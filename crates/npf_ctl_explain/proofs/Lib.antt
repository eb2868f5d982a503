mod BesideLemmas
mod ClassLemmas
mod GroupLemmas
mod ProductLemmas
mod TextLemmas
