mod SaysLemmas
mod TextLemmas
