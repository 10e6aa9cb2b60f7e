mod TotalsLemmas
