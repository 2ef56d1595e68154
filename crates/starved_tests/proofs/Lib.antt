mod SeatedLemmas
