-- The lines of entries, as those of all keys, and the map as the plain map.
mod KeyLemmas
mod MapLemmas
