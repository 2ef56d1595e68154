-- How it is proved what a check makes of the host's logs, in reading order: the stamps of what is added and evicted,
-- commands that have texts, logs that are read back, logs that come to rest, and the laws.
mod StampLemmas
mod CommandLemmas
mod TextLemmas
mod RestLemmas
mod ReportLemmas
