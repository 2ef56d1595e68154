-- How the laws of rewriting are proved: what is looked up, each command, a log, and all logs; and what is left in the slots.
mod FoundLemmas
mod FollowedLemmas
mod LogLemmas
mod RestLemmas
pub mod RewritingLaws
