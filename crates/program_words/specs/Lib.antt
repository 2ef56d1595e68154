-- What the clauses on the program's words cite, in reading order.
pub mod Key
pub mod Numbers
pub mod HostWords
pub mod LoadWords
pub mod SignWords
pub mod Found
pub mod CommandLine
pub mod Words
