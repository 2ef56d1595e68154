-- How lines are taken apart, and why what is read of digits is the receipt or the certificate that they spell.
mod SplittingLemmas
mod TaggedLemmas
mod DigitLemmas
