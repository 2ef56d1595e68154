mod TagLemmas
mod ReceiptLemmas
