-- What the clauses on a receipt and a certificate in lines cite, in reading order.
pub mod Tagged
pub mod Evidence
pub use Rattle.receipts.specs
