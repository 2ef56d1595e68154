-- Epochs of elements with which contents wait.
use Rattle.std.proofs.Common.{◌≡◌, ℕ, ◌+◌, ◌≤◌, refl, arith}
use Rattle.lamport_clocks.specs.declared.header.Header.{Header}
use Rattle.host_shard.specs.Content.{Content, cold, hot, vacant}
use Rattle.host_epochs.specs.Terms.{IsStamped, Waits, epoch_of}

pub waits_map : (P Q : ℕ → Type 0) (content : Content) → ((epoch : ℕ) → P epoch → Q epoch) → Waits P content → Waits Q content
waits_map P Q (cold shard) f waits = f shard.stamp.epoch waits
waits_map P Q (hot record') f waits = f record'.stamp.epoch waits
waits_map P Q vacant f waits = tt

-- of two facts a third
pub waits_both : (P Q R : ℕ → Type 0) (content : Content) → ((epoch : ℕ) → P epoch → Q epoch → R epoch) → Waits P content → Waits Q content → Waits R content
waits_both P Q R (cold shard) f one two = f shard.stamp.epoch one two
waits_both P Q R (hot record') f one two = f record'.stamp.epoch one two
waits_both P Q R vacant f one two = tt

-- what is so of the epoch of one content, which waits, says something of the epoch of another
pub waits_then : (P Q R : ℕ → Type 0) (content other : Content) → (content ≡ vacant → ⊥) → ((epoch later : ℕ) → P epoch → Q later → R later)
    → Waits P content → Waits Q other → Waits R other
waits_then P Q R (cold shard) other some f one two = waits_map Q R other (λ later q. f shard.stamp.epoch later one q) two
waits_then P Q R (hot record') other some f one two = waits_map Q R other (λ later q. f record'.stamp.epoch later one q) two
waits_then P Q R vacant other some f one two = absurd (some refl)

-- a content is of its own epoch
pub from_own : (content : Content) → Waits (λ epoch. epoch_of content ≤ epoch) content
from_own (cold shard) = omega arith
from_own (hot record') = omega arith
from_own vacant = tt

-- what is stamped in an epoch waits in it
pub stamped_waits : (header : Header) (epoch : ℕ) (content : Content) → IsStamped header epoch content → Waits (λ e. (epoch + 0 ≤ e) × (e ≤ epoch + 0)) content
stamped_waits header epoch (cold shard) stamped = let is = (stamped _ refl).epoch_is in (omega (arith, is), omega (arith, is))
stamped_waits header epoch (hot record') stamped = let is = (stamped _ refl).epoch_is in (omega (arith, is), omega (arith, is))
stamped_waits header epoch vacant stamped = tt
