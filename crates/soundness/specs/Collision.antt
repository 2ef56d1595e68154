-- What makes an exhibit a collision.
use Rattle.std.specs.Prelude.{◌≡◌, ◌≢◌, false}
use Rattle.record_text.specs.declared.exhibit.Exhibit.{Exhibit}
use Rattle.record_text.specs.declared.exhibit.Exhibit.TheVariants as exhibits
use Rattle.merkle_records.specs.Merkle.{Digest}
use Rattle.merkle_records.specs.Scheme.{Scheme}
use Rattle.soundness.specs.Certified.{sum_over}
use Rattle.soundness.specs.Clash.{Strings}
use Rattle.soundness.specs.Permutation.{is_permutation}

-- the two are different and have one digest
pub record IsCollision (digest : Digest) (strings : Strings) : Type 0 where
  pub differ : strings.0 ≢ strings.1
  pub same : digest strings.0 ≡ digest strings.1

-- Two different strings with one digest; or two multisets that are no permutations of each other, with one sum.
abbrev pub Collides : Scheme → Exhibit → Type 0
Collides scheme exhibits.Clean = ⊥
Collides scheme (exhibits.Strings evicted added) = IsCollision scheme.digest (evicted, added)
Collides scheme (exhibits.Multisets epoch added evicted) = (is_permutation added evicted ≡ false) × (sum_over scheme added ≡ sum_over scheme evicted)
