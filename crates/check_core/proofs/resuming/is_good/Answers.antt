use Rattle.std.proofs.Common.{◌≡◌, ◌<◌, ℕ, suc, zero, List, [], ◌∷◌, length, get_or, All, refl, subst, arith}
use Rattle.record_text.proofs.FieldLaws.{AreBytes}
use Rattle.check_core.proofs.resuming.is_good.Goals as goal

all_bytes : (bytes : List ℕ) → AreBytes bytes → All (λ byte. byte < 256) bytes
all_bytes bytes fits k d within = subst (λ (b : ℕ). b < 256) (default_free bytes k d within) (fits k)
  where
    default_free : (xs : List ℕ) (k d : ℕ) → k < length xs → get_or xs k 0 ≡ get_or xs k d
    default_free [] k d within = absurd (omega arith)
    default_free (x ∷ xs) zero d within = refl
    default_free (x ∷ xs) (suc k) d within = default_free xs k d (omega arith)

pub returns : goal.returns
returns g c = record {
  good = c.whole_seals_are_tagged.ensures.good (g.D.Digests.functions c.args.d.now) c.args.bytes.now c.args.state.now c.args.count
      (all_bytes c.args.bytes.now (λ i. omega (arith, c.type_inv.bytes i))) c.requires.whole;
}
