-- Commands that bytes begin with, one behind another.
use Rattle.std.proofs.Common.{◌≡◌, ℕ, zero, suc, ◌+◌, ◌<◌, List, [], ◌∷◌, ◌++◌, drop, slice_index, sym, subst, arith}
use Rattle.std.specs.Borrow.{Bor}
use Rattle.lane_sha.specs.Texts.{text}
use Rattle.std.proofs.lemmas.List.{drop-drop}
use Rattle.record_text.specs.Format.{LogFormat}
use Rattle.command_window.specs.declared.read_command.ReadCommand.{ReadCommand}
use Rattle.command_window.specs.Window.{IsReadOf, AreReadOf}

-- how many bytes commands take
abbrev pub taken_by : List ReadCommand → ℕ
taken_by [] = 0
taken_by (read ∷ reads) = read.len + taken_by reads

-- one command more
pub read-more : (format : LogFormat) (bytes : List ℕ) (reads : List ReadCommand) (read : ReadCommand) → AreReadOf format bytes reads
    → IsReadOf format (drop (taken_by reads) bytes) read → AreReadOf format bytes (reads ++ read ∷ [])
read-more format bytes [] read are is = (is, tt)
read-more format bytes (first ∷ reads) read are is =
    (are.0, read-more format (drop first.len bytes) reads read are.1 (subst (λ (bs : List ℕ). IsReadOf format bs read) (sym (drop-drop (taken_by reads) first.len bytes)) is))

pub taken-more : (reads : List ReadCommand) (read : ReadCommand) → taken_by (reads ++ read ∷ []) ≡ taken_by reads + read.len
taken-more [] read = omega arith
taken-more (first ∷ reads) read = omega (arith, taken-more reads read)

-- ---- eight texts, and what is asked of each

-- the text at each place
pub eight_texts : (f : ℕ → List ℕ) (places : List ℕ) (t0 t1 t2 t3 t4 t5 t6 t7 : Bor (List ℕ))
    → t0.now ≡ f (slice_index places 0) → t1.now ≡ f (slice_index places 1) → t2.now ≡ f (slice_index places 2) → t3.now ≡ f (slice_index places 3)
    → t4.now ≡ f (slice_index places 4) → t5.now ≡ f (slice_index places 5) → t6.now ≡ f (slice_index places 6) → t7.now ≡ f (slice_index places 7)
    → (j : ℕ) → j < 8 → text j (t0 ∷ t1 ∷ t2 ∷ t3 ∷ t4 ∷ t5 ∷ t6 ∷ t7 ∷ []) ≡ f (slice_index places j)
eight_texts f places t0 t1 t2 t3 t4 t5 t6 t7 e0 e1 e2 e3 e4 e5 e6 e7 = go
  where
    go : (j : ℕ) → j < 8 → text j (t0 ∷ t1 ∷ t2 ∷ t3 ∷ t4 ∷ t5 ∷ t6 ∷ t7 ∷ []) ≡ f (slice_index places j)
    go zero below = e0
    go (suc zero) below = e1
    go (suc (suc zero)) below = e2
    go (suc (suc (suc zero))) below = e3
    go (suc (suc (suc (suc zero)))) below = e4
    go (suc (suc (suc (suc (suc zero))))) below = e5
    go (suc (suc (suc (suc (suc (suc zero)))))) below = e6
    go (suc (suc (suc (suc (suc (suc (suc zero))))))) below = e7
    go (suc (suc (suc (suc (suc (suc (suc (suc j)))))))) below = absurd (omega arith)
