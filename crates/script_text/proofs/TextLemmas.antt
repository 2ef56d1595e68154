-- A script's text grows phase by phase.
use Rattle.std.proofs.Common.{◌≡◌, ℕ, zero, suc, ◌+◌, ◌<◌, ◌≤◌, List, [], ◌∷◌, ◌++◌, length, get_or, take, append_assoc, codes, ap, sym, ◌∙◌, add-one, arith}
use Rattle.std.proofs.lemmas.List.{append-nil, take_more, flat_map_more}
use Rattle.script_text.specs.declared.task.Task.{Task}
use Rattle.script_text.specs.Text.{phase_text, behind_text, script_text}

-- a phase behind the close of an epoch
abbrev pub closed_text : List Task → List ℕ
closed_text phase = codes "epoch\n" ++ phase_text phase

-- one phase
pub script_text-one : (phases : List (List Task)) → 0 < length phases → script_text (take 1 phases) ≡ phase_text (get_or phases 0 [])
unfolding script_text
script_text-one [] some = absurd (omega arith)
script_text-one (phase ∷ phases) some = append-nil (phase_text phase)

-- one phase more behind others
pub script_text-more : (phases : List (List Task)) (count : ℕ) → 1 ≤ count → count < length phases
    → script_text (take (count + 1) phases) ≡ (script_text (take count phases) ++ codes "epoch\n") ++ phase_text (get_or phases count [])
unfolding script_text
script_text-more [] count some there = absurd (omega arith)
script_text-more (phase ∷ phases) zero some there = absurd (omega arith)
script_text-more (phase ∷ phases) (suc count) some there =
    let below : count < length phases = omega arith in
    let front = take count phases in
    let next = get_or phases count [] in
    ap (λ n. script_text (take n (phase ∷ phases))) (add-one (suc count))
    ∙ ap (λ more. phase_text phase ++ behind_text more) (ap (λ n. take n phases) (sym (add-one count)) ∙ take_more phases count [] below)
    ∙ ap (λ text. phase_text phase ++ text) (sym (flat_map_more closed_text [] front next))
    ∙ sym (append_assoc (phase_text phase) (behind_text front) (closed_text next))
    ∙ sym (append_assoc (phase_text phase ++ behind_text front) (codes "epoch\n") (phase_text next))
