-- Runs that are fed, one after another.
use Rattle.std.proofs.Common.{◌≡◌, ℕ, ◌+◌, ◌≤◌, List, [], ◌∷◌, ◌++◌, length, map, take, drop, refl, sym, ◌∙◌, ap, subst, append-nil, length-append}
use Rattle.std.proofs.lemmas.List.{take_all, drop_all, length-map, take-append-drop}
use Rattle.record_text.specs.declared.operation.Operation.{Operation}
use Rattle.verifier_run.specs.Progress.{Progress}
use Rattle.verifier_run.specs.Taken.{left_of}
use Rattle.bundle_report.specs.SoFar.{runs_ended}
use Rattle.certified_epochs.specs.declared.fed_run.FedRun.{FedRun}
use Rattle.certified_epochs.specs.Turn.{AreFed, ended_fed, left_fed}

-- changes leave as many runs
pub changed-length : (f : FedRun → FedRun) (xs ys : List FedRun) (i : ℕ) → ys ≡ map f (take i xs) ++ drop i xs → length ys ≡ length xs
changed-length f xs ys i is =
    ap length is ∙ length-append (map f (take i xs)) (drop i xs)
    ∙ ap (λ (n : ℕ). n + length (drop i xs)) (length-map (take i xs) f)
    ∙ sym (length-append (take i xs) (drop i xs)) ∙ ap length (take-append-drop i xs)

-- a change of each run, all done
all_changed : (f : FedRun → FedRun) (xs ys : List FedRun) (i : ℕ) → length xs ≤ i → ys ≡ map f (take i xs) ++ drop i xs → ys ≡ map f xs
all_changed f xs ys i past is =
    is ∙ ap (λ (front : List FedRun). map f front ++ drop i xs) (take_all i xs past)
    ∙ ap (λ (rest : List FedRun). map f xs ++ rest) (drop_all i xs past)
    ∙ append-nil (map f xs)

map_ended : (xs : List FedRun) → map (λ fed. fed.run) (map ended_fed xs) ≡ runs_ended (map (λ fed. fed.run) xs)
map_ended [] = refl
map_ended (x ∷ xs) = ap (λ (rest : List (Progress Operation)). (ended_fed x).run ∷ rest) (map_ended xs)

pub ended-all : (xs ys : List FedRun) (i : ℕ) → length xs ≤ i → ys ≡ map ended_fed (take i xs) ++ drop i xs
    → map (λ fed. fed.run) ys ≡ runs_ended (map (λ fed. fed.run) xs)
ended-all xs ys i past is = ap (map (λ fed. fed.run)) (all_changed ended_fed xs ys i past is) ∙ map_ended xs

map_left : (epoch : ℕ) (xs : List FedRun) → map (λ fed. fed.run) (map (left_fed epoch) xs) ≡ map (λ fed. left_of epoch fed.run) xs
map_left epoch [] = refl
map_left epoch (x ∷ xs) = ap (λ (rest : List (Progress Operation)). left_of epoch x.run ∷ rest) (map_left epoch xs)

pub left-all : (epoch : ℕ) (xs ys : List FedRun) (i : ℕ) → length xs ≤ i → ys ≡ map (left_fed epoch) (take i xs) ++ drop i xs
    → map (λ fed. fed.run) ys ≡ map (λ fed. left_of epoch fed.run) xs
left-all epoch xs ys i past is = ap (map (λ fed. fed.run)) (all_changed (left_fed epoch) xs ys i past is) ∙ map_left epoch xs

-- none is starved by what is taken
fed_left : (epoch : ℕ) (xs : List FedRun) → AreFed xs → AreFed (map (left_fed epoch) xs)
fed_left epoch [] fed = tt
fed_left epoch (x ∷ xs) fed = (fed.0, fed_left epoch xs fed.1)

pub fed-left : (epoch : ℕ) (xs ys : List FedRun) (i : ℕ) → length xs ≤ i → ys ≡ map (left_fed epoch) (take i xs) ++ drop i xs → AreFed xs → AreFed ys
fed-left epoch xs ys i past is fed = subst AreFed (sym (all_changed (left_fed epoch) xs ys i past is)) (fed_left epoch xs fed)
