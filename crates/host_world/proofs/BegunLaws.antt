-- The writers of workers' logs before their first commands.
use Rattle.std.proofs.Common.{◌≡◌, ℕ, zero, suc, ◌+◌, ◌<◌, List, [], ◌∷◌, ◌++◌, length, get_or, set, map, refl, sym, ◌∙◌, ap, subst, arith}
use Rattle.std.proofs.lemmas.List.{map-set, get_or-map, length-set, length-map, length-append, map-append, set-get_or}
use Rattle.lamport_clocks.specs.declared.header.Header.{Header}
use Rattle.slot_rewriting.specs.declared.writer.CommandWriter.{CommandWriter}
use Rattle.slot_rewriting.specs.Writing.{opening_writer}
use Rattle.host_world.specs.declared.worker.Worker.{Worker}
use Rattle.host_world.specs.Workers.{AreBegun, opening_writers, writer_in}

-- one more at the end
pub opening-more : (header : Header) (first count : ℕ)
    → opening_writers header first (suc count) ≡ opening_writers header first count ++ opening_writer (first + count) header ∷ []
unfolding opening_writers
opening-more header first zero = ap (λ (n : ℕ). opening_writer n header ∷ []) (omega arith)
opening-more header first (suc count) =
    ap (λ (writers : List CommandWriter). opening_writer first header ∷ writers)
    (opening-more header (suc first) count
    ∙ ap (λ (n : ℕ). opening_writers header (suc first) count ++ opening_writer n header ∷ []) (omega arith))

-- each by its number
pub opening-at : (header : Header) (first count i : ℕ) (d : CommandWriter) → i < count → get_or (opening_writers header first count) i d ≡ opening_writer (first + i) header
unfolding opening_writers
opening-at header first zero i d there = absurd (omega (arith, there))
opening-at header first (suc count) zero d there = ap (λ (n : ℕ). opening_writer n header) (omega arith)
opening-at header first (suc count) (suc i) d there =
    opening-at header (suc first) count i d (omega (arith, there)) ∙ ap (λ (n : ℕ). opening_writer n header) (omega arith)

module _ (header : Header) (workers : List Worker) (begun : AreBegun header workers) where
  -- the writer of one worker's log
  pub begun-at : (i : ℕ) (d : Worker) → i < length workers → writer_in (get_or workers i d) ≡ opening_writer i header
  begun-at i d there =
      sym (get_or-map writer_in workers i d (writer_in d) there)
      ∙ ap (λ (writers : List CommandWriter). get_or writers i (writer_in d)) begun
      ∙ opening-at header 0 (length workers) i (writer_in d) there
      ∙ ap (λ (n : ℕ). opening_writer n header) (omega arith)

  -- a worker with the same writer in the place of one
  pub begun-set : (i : ℕ) (old new : Worker) → old ≡ get_or workers i old → writer_in new ≡ writer_in old → AreBegun header (set workers i new)
  begun-set i old new is same =
      map-set writer_in workers i new
      ∙ ap (set (map writer_in workers) i) (same ∙ ap writer_in is)
      ∙ sym (map-set writer_in workers i (get_or workers i old))
      ∙ ap (map writer_in) (set-get_or workers i old)
      ∙ begun
      ∙ ap (opening_writers header 0) (sym (length-set workers i new))

-- a list whose writers are those of one that is begun
pub begun-same : (header : Header) (old new : List Worker) → AreBegun header old → map writer_in new ≡ map writer_in old → AreBegun header new
begun-same header old new begun same =
    same ∙ begun
    ∙ ap (opening_writers header 0) (sym (length-map old writer_in) ∙ ap length (sym same) ∙ length-map new writer_in)

-- none
pub begun-none : (header : Header) (workers : List Worker) → workers ≡ [] → AreBegun header workers
unfolding opening_writers
begun-none header workers none = subst (AreBegun header) (sym none) refl

-- one more at the end
pub begun-joined : (header : Header) (workers new : List Worker) (worker : Worker) → AreBegun header workers → new ≡ workers ++ worker ∷ []
    → writer_in worker ≡ opening_writer (length workers) header → AreBegun header new
begun-joined header workers new worker begun is writer =
    subst (AreBegun header) (sym is)
    (map-append writer_in workers (worker ∷ [])
    ∙ ap (λ (writers : List CommandWriter). writers ++ writer_in worker ∷ []) begun
    ∙ ap (λ (own : CommandWriter). opening_writers header 0 (length workers) ++ own ∷ []) writer
    ∙ ap (λ (n : ℕ). opening_writers header 0 (length workers) ++ opening_writer n header ∷ []) (omega arith)
    ∙ sym (opening-more header 0 (length workers))
    ∙ ap (opening_writers header 0) (omega (arith, length-append workers (worker ∷ []))))
