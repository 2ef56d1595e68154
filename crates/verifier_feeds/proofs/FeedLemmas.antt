-- What a run has read, piece by piece, and what a worker sent of its log.
use Rattle.std.proofs.Common.{◌≡◌, ℕ, ◌+◌, ◌-◌, ◌^◌, ◌<◌, false, min, length-append, List, [], ◌∷◌, ◌++◌, length, take, drop, refl, sym, ◌∙◌, ap, subst, append_assoc, append-nil, arith}
use Rattle.std.proofs.Math.Seq.{drop-append_seam}
use Rattle.std.proofs.lemmas.List.{take-append-drop, take_all}
use Rattle.std.proofs.lemmas.Grind.{flat_map-append}
use Rattle.record_hash.specs.Functions.{DigestFunctions}
use Rattle.record_text.specs.declared.operation.Operation.{Operation}
use Rattle.merkle_records.specs.Scheme.{Scheme, scheme_of}
use Rattle.lamport_clocks.specs.declared.header.Header.{Header}
use Rattle.verifier_run.specs.Kept.{keeps_operations}
use Rattle.verifier_run.specs.Progress.{Progress, fed}
use Rattle.certified_epochs.specs.declared.fed_run.FedRun.{FedRun}
use Rattle.log_rings.specs.declared.parcel.Parcel.{Parcel}
use Rattle.host_rounds.specs.Feeding.{Reads}
use Rattle.verifier_feeds.specs.declared.inbox.Inbox.{Inbox}
use Rattle.verifier_feeds.specs.Feeds.{HasRead, GoesOnBy, ReadsOn, bytes_of, counted_on, run_of, is_wanting}

-- bytes that are fed in two pieces come to what they come to as one
abbrev pub PiecesJoin : Type 0
PiecesJoin = (scheme : Scheme) (progress : Progress Operation) (piece more : List ℕ)
    → fed keeps_operations scheme (fed keeps_operations scheme progress piece) more ≡ fed keeps_operations scheme progress (piece ++ more)

module _ (functions : DigestFunctions) where
  -- a run has read nothing
  pub none-read : (run : FedRun) → HasRead functions [] run run
  none-read run = record { header = refl; goes_on = λ more. refl }

  -- an inbox that is fed nothing
  pub reads-none : (inbox : Inbox) → ReadsOn functions [] inbox inbox
  reads-none inbox = λ first bytes before going.
      subst (λ (all : List ℕ). HasRead functions all first (run_of inbox)) (sym (append-nil bytes)) (before going)

  -- one piece,
  pub reads-one : PiecesJoin → (piece : List ℕ) (old new : Inbox) → (is_wanting new ≡ false → GoesOnBy functions piece old new) → ReadsOn functions piece old new
  reads-one join piece old new step = λ first bytes before going.
      let one = step going in
      let has = before one.went in
      let scheme = scheme_of functions first.run.course.machine.header in
      record {
        header = one.header ∙ has.header;
        goes_on = λ more.
            ap (λ (run : Progress Operation). fed keeps_operations scheme run more)
            (subst (λ (h : Header). new.fed.run ≡ fed keeps_operations (scheme_of functions h) old.fed.run piece) has.header one.read)
            ∙ join scheme old.fed.run piece more
            ∙ has.goes_on (piece ++ more)
            ∙ ap (λ (all : List ℕ). fed keeps_operations scheme first.run all) (sym (append_assoc bytes piece more));
      }

  -- and then more
  pub reads-then : (some more : List ℕ) (old middle new : Inbox) → ReadsOn functions some old middle → ReadsOn functions more middle new
      → ReadsOn functions (some ++ more) old new
  reads-then some more old middle new one two = λ first bytes before going.
      subst (λ (all : List ℕ). HasRead functions all first (run_of new)) (append_assoc bytes some more)
      (two first (bytes ++ some) (λ middle_going. one first bytes before middle_going) going)

  -- one parcel more
  pub reads-parcel : PiecesJoin → (parcels : List Parcel) (parcel : Parcel) (piece : List ℕ) (old middle new : Inbox) → ReadsOn functions (bytes_of parcels) old middle
      → piece ≡ parcel.buffer → (is_wanting new ≡ false → GoesOnBy functions piece middle new) → ReadsOn functions (bytes_of (parcels ++ parcel ∷ [])) old new
  reads-parcel join parcels parcel piece old middle new so_far is step =
      subst (λ (all : List ℕ). ReadsOn functions all old new)
      (ap (λ (xs : List ℕ). bytes_of parcels ++ xs) (sym (append-nil parcel.buffer)) ∙ sym (flat_map-append (λ (p : Parcel). p.buffer) parcels (parcel ∷ [])))
      (reads-then (bytes_of parcels) parcel.buffer old middle new so_far
      (reads-one join parcel.buffer middle new (λ going. subst (λ (bytes : List ℕ). GoesOnBy functions bytes middle new) is (step going))))

  -- the same by another name of what came in all
  pub reads-received : PiecesJoin → (parcels all : List Parcel) (parcel : Parcel) (piece : List ℕ) (old middle new : Inbox) → all ≡ parcels ++ parcel ∷ []
      → ReadsOn functions (bytes_of parcels) old middle → piece ≡ parcel.buffer → (is_wanting new ≡ false → GoesOnBy functions piece middle new)
      → ReadsOn functions (bytes_of all) old new
  reads-received join parcels all parcel piece old middle new are so_far is step =
      subst (λ (ps : List Parcel). ReadsOn functions (bytes_of ps) old new) (sym are) (reads-parcel join parcels parcel piece old middle new so_far is step)

  -- the last piece: what the run has come to
  pub reads-last : (bytes piece : List ℕ) (first : FedRun) (old new : Inbox) → (is_wanting old ≡ false → HasRead functions bytes first (run_of old))
      → GoesOnBy functions piece old new → Reads functions (bytes ++ piece) first (run_of new)
  reads-last bytes piece first old new before one =
      let has = before one.went in
      record {
        is_fed = one.is_fed;
        taken = subst (λ (h : Header). new.fed.run ≡ fed keeps_operations (scheme_of functions h) old.fed.run piece) has.header one.read ∙ has.goes_on piece;
      }

-- where none is left behind some, these are all
pub none-left : {X : Type 0} (some all rest : List X) → all ≡ some ++ rest → length rest ≡ 0 → all ≡ some
none-left some all [] is count = is ∙ append-nil some
none-left some all (x ∷ rest) is count = absurd (omega (arith, count))

-- ---- what was sent

-- one parcel more
pub bytes-more : (parcels all : List Parcel) (parcel : Parcel) (piece : List ℕ) → all ≡ parcels ++ parcel ∷ [] → parcel.buffer ≡ piece
    → bytes_of all ≡ bytes_of parcels ++ piece
bytes-more parcels all parcel piece are is =
    ap bytes_of are ∙ flat_map-append (λ (p : Parcel). p.buffer) parcels (parcel ∷ [])
    ∙ ap (λ (xs : List ℕ). bytes_of parcels ++ xs) (append-nil parcel.buffer ∙ is)

-- what stands behind a front
pub behind-front : (front rest log : List ℕ) (n : ℕ) → log ≡ front ++ rest → n ≡ length front → drop n log ≡ rest
behind-front front rest log n is count = ap (λ (k : ℕ). drop k log) count ∙ ap (drop (length front)) is ∙ drop-append_seam front rest

-- the same as a slice shows it
pub behind-front_slice : (front rest log : List ℕ) (n : ℕ) → log ≡ front ++ rest → n ≡ length front → take (length log - n) (drop n log) ≡ rest
behind-front_slice front rest log n is count =
    ap (take (length log - n)) (behind-front front rest log n is count)
    ∙ take_all (length log - n) rest (omega (arith, ap length is, length-append front rest, count))

-- a longer front
pub front-longer : (front rest log piece : List ℕ) (n count : ℕ) → log ≡ front ++ rest → n ≡ length front → piece ≡ take count (drop n log)
    → log ≡ (front ++ piece) ++ drop count rest
front-longer front rest log piece n count is at piece_is =
    is ∙ ap (λ (xs : List ℕ). front ++ xs) (sym (take-append-drop count rest))
    ∙ sym (append_assoc front (take count rest) (drop count rest))
    ∙ ap (λ (xs : List ℕ). (front ++ xs) ++ drop count rest) (ap (take count) (sym (behind-front front rest log n is at)) ∙ sym piece_is)

-- ---- how many parcels a verifier took

-- none so far
pub none-counted : (count : ℕ) (parcels : List Parcel) → count < 2 ^ 64 → parcels ≡ [] → count ≡ counted_on count parcels
none-counted count parcels small none = subst (λ (ps : List Parcel). count ≡ counted_on count ps) (sym none) (omega (arith, small))

-- one more
pub counted-more : (first count next : ℕ) (parcels after : List Parcel) (parcel : Parcel) → count ≡ counted_on first parcels → next ≡ min (count + 1) (2 ^ 64 - 1)
    → after ≡ parcels ++ parcel ∷ [] → next ≡ counted_on first after
counted-more first count next parcels after parcel so_far more is =
    subst (λ (ps : List Parcel). next ≡ counted_on first ps) (sym is) (omega (arith, so_far, more, length-append parcels (parcel ∷ [])))
