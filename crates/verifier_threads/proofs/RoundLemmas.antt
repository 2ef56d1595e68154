-- A run goes on through rounds.
use Rattle.std.proofs.Common.{◌≡◌, inl, inr, ℕ, zero, suc, ◌+◌, ◌≤◌, List, [], ◌∷◌, ◌++◌, length, map, take, refl, ap, subst, arith}
use Rattle.lamport_clocks.specs.declared.header.Header.{Header}
use Rattle.slot_rewriting.specs.Writing.{written_logs}
use Rattle.host_core.specs.Host.{Host}
use Rattle.host_core.specs.World.{World, logs_of}
use Rattle.host_world.specs.Behind.{with_logs}
use Rattle.host_serving.specs.Leading.{LeadsTo, first_of}
use Rattle.host_serving.proofs.LeadingLaws.{leads-none, leads-then}
use Rattle.std.proofs.Common.{None}
use Rattle.verifier_threads.specs.InRounds.{Logs, logged_with, logged_behind, IsBehindRounds, LeadThrough}
use Rattle.verifier_threads.proofs.StandingLemmas.{rests_with, ends_with, begins_with}

-- ---- lists

pub take-more : {A : Type 0} (n : ℕ) (xs ys : List A) → n ≤ length xs → take n (xs ++ ys) ≡ take n xs
take-more zero xs ys within = refl
take-more (suc n) [] ys within = absurd (omega (arith, within))
take-more (suc n) (x ∷ xs) ys within = ap (λ rest. x ∷ rest) (take-more n xs ys (omega (arith, within)))

pub take-all : {A : Type 0} (n : ℕ) (xs : List A) → n ≡ length xs → take n xs ≡ xs
take-all zero [] is = refl
take-all zero (x ∷ xs) is = absurd (omega (arith, is))
take-all (suc n) [] is = refl
take-all (suc n) (x ∷ xs) is = ap (λ rest. x ∷ rest) (take-all n xs (omega (arith, is)))

pub length-one_more : {A : Type 0} (xs : List A) (x : A) → length (xs ++ (x ∷ [])) ≡ suc (length xs)
length-one_more [] x = refl
length-one_more (y ∷ xs) x = ap suc (length-one_more xs x)

pub texts-more : (header : Header) (rounds : List Logs) (round : Logs)
    → map (written_logs header) (rounds ++ (round ∷ [])) ≡ map (written_logs header) rounds ++ (written_logs header round ∷ [])
texts-more header [] round = refl
texts-more header (first ∷ rounds) round = ap (λ (rest : List (List (List ℕ))). written_logs header first ∷ rest) (texts-more header rounds round)

pub logged-more : (logs : Logs) (rounds : List Logs) (round : Logs) → logged_behind logs (rounds ++ (round ∷ [])) ≡ logged_with (logged_behind logs rounds) round
logged-more logs [] round = refl
logged-more logs (first ∷ rounds) round = logged-more (logged_with logs first) rounds round

-- ---- through rounds

module _ {C R : Type 0} (host : Host C R) where
  pub through-leads : (count : ℕ) (logs : Logs) (world : World C) (rounds : List Logs) (later last : World C) → LeadThrough host count logs world rounds later
      → LeadsTo host later last → LeadThrough host count logs world rounds last
  through-leads count logs world [] later last way more = (first_of way.0 more.0, leads-then host world later last way.0 more.0 way.1 more.1)
  through-leads count logs world (round ∷ rounds) later last way more =
      (way.0, way.1, way.2, way.3, through-leads (suc count) (logged_with logs round) way.0 rounds later last way.4 more)

  pub through-more : (n count : ℕ) (logs : Logs) (world : World C) (rounds : List Logs) (round : Logs) (later : World C) → n ≡ suc (count + length rounds)
      → LeadThrough host count logs world rounds later → IsBehindRounds host n later → logs_of later ≡ logged_with (logged_behind logs rounds) round
      → LeadThrough host count logs world (rounds ++ (round ∷ [])) later
  through-more n count logs world [] round later is way stands own =
      let one : n ≡ suc count = omega (arith, is) in
      (later, way, subst (λ (k : ℕ). IsBehindRounds host k later) one stands, own, (None, leads-none host later))
  through-more n count logs world (first ∷ rounds) round later is way stands own =
      let one : n ≡ suc (suc count + length rounds) = omega (arith, is) in
      (way.0, way.1, way.2, way.3, through-more n (suc count) (logged_with logs first) way.0 rounds round later one way.4 stands own)

  -- how a world stands does not depend on what its workers handed out
  pub behind_with : (count : ℕ) (logs : Logs) (world : World C) → IsBehindRounds host count world → IsBehindRounds host count (with_logs logs world)
  behind_with count logs world (inl done) = inl (done.0, ends_with host logs world done.1)
  behind_with count logs world (inr (inl begins)) = inr (inl (begins.0, begins_with host logs world begins.1))
  behind_with count logs world (inr (inr rests)) = inr (inr (rests.0, rests.1, rests_with host logs world rests.2))
